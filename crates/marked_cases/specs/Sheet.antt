-- Document 01, "Sheet program": the sheet that is printed there, its input and its whole output as bytes, with the last line of document 02's
-- slip 3.
-- Definitions only.
use Rattle.std.specs.Prelude.{ℕ, List, [], ◌∷◌, ◌++◌}
use Rattle.sheet_table.specs.Table.{heading}
use Rattle.sheet_text.specs.Sheet.{names}

-- "8 0 0 1 0 2 1", "100 50", "128", "228"
abbrev pub marked_input : List ℕ
marked_input =
    names
    ++ 56 ∷ 32 ∷ 48 ∷ 32 ∷ 48 ∷ 32 ∷ 49 ∷ 32 ∷ 48 ∷ 32 ∷ 50 ∷ 32 ∷ 49 ∷ 10
    ∷ 49 ∷ 48 ∷ 48 ∷ 32 ∷ 53 ∷ 48 ∷ 10
    ∷ 49 ∷ 50 ∷ 56 ∷ 10
    ∷ 50 ∷ 50 ∷ 56 ∷ 10 ∷ []

-- "0 0 240 29 100", "0 1 190 0 50", "clipped 1 0"
abbrev pub marked_output : List ℕ
marked_output =
    heading
    ++ 48 ∷ 32 ∷ 48 ∷ 32 ∷ 50 ∷ 52 ∷ 48 ∷ 32 ∷ 50 ∷ 57 ∷ 32 ∷ 49 ∷ 48 ∷ 48 ∷ 10
    ∷ 48 ∷ 32 ∷ 49 ∷ 32 ∷ 49 ∷ 57 ∷ 48 ∷ 32 ∷ 48 ∷ 32 ∷ 53 ∷ 48 ∷ 10
    ∷ 99 ∷ 108 ∷ 105 ∷ 112 ∷ 112 ∷ 101 ∷ 100 ∷ 32 ∷ 49 ∷ 32 ∷ 48 ∷ 10 ∷ []
