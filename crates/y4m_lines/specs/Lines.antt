-- Document 02, slip 2: a line of a stream, and its fields, in a list of bytes. Places are counted from 0.
-- Definitions only.
use Rattle.std.specs.Prelude.{ℕ, ◌+◌, Bool, true, cond, ◌&&◌, List, [], ◌∷◌, eqb, leb, ltb, length, drop}

-- the bytes before the first byte b, or all of them where there is none
unfoldable pub before : ℕ → List ℕ → List ℕ
before b [] = []
before b (x ∷ xs) = cond (eqb x b) [] (x ∷ before b xs)

-- ---- "Both lines end with byte 10 and hold at most 256 bytes with it; a line not so ended is malformed."

-- the line at a place, without its byte 10
abbrev pub line_at : List ℕ → ℕ → List ℕ
line_at s at = before 10 (drop at s)

unfoldable pub is_line : List ℕ → ℕ → Bool
is_line s at = ltb (length (line_at s at)) (length (drop at s)) && leb (length (line_at s at) + 1) 256

-- the place after its byte 10
abbrev pub past_line : List ℕ → ℕ → ℕ
past_line s at = at + length (line_at s at) + 1

-- ---- "Fields are parted by single spaces"; the first is the line's own word

-- x put before the first field
abbrev pub longer : ℕ → List (List ℕ) → List (List ℕ)
longer x [] = []
longer x (f ∷ fs) = (x ∷ f) ∷ fs

unfoldable pub fields : List ℕ → List (List ℕ)
fields [] = [] ∷ []
fields (x ∷ xs) = cond (eqb x 32) ([] ∷ fields xs) (longer x (fields xs))

-- "an empty field in either line is malformed": none is
unfoldable pub none_empty : List (List ℕ) → Bool
none_empty [] = true
none_empty (f ∷ fs) = leb 1 (length f) && none_empty fs
