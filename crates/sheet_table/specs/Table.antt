-- Document 01, "Sheet program", and document 02, slip 3: the table that is printed of a picture, from the components that the settings and the
-- planes make, and from how many of them were clipped.
-- Definitions only.
use Rattle.std.specs.Prelude.{ℕ, ◌≤◌, List, [], ◌∷◌, ◌++◌}
use Rattle.yuv_support.specs.declared.Settings.{Settings}
use Rattle.yuv_support.specs.declared.Clipped.{Clipped}
use Rattle.yuv_support.specs.Blend.{Frame}
use Rattle.yuv_support.specs.Component.{red, green, blue, component_at}
use Rattle.yuv_support.specs.Counts.{clipped_in}
use Rattle.sheet_writing.specs.Text.{joined, number_text}

-- "row column r g b" and byte 10
abbrev pub heading : List ℕ
heading =
    114 ∷ 111 ∷ 119 ∷ 32
    ∷ 99 ∷ 111 ∷ 108 ∷ 117 ∷ 109 ∷ 110 ∷ 32
    ∷ 114 ∷ 32 ∷ 103 ∷ 32 ∷ 98 ∷ 10 ∷ []

-- row, column, red, green, blue
unfoldable pub pixel_text : ℕ → ℕ → ℕ → ℕ → ℕ → List ℕ
pixel_text row column r g b =
    number_text row 32 ++ number_text column 32 ++ number_text r 32 ++ number_text g 32 ++ number_text b 10

abbrev pub pixel_line : Settings → Frame → ℕ → ℕ → List ℕ
pixel_line s f row column =
    pixel_text row column (component_at s f red row column) (component_at s f green row column) (component_at s f blue row column)

-- the lines of n pixels of a row, and of n rows
abbrev pub row_text : Settings → Frame → ℕ → ℕ → List ℕ
row_text s f row n = joined (pixel_line s f row) n

abbrev pub rows_text : Settings → Frame → ℕ → List ℕ
rows_text s f n = joined (λ row. row_text s f row f.width) n

-- "clipped" and a space
abbrev pub clipped_word : List ℕ
clipped_word = 99 ∷ 108 ∷ 105 ∷ 112 ∷ 112 ∷ 101 ∷ 100 ∷ 32 ∷ []

-- "a last line, `clipped`, then below, then above, parted by single spaces"
unfoldable pub clipped_text : Clipped → List ℕ
clipped_text c = clipped_word ++ number_text c.below 32 ++ number_text c.above 10

unfoldable pub table : Settings → Frame → List ℕ
table s f = heading ++ rows_text s f f.height ++ clipped_text (clipped_in s f 0 f.height)

-- "sides 1 to 64": a count is at most 3·64·64, so that five digits do
abbrev pub FiveDigits : Type 0
FiveDigits =
    (s : Settings) (f : Frame) → f.width ≤ 64 → f.height ≤ 64
    → ((clipped_in s f 0 f.height).below ≤ 12288) × ((clipped_in s f 0 f.height).above ≤ 12288)
