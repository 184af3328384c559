-- Document 02, slip 2: what the header line says, and when it and a frame line are well formed.
-- Definitions only.
use Rattle.std.specs.Prelude.{ℕ, Bool, true, false, cond, ◌&&◌, List, [], ◌∷◌, ◌++◌, eqb, leb, length, Option, Some, None}
use Rattle.sheet_numbers.specs.Numbers.{byte_at, is_digit, decimal, all_below}
use Rattle.sheet_numbers.specs.Read.{begins_with}
use Rattle.yuv_support.specs.declared.YuvChromaSubsampling.{YuvChromaSubsampling}
use Rattle.yuv_support.specs.declared.YuvChromaSubsampling.TheVariants.{Yuv420, Yuv422}
use Rattle.y4m_text.specs.declared.Format.{Format}
use Rattle.y4m_text.specs.Words.{header_word, frame_word, c420jpeg, c422, c420p10, c422p10, c420p12, c422p12}
use Rattle.y4m_lines.specs.Lines.{before, line_at, is_line, fields, none_empty}

-- ---- fields by their first byte

-- what follows the letter, where a field begins with it
abbrev pub behind : ℕ → List ℕ → List (List ℕ)
behind letter [] = []
behind letter (x ∷ xs) = cond (eqb x letter) (xs ∷ []) []

-- of all fields that begin with a letter
unfoldable pub named : ℕ → List (List ℕ) → List (List ℕ)
named letter [] = []
named letter (f ∷ fs) = behind letter f ++ named letter fs

-- ---- W and H

-- "one or more decimal digits"
abbrev pub digit_at : List ℕ → ℕ → Bool
digit_at text i = is_digit (byte_at text i)

unfoldable pub is_number : List ℕ → Bool
is_number text = leb 1 (length text) && all_below (digit_at text) (length text)

-- "W and H are needed", and once
unfoldable pub is_side : List (List ℕ) → Bool
is_side [] = false
is_side (text ∷ []) = is_number text
is_side (text ∷ second ∷ more) = false

unfoldable pub side_of : List (List ℕ) → ℕ
side_of [] = 0
side_of (text ∷ more) = decimal text 0 (length text)

-- ---- C

abbrev pub same_text : List ℕ → List ℕ → Bool
same_text a b = eqb (length a) (length b) && begins_with a b

abbrev pub format : YuvChromaSubsampling → ℕ → Format
format sampling depth = record { sampling = sampling; depth = depth }

-- the sampling and the depth that a name stands for; another name has the depth 0, which no stream has
unfoldable pub format_of : List ℕ → Format
format_of name =
    cond (same_text name c420jpeg) (format Yuv420 8)
    (cond (same_text name c422) (format Yuv422 8)
    (cond (same_text name c420p10) (format Yuv420 10)
    (cond (same_text name c422p10) (format Yuv422 10)
    (cond (same_text name c420p12) (format Yuv420 12)
    (cond (same_text name c422p12) (format Yuv422 12) (format Yuv420 0))))))

-- the format that these make; none at the depth 0
abbrev pub known_format : Format → Option Format
known_format f = cond (eqb f.depth 0) None (Some f)

-- given at most once
unfoldable pub is_colour : List (List ℕ) → Bool
is_colour [] = true
is_colour (name ∷ []) = true
is_colour (name ∷ second ∷ more) = false

-- "is 420jpeg if absent"
unfoldable pub colour_of : List (List ℕ) → Format
colour_of [] = format Yuv420 8
colour_of (name ∷ more) = format_of name

-- ---- the two lines

-- 'W', 'H' and 'C' of the header
abbrev pub widths : List ℕ → List (List ℕ)
widths s = named 87 (fields (line_at s 0))

abbrev pub heights : List ℕ → List (List ℕ)
heights s = named 72 (fields (line_at s 0))

abbrev pub colours : List ℕ → List (List ℕ)
colours s = named 67 (fields (line_at s 0))

-- the stream begins with a header line that is well formed
unfoldable pub is_header : List ℕ → Bool
is_header s =
    is_line s 0
    && (begins_with (line_at s 0) header_word
    && (none_empty (fields (line_at s 0))
    && (is_side (widths s) && (is_side (heights s) && is_colour (colours s)))))

-- what it says
unfoldable pub width_of : List ℕ → ℕ
width_of s = side_of (widths s)

unfoldable pub height_of : List ℕ → ℕ
height_of s = side_of (heights s)

unfoldable pub format_in : List ℕ → Format
format_in s = colour_of (colours s)

-- at a place stands a frame line that is well formed: "FRAME is followed by byte 10 or a space", so its first field is FRAME
unfoldable pub is_frame_line : List ℕ → ℕ → Bool
is_frame_line s at =
    is_line s at
    && (begins_with (line_at s at) frame_word
    && (eqb (length (before 32 (line_at s at))) 5 && none_empty (fields (line_at s at))))
