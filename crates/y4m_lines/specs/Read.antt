-- What the reading functions answer, by the definitions of Lines and Header.
-- Definitions only.
use Rattle.std.specs.Prelude.{◌≡◌, ℕ, ◌+◌, ◌≤◌, min, cond, List, length, Option, Some, None, Result, Ok, Err, MatchResult}
use Rattle.std.specs.Option.{option_copied, option_to_list}
use denote.Ref.{Bor}
use Rattle.sheet_numbers.specs.Numbers.{decimal}
use Rattle.y4m_text.specs.declared.Format.{Format}
use Rattle.y4m_lines.specs.declared.Header.{Header}
use Rattle.y4m_lines.specs.declared.Repeated.{Repeated}
use Rattle.y4m_lines.specs.Lines.{line_at, is_line, past_line}
use Rattle.y4m_lines.specs.Header.{is_number, is_side, side_of, known_format, is_colour, colour_of, is_header, width_of, height_of, format_in, is_frame_line}

-- the place of the line's byte 10
abbrev pub line_read : List ℕ → ℕ → Option ℕ
line_read s at = cond (is_line s at) (Some (at + length (line_at s at))) None

abbrev pub frame_line_read : List ℕ → ℕ → Option ℕ
frame_line_read s at = cond (is_frame_line s at) (Some (at + length (line_at s at))) None

-- a side, where 16,385 stands for every larger number
abbrev pub capped : ℕ → ℕ
capped n = min n 16385

abbrev pub number_read : List ℕ → Option ℕ
number_read text = cond (is_number text) (Some (capped (decimal text 0 (length text)))) None

-- the text of the only field of a letter, where there is one; `texts` are those of all of them
abbrev pub FieldRead : List (List ℕ) → Result (Option (Bor (List ℕ))) Repeated → Type 0
FieldRead texts result = MatchResult result (λ text. texts ≡ option_to_list (option_copied text)) (λ e. 2 ≤ length texts)

abbrev pub side_read : List (List ℕ) → Option ℕ
side_read texts = cond (is_side texts) (Some (capped (side_of texts))) None

abbrev pub colour_read : List (List ℕ) → Result (Option Format) Repeated
colour_read texts = cond (is_colour texts) (Ok (known_format (colour_of texts))) (Err (record {}))

unfoldable pub header_read : List ℕ → Option Header
header_read s =
    cond (is_header s)
    (Some (record {
      width = capped (width_of s);
      height = capped (height_of s);
      format = known_format (format_in s);
      past = past_line s 0;
    }))
    None
