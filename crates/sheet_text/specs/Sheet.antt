-- Document 01, "Sheet program", with the last line of document 02's slip 3: the output of `sheet`, from its input.
-- Parts of it stand beside the functions that make them:
--   sheet_numbers/specs/Numbers.antt   numbers and lines, as they are read
--   sheet_values/specs/Values.antt     what the seven values of the second line stand for, and the part of question 15 that asks about them
--   sheet_table/specs/Table.antt       the heading, the lines of the pixels and the last line, of what was clipped
--   sheet_writing/specs/Text.antt      decimal numbers, as they are written
-- Definitions only.
use Rattle.std.specs.Prelude.{ℕ, Bool, cond, ◌&&◌, List, [], ◌∷◌, ◌++◌, eqb, leb, length}
use Rattle.yuv_support.specs.Settings.{among, depths}
use Rattle.yuv_support.specs.Blend.{Frame, frame_of, chroma_width}
use Rattle.yuv_support.specs.Questions.{Question, ask, verdict, decoded, sampling_known, codes_known}
use Rattle.sheet_writing.specs.Text.{number_text}
use Rattle.sheet_numbers.specs.Numbers.{byte_at, number_at, all_below, begin, are_lines, numbers_from}
use Rattle.sheet_values.specs.declared.Values.{Values}
use Rattle.sheet_values.specs.Values.{codes_of, image_of, luma_count, chroma_count, widest, is_small}
use Rattle.sheet_table.specs.Table.{table}

-- ---- fixed lines

-- "depth sampling order range matrix width height" and byte 10
abbrev pub names : List ℕ
names =
    100 ∷ 101 ∷ 112 ∷ 116 ∷ 104 ∷ 32
    ∷ 115 ∷ 97 ∷ 109 ∷ 112 ∷ 108 ∷ 105 ∷ 110 ∷ 103 ∷ 32
    ∷ 111 ∷ 114 ∷ 100 ∷ 101 ∷ 114 ∷ 32
    ∷ 114 ∷ 97 ∷ 110 ∷ 103 ∷ 101 ∷ 32
    ∷ 109 ∷ 97 ∷ 116 ∷ 114 ∷ 105 ∷ 120 ∷ 32
    ∷ 119 ∷ 105 ∷ 100 ∷ 116 ∷ 104 ∷ 32
    ∷ 104 ∷ 101 ∷ 105 ∷ 103 ∷ 104 ∷ 116 ∷ 10 ∷ []

-- "refused" and a space
abbrev pub refused : List ℕ
refused = 114 ∷ 101 ∷ 102 ∷ 117 ∷ 115 ∷ 101 ∷ 100 ∷ 32 ∷ []

-- ---- the first two lines

-- the input begins with the line of names, byte by byte
abbrev pub has_name : List ℕ → ℕ → Bool
has_name s i = eqb (byte_at s i) (byte_at names i)

unfoldable pub has_names : List ℕ → Bool
has_names s = all_below (has_name s) 47

-- seven numbers in one line follow it; a number of five digits is at most 99,999
unfoldable pub has_values : List ℕ → Bool
has_values s = are_lines s 47 7 99999 7

abbrev pub value : List ℕ → ℕ → ℕ
value s i = number_at s (begin s 47 i)

unfoldable pub values_of : List ℕ → Values
values_of s = record {
  depth = value s 0;
  sampling = value s 1;
  order = value s 2;
  range = value s 3;
  matrix = value s 4;
  width = value s 5;
  height = value s 6;
}

-- ---- the rest: all of Y, then all of U, then all of V

-- where each plane begins, and where the last one ends
abbrev pub luma_begin : List ℕ → ℕ
luma_begin s = begin s 47 7

abbrev pub u_begin : List ℕ → Values → ℕ
u_begin s v = begin s (luma_begin s) (luma_count v)

abbrev pub v_begin : List ℕ → Values → ℕ
v_begin s v = begin s (u_begin s v) (chroma_count v)

abbrev pub sheet_end : List ℕ → Values → ℕ
sheet_end s v = begin s (v_begin s v) (chroma_count v)

-- a line per row, samples within the element's width
abbrev pub has_planes : List ℕ → Values → Bool
has_planes s v =
    are_lines s (luma_begin s) v.width (widest v) (luma_count v)
    && are_lines s (u_begin s v) (chroma_width v.width) (widest v) (chroma_count v)
    && are_lines s (v_begin s v) (chroma_width v.width) (widest v) (chroma_count v)

-- nothing over, and no more than 64 KiB
abbrev pub is_whole : List ℕ → Values → Bool
is_whole s v = eqb (sheet_end s v) (length s) && leb (length s) 65536

unfoldable pub rest_formed : List ℕ → Values → Bool
rest_formed s v = is_small v && (has_planes s v && is_whole s v)

unfoldable pub sheet_frame : List ℕ → Values → Frame
sheet_frame s v =
    frame_of (image_of v)
    (numbers_from s (luma_begin s) (luma_count v))
    (numbers_from s (u_begin s v) (chroma_count v))
    (numbers_from s (v_begin s v) (chroma_count v))

-- ---- the questions, in their order

unfoldable pub sheet_questions : List ℕ → Values → List Question
sheet_questions s v =
    ask 15 (has_names s && has_values s)
    ∷ sampling_known v.sampling
    ∷ codes_known (among v.depth depths) (codes_of v)
    ∷ ask 15 (rest_formed s v)
    ∷ []

-- ---- what is printed

unfoldable pub refusal : ℕ → List ℕ
refusal number = refused ++ number_text number 10

unfoldable pub sheet_of : List ℕ → List ℕ
sheet_of s =
    let v = values_of s in
    let number = (verdict (sheet_questions s v)).number in
    let picture = table (decoded (codes_of v)) (sheet_frame s v) in
    cond (eqb number 0) picture (refusal number)
