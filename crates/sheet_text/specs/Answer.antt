-- What the functions that read a sheet ask and answer, by the definitions of Sheet.
-- Definitions only.
use Rattle.std.specs.Prelude.{◌≡◌, cond, ◌&&◌, List, ℕ, ◌≤◌, leb, length, take, Result, Ok, Err}
use Rattle.yuv_support.specs.Settings.{among, depths}
use Rattle.yuv_support.specs.Questions.{decoded, codes_known}
use Rattle.sheet_numbers.specs.Numbers.{numbers_from}
use Rattle.sheet_values.specs.declared.Refusal.{Refusal}
use Rattle.sheet_values.specs.declared.Refusal.TheVariants.{Malformed}
use Rattle.sheet_values.specs.declared.Values.{Values}
use Rattle.sheet_values.specs.Values.{codes_of, luma_count, chroma_count}
use Rattle.sheet_values.specs.Known.{number_of}
use Rattle.sheet_table.specs.Table.{table}
use Rattle.sheet_picture.specs.declared.Sheet.{Sheet}
use Rattle.sheet_picture.specs.Samples.{planes_frame}
use Rattle.sheet_text.specs.declared.Start.{Start}
use Rattle.sheet_text.specs.Sheet.{has_names, has_values, values_of, luma_begin, u_begin, v_begin, rest_formed, sheet_frame, refusal}

-- what the first two lines say, where they are well formed
abbrev pub start_of : List ℕ → Result Start Refusal
start_of s = cond (has_names s && has_values s) (Ok (record { values = values_of s; at = luma_begin s })) (Err Malformed)

-- what reading the planes asks: the first two lines are read, `at` is the place after them, and the sides are small
pub record PlanesAsk (s : List ℕ) (at : ℕ) (v : Values) : Type 0 where
  pub place : at ≡ luma_begin s
  pub within : at ≤ length s
  pub width_least : 1 ≤ v.width
  pub width : v.width ≤ 64
  pub height : v.height ≤ 64

-- what it leaves
pub record PlanesRead (s : List ℕ) (v : Values) (y u w : List ℕ) : Type 0 where
  pub luma : take (luma_count v) y ≡ numbers_from s (luma_begin s) (luma_count v)
  pub cb : take (chroma_count v) u ≡ numbers_from s (u_begin s v) (chroma_count v)
  pub cr : take (chroma_count v) w ≡ numbers_from s (v_begin s v) (chroma_count v)

-- what is printed where questions 1 and 2 are answered, and where the first two lines are well formed
abbrev pub rest_text : List ℕ → Values → List ℕ
rest_text s v = cond (rest_formed s v) (table (decoded (codes_of v)) (sheet_frame s v)) (refusal 15)

abbrev pub values_text : List ℕ → Values → List ℕ
values_text s v = cond (leb v.sampling 1) (cond (codes_known (among v.depth depths) (codes_of v)).holds (rest_text s v) (refusal 2)) (refusal 1)

-- what is printed of a sheet that was read, and of a refusal
abbrev pub printed : Result Sheet Refusal → List ℕ
printed (Ok t) = table (decoded (codes_of t.known.values)) (planes_frame t.known.values t.planes.y t.planes.u t.planes.v)
printed (Err why) = refusal (number_of why)
