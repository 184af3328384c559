-- What the conversion of a sheet's picture asks of the values and of the samples.
-- Definitions only.
use Rattle.std.specs.Prelude.{List, ℕ, ◌≤◌, ◌<◌, T, length, take, get_or}
use Rattle.yuv_support.specs.Settings.{among}
use Rattle.yuv_support.specs.Blend.{Frame, frame_of}
use Rattle.sheet_values.specs.declared.Values.{Values}
use Rattle.sheet_values.specs.Values.{image_of, luma_count, chroma_count}

-- the values of a small picture whose depth is one of `known`
pub record Fit (known : List ℕ) (v : Values) : Type 0 where
  pub sampling : v.sampling ≤ 1
  pub order : v.order ≤ 3
  pub range : v.range ≤ 1
  pub matrix : v.matrix ≤ 5
  pub depth : T (among v.depth known)
  pub width_least : 1 ≤ v.width
  pub width : v.width ≤ 64
  pub height_least : 1 ≤ v.height
  pub height : v.height ≤ 64

-- the first n of a list are there, and at most `limit`
pub record Most (limit n : ℕ) (xs : List ℕ) : Type 0 where
  pub long : n ≤ length xs
  pub most : (i : ℕ) → i < n → get_or xs i 0 ≤ limit

pub record Samples (limit : ℕ) (v : Values) (y u w : List ℕ) : Type 0 where
  pub luma : Most limit (luma_count v) y
  pub cb : Most limit (chroma_count v) u
  pub cr : Most limit (chroma_count v) w

abbrev pub planes_frame : Values → List ℕ → List ℕ → List ℕ → Frame
planes_frame v y u w = frame_of (image_of v) (take (luma_count v) y) (take (chroma_count v) u) (take (chroma_count v) w)
