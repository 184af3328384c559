-- Document 01, "The words of demand 3", and document 02, slips 1 and 4: the exact equations in whole numbers, and how far a component lies
-- from its own. Conversion has the whole claim.
-- Definitions only.
use Rattle.std.specs.Prelude.{◌≡◌, ℕ, ◌+◌, ◌-◌, ◌*◌, ◌≤◌, ◌<◌, Bool, true, false, cond, List, T, eqb, ℤ, ◌+ℤ◌, ◌-ℤ◌, get_or}
use Rattle.yuv_support.specs.declared.YuvRange.{YuvRange}
use Rattle.yuv_support.specs.declared.YuvStandardMatrix.{YuvStandardMatrix}
use Rattle.yuv_support.specs.declared.YuvStandardMatrix.TheVariants.{Bt601, Bt709, Bt2020, Smpte240, Bt470_6, Fcc, Custom}
use Rattle.yuv_support.specs.declared.YuvBytesPacking.TheVariants.{LeastSignificantBytes, MostSignificantBytes}
use Rattle.yuv_support.specs.declared.YuvMode.{YuvMode}
use Rattle.yuv_support.specs.declared.YuvMode.TheVariants.{AsSource, Matched}
use Rattle.yuv_support.specs.declared.Settings.{Settings}
use Rattle.yuv_support.specs.Settings.{among, depths16, max_of, bias_y, bias_c, range_y, range_c, weight_r, weight_b, weight_g}
use Rattle.yuv_support.specs.Blend.{Frame, chroma_blue, chroma_red, sample, chroma_width, chroma_height, luma_at, chroma16}
use Rattle.yuv_support.specs.Component.{Component, red, green, blue, step, clamp}
use Rattle.yuv_support.specs.Picture.{place_in, pixel_begin}

-- D
unfoldable pub denominator : ℕ → YuvRange → YuvStandardMatrix → ℕ
denominator d r m = 160000 * weight_g m * range_y d r * range_c d r

-- ---- what a step of one luma code, and of one sixteenth of a chroma code, adds to E

-- D·M/RY
unfoldable pub luma_step : ℕ → YuvRange → YuvStandardMatrix → ℕ
luma_step d r m = 160000 * weight_g m * range_c d r * max_of d

-- D·2(1−k)·M/RC/16
unfoldable pub outer_step : ℕ → YuvRange → YuvStandardMatrix → ℕ → ℕ
outer_step d r m k = 2 * (10000 - k) * weight_g m * range_y d r * max_of d

-- D·2(1−k)(k/kg)·M/RC/16
unfoldable pub inner_step : ℕ → YuvRange → YuvStandardMatrix → ℕ → ℕ
inner_step d r m k = 2 * (10000 - k) * k * range_y d r * max_of d

-- E: the exact equation's unclamped value times D, of luma y and of unrounded chroma in sixteenths
unfoldable pub exact_value : ℕ → YuvRange → YuvStandardMatrix → Component → ℕ → ℕ → ℕ → ℤ
exact_value d r m red y cb16 cr16 =
    step (luma_step d r m) y (bias_y d r) +ℤ step (outer_step d r m (weight_r m)) cr16 (16 * bias_c d)
exact_value d r m green y cb16 cr16 =
    step (luma_step d r m) y (bias_y d r)
    -ℤ step (inner_step d r m (weight_r m)) cr16 (16 * bias_c d)
    -ℤ step (inner_step d r m (weight_b m)) cb16 (16 * bias_c d)
exact_value d r m blue y cb16 cr16 =
    step (luma_step d r m) y (bias_y d r) +ℤ step (outer_step d r m (weight_b m)) cb16 (16 * bias_c d)

-- ---- the distance

-- of two numbers, upward or downward
abbrev pub apart : ℕ → ℕ → ℕ
apart a b = (a - b) + (b - a)

-- the bound of a depth as a fraction: 8/5, 17/10, 2
unfoldable pub bound_num : ℕ → ℕ
bound_num d = cond (eqb d 8) 8 (cond (eqb d 10) 17 2)

unfoldable pub bound_den : ℕ → ℕ
bound_den d = cond (eqb d 8) 5 (cond (eqb d 10) 10 1)

-- the component x, times D, and E clamped to 0..M·D lie less than the depth's bound times D apart, multiplied out
unfoldable pub Close : ℕ → YuvRange → YuvStandardMatrix → ℕ → ℤ → Type 0
Close d r m x e = bound_den d * apart (x * denominator d r m) (clamp (max_of d * denominator d r m) e) < bound_num d * denominator d r m

-- ---- what demand 3 says of the distance, and of which pictures

-- BT.601, BT.709 and BT.2020; matched, `Smpte240` at depth 8 too
unfoldable pub measured_at : ℕ → YuvStandardMatrix → YuvMode → Bool
measured_at d Bt601 mode = true
measured_at d Bt709 mode = true
measured_at d Bt2020 mode = true
measured_at d Smpte240 AsSource = false
measured_at d Smpte240 Matched = eqb d 8
measured_at d Bt470_6 mode = false
measured_at d Fcc mode = false
measured_at d (Custom kr kb) mode = false

abbrev pub measured : Settings → Bool
measured s = measured_at s.depth s.matrix s.mode

-- samples within the depth: none inside the sides of a plane is above M
abbrev pub PlaneWithin : Settings → List ℕ → ℕ → ℕ → ℕ → Type 0
PlaneWithin s plane stride width height =
    (row column : ℕ) → row < height → column < width → sample s plane stride row column ≤ max_of s.depth

pub record WithinDepth (s : Settings) (f : Frame) : Type 0 where
  pub y : PlaneWithin s f.y f.y_stride f.width f.height
  pub u : PlaneWithin s f.u f.u_stride (chroma_width f.width) (chroma_height s.sampling f.height)
  pub v : PlaneWithin s f.v f.v_stride (chroma_width f.width) (chroma_height s.sampling f.height)

-- ---- what is asked of the samples

-- of bytes, nothing
abbrev pub AnySamples : Settings → Frame → Type 0
AnySamples s f = Unit {0}

-- of u16 samples, to lie within the depth where they stand in the low bits, and else nothing
abbrev pub WithinIfLow : Settings → Frame → Type 0
WithinIfLow s f = s.packing ≡ LeastSignificantBytes → WithinDepth s f

-- in the high bits they lie within the depth, whatever the elements of the planes are
abbrev pub HighWithin : Type 0
HighWithin =
    (s : Settings) (f : Frame) → s.packing ≡ MostSignificantBytes → T (among s.depth depths16)
    → ((i : ℕ) → get_or f.y i 0 ≤ 65535) → ((i : ℕ) → get_or f.u i 0 ≤ 65535) → ((i : ℕ) → get_or f.v i 0 ≤ 65535) → WithinDepth s f

-- ---- the destination

-- the destination's element that holds a component of the pixel at a row and a column
abbrev pub component_in : Settings → List ℕ → ℕ → Component → ℕ → ℕ → ℕ
component_in s rgb stride c row column = get_or rgb (pixel_begin s stride row column + place_in s.order c) 0

-- each component in the destination is close to the equation, at every pixel of a band of rows
abbrev pub FaithfulBand : Settings → Frame → ℕ → ℕ → ℕ → List ℕ → Type 0
FaithfulBand s f stride first count rgb =
    (c : Component) (row column : ℕ) → first ≤ row → row < first + count → column < f.width
    → Close s.depth s.range s.matrix (component_in s rgb stride c row column)
    (exact_value s.depth s.range s.matrix c (luma_at s f row column) (chroma16 s f chroma_blue row column) (chroma16 s f chroma_red row column))
