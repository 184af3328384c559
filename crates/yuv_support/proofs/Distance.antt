-- Demand 3's distance at a pixel. The exact equation is the component's own sum, with the exact coefficients times D in the place of the
-- whole-number ones; so what `Rounding` says of two such sums holds of them, and one computed test says that the twenty measured settings
-- (18 of BT.601, BT.709 and BT.2020 and two of `Smpte240`, matched) leave room for it.
-- Assumes nothing.
use mathlib.Core.Path.{◌≡◌, refl}
use mathlib.Core.Bool.{Bool, true, cond, ◌&&◌}
use Prim.Native.Nat.{ℕ, ◌+◌, ◌-◌, ◌*◌, ◌≤◌, ◌<◌}
use native.Mathlib.Nat.{mul-le-mul_left}
use native.Mathlib.Omega.{arith}
use lib.Dec.{T, ltb, ltb→lt}
use mir.ValLaws.{and_both}
use Rattle.yuv_support.specs.declared.YuvRange.{YuvRange}
use Rattle.yuv_support.specs.declared.YuvRange.TheVariants.{Limited, Full}
use Rattle.yuv_support.specs.declared.YuvStandardMatrix.{YuvStandardMatrix}
use Rattle.yuv_support.specs.declared.YuvStandardMatrix.TheVariants.{Bt601, Bt709, Bt2020, Smpte240, Bt470_6, Fcc, Custom}
use Rattle.yuv_support.specs.declared.YuvMode.{YuvMode}
use Rattle.yuv_support.specs.declared.YuvMode.TheVariants.{AsSource, Matched}
use Rattle.yuv_support.specs.declared.CbCrInverseTransform.{CbCrInverseTransform}
use Rattle.yuv_support.specs.declared.Settings.{Settings}
use Rattle.yuv_support.specs.Settings.{among, depths, max_of, bias_y, bias_c, range_y, range_c, weight_r, weight_b, weight_g}
use Rattle.yuv_support.specs.Coefficients.{coefficients_of, Nearest, NearestExact}
use Rattle.yuv_support.specs.Blend.{Frame, chroma_blue, chroma_red, luma_at, chroma16, rounded}
use Rattle.yuv_support.specs.Component.{Component, red, green, blue, clamp, sum_of, quotient, quotient_of, quotient_at, component_at}
use Rattle.yuv_support.specs.Distance.{denominator, luma_step, outer_step, inner_step, exact_value, bound_num, bound_den, Close, measured_at, measured, WithinDepth}
use Rattle.yuv_support.proofs.Depths.{by_depth}
use Rattle.yuv_support.proofs.Tests.{passed, three, four}
use Rattle.yuv_support.proofs.Sign.{clamp_is, sum_is, component_sum}
use Rattle.yuv_support.proofs.Blend.{rounded_le, chroma_within}
use Rattle.yuv_support.proofs.Coefficients.{measured_nearest}
use Rattle.yuv_support.proofs.Rounding.{NearestOver, spread_of, sum_off, apart_lt}

-- ---- the steps are the exact equations' coefficients times D, by multiplying out

-- luma_step / D is M/RY
pub luma_exact : (d : ℕ) (r : YuvRange) (m : YuvStandardMatrix) → luma_step d r m * range_y d r ≡ denominator d r m * max_of d
unfolding luma_step denominator
luma_exact d r m = omega arith

-- 16·outer_step / D is 2(1−k)·M/RC
pub outer_exact : (d : ℕ) (r : YuvRange) (m : YuvStandardMatrix) (k : ℕ)
    → 16 * outer_step d r m k * 10000 * range_c d r ≡ denominator d r m * (2 * (10000 - k)) * max_of d
unfolding outer_step denominator
outer_exact d r m k = omega arith

-- 16·inner_step / D is 2(1−k)(k/kg)·M/RC
pub inner_exact : (d : ℕ) (r : YuvRange) (m : YuvStandardMatrix) (k : ℕ)
    → 16 * inner_step d r m k * 10000 * weight_g m * range_c d r ≡ denominator d r m * (2 * (10000 - k)) * k * max_of d
unfolding inner_step denominator
inner_exact d r m k = omega arith

-- ---- the exact equation as a component's sum

abbrev steps_of : ℕ → YuvRange → YuvStandardMatrix → CbCrInverseTransform
steps_of d r m = record {
  y = luma_step d r m;
  cr = outer_step d r m (weight_r m);
  cb = outer_step d r m (weight_b m);
  g1 = inner_step d r m (weight_r m);
  g2 = inner_step d r m (weight_b m);
}

exact_value_sum : (d : ℕ) (r : YuvRange) (m : YuvStandardMatrix) (c : Component) (y cb16 cr16 : ℕ)
    → exact_value d r m c y cb16 cr16 ≡ sum_of (steps_of d r m) (bias_y d r) (16 * bias_c d) c y cb16 cr16
unfolding exact_value sum_of
exact_value_sum d r m red y cb16 cr16 = refl
exact_value_sum d r m green y cb16 cr16 = refl
exact_value_sum d r m blue y cb16 cr16 = refl

-- a coefficient that is nearest to num / den is nearest to the same fraction over D, where D is den·t
over_d : (denominator t num den k num' : ℕ) → denominator ≡ den * t → num' ≡ num * t → Nearest num den k → Nearest num' denominator k
over_d denominator t num den k num' e e' n =
    rw (e, e') (omega (arith, mul-le-mul_left t n.0), omega (arith, mul-le-mul_left t n.1))

nearest_over : (d : ℕ) (r : YuvRange) (m : YuvStandardMatrix) (k : CbCrInverseTransform) → NearestExact d r m k → NearestOver (denominator d r m) (steps_of d r m) k
unfolding denominator luma_step outer_step inner_step
nearest_over d r m k n = record {
  y = over_d (denominator d r m) (160000 * weight_g m * range_c d r) _ _ k.y _ (omega arith) (omega arith) n.y;
  cr = outer (weight_r m) k.cr n.cr;
  cb = outer (weight_b m) k.cb n.cb;
  g1 = inner (weight_r m) k.g1 n.g1;
  g2 = inner (weight_b m) k.g2 n.g2;
}
  where
    outer : (w k : ℕ) → Nearest (8192 * (2 * (10000 - w) * max_of d)) (10000 * range_c d r) k → Nearest (8192 * (16 * outer_step d r m w)) (denominator d r m) k
    outer w k n = over_d (denominator d r m) (16 * weight_g m * range_y d r) _ _ k _ (omega arith) (omega arith) n

    inner : (w k : ℕ) → Nearest (8192 * (2 * (10000 - w) * w * max_of d)) (10000 * weight_g m * range_c d r) k
        → Nearest (8192 * (16 * inner_step d r m w)) (denominator d r m) k
    inner w k n = over_d (denominator d r m) (16 * range_y d r) _ _ k _ (omega arith) (omega arith) n

-- ---- the room of the measured settings

-- luma lies at most M − bY from its bias, chroma at most bC
bias_half : (d : ℕ) (r : YuvRange) → T (among d depths) → bias_y d r + bias_y d r ≤ max_of d
unfolding bias_y max_of
bias_half d Limited t = by_depth (λ d. bias_y d Limited + bias_y d Limited ≤ max_of d) (omega arith) (omega arith) (omega arith) d t
bias_half d Full t = by_depth (λ d. bias_y d Full + bias_y d Full ≤ max_of d) (omega arith) (omega arith) (omega arith) d t

max_le : (d : ℕ) → T (among d depths) → max_of d ≤ bias_c d + bias_c d
unfolding max_of bias_c
max_le d t = by_depth (λ d. max_of d ≤ bias_c d + bias_c d) (omega arith) (omega arith) (omega arith) d t

-- how far the sums lie apart, with the last rounding, is below the depth's bound
abbrev spread : ℕ → YuvRange → YuvStandardMatrix → Component → ℕ
spread d r m c = spread_of (denominator d r m) (steps_of d r m) (max_of d - bias_y d r) (bias_c d) c

abbrev has_room : ℕ → YuvRange → YuvStandardMatrix → Component → Bool
has_room d r m c = ltb (bound_den d * (spread d r m c + 8192 * denominator d r m)) (bound_num d * (16384 * denominator d r m))

-- a test at each depth, range, matrix that is measured in some mode, mode and component
abbrev every_depth : (ℕ → Bool) → Bool
every_depth f = f 8 && (f 10 && f 12)

abbrev every_range : (YuvRange → Bool) → Bool
every_range f = f Limited && f Full

abbrev every_matrix : (YuvStandardMatrix → Bool) → Bool
every_matrix f = f Bt601 && (f Bt709 && (f Bt2020 && f Smpte240))

abbrev every_mode : (YuvMode → Bool) → Bool
every_mode f = f AsSource && f Matched

abbrev every_component : (Component → Bool) → Bool
every_component f = f red && (f green && f blue)

-- those of a measured setting
abbrev room_if_measured : ℕ → YuvRange → YuvStandardMatrix → YuvMode → Bool
room_if_measured d r m mode = cond (measured_at d m mode) (every_component (λ c. has_room d r m c)) true

room_computed : T (every_depth (λ d. every_range (λ r. every_matrix (λ m. every_mode (λ mode. room_if_measured d r m mode)))))
unfolding max_of bias_y bias_c range_y range_c weight_r weight_b weight_g denominator luma_step outer_step inner_step bound_num bound_den measured_at
room_computed = tt

at_depth : (f : ℕ → Bool) → T (every_depth f) → (d : ℕ) → T (among d depths) → T (f d)
at_depth f t = let u = three (f 8) (f 10) (f 12) t in by_depth (λ d. T (f d)) u.0 u.1 u.2

at_range : (f : YuvRange → Bool) → T (every_range f) → (r : YuvRange) → T (f r)
at_range f t Limited = (and_both (f Limited) (f Full) t).0
at_range f t Full = (and_both (f Limited) (f Full) t).1

at_matrix : (f : YuvStandardMatrix → Bool) → T (every_matrix f) → (d : ℕ) (m : YuvStandardMatrix) (mode : YuvMode) → T (measured_at d m mode) → T (f m)
unfolding measured_at
at_matrix f t d Bt601 mode u = (four (f Bt601) (f Bt709) (f Bt2020) (f Smpte240) t).0
at_matrix f t d Bt709 mode u = (four (f Bt601) (f Bt709) (f Bt2020) (f Smpte240) t).1
at_matrix f t d Bt2020 mode u = (four (f Bt601) (f Bt709) (f Bt2020) (f Smpte240) t).2
at_matrix f t d Smpte240 mode u = (four (f Bt601) (f Bt709) (f Bt2020) (f Smpte240) t).3
at_matrix f t d Bt470_6 mode u = absurd u
at_matrix f t d Fcc mode u = absurd u
at_matrix f t d (Custom kr kb) mode u = absurd u

at_mode : (f : YuvMode → Bool) → T (every_mode f) → (mode : YuvMode) → T (f mode)
at_mode f t AsSource = (and_both (f AsSource) (f Matched) t).0
at_mode f t Matched = (and_both (f AsSource) (f Matched) t).1

at_component : (f : Component → Bool) → T (every_component f) → (c : Component) → T (f c)
at_component f t red = (three (f red) (f green) (f blue) t).0
at_component f t green = (three (f red) (f green) (f blue) t).1
at_component f t blue = (three (f red) (f green) (f blue) t).2

room : (d : ℕ) (r : YuvRange) (m : YuvStandardMatrix) (mode : YuvMode) (c : Component) → T (among d depths) → T (measured_at d m mode)
    → bound_den d * (spread d r m c + 8192 * denominator d r m) < bound_num d * (16384 * denominator d r m)
room d r m mode c t u = ltb→lt _ _ (at_component (λ c. has_room d r m c) (rw (passed (measured_at d m mode) u) at tested) c)
  where
    tested : T (room_if_measured d r m mode)
    tested =
        at_mode (λ mode. room_if_measured d r m mode)
        (at_matrix (λ m. every_mode (λ mode. room_if_measured d r m mode))
        (at_range (λ r. every_matrix (λ m. every_mode (λ mode. room_if_measured d r m mode)))
        (at_depth (λ d. every_range (λ r. every_matrix (λ m. every_mode (λ mode. room_if_measured d r m mode)))) room_computed d t)
        r) d m mode u) mode

-- ---- the distance

pub close_at : (s : Settings) (c : Component) (y cb16 cr16 : ℕ) → let d = s.depth in let r = s.range in let m = s.matrix in
    T (among d depths) → T (measured s) → y ≤ max_of d → cb16 ≤ 16 * max_of d → cr16 ≤ 16 * max_of d
    → Close d r m (clamp (max_of d) (quotient (sum_of (coefficients_of s) (bias_y d r) (bias_c d) c y (rounded cb16) (rounded cr16))))
    (exact_value d r m c y cb16 cr16)
unfolding Close
close_at s c y cb16 cr16 t u hy hb hr =
    let d = s.depth in
    let r = s.range in
    let m = s.matrix in
    let k = coefficients_of s in
    let exact = steps_of d r m in
    let half = bias_half d r t in
    let top = max_le d t in
    let b = rounded_le cb16 (max_of d) hb in
    let v = rounded_le cr16 (max_of d) hr in
    let off = sum_off (denominator d r m) exact k (nearest_over d r m k (measured_nearest s t u)) (bias_y d r) (bias_c d) (max_of d - bias_y d r) y cb16 cr16
    (omega arith) (omega arith) (omega arith) (omega arith) c in
    rw (
      exact_value_sum d r m c y cb16 cr16,
      component_sum k (bias_y d r) (bias_c d) c y (rounded cb16) (rounded cr16) (max_of d),
      clamp_is (max_of d * denominator d r m) (sum_is exact (bias_y d r) (16 * bias_c d) c y cb16 cr16),
    )
    (apart_lt (denominator d r m) (max_of d) (spread d r m c) _ _ _ _ off (bound_num d) (bound_den d) (room d r m s.mode c t u))

pub component_close : (s : Settings) (f : Frame) (c : Component) (row column : ℕ)
    → T (among s.depth depths) → T (measured s) → WithinDepth s f → row < f.height → column < f.width
    → Close s.depth s.range s.matrix (component_at s f c row column)
    (exact_value s.depth s.range s.matrix c (luma_at s f row column) (chroma16 s f chroma_blue row column) (chroma16 s f chroma_red row column))
unfolding component_at quotient_at quotient_of
component_close s f c row column t u w hr hc =
    close_at s c (luma_at s f row column) (chroma16 s f chroma_blue row column) (chroma16 s f chroma_red row column) t u
    (w.y row column hr hc) (chroma_within s f chroma_blue row column w hr hc) (chroma_within s f chroma_red row column w hr hc)
