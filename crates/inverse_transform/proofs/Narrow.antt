-- The coefficients of a usable setting are narrow. For a matrix by name antt computes them at each depth, range and mode.
-- For Custom: 1 − k is at most 1, M/RC at most 5/4, so (2·(1 − k))·(M/RC)·8192 is at most 20480; question 13 itself limits green.
-- Assumes nothing.
use mathlib.Core.Path.{◌≡◌, refl}
use mathlib.Core.Bool.{Bool, false, cond, ◌&&◌}
use Prim.Native.Nat.{ℕ, ◌+◌, ◌≤◌}
use lib.Dec.{T, leb, leb→le, lit<, lit≤}
use lib.IntN.{pos}
use lib.Ieee.{Float, fin, binary32, of_int, round, mul, sub, div, lt}
use lib.Ieee.Exact.{HasValue}
use lib.Ieee.Fits.{and_l, and_r}
use Rattle.yuv_support.specs.declared.YuvRange.{YuvRange}
use Rattle.yuv_support.specs.declared.YuvRange.TheVariants.{Limited, Full}
use Rattle.yuv_support.specs.declared.YuvStandardMatrix.{YuvStandardMatrix}
use Rattle.yuv_support.specs.declared.YuvStandardMatrix.TheVariants.{Bt601, Bt709, Bt2020, Smpte240, Bt470_6, Fcc, Custom}
use Rattle.yuv_support.specs.declared.YuvMode.{YuvMode}
use Rattle.yuv_support.specs.declared.YuvMode.TheVariants.{AsSource, Matched}
use Rattle.yuv_support.specs.declared.YuvBias.{YuvBias}
use Rattle.yuv_support.specs.declared.CbCrInverseTransform.{CbCrInverseTransform}
use Rattle.yuv_support.specs.declared.Settings.{Settings}
use Rattle.yuv_support.specs.Settings.{among, depths, max_of, range_y, range_c, weight_r, weight_b, weight_g, weights_of}
use Rattle.yuv_support.specs.Coefficients.{exact_y, exact_outer, exact_inner, stored_of, is_stored, f32, ratio, green_weight, outer, inner, round_away, integer, computed_of, coefficients_of, is_weight, green_fits, custom_usable, usable_with, usable}
use Rattle.yuv_support.proofs.Depths.{by_depth}
use Rattle.inverse_transform.specs.Narrow.{Narrow}
use Rattle.inverse_transform.proofs.AtMost.{AtMost, mul_at_most, one_minus, round_away_at_most}

-- ---- the constants

zero_is : f32 0 ≡ fin false 0 (pos 0)
unfolding of_int round
zero_is = refl

one_is : f32 1 ≡ fin false 1 (pos 0)
unfolding of_int round
one_is = refl

two_at_most : AtMost (f32 2) 2 1
unfolding of_int round
two_at_most = (refl, lit≤ tt)

scale_at_most : AtMost (f32 8192) 8192 1
unfolding of_int round
scale_at_most = (refl, lit≤ tt)

ratio_at_most : (d : ℕ) (r : YuvRange) → T (among d depths) → AtMost (ratio (max_of d) (range_c d r)) 5 4
unfolding ratio max_of range_c div of_int round
ratio_at_most d Limited t = by_depth (λ d. AtMost (ratio (max_of d) (range_c d Limited)) 5 4) (refl, lit≤ tt) (refl, lit≤ tt) (refl, lit≤ tt) d t
ratio_at_most d Full t = by_depth (λ d. AtMost (ratio (max_of d) (range_c d Full)) 5 4) (refl, lit≤ tt) (refl, lit≤ tt) (refl, lit≤ tt) d t

-- ---- the coefficients of Custom

times_two : HasValue (round binary32 false 2 1) false 2 1
unfolding round
times_two = (refl, refl)

times_ratio : HasValue (round binary32 false 10 4) false 5 2
unfolding round
times_ratio = (refl, refl)

times_scale : HasValue (round binary32 false 40960 2) false 20480 1
unfolding round
times_scale = (refl, refl)

pub outer_at_most : (k u : Float) → T (is_weight k) → AtMost u 5 4 → integer (outer k u) ≤ 20480
unfolding integer outer
outer_at_most k u w h =
    let x = sub binary32 (f32 1) k in
    let a : AtMost x 1 1 = rw one_is (one_minus k (rw (zero_is, one_is) at w)) in
    let b : AtMost (mul binary32 (f32 2) x) 2 1 = mul_at_most (f32 2) x 2 1 1 1 2 1 (lit< tt) (lit< tt) times_two two_at_most a in
    let c : AtMost (mul binary32 (mul binary32 (f32 2) x) u) 5 2 = mul_at_most (mul binary32 (f32 2) x) u 2 1 5 4 5 2 (lit< tt) (lit< tt) times_ratio b h in
    round_away_at_most (mul binary32 (mul binary32 (mul binary32 (f32 2) x) u) (f32 8192)) 20480
    (mul_at_most (mul binary32 (mul binary32 (f32 2) x) u) (f32 8192) 5 2 8192 1 20480 1 (lit< tt) (lit< tt) times_scale c scale_at_most)

luma_at_most : (d : ℕ) (r : YuvRange) → T (among d depths) → integer (ratio (max_of d) (range_y d r)) ≤ 12287
unfolding integer round_away ratio max_of range_y mul div of_int round
luma_at_most d Limited t = by_depth (λ d. integer (ratio (max_of d) (range_y d Limited)) ≤ 12287) (lit≤ tt) (lit≤ tt) (lit≤ tt) d t
luma_at_most d Full t = by_depth (λ d. integer (ratio (max_of d) (range_y d Full)) ≤ 12287) (lit≤ tt) (lit≤ tt) (lit≤ tt) d t

-- ---- every setting

is_narrow : CbCrInverseTransform → Bool
is_narrow t = leb t.y 12287 && (leb t.cr 20480 && (leb t.cb 20480 && leb (t.g1 + t.g2) 32767))

narrow_of_test : (t : CbCrInverseTransform) → T (is_narrow t) → Narrow t
unfolding is_narrow
narrow_of_test t h =
    let g = leb (t.g1 + t.g2) 32767 in
    let cb = leb t.cb 20480 in
    let cr = leb t.cr 20480 in
    let y = leb t.y 12287 in
    let h1 = and_r y (cr && (cb && g)) h in
    let h2 = and_r cr (cb && g) h1 in
    record {
      y = leb→le t.y 12287 (and_l y (cr && (cb && g)) h);
      cr = leb→le t.cr 20480 (and_l cr (cb && g) h1);
      cb = leb→le t.cb 20480 (and_l cb g h2);
      green = leb→le (t.g1 + t.g2) 32767 (and_r cb g h2);
    }

-- the coefficients of a setting, by what they depend on
abbrev found : ℕ → YuvRange → YuvStandardMatrix → YuvMode → CbCrInverseTransform
found d r m mode = cond (is_stored d m) (stored_of d r m mode) (computed_of d r m)

module _ (d : ℕ) (r : YuvRange) (m : YuvStandardMatrix) (mode : YuvMode) (known : T (among d depths)) where
  at_each_depth : T (is_narrow (found 8 r m mode)) → T (is_narrow (found 10 r m mode)) → T (is_narrow (found 12 r m mode)) → Narrow (found d r m mode)
  at_each_depth a b c = narrow_of_test (found d r m mode) (by_depth (λ d. T (is_narrow (found d r m mode))) a b c d known)

custom_narrow : (d : ℕ) (r : YuvRange) (kr kb : Float) (mode : YuvMode) → T (among d depths)
    → T (custom_usable (record { kr = kr; kb = kb }) (found d r (Custom kr kb) mode)) → Narrow (found d r (Custom kr kb) mode)
unfolding is_stored computed_of weights_of custom_usable
custom_narrow d r kr kb mode t u =
    let k : YuvBias = record { kr = kr; kb = kb } in
    let last = green_fits (found d r (Custom kr kb) mode) in
    let above = lt (f32 0) (green_weight k) in
    let u1 = and_r (is_weight kr) (is_weight kb && (above && last)) u in
    let scale = ratio_at_most d r t in
    record {
      y = luma_at_most d r t;
      cr = outer_at_most kr (ratio (max_of d) (range_c d r)) (and_l (is_weight kr) (is_weight kb && (above && last)) u) scale;
      cb = outer_at_most kb (ratio (max_of d) (range_c d r)) (and_l (is_weight kb) (above && last) u1) scale;
      green = leb→le _ 32767 (and_r above last (and_r (is_weight kb) (above && last) u1));
    }

found_narrow : (d : ℕ) (r : YuvRange) (m : YuvStandardMatrix) (mode : YuvMode) → T (among d depths) → T (usable_with m (found d r m mode)) → Narrow (found d r m mode)
unfolding is_narrow is_stored stored_of exact_y exact_outer exact_inner computed_of usable_with max_of range_y range_c weight_r weight_b weight_g weights_of ratio green_weight outer inner integer round_away mul sub div of_int round
found_narrow d Limited Bt601 mode t u = at_each_depth d Limited Bt601 mode t tt tt tt
found_narrow d Full Bt601 mode t u = at_each_depth d Full Bt601 mode t tt tt tt
found_narrow d Limited Bt709 mode t u = at_each_depth d Limited Bt709 mode t tt tt tt
found_narrow d Full Bt709 mode t u = at_each_depth d Full Bt709 mode t tt tt tt
found_narrow d Limited Bt2020 mode t u = at_each_depth d Limited Bt2020 mode t tt tt tt
found_narrow d Full Bt2020 mode t u = at_each_depth d Full Bt2020 mode t tt tt tt
found_narrow d Limited Smpte240 AsSource t u = at_each_depth d Limited Smpte240 AsSource t tt tt tt
found_narrow d Limited Smpte240 Matched t u = at_each_depth d Limited Smpte240 Matched t tt tt tt
found_narrow d Full Smpte240 AsSource t u = at_each_depth d Full Smpte240 AsSource t tt tt tt
found_narrow d Full Smpte240 Matched t u = at_each_depth d Full Smpte240 Matched t tt tt tt
found_narrow d Limited Bt470_6 mode t u = at_each_depth d Limited Bt470_6 mode t tt tt tt
found_narrow d Full Bt470_6 mode t u = at_each_depth d Full Bt470_6 mode t tt tt tt
found_narrow d Limited Fcc mode t u = at_each_depth d Limited Fcc mode t tt tt tt
found_narrow d Full Fcc mode t u = at_each_depth d Full Fcc mode t tt tt tt
found_narrow d r (Custom kr kb) mode t u = custom_narrow d r kr kb mode t u

pub narrow : (s : Settings) → T (among s.depth depths) → T (usable s) → Narrow (coefficients_of s)
unfolding coefficients_of usable
narrow s t u = found_narrow s.depth s.range s.matrix s.mode t u
