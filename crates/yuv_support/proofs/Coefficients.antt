-- Each coefficient of a stored row is the whole number nearest to 8192 times the exact one: a law of the rule `nearest` that the row is
-- defined by, for every numerator and denominator. A measured setting has such a row, of its matrix's own weights.
-- Assumes nothing.
use mathlib.Core.Path.{◌≡◌, refl}
use Prim.Native.Nat.{ℕ, ◌+◌, ◌-◌, ◌*◌, ◌≤◌, ◌<◌}
use native.Mathlib.Nat.{mul-div-le, lt-div-mul-add, mul-pos}
use native.Mathlib.Omega.{arith}
use lib.Dec.{T, eqb}
use Rattle.yuv_support.specs.declared.YuvRange.{YuvRange}
use Rattle.yuv_support.specs.declared.YuvRange.TheVariants.{Limited, Full}
use Rattle.yuv_support.specs.declared.YuvStandardMatrix.{YuvStandardMatrix}
use Rattle.yuv_support.specs.declared.YuvStandardMatrix.TheVariants.{Bt601, Bt709, Bt2020, Smpte240, Bt470_6, Fcc, Custom}
use Rattle.yuv_support.specs.declared.YuvMode.{YuvMode}
use Rattle.yuv_support.specs.declared.YuvMode.TheVariants.{AsSource, Matched}
use Rattle.yuv_support.specs.declared.CbCrInverseTransform.{CbCrInverseTransform}
use Rattle.yuv_support.specs.declared.Settings.{Settings}
use Rattle.yuv_support.specs.Settings.{among, depths, max_of, range_y, range_c, weight_r, weight_b, weight_g}
use Rattle.yuv_support.specs.Coefficients.{nearest, exact_y, exact_outer, exact_inner, own_rule, stored_of, is_stored, coefficients_of, Nearest, NearestExact}
use Rattle.yuv_support.specs.Distance.{measured_at, measured}
use Rattle.yuv_support.proofs.Depths.{by_depth}
use Rattle.yuv_support.proofs.Tests.{passed, either}

pub nearest_law : (num den : ℕ) → 0 < den → Nearest num den (nearest num den)
nearest_law num den h =
    let low = mul-div-le (2 * num + den) (2 * den) in
    let twice : 0 < 2 * den = omega arith in
    let high = lt-div-mul-add {a = 2 * num + den} twice in
    go (nearest num den) low high
  where
    go : (k : ℕ) → 2 * den * k ≤ 2 * num + den → 2 * num + den < k * (2 * den) + 2 * den → Nearest num den k
    go k low high = (omega arith, omega arith)

pub own_nearest : (d : ℕ) (r : YuvRange) (m : YuvStandardMatrix) → 0 < range_y d r → 0 < range_c d r → 0 < weight_g m → NearestExact d r m (own_rule d r m)
unfolding exact_y exact_outer exact_inner
own_nearest d r m hy hc hg =
    let outer : 0 < 10000 * range_c d r = omega arith in
    let ten : 0 < 10000 * weight_g m = omega arith in
    let inner = mul-pos ten hc in
    record {
      y = nearest_law (8192 * max_of d) (range_y d r) hy;
      cr = nearest_law (8192 * (2 * (10000 - weight_r m) * max_of d)) (10000 * range_c d r) outer;
      cb = nearest_law (8192 * (2 * (10000 - weight_b m) * max_of d)) (10000 * range_c d r) outer;
      g1 = nearest_law (8192 * (2 * (10000 - weight_r m) * weight_r m * max_of d)) (10000 * weight_g m * range_c d r) inner;
      g2 = nearest_law (8192 * (2 * (10000 - weight_b m) * weight_b m * max_of d)) (10000 * weight_g m * range_c d r) inner;
    }

-- ---- the denominators of a known depth and of every matrix are above 0

pub range_y_pos : (d : ℕ) (r : YuvRange) → T (among d depths) → 0 < range_y d r
unfolding range_y max_of
range_y_pos d Limited t = by_depth (λ d. 0 < range_y d Limited) (omega arith) (omega arith) (omega arith) d t
range_y_pos d Full t = by_depth (λ d. 0 < range_y d Full) (omega arith) (omega arith) (omega arith) d t

pub range_c_pos : (d : ℕ) (r : YuvRange) → T (among d depths) → 0 < range_c d r
unfolding range_c max_of
range_c_pos d Limited t = by_depth (λ d. 0 < range_c d Limited) (omega arith) (omega arith) (omega arith) d t
range_c_pos d Full t = by_depth (λ d. 0 < range_c d Full) (omega arith) (omega arith) (omega arith) d t

pub weight_g_pos : (m : YuvStandardMatrix) → 0 < weight_g m
unfolding weight_g weight_r weight_b
weight_g_pos Bt601 = omega arith
weight_g_pos Bt709 = omega arith
weight_g_pos Bt2020 = omega arith
weight_g_pos Smpte240 = omega arith
weight_g_pos Bt470_6 = omega arith
weight_g_pos Fcc = omega arith
weight_g_pos (Custom kr kb) = omega arith

pub known_nearest : (d : ℕ) (r : YuvRange) (m : YuvStandardMatrix) → T (among d depths) → NearestExact d r m (own_rule d r m)
known_nearest d r m t = own_nearest d r m (range_y_pos d r t) (range_c_pos d r t) (weight_g_pos m)

-- ---- a stored row, and that of a measured setting

pub stored_known : (d : ℕ) (m : YuvStandardMatrix) → T (is_stored d m) → T (among d depths)
unfolding is_stored
stored_known d Bt601 t = t
stored_known d Bt709 t = t
stored_known d Bt2020 t = t
stored_known d Smpte240 t = either (eqb d 8) _ t
stored_known d Bt470_6 t = either (eqb d 8) _ t
stored_known d Fcc t = absurd t
stored_known d (Custom kr kb) t = absurd t

measured_stored : (d : ℕ) (m : YuvStandardMatrix) (mode : YuvMode) → T (among d depths) → T (measured_at d m mode) → T (is_stored d m)
unfolding is_stored measured_at
measured_stored d Bt601 mode t u = t
measured_stored d Bt709 mode t u = t
measured_stored d Bt2020 mode t u = t
measured_stored d Smpte240 AsSource t u = absurd u
measured_stored d Smpte240 Matched t u = u
measured_stored d Bt470_6 mode t u = absurd u
measured_stored d Fcc mode t u = absurd u
measured_stored d (Custom kr kb) mode t u = absurd u

-- it is the row of the matrix's own weights
measured_own : (d : ℕ) (r : YuvRange) (m : YuvStandardMatrix) (mode : YuvMode) → T (measured_at d m mode) → stored_of d r m mode ≡ own_rule d r m
unfolding stored_of measured_at
measured_own d r Bt601 mode u = refl
measured_own d r Bt709 mode u = refl
measured_own d r Bt2020 mode u = refl
measured_own d r Smpte240 AsSource u = absurd u
measured_own d r Smpte240 Matched u = refl
measured_own d r Bt470_6 mode u = absurd u
measured_own d r Fcc mode u = absurd u
measured_own d r (Custom kr kb) mode u = absurd u

pub stored_nearest : (d : ℕ) (r : YuvRange) (m : YuvStandardMatrix) (mode : YuvMode) → T (is_stored d m) → T (measured_at d m mode)
    → NearestExact d r m (stored_of d r m mode)
stored_nearest d r m mode t u = rw (measured_own d r m mode u) (known_nearest d r m (stored_known d m t))

pub stored_coefficients : (s : Settings) → T (is_stored s.depth s.matrix) → coefficients_of s ≡ stored_of s.depth s.range s.matrix s.mode
unfolding coefficients_of
stored_coefficients s t = rw (passed (is_stored s.depth s.matrix) t)

pub measured_nearest : (s : Settings) → T (among s.depth depths) → T (measured s) → NearestExact s.depth s.range s.matrix (coefficients_of s)
measured_nearest s t u =
    let stored = measured_stored s.depth s.matrix s.mode t u in
    rw (stored_coefficients s stored) (stored_nearest s.depth s.range s.matrix s.mode stored u)

-- four rows at 8 bits and full range: the weights of the measured matrices make these numbers
abbrev row_with : ℕ → ℕ → ℕ → ℕ → ℕ → CbCrInverseTransform
row_with y cr cb g1 g2 = record { y = y; cr = cr; cb = cb; g1 = g1; g2 = g2 }

pub measured_rows : (mode : YuvMode) → (stored_of 8 Full Bt601 mode ≡ row_with 8192 11485 14516 5850 2819)
    × (stored_of 8 Full Bt709 mode ≡ row_with 8192 12901 15201 3835 1535)
    × (stored_of 8 Full Bt2020 mode ≡ row_with 8192 12080 15412 4681 1348)
    × (stored_of 8 Full Smpte240 Matched ≡ row_with 8192 12911 14959 3904 1856)
unfolding stored_of exact_y exact_outer exact_inner max_of range_y range_c weight_r weight_b weight_g
measured_rows mode = (refl, refl, refl, refl)
