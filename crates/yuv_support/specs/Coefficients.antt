-- Document 01, "Coefficients", and document 02, slips 4 and 6: the five whole-number coefficients of a setting, and question 13.
-- Definitions only.
use Rattle.std.specs.Prelude.{ℕ, ◌+◌, ◌-◌, ◌*◌, ◌/◌, ◌≤◌, min, Bool, true, false, cond, ◌&&◌, eqb, leb, pos, Float}
use Rattle.std.specs.Float.{nan, inf, fin, binary32}
use Rattle.std.specs.Float.Ieee.{up, down, of_int, mul, sub, div, lt, le}
use Rattle.yuv_support.specs.declared.YuvRange.{YuvRange}
use Rattle.yuv_support.specs.declared.YuvStandardMatrix.{YuvStandardMatrix}
use Rattle.yuv_support.specs.declared.YuvStandardMatrix.TheVariants.{Bt601, Bt709, Bt2020, Smpte240, Bt470_6, Fcc, Custom}
use Rattle.yuv_support.specs.declared.YuvMode.{YuvMode}
use Rattle.yuv_support.specs.declared.YuvMode.TheVariants.{AsSource, Matched}
use Rattle.yuv_support.specs.declared.YuvBias.{YuvBias}
use Rattle.yuv_support.specs.declared.InverseTransformF32.{InverseTransformF32}
use Rattle.yuv_support.specs.declared.CbCrInverseTransform.{CbCrInverseTransform}
use Rattle.yuv_support.specs.declared.Settings.{Settings}
use Rattle.yuv_support.specs.Settings.{among, depths, max_of, range_y, range_c, weight_r, weight_b, weight_g, weights_of}

-- ---- the stored rows

-- the whole number nearest to num / den, halves up
abbrev pub nearest : ℕ → ℕ → ℕ
nearest num den = (2 * num + den) / (2 * den)

-- the exact coefficient times 8192, to nearest: M/RY; 2(1−k)·M/RC; 2(1−k)(k/kg)·M/RC, with k and kg in ten-thousandths
unfoldable pub exact_y : ℕ → YuvRange → ℕ
exact_y d r = nearest (8192 * max_of d) (range_y d r)

unfoldable pub exact_outer : ℕ → YuvRange → ℕ → ℕ
exact_outer d r k = nearest (8192 * (2 * (10000 - k) * max_of d)) (10000 * range_c d r)

unfoldable pub exact_inner : ℕ → YuvRange → ℕ → ℕ → ℕ
exact_inner d r k kg = nearest (8192 * (2 * (10000 - k) * k * max_of d)) (10000 * kg * range_c d r)

-- the rule of a stored row, for the weights kr, kb and kg
abbrev pub rule_of : ℕ → YuvRange → ℕ → ℕ → ℕ → CbCrInverseTransform
rule_of d r kr kb kg = record {
  y = exact_y d r;
  cr = exact_outer d r kr;
  cb = exact_outer d r kb;
  g1 = exact_inner d r kr kg;
  g2 = exact_inner d r kb kg;
}

abbrev pub own_rule : ℕ → YuvRange → YuvStandardMatrix → CbCrInverseTransform
own_rule d r m = rule_of d r (weight_r m) (weight_b m) (weight_g m)

-- the stored row: by the rule, but as in the source `Smpte240` (stored at depth 8 only) has kr and kb exchanged
unfoldable pub stored_of : ℕ → YuvRange → YuvStandardMatrix → YuvMode → CbCrInverseTransform
stored_of d r Bt601 mode = own_rule d r Bt601
stored_of d r Bt709 mode = own_rule d r Bt709
stored_of d r Bt2020 mode = own_rule d r Bt2020
stored_of d r Smpte240 AsSource = rule_of d r (weight_b Smpte240) (weight_r Smpte240) (weight_g Smpte240)
stored_of d r Smpte240 Matched = own_rule d r Smpte240
stored_of d r Bt470_6 mode = own_rule d r Bt470_6
stored_of d r Fcc mode = own_rule d r Fcc
stored_of d r (Custom kr kb) mode = own_rule d r (Custom kr kb)

-- whether there is a stored row: depth 8 has matrices 0 to 4, depths 10 and 12 have 0 to 2
unfoldable pub is_stored : ℕ → YuvStandardMatrix → Bool
is_stored d Bt601 = among d depths
is_stored d Bt709 = among d depths
is_stored d Bt2020 = among d depths
is_stored d Smpte240 = eqb d 8
is_stored d Bt470_6 = eqb d 8
is_stored d Fcc = false
is_stored d (Custom kr kb) = false

-- k is the whole number nearest to num / den: off by at most a half
abbrev pub Nearest : ℕ → ℕ → ℕ → Type 0
Nearest num den k = (2 * (den * k) ≤ 2 * num + den) × (2 * num ≤ 2 * (den * k) + den)

-- each coefficient is the whole number nearest to 8192 times the exact one
pub record NearestExact (d : ℕ) (r : YuvRange) (m : YuvStandardMatrix) (k : CbCrInverseTransform) : Type 0 where
  pub y : Nearest (8192 * max_of d) (range_y d r) k.y
  pub cr : Nearest (8192 * (2 * (10000 - weight_r m) * max_of d)) (10000 * range_c d r) k.cr
  pub cb : Nearest (8192 * (2 * (10000 - weight_b m) * max_of d)) (10000 * range_c d r) k.cb
  pub g1 : Nearest (8192 * (2 * (10000 - weight_r m) * weight_r m * max_of d)) (10000 * weight_g m * range_c d r) k.g1
  pub g2 : Nearest (8192 * (2 * (10000 - weight_b m) * weight_b m * max_of d)) (10000 * weight_g m * range_c d r) k.g2

-- ---- the f32 path: `get_inverse_transform` and `to_integers(13)`, operations in the written order, one rounding each

-- a whole number as an f32
abbrev pub f32 : ℕ → Float
f32 n = of_int binary32 (pos n)

-- a / b of two whole numbers
unfoldable pub ratio : ℕ → ℕ → Float
ratio a b = div binary32 (f32 a) (f32 b)

-- (1 − kr) − kb
unfoldable pub green_weight : YuvBias → Float
green_weight k = sub binary32 (sub binary32 (f32 1) k.kr) k.kb

-- (2·(1 − k))·u, and (2·((1 − k)·k / kg))·u
unfoldable pub outer : Float → Float → Float
outer k u = mul binary32 (mul binary32 (f32 2) (sub binary32 (f32 1) k)) u

unfoldable pub inner : Float → Float → Float → Float
inner k kg u = mul binary32 (mul binary32 (f32 2) (div binary32 (mul binary32 (sub binary32 (f32 1) k) k) kg)) u

-- `get_inverse_transform`, of M, RY, RC and the weights
abbrev pub inverse_transform : ℕ → ℕ → ℕ → YuvBias → InverseTransformF32
inverse_transform m ry rc k = record {
  y = ratio m ry;
  cr = outer k.kr (ratio m rc);
  cb = outer k.kb (ratio m rc);
  g1 = inner k.kr (green_weight k) (ratio m rc);
  g2 = inner k.kb (green_weight k) (ratio m rc);
}

-- `round` and `as i32`: the nearest whole number, halves away from zero, at most 2^31 − 1; NaN is 0.
-- Below zero it is 0: no coefficient that question 13 lets through lies there.
unfoldable pub round_away : Float → ℕ
round_away nan = 0
round_away (inf s) = cond s 0 2147483647
round_away (fin s m e) = cond s 0 (min (nearest (m * up e) (down e)) 2147483647)

-- times 8192, rounded
unfoldable pub integer : Float → ℕ
integer x = round_away (mul binary32 x (f32 8192))

abbrev pub to_integers : InverseTransformF32 → CbCrInverseTransform
to_integers t = record {
  y = integer t.y;
  cr = integer t.cr;
  cb = integer t.cb;
  g1 = integer t.g1;
  g2 = integer t.g2;
}

unfoldable pub computed_of : ℕ → YuvRange → YuvStandardMatrix → CbCrInverseTransform
computed_of d r m = to_integers (inverse_transform (max_of d) (range_y d r) (range_c d r) (weights_of m))

-- ---- the coefficients of a setting: `search_inverse_transform`

unfoldable pub coefficients_of : Settings → CbCrInverseTransform
coefficients_of s =
    cond (is_stored s.depth s.matrix)
    (stored_of s.depth s.range s.matrix s.mode)
    (computed_of s.depth s.range s.matrix)

-- ---- question 13

-- from 0 to 1, ends included, and not NaN (−0.0 is 0)
abbrev pub is_weight : Float → Bool
is_weight k = le (f32 0) k && le k (f32 1)

-- the sum of the two rounded green coefficients is at most 32,767
abbrev pub green_fits : CbCrInverseTransform → Bool
green_fits t = leb (t.g1 + t.g2) 32767

-- Custom's weights with the coefficients t: both are weights, f32 (1 − kr) − kb is above 0, and green fits
unfoldable pub custom_usable : YuvBias → CbCrInverseTransform → Bool
custom_usable k t = is_weight k.kr && (is_weight k.kb && (lt (f32 0) (green_weight k) && green_fits t))

-- any matrix with the coefficients t
unfoldable pub usable_with : YuvStandardMatrix → CbCrInverseTransform → Bool
usable_with Bt601 t = true
usable_with Bt709 t = true
usable_with Bt2020 t = true
usable_with Smpte240 t = true
usable_with Bt470_6 t = true
usable_with Fcc t = true
usable_with (Custom kr kb) t = custom_usable (record { kr = kr; kb = kb }) t

unfoldable pub usable : Settings → Bool
usable s = usable_with s.matrix (coefficients_of s)
