-- How far three roundings move a component, with no setting in the laws. A signed number is a difference of natural numbers here: p − n is
-- the exact value times D, s − z the whole-number sum, 8192 to the unit. A coefficient that is nearest to the exact one and a sample
-- rounded from sixteenths each move them apart by a bounded amount; these add up; the last rounding adds a half of D, and clamping both
-- adds nothing.
-- Assumes nothing.
use mathlib.Core.Path.{subst}
use Prim.Native.Nat.{ℕ, zero, suc, ◌+◌, ◌-◌, ◌*◌, ◌/◌, ◌≤◌, ◌<◌, min}
use native.Mathlib.Nat.{min-le_left, min-le_right, min-eq_left, min-eq_right, mul-le-mul_left, mul-le-mul_right, lt_of_mul-lt-mul_left, add-sub_of_le, le_of_lt, lt_of_not-le}
use native.Mathlib.Decide.{dec_le}
use native.Mathlib.Omega.{arith}
use Rattle.yuv_support.specs.declared.CbCrInverseTransform.{CbCrInverseTransform}
use Rattle.yuv_support.specs.Coefficients.{Nearest}
use Rattle.yuv_support.specs.Blend.{rounded}
use Rattle.yuv_support.specs.Component.{Component, red, green, blue}
use Rattle.yuv_support.specs.Distance.{apart}
use Rattle.yuv_support.proofs.Sign.{added, taken}

-- (s − z) / 8192 and (p − n) / D lie at most h / (16384·D) apart
pub record Off (D h p n s z : ℕ) : Type 0 where
  pub up : 2 * D * s + 16384 * n ≤ 2 * D * z + 16384 * p + h
  pub down : 2 * D * z + 16384 * p ≤ 2 * D * s + 16384 * n + h

-- ---- a term of a sum

-- coefficients a and b that lie at most e apart, over a step from x₀ to x of at most l
swing : (a b e x x₀ l : ℕ) → a ≤ b + e → b ≤ a + e → x ≤ x₀ + l → x₀ ≤ x + l → a * x + b * x₀ ≤ b * x + a * x₀ + e * l
swing a b e x x₀ l h h' u v = go (dec_le x₀ x)
  where
    upward : (t : ℕ) → t ≤ l → a * (x₀ + t) + b * x₀ ≤ b * (x₀ + t) + a * x₀ + e * l
    upward t k = omega (arith, mul-le-mul_right t h, mul-le-mul_left e k)

    downward : (t : ℕ) → t ≤ l → a * x + b * (x + t) ≤ b * x + a * (x + t) + e * l
    downward t k = omega (arith, mul-le-mul_right t h', mul-le-mul_left e k)

    go : Dec (x₀ ≤ x) → a * x + b * x₀ ≤ b * x + a * x₀ + e * l
    go (yes p) = subst (λ (w : ℕ). a * w + b * x₀ ≤ b * w + a * x₀ + e * l) (add-sub_of_le p) (upward (x - x₀) (omega arith))
    go (no p) =
        let q : x ≤ x₀ = le_of_lt (lt_of_not-le p) in
        subst (λ (w : ℕ). a * x + b * w ≤ b * x + a * w + e * l) (add-sub_of_le q) (downward (x₀ - x) (omega arith))

-- the coefficient k is nearest to 8192·a / D
pub luma_off : (D k a x x₀ l : ℕ) → Nearest (8192 * a) D k → x ≤ x₀ + l → x₀ ≤ x + l → Off D (D * l) (a * x) (a * x₀) (k * x) (k * x₀)
luma_off D k a x x₀ l e u v =
    let f = swing (2 * (D * k)) (16384 * a) D x x₀ l (omega arith) (omega arith) u v in
    let g = swing (16384 * a) (2 * (D * k)) D x x₀ l (omega arith) (omega arith) u v in
    record { up = omega arith; down = omega arith }

-- the same of a sample rounded from n sixteenths, a being the exact coefficient of one sixteenth
pub chroma_off : (D k a n x₀ l : ℕ) → Nearest (8192 * (16 * a)) D k → rounded n ≤ x₀ + l → x₀ ≤ rounded n + l
    → Off D (D * l + 131072 * a) (a * n) (a * (16 * x₀)) (k * rounded n) (k * x₀)
chroma_off D k a n x₀ l e u v = go (rounded n) (omega arith) (omega arith) (luma_off D k (16 * a) (rounded n) x₀ l e u v)
  where
    go : (b : ℕ) → 16 * b ≤ n + 8 → n ≤ 16 * b + 8 → Off D (D * l) (16 * a * b) (16 * a * x₀) (k * b) (k * x₀)
        → Off D (D * l + 131072 * a) (a * n) (a * (16 * x₀)) (k * b) (k * x₀)
    go b i j o =
        let f = o.up in
        let g = o.down in
        let i' = mul-le-mul_left a i in
        let j' = mul-le-mul_left a j in
        record { up = omega arith; down = omega arith }

-- ---- a sum of terms

joined : {D h p n s z h' p' n' s' z' : ℕ} → Off D h p n s z → Off D h' p' n' s' z' → Off D (h + h') (p + p') (n + n') (s + s') (z + z')
joined a b = let x = a.up in let y = a.down in let u = b.up in let v = b.down in record { up = omega arith; down = omega arith }

turned : {D h p n s z : ℕ} → Off D h p n s z → Off D h n p z s
turned a = record { up = a.down; down = a.up }

-- each coefficient of k is nearest to 8192 times the exact one; `exact` has D times these, of chroma for one sixteenth
pub record NearestOver (D : ℕ) (exact k : CbCrInverseTransform) : Type 0 where
  pub y : Nearest (8192 * exact.y) D k.y
  pub cr : Nearest (8192 * (16 * exact.cr)) D k.cr
  pub cb : Nearest (8192 * (16 * exact.cb)) D k.cb
  pub g1 : Nearest (8192 * (16 * exact.g1)) D k.g1
  pub g2 : Nearest (8192 * (16 * exact.g2)) D k.g2

-- how far apart the two sums can lie, luma being at most l from its bias and chroma at most bc
abbrev pub chroma_spread : ℕ → ℕ → ℕ → ℕ
chroma_spread D bc a = D * bc + 131072 * a

abbrev pub spread_of : ℕ → CbCrInverseTransform → ℕ → ℕ → Component → ℕ
spread_of D exact l bc red = D * l + chroma_spread D bc exact.cr
spread_of D exact l bc green = D * l + chroma_spread D bc exact.g1 + chroma_spread D bc exact.g2
spread_of D exact l bc blue = D * l + chroma_spread D bc exact.cb

-- a component's sum, term by term: green takes its chroma terms away
module _ (D : ℕ) (exact k : CbCrInverseTransform) (near : NearestOver D exact k) (by bc l y cb16 cr16 : ℕ) (yu : y ≤ by + l) (yd : by ≤ y + l) (bu : rounded cb16 ≤ bc + bc) (ru : rounded cr16 ≤ bc + bc) where
  luma : Off D (D * l) (exact.y * y) (exact.y * by) (k.y * y) (k.y * by)
  luma = luma_off D k.y exact.y y by l near.y yu yd

  chroma : (a c n : ℕ) → Nearest (8192 * (16 * a)) D c → rounded n ≤ bc + bc
      → Off D (chroma_spread D bc a) (a * n) (a * (16 * bc)) (c * rounded n) (c * bc)
  chroma a c n e u = chroma_off D c a n bc bc e u (omega arith)

  pub sum_off : (c : Component)
      → Off D (spread_of D exact l bc c)
      (added exact (16 * bc) c y cb16 cr16) (taken exact by (16 * bc) c cb16 cr16)
      (added k bc c y (rounded cb16) (rounded cr16)) (taken k by bc c (rounded cb16) (rounded cr16))
  sum_off red = joined luma (chroma exact.cr k.cr cr16 near.cr ru)
  sum_off green = joined (joined luma (turned (chroma exact.g1 k.g1 cr16 near.g1 ru))) (turned (chroma exact.g2 k.g2 cb16 near.g2 bu))
  sum_off blue = joined luma (chroma exact.cb k.cb cb16 near.cb bu)

-- ---- the last rounding and the clamp to 0..m

module _ (D m h p n s z : ℕ) (off : Off D h p n s z) where
  -- the quotient of the sum is at most a half above it (where it is above 0), and at most a half below it
  over : (q : ℕ) → suc q * 8192 ≤ s + 4096 - z → 16384 * (suc q * D) + 16384 * n ≤ 16384 * p + (h + 8192 * D)
  over q k =
      let f = off.up in
      let g : suc q * 8192 + z ≤ s + 4096 = omega arith in
      omega (arith, mul-le-mul_left D g)

  under : (q : ℕ) → s + 4096 - z < q * 8192 + 8192 → 16384 * p ≤ 16384 * (q * D) + 16384 * n + (h + 8192 * D)
  under q k =
      let f = off.down in
      let g : s ≤ q * 8192 + 4096 + z = omega arith in
      omega (arith, mul-le-mul_left D g)

  high : (q : ℕ) → q * 8192 ≤ s + 4096 - z → 16384 * (min q m * D) ≤ 16384 * min (p - n) (m * D) + (h + 8192 * D)
  high zero k = omega (arith, mul-le-mul_right D (min-le_left 0 m))
  high (suc q) k = omega (arith, over q k, mul-le-mul_right D (min-le_left (suc q) m), mul-le-mul_right D (min-le_right (suc q) m))

  low : (q : ℕ) → s + 4096 - z < q * 8192 + 8192 → 16384 * min (p - n) (m * D) ≤ 16384 * (min q m * D) + (h + 8192 * D)
  low q k = go (dec_le q m)
    where
      go : Dec (q ≤ m) → 16384 * min (p - n) (m * D) ≤ 16384 * (min q m * D) + (h + 8192 * D)
      go (yes i) = rw (min-eq_left i) (omega (arith, under q k))
      go (no i) = rw (min-eq_right (le_of_lt (lt_of_not-le i))) (omega arith)

  clamped_off : 16384 * apart (min ((s + 4096 - z) / 8192) m * D) (min (p - n) (m * D)) ≤ h + 8192 * D
  clamped_off =
      let q = (s + 4096 - z) / 8192 in
      let u = high q (omega arith) in
      let v = low q (omega arith) in
      omega arith

  -- below num / den of D, where h leaves room
  pub apart_lt : (num den : ℕ) → den * (h + 8192 * D) < num * (16384 * D)
      → den * apart (min ((s + 4096 - z) / 8192) m * D) (min (p - n) (m * D)) < num * D
  apart_lt num den room = lt_of_mul-lt-mul_left 16384 (go (apart (min ((s + 4096 - z) / 8192) m * D) (min (p - n) (m * D))) clamped_off)
    where
      go : (w : ℕ) → 16384 * w ≤ h + 8192 * D → 16384 * (den * w) < 16384 * (num * D)
      go w f = omega (arith, mul-le-mul_left den f)
