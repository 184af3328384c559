-- The signed sums of a pixel's letters are the sums of the kernel less its offset, since its bases are of one level.
-- Assumes nothing.
use mathlib.Core.Path.{◌≡◌, ◌∙◌}
use Prim.Native.Nat.{ℕ, ◌+◌, ◌-◌, ◌*◌, ◌≤◌}
use native.Mathlib.Nat.{mul-le-mul, mul-le-mul_left}
use native.Mathlib.Omega.{arith}
use lib.IntN.{ℤ, pos, ◌+ℤ◌, ◌-ℤ◌}
use mir.Syntax.{w32}
use mir.Val.{SFits, to_z, of_z}
use Rattle.yuv_support.specs.Component.{step}
use Rattle.yuv_support.proofs.Sign.{Is, shift_is, plus, less}
use Rattle.numerics.specs.declared.Kernel.{Kernel}
use Rattle.numerics.specs.declared.Letter.{Letter}
use Rattle.numerics.specs.Kernel.{letter_of_sum, first_sum, green_sum, third_sum, middle, level, Quick}
use Rattle.numerics.specs.Signed.{signed_letter}
use Rattle.numerics.proofs.Signed.{fits_is, read32, chroma_is, chroma_fits, luma_is, signed_letter_lem}

-- luma, with the biases and the rounding
abbrev pub luma_of : Kernel → ℕ → ℤ
luma_of k y = pos (k.y * y) +ℤ (pos (level k) -ℤ pos (k.offset * 8192))

-- what chroma adds to the first, the green and the third letter; green takes it off
module _ (k : Kernel) (p q : ℕ) where
  abbrev pub first_chroma : ℤ
  first_chroma = step k.first p (middle k) +ℤ step (k.half - 8) q (middle k)

  abbrev pub green_chroma : ℤ
  green_chroma = step k.green_first p (middle k) +ℤ step k.green_third q (middle k)

  abbrev pub third_chroma : ℤ
  third_chroma = step (k.half - 8) p (middle k) +ℤ step k.third q (middle k)

module _ (k : Kernel) (y p q : ℕ) (h : Quick k × (y ≤ 4095) × (p ≤ 4095) × (q ≤ 4095)) where
  abbrev w : Quick k
  w = h.0

  zero_is : k.half - 8 ≡ 0
  zero_is = omega (arith, w.half)

  first_most : k.first ≤ 32767
  first_most = omega (arith, w.roomy.first)

  third_most : k.third ≤ 32767
  third_most = omega (arith, w.roomy.third)

  middle_most : middle k ≤ 2048
  middle_most = omega (arith, w.max)

  under : k.offset * 8192 ≤ 1073741823
  under = omega (arith, w.offset)

  -- ---- luma

  luma_product : k.y * y ≤ 16383 * 4095
  luma_product = mul-le-mul w.roomy.luma h.1

  level_most : level k ≤ 1073741823
  level_most = omega (arith, mul-le-mul first_most middle_most, w.roomy.base_first, w.offset)

  luma : Is (k.y * y + level k) (k.offset * 8192) (luma_of k y)
  luma = luma_is (k.y * y) (level k) (k.offset * 8192) (omega (arith, luma_product)) level_most under

  -- luma, and what chroma adds, read back from their bits
  module _ {l : ℤ} (el : l ≡ luma_of k y) where
    luma_read : to_z w32 (of_z w32 l) ≡ luma_of k y
    luma_read = read32 el (fits_is (omega (arith, luma_product, level_most)) (omega (arith, under)) luma)

    chroma_read : {kp kq : ℕ} {c : ℤ} → kp ≤ 32767 → kq ≤ 32767 → c ≡ step kp p (middle k) +ℤ step kq q (middle k) → to_z w32 (of_z w32 c) ≡ step kp p (middle k) +ℤ step kq q (middle k)
    chroma_read {kp} {kq} a b ec = read32 ec (chroma_fits kp kq p q (middle k) a b h.2 h.3 (omega (arith, middle_most)))

    none : k.half - 8 ≤ 32767
    none = omega (arith, w.half)

    pub first_read : {c : ℤ} → c ≡ first_chroma k p q → to_z w32 (of_z w32 l) +ℤ to_z w32 (of_z w32 c) ≡ luma_of k y +ℤ first_chroma k p q
    first_read ec = rw (luma_read, chroma_read first_most none ec)

    pub green_read : {c : ℤ} → c ≡ green_chroma k p q → to_z w32 (of_z w32 l) -ℤ to_z w32 (of_z w32 c) ≡ luma_of k y -ℤ green_chroma k p q
    green_read ec = rw (luma_read, chroma_read w.roomy.green_first w.roomy.green_third ec)

    pub third_read : {c : ℤ} → c ≡ third_chroma k p q → to_z w32 (of_z w32 l) +ℤ to_z w32 (of_z w32 c) ≡ luma_of k y +ℤ third_chroma k p q
    third_read ec = rw (luma_read, chroma_read none third_most ec)

  -- ---- the sums

  first_is : Is (first_sum k y p) (k.offset * 8192) (luma_of k y +ℤ first_chroma k p q)
  first_is = shift_is _ _ (rw zero_is (omega arith)) (plus luma (chroma_is k.first (k.half - 8) p q (middle k)))

  green_is : Is (green_sum k y p q) (k.offset * 8192) (luma_of k y -ℤ green_chroma k p q)
  green_is =
      shift_is _ _
      (omega (arith, w.roomy.level_green, w.roomy.green, mul-le-mul_left k.green_first h.2, mul-le-mul_left k.green_third h.3))
      (less luma (chroma_is k.green_first k.green_third p q (middle k)))

  third_is : Is (third_sum k y q) (k.offset * 8192) (luma_of k y +ℤ third_chroma k p q)
  third_is = shift_is _ _ (rw zero_is (omega (arith, w.roomy.level_third))) (plus luma (chroma_is (k.half - 8) k.third p q (middle k)))

  pub first_fits : SFits w32 (luma_of k y +ℤ first_chroma k p q)
  first_fits = fits_is (omega (arith, luma_product, mul-le-mul first_most h.2, w.roomy.base_first, w.offset)) (omega (arith, under)) first_is

  pub green_fits : SFits w32 (luma_of k y -ℤ green_chroma k p q)
  green_fits = fits_is (omega (arith, luma_product, w.roomy.base_green, w.offset)) (omega (arith, under)) green_is

  pub third_fits : SFits w32 (luma_of k y +ℤ third_chroma k p q)
  third_fits = fits_is (omega (arith, luma_product, mul-le-mul third_most h.3, w.roomy.base_third, w.offset)) (omega (arith, under)) third_is

  -- ---- the letters

  letter : {a : ℕ} {s z : ℤ} {r : Letter} → s ≡ z → SFits w32 z → Is a (k.offset * 8192) z → r ≡ signed_letter k.max (to_z w32 (of_z w32 s)) → r ≡ letter_of_sum k.offset k.max a
  letter e f i er = er ∙ rw (read32 e f) (signed_letter_lem k.offset k.max i)

  module _ {l : ℤ} (el : l ≡ luma_of k y) {c : ℤ} {r : Letter} where
    pub first_letter : c ≡ first_chroma k p q → r ≡ signed_letter k.max (to_z w32 (of_z w32 (to_z w32 (of_z w32 l) +ℤ to_z w32 (of_z w32 c)))) → r ≡ letter_of_sum k.offset k.max (first_sum k y p)
    first_letter ec = letter (first_read el ec) first_fits first_is

    pub green_letter : c ≡ green_chroma k p q → r ≡ signed_letter k.max (to_z w32 (of_z w32 (to_z w32 (of_z w32 l) -ℤ to_z w32 (of_z w32 c)))) → r ≡ letter_of_sum k.offset k.max (green_sum k y p q)
    green_letter ec = letter (green_read el ec) green_fits green_is

    pub third_letter : c ≡ third_chroma k p q → r ≡ signed_letter k.max (to_z w32 (of_z w32 (to_z w32 (of_z w32 l) +ℤ to_z w32 (of_z w32 c)))) → r ≡ letter_of_sum k.offset k.max (third_sum k y q)
    third_letter ec = letter (third_read el ec) third_fits third_is
