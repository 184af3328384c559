-- Numbers with a sign: those that are not below 0, those that fit and are read back from their bits, products, and the letter of a sum.
-- A number is shown to fit as a difference of natural numbers (`Is`), which `omega` reads.
-- Assumes nothing.
use mathlib.Core.Path.{◌≡◌, refl}
use mathlib.Core.Bool.{Bool, true, false, cond}
use Prim.Native.Nat.{ℕ, ◌+◌, ◌-◌, ◌*◌, ◌/◌, ◌%◌, ◌≤◌, ◌<◌, min}
use native.Mathlib.Nat.{lt_of_le_of_lt, mul-le-mul}
use native.Mathlib.Omega.{arith}
use borrow.Author.Tests.{ltb-true, ltb-false, lt-ltb, le-ltb}
use lib.Dec.{ltb}
use lib.IntN.{ℤ, pos, negsuc, nat_abs, ◌+ℤ◌, ◌-ℤ◌, ◌*ℤ◌}
use lib.Signed.{lt_z}
use mir.Syntax.{w16, w32}
use mir.Val.{SFits, to_z, of_z, bool_byte}
use mir.Facts.{to_z_pos}
use mir.ValLaws.{to_z-of_z}
use Rattle.std.specs.Int.{int_min, int_max}
use Rattle.yuv_support.specs.Component.{step, clamp}
use Rattle.yuv_support.specs.Counts.{is_below, is_above}
use Rattle.yuv_support.proofs.Sign.{Is, nat, plus, less, shift_is, step_is, mag_is, shifted_is, shifted_below, shifted_above}
use Rattle.numerics.specs.Kernel.{letter_of_sum}
use Rattle.numerics.specs.Signed.{min_z, cut, nat_of, signed_letter}

-- ---- not below 0

pub nat_below : (z : ℤ) → lt_z z (pos 0) ≡ true → nat_of z ≡ 0
nat_below (pos n) t = let h : n < 0 = ltb-true n 0 t in omega arith
nat_below (negsuc n) t = refl

pub not_below : (z : ℤ) → lt_z z (pos 0) ≡ false → nat_abs z ≡ nat_of z
not_below (pos n) t = refl
not_below (negsuc n) t = let e : true ≡ false = t in cc

-- ---- that fit

-- a difference of numbers that fit
pub fits_is : {a b : ℕ} {z : ℤ} → a ≤ 2147483647 → b ≤ 2147483647 → Is a b z → SFits w32 z
fits_is ha hb h = record { sfits = lt_of_le_of_lt (mag_is 2147483647 ha hb h) (omega arith) }

min_pos : (a b : ℕ) → min_z (pos a) (pos b) ≡ pos (min a b)
min_pos a b = go (ltb b a) refl
  where
    go : (t : Bool) → ltb b a ≡ t → cond (ltb b a) (pos b) (pos a) ≡ pos (min a b)
    go true e = let h : b < a = ltb-true b a e in let m : min a b ≡ b = omega arith in rw (e, m)
    go false e = let h : a ≤ b = ltb-false b a e in let m : min a b ≡ a = omega arith in rw (e, m)

cut_pos : (n : ℕ) → cut (pos n) ≡ pos (min n 32767)
cut_pos n = min_pos n 32767

cut_neg : (n : ℕ) → cut (negsuc n) ≡ negsuc (min n 32767)
cut_neg n = go (ltb 32767 n) refl
  where
    go : (t : Bool) → ltb 32767 n ≡ t → min_z (cond (ltb 32767 n) (negsuc 32767) (negsuc n)) (pos 32767) ≡ negsuc (min n 32767)
    go true e = let h : 32767 < n = ltb-true 32767 n e in let m : min n 32767 ≡ 32767 = omega arith in rw (e, m)
    go false e = let h : n ≤ 32767 = ltb-false 32767 n e in let m : min n 32767 ≡ n = omega arith in rw (e, m)

pub cut_fits : (z : ℤ) → SFits w16 (cut z)
cut_fits (pos n) = rw (cut_pos n) (record { sfits = omega arith })
cut_fits (negsuc n) = rw (cut_neg n) (record { sfits = omega arith })

pub wider : {z : ℤ} → SFits w16 z → SFits w32 z
wider h = record { sfits = omega (arith, h.sfits) }

-- a number is read back from its bits
pub read32 : {r z : ℤ} → r ≡ z → SFits w32 z → to_z w32 (of_z w32 r) ≡ z
read32 {z = z} e h = rw e (to_z-of_z w32 z h)

-- ---- products

-- a sample less its bias
centred_is : (x b : ℕ) → Is x b (pos x -ℤ pos b)
centred_is x b = shift_is x b (omega arith) (less (nat x) (nat b))

module _ (k x b : ℕ) (hk : k ≤ 32767) (hx : x ≤ 4095) (hb : b ≤ 4095) where
  pub centred_fits : SFits w16 (pos x -ℤ pos b)
  centred_fits = record { sfits = lt_of_le_of_lt (mag_is 4095 hx hb (centred_is x b)) (omega arith) }

  pub step_fits : SFits w32 (step k x b)
  step_fits = fits_is (omega (arith, mul-le-mul hk hx)) (omega (arith, mul-le-mul hk hb)) (step_is k x b)

  -- the product as it is read back from the bits of its factors
  pub centred_read : to_z w16 (of_z w16 (to_z w16 x -ℤ to_z w16 b)) ≡ pos x -ℤ pos b
  centred_read =
      let x' : x < 32768 = omega arith in
      let b' : b < 32768 = omega arith in
      rw (to_z_pos w16 x', to_z_pos w16 b') (to_z-of_z w16 (pos x -ℤ pos b) centred_fits)

  pub step_read : to_z w32 (k % 32768) *ℤ to_z w32 (of_z w32 (to_z w16 (of_z w16 (to_z w16 x -ℤ to_z w16 b)))) ≡ step k x b
  unfolding step
  step_read =
      let m : k % 32768 ≡ k = omega arith in
      let h : k < 2147483648 = omega arith in
      rw (centred_read, to_z-of_z w32 (pos x -ℤ pos b) (wider centred_fits), m, to_z_pos w32 h)

-- what chroma adds
pub chroma_is : (kp kq p q b : ℕ) → Is (kp * p + kq * q) (kp * b + kq * b) (step kp p b +ℤ step kq q b)
chroma_is kp kq p q b = plus (step_is kp p b) (step_is kq q b)

pub chroma_fits : (kp kq p q b : ℕ) → kp ≤ 32767 → kq ≤ 32767 → p ≤ 4095 → q ≤ 4095 → b ≤ 4095 → SFits w32 (step kp p b +ℤ step kq q b)
chroma_fits kp kq p q b hk hl hp hq hb =
    fits_is (omega (arith, mul-le-mul hk hp, mul-le-mul hl hq)) (omega (arith, mul-le-mul hk hb, mul-le-mul hl hb)) (chroma_is kp kq p q b)

-- luma r and a base b, less o
module _ (r b o : ℕ) (hr : r ≤ 1073741823) (hb : b ≤ 1073741823) (ho : o ≤ 1073741823) where
  pub base_fits : SFits w32 (pos b -ℤ pos o)
  base_fits = fits_is (omega arith) (omega arith) (centred_is b o)

  pub luma_is : Is (r + b) o (pos r +ℤ (pos b -ℤ pos o))
  luma_is = shift_is (r + b) o (omega arith) (plus (nat r) (centred_is b o))

  pub base_read : to_z w32 b -ℤ to_z w32 o ≡ pos b -ℤ pos o
  base_read =
      let b' : b < 2147483648 = omega arith in
      let o' : o < 2147483648 = omega arith in
      rw (to_z_pos w32 b', to_z_pos w32 o')

  pub luma_read : to_z w32 r +ℤ to_z w32 (of_z w32 (to_z w32 b -ℤ to_z w32 o)) ≡ pos r +ℤ (pos b -ℤ pos o)
  luma_read =
      let r' : r < 2147483648 = omega arith in
      rw (base_read, to_z-of_z w32 (pos b -ℤ pos o) base_fits, to_z_pos w32 r')

-- ---- the letter

-- std's minimum, its cut, and its maximum with 0
pub min_is : (a b : ℤ) → int_min a b ≡ min_z a b
min_is (pos a) (pos b) = refl
min_is (pos a) (negsuc b) = refl
min_is (negsuc a) (pos b) = refl
min_is (negsuc a) (negsuc b) = refl

pub cut_is : (z : ℤ) → int_max (negsuc 32767) (int_min z (pos 32767)) ≡ cut z
cut_is (pos n) = go (ltb 32767 n) refl
  where
    go : (t : Bool) → ltb 32767 n ≡ t → int_max (negsuc 32767) (cond (ltb 32767 n) (pos 32767) (pos n)) ≡ cond (ltb 32767 n) (pos 32767) (pos n)
    go true e = rw e refl
    go false e = rw e refl
cut_is (negsuc n) = go (ltb 32767 n) refl
  where
    go : (t : Bool) → ltb 32767 n ≡ t → cond (ltb 32767 n) (negsuc 32767) (negsuc n) ≡ min_z (cond (ltb 32767 n) (negsuc 32767) (negsuc n)) (pos 32767)
    go true e = rw e refl
    go false e = rw e refl

pub nat_is : (z : ℤ) → nat_abs (int_max z (pos 0)) ≡ nat_of z
nat_is (pos n) = go (ltb 0 n) refl
  where
    go : (t : Bool) → ltb 0 n ≡ t → nat_abs (cond (ltb 0 n) (pos n) (pos 0)) ≡ n
    go true e = rw e refl
    go false e = let h : n ≤ 0 = ltb-false 0 n e in rw e (omega arith)
nat_is (negsuc n) = refl

-- a comparison as a number
pub flag_is : (t : Bool) → bool_byte t ≡ cond t 1 0
flag_is true = refl
flag_is false = refl

-- as the leaf makes it of a quotient
module _ (max : ℕ) (m : max ≤ 4095) where
  pub least_fits : (z : ℤ) → SFits w16 (min_z (cut z) (pos max))
  least_fits z = go (lt_z (pos max) (cut z))
    where
      go : (t : Bool) → SFits w16 (cond t (pos max) (cut z))
      go true = record { sfits = omega arith }
      go false = cut_fits z

  pub leaf_value : (z : ℤ) → nat_of (min_z (cut z) (pos max)) ≡ clamp max z
  leaf_value (pos n) = rw (cut_pos n, min_pos (min n 32767) max) (omega arith)
  leaf_value (negsuc n) = rw (cut_neg n)

  pub leaf_below : (z : ℤ) → cond (lt_z (min_z (cut z) (pos max)) (pos 0)) 1 0 ≡ is_below z
  leaf_below (pos n) = rw (cut_pos n, min_pos (min n 32767) max, le-ltb (min (min n 32767) max) 0 (omega arith))
  leaf_below (negsuc n) = rw (cut_neg n)

  pub leaf_above : (z : ℤ) → cond (lt_z (pos max) (cut z)) 1 0 ≡ is_above max z
  leaf_above (pos n) = rw (cut_pos n) (go (ltb max n) refl)
    where
      flag : Bool → ℕ
      flag t = cond t 1 0

      go : (t : Bool) → ltb max n ≡ t → flag (ltb max (min n 32767)) ≡ flag (ltb max n)
      go true e = let h : max < n = ltb-true max n e in rw (e, lt-ltb max (min n 32767) (omega arith))
      go false e = let h : n ≤ max = ltb-false max n e in rw (e, le-ltb max (min n 32767) (omega arith))
  leaf_above (negsuc n) = rw (cut_neg n)

-- of a sum a that is kept o·8,192 above its value z
pub signed_letter_lem : (o max : ℕ) {a : ℕ} {z : ℤ} → Is a (o * 8192) z → signed_letter max z ≡ letter_of_sum o max a
signed_letter_lem o max {a} {z} h =
    let v : (a - o * 8192) / 8192 ≡ a / 8192 - o = omega arith in
    rw (shifted_is max 8192 h, v, shifted_below o h, shifted_above o max h)
