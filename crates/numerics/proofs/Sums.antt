-- What a sum gives: the letter and its counts, of any u16 samples, and from a lowered sum.
-- Assumes nothing.
use mathlib.Core.Path.{◌≡◌}
use Prim.Native.Nat.{ℕ, ◌+◌, ◌-◌, ◌*◌, ◌/◌, ◌≤◌, ◌<◌, min}
use native.Mathlib.Omega.{arith}
use Rattle.numerics.specs.declared.Letter.{Letter}
use Rattle.numerics.specs.Kernel.{shifted, below_of, above_of, letter_of_sum, OneAtMost}

-- the quotient n of any u16 samples
pub wide_below : (n : ℕ) → n < 524288 → 1 - n / 262144 ≡ min (262144 - n) 1
wide_below n h = omega arith

pub wide_above : (n max : ℕ) → n < 524288 → max ≤ 4095 → (n + (262143 - max)) / 524288 ≡ min (n - (262144 + max)) 1
wide_above n max h m = omega arith

pub one_below : (offset s : ℕ) → below_of offset s ≤ 1
one_below offset s = omega arith

pub one_above : (offset max s : ℕ) → above_of offset max s ≤ 1
one_above offset max s = omega arith

pub one_at_most : (r : Letter) (offset max s : ℕ) → r ≡ letter_of_sum offset max s → OneAtMost r
one_at_most r offset max s e = rw e (record { below = one_below offset s; above = one_above offset max s })

-- a sum s + base, of an offset that is low and a base that is as much lower
module _ (s base offset low max : ℕ) (hb : (offset - low) * 8192 ≤ base) (ho : low ≤ offset) where
  pub lower_value : shifted low max (s + (base - (offset - low) * 8192)) ≡ shifted offset max (s + base)
  lower_value = omega arith

  pub lower_below : below_of low (s + (base - (offset - low) * 8192)) ≡ below_of offset (s + base)
  lower_below = omega arith

  pub lower_above : above_of low max (s + (base - (offset - low) * 8192)) ≡ above_of offset max (s + base)
  lower_above = omega arith
