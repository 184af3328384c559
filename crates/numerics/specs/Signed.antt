-- Numbers with a sign, as the leaves of samples below 4,096 take them, and the letter that a signed sum gives.
-- Definitions only.
use Rattle.std.specs.Prelude.{ℕ, cond, ℤ, pos, negsuc}
use Rattle.std.specs.Int.Signed.{lt_z, shr_z}
use Rattle.yuv_support.specs.Component.{clamp}
use Rattle.yuv_support.specs.Counts.{is_below, is_above}
use Rattle.numerics.specs.declared.Letter.{Letter}

-- the lesser of two
abbrev pub min_z : ℤ → ℤ → ℤ
min_z a b = cond (lt_z b a) b a

-- cut to the range of an i16
abbrev pub cut : ℤ → ℤ
cut z = min_z (cond (lt_z z (negsuc 32767)) (negsuc 32767) z) (pos 32767)

-- the number, or 0 where it is below 0
abbrev pub nat_of : ℤ → ℕ
nat_of (pos n) = n
nat_of (negsuc n) = 0

-- the letter of a sum, over 8,192 rounding down; the sum has the 4,096 in it
abbrev pub signed_letter : ℕ → ℤ → Letter
signed_letter max z = record { value = clamp max (shr_z z 8192); below = is_below (shr_z z 8192); above = is_above max (shr_z z 8192) }
