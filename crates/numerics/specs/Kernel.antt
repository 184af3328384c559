-- The values of a pixel's letters, from coefficients with the biases and the rounding folded in, and which of them were clipped.
-- A pixel's letters are first, green and third, and the opaque alpha where there are four.
-- Definitions only.
use Rattle.std.specs.Prelude.{ℕ, ◌+◌, ◌-◌, ◌*◌, ◌/◌, ◌≤◌, min, ◌≡◌, cond, eqb}
use Rattle.numerics.specs.declared.Kernel.{Kernel}
use Rattle.numerics.specs.declared.Letter.{Letter}
use Rattle.numerics.specs.declared.Letters.{Letters}

-- a sum that is kept offset·8,192 above its value, over 8,192 and clamped to 0..max
abbrev pub shifted : ℕ → ℕ → ℕ → ℕ
shifted offset max sum = min (sum / 8192 - offset) max

-- 1 if its value, over 8,192, is below 0; 1 if it is above max
abbrev pub below_of : ℕ → ℕ → ℕ
below_of offset sum = min (offset - sum / 8192) 1

abbrev pub above_of : ℕ → ℕ → ℕ → ℕ
above_of offset max sum = min (sum / 8192 - (offset + max)) 1

abbrev pub letter_of_sum : ℕ → ℕ → ℕ → Letter
letter_of_sum offset max sum = record { value = shifted offset max sum; below = below_of offset sum; above = above_of offset max sum }

-- a letter tells 1 or 0 of each end; and three letters with their counts
pub record OneAtMost (a : Letter) : Type 0 where
  pub below : a.below ≤ 1
  pub above : a.above ≤ 1

abbrev pub letters_of : Letter → Letter → Letter → Letters
letters_of a b c = record {
  first = a.value;
  green = b.value;
  third = c.value;
  below = a.below + b.below + c.below;
  above = a.above + b.above + c.above;
}

-- the sums of the first, the green and the third letter, of luma y and the chroma samples p and q of the first and the third letter
abbrev pub first_sum : Kernel → ℕ → ℕ → ℕ
first_sum k y p = k.y * y + k.first * p + k.base_first

abbrev pub green_sum : Kernel → ℕ → ℕ → ℕ → ℕ
green_sum k y p q = k.y * y + k.base_green - (k.green_first * p + k.green_third * q)

abbrev pub third_sum : Kernel → ℕ → ℕ → ℕ
third_sum k y q = k.y * y + k.third * q + k.base_third

abbrev pub first_letter_of : Kernel → ℕ → ℕ → ℕ
first_letter_of k y p = shifted k.offset k.max (first_sum k y p)

abbrev pub green_of : Kernel → ℕ → ℕ → ℕ → ℕ
green_of k y p q = shifted k.offset k.max (green_sum k y p q)

abbrev pub third_of : Kernel → ℕ → ℕ → ℕ
third_of k y q = shifted k.offset k.max (third_sum k y q)

-- how many of a pixel's letters are below 0 and above the largest
unfoldable pub below_at : Kernel → ℕ → ℕ → ℕ → ℕ
below_at k y p q = below_of k.offset (first_sum k y p) + below_of k.offset (green_sum k y p q) + below_of k.offset (third_sum k y q)

unfoldable pub above_at : Kernel → ℕ → ℕ → ℕ → ℕ
above_at k y p q =
    above_of k.offset k.max (first_sum k y p) + above_of k.offset k.max (green_sum k y p q) + above_of k.offset k.max (third_sum k y q)

abbrev pub letters_at : Kernel → ℕ → ℕ → ℕ → Letters
letters_at k y p q = record { first = first_letter_of k y p; green = green_of k y p q; third = third_of k y q; below = below_at k y p q; above = above_at k y p q }

-- the letter at place j of a pixel
unfoldable pub letter_of : Kernel → ℕ → ℕ → ℕ → ℕ → ℕ
letter_of k y p q j =
    cond (eqb j 0) (first_letter_of k y p) (cond (eqb j 1) (green_of k y p q) (cond (eqb j 2) (third_of k y q) k.max))

-- the bias of chroma, and what a sum has besides its products where the bias is taken off the samples: the same for all three letters
abbrev pub middle : Kernel → ℕ
middle k = k.max / 2 + 1

abbrev pub level : Kernel → ℕ
level k = k.base_first + k.first * middle k

-- no sum of samples up to `most` falls below 0 or rises far above the offset, and the bases are those of one level
pub record Roomy (most : ℕ) (k : Kernel) : Type 0 where
  pub luma : k.y ≤ 16383
  pub first : k.y + k.first ≤ 32767
  pub third : k.y + k.third ≤ 32767
  pub green_first : k.green_first ≤ 32767
  pub green_third : k.green_third ≤ 32767
  pub base_first : k.base_first ≤ k.offset * 8192 + 4096
  pub base_third : k.base_third ≤ k.offset * 8192 + 4096
  pub base_green : k.base_green ≤ k.offset * 8192 + 67110912
  pub green : (k.green_first + k.green_third) * most ≤ k.base_green
  pub level_third : k.base_third + k.third * middle k ≡ level k
  pub level_green : k.base_green ≡ level k + (k.green_first + k.green_third) * middle k

-- a kernel whose quotients fit 16 bits, of samples up to 4,095: 32,767, where they are cut, is one above the largest letter
pub record Quick (k : Kernel) : Type 0 where
  pub offset : k.offset + k.max ≡ 32766
  pub max : k.max ≤ 4095
  pub half : k.half ≡ 8
  pub roomy : Roomy 4095 k

-- the kernel of byte letters, and of u16 letters
pub record Bytes (k : Kernel) : Type 0 where
  pub offset : k.offset ≡ 32511
  pub max : k.max ≡ 255
  pub half : k.half ≡ 8
  pub roomy : Roomy 4095 k

pub record Words (k : Kernel) : Type 0 where
  pub offset : k.offset ≡ 262144
  pub max : k.max ≤ 4095
  pub half : k.half ≡ 8
  pub least_first : 2076180480 ≤ k.base_first
  pub least_third : 2076180480 ≤ k.base_third
  pub least_green : (k.green_first + k.green_third) * 4095 + 1912610816 ≤ k.base_green
  pub roomy : Roomy 65535 k

-- u16 letters from samples below 4,096: the same with an offset so much lower that the kernel is quick
abbrev pub lowering : Kernel → ℕ
lowering k = (k.offset - (32766 - k.max)) * 8192

abbrev pub lowered : Kernel → Kernel
lowered k = record {
  offset = 32766 - k.max;
  max = k.max;
  y = k.y;
  first = k.first;
  green_first = k.green_first;
  green_third = k.green_third;
  third = k.third;
  base_first = k.base_first - lowering k;
  base_green = k.base_green - lowering k;
  base_third = k.base_third - lowering k;
  half = k.half;
}
