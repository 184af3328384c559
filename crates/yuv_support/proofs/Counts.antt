-- Laws of `total`, and what follows from them for the counts of bands.
-- Assumes nothing.
use mathlib.Core.Path.{◌≡◌, refl}
use mathlib.Core.Bool.{Bool, true, false, cond}
use Prim.Native.Nat.{ℕ, zero, suc, ◌+◌, ◌*◌, ◌≤◌, ◌<◌}
use native.Mathlib.Nat.{add-zero, add-suc, mul-le-mul, mul-le-mul_left}
use native.Mathlib.Numerals.{add-one}
use native.Mathlib.Omega.{arith}
use lib.Dec.{ltb}
use lib.IntN.{ℤ, pos, negsuc}
use Rattle.yuv_support.specs.declared.Settings.{Settings}
use Rattle.yuv_support.specs.Settings.{max_of}
use Rattle.yuv_support.specs.Blend.{Frame}
use Rattle.yuv_support.specs.Counts.{is_below, is_above, total, count_at, clipped_row, clipped_in, unclipped, together, BandsAdd}

pub total_none : (f : ℕ → ℕ) → total f 0 ≡ 0
unfolding total
total_none f = refl

pub total_more : (f : ℕ → ℕ) (n : ℕ) → total f (n + 1) ≡ total f n + f n
unfolding total
total_more f n = rw add-one

pub total_as : (f g : ℕ → ℕ) (n : ℕ) → ((j : ℕ) → j < n → f j ≡ g j) → total f n ≡ total g n
unfolding total
total_as f g zero e = refl
total_as f g (suc n) e = rw (total_as f g n (λ j h. e j (omega arith)), e n (omega arith))

pub total_split : (f : ℕ → ℕ) (a b : ℕ) → total f (a + b) ≡ total f a + total (λ j. f (a + j)) b
unfolding total
total_split f a zero = rw (add-zero a, add-zero (total f a))
total_split f a (suc b) = rw (add-suc, total_split f a b) (omega arith)

-- by columns, or by pairs of columns
pub total_pairs : (f : ℕ → ℕ) (m : ℕ) → total f (2 * m) ≡ total (λ j. f (2 * j) + f (2 * j + 1)) m
unfolding total
total_pairs f zero = refl
total_pairs f (suc m) =
    let e : 2 * suc m ≡ 2 * m + 1 + 1 = omega arith in
    rw (e, total_more f (2 * m + 1), total_more f (2 * m), total_pairs f m) (omega arith)

pub total_most : (f : ℕ → ℕ) (c n : ℕ) → ((j : ℕ) → f j ≤ c) → total f n ≤ c * n
unfolding total
total_most f c zero e = omega arith
total_most f c (suc n) e =
    let i = total_most f c n e in
    let t = e n in
    let q : c * suc n ≡ c * n + c = omega arith in
    rw q (omega arith)

-- ---- bands

pub bands_add : BandsAdd
unfolding clipped_in
bands_add s f first a b =
    let x = total_split (λ r. (clipped_row s f (first + r)).below) a b in
    let y = total_split (λ r. (clipped_row s f (first + r)).above) a b in
    let e : (r : ℕ) → first + (a + r) ≡ first + a + r = λ r. omega arith in
    rw (x, y, total_as (λ r. (clipped_row s f (first + (a + r))).below) (λ r. (clipped_row s f (first + a + r)).below) b (λ r h. rw (e r)), total_as (λ r. (clipped_row s f (first + (a + r))).above) (λ r. (clipped_row s f (first + a + r)).above) b (λ r h. rw (e r)))

pub band_none : (s : Settings) (f : Frame) (first : ℕ) → clipped_in s f first 0 ≡ unclipped
unfolding clipped_in total
band_none s f first = refl

-- one row more
pub band_more : (s : Settings) (f : Frame) (first n : ℕ) → together (clipped_in s f first n) (clipped_row s f (first + n)) ≡ clipped_in s f first (n + 1)
unfolding clipped_in
band_more s f first n =
    rw (total_more (λ r. (clipped_row s f (first + r)).below) n, total_more (λ r. (clipped_row s f (first + r)).above) n)

-- ---- how much can be clipped: three components to the pixel

pub three_most : {a b c : ℕ} → a ≤ 1 → b ≤ 1 → c ≤ 1 → a + b + c ≤ 3
three_most ha hb hc = omega arith

one_below : (z : ℤ) → is_below z ≤ 1
one_below (pos n) = omega arith
one_below (negsuc n) = omega arith

one_above : (m : ℕ) (z : ℤ) → is_above m z ≤ 1
one_above m (pos n) = by_test (ltb m n)
  where
    by_test : (t : Bool) → cond t 1 0 ≤ 1
    by_test true = omega arith
    by_test false = omega arith
one_above m (negsuc n) = omega arith

-- at most three to the pixel
module _ (test : ℤ → ℕ) (one : (z : ℤ) → test z ≤ 1) (s : Settings) (f : Frame) where
  pixel_most : (row column : ℕ) → count_at test s f row column ≤ 3
  unfolding count_at
  pixel_most row column = three_most (one _) (one _) (one _)

  count_most : (row : ℕ) → total (count_at test s f row) f.width ≤ 3 * f.width
  count_most row = total_most (count_at test s f row) 3 f.width (pixel_most row)

-- and so in a row and in a band
module _ (s : Settings) (f : Frame) where
  pub row_most : (row : ℕ) → ((clipped_row s f row).below ≤ 3 * f.width) × ((clipped_row s f row).above ≤ 3 * f.width)
  unfolding clipped_row
  row_most row = (count_most is_below one_below s f row, count_most (is_above (max_of s.depth)) (one_above (max_of s.depth)) s f row)

  pub band_most : (first n : ℕ) → ((clipped_in s f first n).below ≤ 3 * f.width * n) × ((clipped_in s f first n).above ≤ 3 * f.width * n)
  unfolding clipped_in
  band_most first n = (
    total_most (λ r. (clipped_row s f (first + r)).below) (3 * f.width) n (λ r. (row_most (first + r)).0),
    total_most (λ r. (clipped_row s f (first + r)).above) (3 * f.width) n (λ r. (row_most (first + r)).1),
  )

-- three to each pixel of a picture with sides of at most so many
pub sides_most : (most w n : ℕ) → w ≤ most → n ≤ most → 3 * w * n ≤ 3 * most * most
sides_most most w n hw hn = mul-le-mul (mul-le-mul_left 3 hw) hn
