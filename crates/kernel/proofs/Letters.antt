-- The letters that a kernel makes are the components and the opaque alpha of the definitions: the offset goes out again in the division,
-- and the truncated difference of natural numbers is the lower clamp.
-- Assumes nothing.
use mathlib.Core.Path.{◌≡◌, refl, sym, ap, ◌∙◌}
use mathlib.Core.Bool.{Bool, true, false}
use Prim.Native.Nat.{ℕ, zero, suc, ◌+◌, ◌-◌, ◌*◌, ◌/◌, ◌≤◌, ◌<◌, min}
use native.Mathlib.Nat.{mul-le-mul_left}
use native.Mathlib.Omega.{arith}
use lib.Dec.{T}
use lib.IntN.{ℤ}
use lib.ListN.{get_or}
use Rattle.yuv_support.specs.declared.YuvRange.{YuvRange}
use Rattle.yuv_support.specs.declared.YuvSourceChannels.{YuvSourceChannels}
use Rattle.yuv_support.specs.declared.YuvSourceChannels.TheVariants.{Rgb, Rgba, Bgra, Bgr}
use Rattle.yuv_support.specs.declared.CbCrInverseTransform.{CbCrInverseTransform}
use Rattle.yuv_support.specs.declared.Settings.{Settings}
use Rattle.yuv_support.specs.Settings.{among, depths, max_of, bias_y, bias_c}
use Rattle.yuv_support.specs.Coefficients.{coefficients_of, usable}
use Rattle.yuv_support.specs.Blend.{Frame, Chroma, chroma_blue, chroma_red, luma_at, chroma16, rounded}
use Rattle.yuv_support.specs.Component.{Component, red, green, blue, sum_of, quotient, clamp, quotient_of, quotient_at, component_at}
use Rattle.yuv_support.specs.Counts.{is_below, is_above, count_at}
use Rattle.yuv_support.specs.Picture.{alpha, letters_of, channels_of, value_of}
use Rattle.yuv_support.proofs.Sign.{Is, added, taken, sum_is, red_sum, green_sum_lem, blue_sum, quotient_below, quotient_above}
use Rattle.inverse_transform.specs.Narrow.{Narrow}
use Rattle.inverse_transform.proofs.Narrow.{narrow}
use Rattle.numerics.specs.declared.Kernel.{Kernel}
use Rattle.numerics.specs.Kernel.{below_of, above_of, first_sum, green_sum, third_sum, first_letter_of, green_of, third_of, letter_of, below_at, above_at}
use Rattle.kernel.specs.Kernels.{red_first, offset_of, most_of, first_chroma, third_chroma, arranged, kernel_of}
use Rattle.kernel.proofs.Room.{Room, room}

-- s is what is added and n what is taken away
offset_out : (o s n m : ℕ) → n ≤ o * 8192 + 4096 → min ((s + (o * 8192 + 4096 - n)) / 8192 - o) m ≡ min ((s + 4096 - n) / 8192) m
offset_out o s n m h = ap (λ (q : ℕ). min q m) (let e : (s + (o * 8192 + 4096 - n)) / 8192 - o ≡ (s + 4096 - n) / 8192 = omega arith in e)

-- a product of the biases stands on both sides of the green letter
green_out : (o y g b t m : ℕ) → b ≤ o * 8192 + 4096 + g → t ≤ o * 8192 + 4096 + g - b
    → min ((y + (o * 8192 + 4096 + g - b) - t) / 8192 - o) m ≡ min ((y + g + 4096 - (b + t)) / 8192) m
green_out o y g b t m h k =
    ap (λ (q : ℕ). min q m) (let e : (y + (o * 8192 + 4096 + g - b) - t) / 8192 - o ≡ (y + g + 4096 - (b + t)) / 8192 = omega arith in e)

-- the same without the division
outer_kept : (o s n : ℕ) → n ≤ o * 8192 + 4096 → s + (o * 8192 + 4096 - n) + n ≡ s + o * 8192 + 4096
outer_kept o s n h = omega arith

inner_kept : (o y g g₁ g₂ b t₁ t₂ : ℕ) → g ≡ g₁ + g₂ → b ≤ o * 8192 + 4096 + g → t₁ + t₂ ≤ o * 8192 + 4096 + g - b
    → y + (o * 8192 + 4096 + g - b) - (t₁ + t₂) + (b + t₁ + t₂) ≡ y + g₁ + g₂ + o * 8192 + 4096
inner_kept o y g g₁ g₂ b t₁ t₂ e h k = omega arith

other_way : (a b c : ℕ) → a + b + c ≡ c + b + a
other_way a b c = omega arith

module _ (d : ℕ) (r : YuvRange) (t : CbCrInverseTransform) (known : T (among d depths)) (n : Narrow t) (y cb cr : ℕ) (hb : cb ≤ most_of d) (hr : cr ≤ most_of d) where
  -- the component of coefficients t
  made : Component → ℕ
  made c = clamp (max_of d) (quotient (sum_of t (bias_y d r) (bias_c d) c y cb cr))

  red_room : Room (bias_y d r) (bias_c d) (offset_of d) (most_of d) t.y t.cr t.g1 t.g2 t.cb
  red_room = room t.y t.cr t.g1 t.g2 t.cb n d r known

  red_is : first_letter_of (arranged d r true t) y cr ≡ made red
  unfolding made
  red_is =
      offset_out (offset_of d) (t.y * y + t.cr * cr) (t.y * bias_y d r + t.cr * bias_c d) (max_of d) red_room.first
      ∙ sym (red_sum t (bias_y d r) (bias_c d) y cb cr (max_of d))

  blue_is : third_of (arranged d r true t) y cb ≡ made blue
  unfolding made
  blue_is =
      offset_out (offset_of d) (t.y * y + t.cb * cb) (t.y * bias_y d r + t.cb * bias_c d) (max_of d) red_room.third
      ∙ sym (blue_sum t (bias_y d r) (bias_c d) y cb cr (max_of d))

  taken_le : t.g1 * cr + t.g2 * cb ≤ (t.g1 + t.g2) * most_of d
  taken_le = omega (arith, mul-le-mul_left t.g1 hr, mul-le-mul_left t.g2 hb)

  green_is : green_of (arranged d r true t) y cr cb ≡ made green
  unfolding made
  green_is =
      let m = red_room in
      let f = m.first in
      let g = m.green in
      let k = taken_le in
      green_out (offset_of d) (t.y * y) ((t.g1 + t.g2) * bias_c d) (t.y * bias_y d r) (t.g1 * cr + t.g2 * cb) (max_of d) (omega arith) (omega arith)
      ∙ ap (λ (z : ℕ). min (z / 8192) (max_of d))
      (let e : t.y * y + (t.g1 + t.g2) * bias_c d + 4096 - (t.y * bias_y d r + (t.g1 * cr + t.g2 * cb))
      ≡ t.y * y + t.g1 * bias_c d + t.g2 * bias_c d + 4096 - (t.y * bias_y d r + t.g1 * cr + t.g2 * cb) = omega arith in e)
      ∙ sym (green_sum_lem t (bias_y d r) (bias_c d) y cb cr (max_of d))

  -- blue first: the same letters the other way round
  green_turned : green_of (arranged d r false t) y cb cr ≡ green_of (arranged d r true t) y cr cb
  green_turned =
      let a : (t.g2 + t.g1) * bias_c d ≡ (t.g1 + t.g2) * bias_c d = omega arith in
      let b : t.g2 * cb + t.g1 * cr ≡ t.g1 * cr + t.g2 * cb = omega arith in
      rw (a, b)

  -- ---- what the kernel's sums tell of the quotients, `told` being asked of a sum and `test` of a quotient

  abbrev quotient_for : Component → ℤ
  quotient_for c = quotient (sum_of t (bias_y d r) (bias_c d) c y cb cr)

  -- a sum is the offset, and 4,096, above what it stands for
  red_kept : first_sum (arranged d r true t) y cr + taken t (bias_y d r) (bias_c d) red cb cr ≡ added t (bias_c d) red y cb cr + offset_of d * 8192 + 4096
  red_kept = outer_kept (offset_of d) (t.y * y + t.cr * cr) (t.y * bias_y d r + t.cr * bias_c d) red_room.first

  blue_kept : third_sum (arranged d r true t) y cb + taken t (bias_y d r) (bias_c d) blue cb cr ≡ added t (bias_c d) blue y cb cr + offset_of d * 8192 + 4096
  blue_kept = outer_kept (offset_of d) (t.y * y + t.cb * cb) (t.y * bias_y d r + t.cb * bias_c d) red_room.third

  green_kept : green_sum (arranged d r true t) y cr cb + taken t (bias_y d r) (bias_c d) green cb cr ≡ added t (bias_c d) green y cb cr + offset_of d * 8192 + 4096
  green_kept =
      let m = red_room in
      let f = m.first in
      let g = m.green in
      let k = taken_le in
      inner_kept (offset_of d) (t.y * y) ((t.g1 + t.g2) * bias_c d) (t.g1 * bias_c d) (t.g2 * bias_c d) (t.y * bias_y d r) (t.g1 * cr) (t.g2 * cb)
      (omega arith) (omega arith) (omega arith)

  module _ (told : ℕ → ℕ) (test : ℤ → ℕ)
      (is : (sum a b : ℕ) (z : ℤ) → sum + b ≡ a + offset_of d * 8192 + 4096 → Is a b z → told sum ≡ test (quotient z)) where
    -- of the three letters, blue or red first
    abbrev tolds : Bool → ℕ → ℕ → ℕ
    tolds first p q = told (first_sum (arranged d r first t) y p) + told (green_sum (arranged d r first t) y p q) + told (third_sum (arranged d r first t) y q)

    pub told_red_first : tolds true cr cb ≡ test (quotient_for red) + test (quotient_for green) + test (quotient_for blue)
    told_red_first =
        rw (is _ _ _ _ red_kept (sum_is t (bias_y d r) (bias_c d) red y cb cr), is _ _ _ _ green_kept (sum_is t (bias_y d r) (bias_c d) green y cb cr), is _ _ _ _ blue_kept (sum_is t (bias_y d r) (bias_c d) blue y cb cr))

    pub told_blue_first : tolds false cb cr ≡ test (quotient_for red) + test (quotient_for green) + test (quotient_for blue)
    told_blue_first =
        let a : (t.g2 + t.g1) * bias_c d ≡ (t.g1 + t.g2) * bias_c d = omega arith in
        let b : t.g2 * cb + t.g1 * cr ≡ t.g1 * cr + t.g2 * cb = omega arith in
        rw (a, b) (other_way (told (third_sum (arranged d r true t) y cb)) (told (green_sum (arranged d r true t) y cr cb)) (told (first_sum (arranged d r true t) y cr)))
        ∙ told_red_first

-- ---- the letters of a pixel

module _ (s : Settings) (f : Frame) (known : T (among s.depth depths)) (u : T (usable s)) (row column : ℕ)
    (hb : rounded (chroma16 s f chroma_blue row column) ≤ most_of s.depth) (hr : rounded (chroma16 s f chroma_red row column) ≤ most_of s.depth) where
  abbrev t : CbCrInverseTransform
  t = coefficients_of s

  abbrev kernel_for : Bool → Kernel
  kernel_for first = arranged s.depth s.range first t

  letter_for : Bool → ℕ → ℕ
  letter_for first j =
      letter_of (kernel_for first) (luma_at s f row column)
      (rounded (chroma16 s f (first_chroma first) row column)) (rounded (chroma16 s f (third_chroma first) row column)) j

  red_letter : letter_for true 0 ≡ component_at s f red row column
  unfolding letter_for letter_of made component_at quotient_at quotient_of
  red_letter = red_is s.depth s.range t known (narrow s known u) (luma_at s f row column) _ _ hb hr

  green_letter : letter_for true 1 ≡ component_at s f green row column
  unfolding letter_for letter_of made component_at quotient_at quotient_of
  green_letter = green_is s.depth s.range t known (narrow s known u) (luma_at s f row column) _ _ hb hr

  blue_letter : letter_for true 2 ≡ component_at s f blue row column
  unfolding letter_for letter_of made component_at quotient_at quotient_of
  blue_letter = blue_is s.depth s.range t known (narrow s known u) (luma_at s f row column) _ _ hb hr

  blue_first : letter_for false 0 ≡ letter_for true 2
  unfolding letter_for letter_of
  blue_first = refl

  red_last : letter_for false 2 ≡ letter_for true 0
  unfolding letter_for letter_of
  red_last = refl

  green_between : letter_for false 1 ≡ letter_for true 1
  unfolding letter_for letter_of
  green_between = green_turned s.depth s.range t known (narrow s known u) (luma_at s f row column) _ _ hb hr

  alpha_is : (first : Bool) → letter_for first 3 ≡ value_of s f row column alpha
  unfolding letter_for letter_of value_of
  alpha_is true = refl
  alpha_is false = refl

  of_order : (o : YuvSourceChannels) (j : ℕ) → j < channels_of o → letter_for (red_first o) j ≡ value_of s f row column (get_or (letters_of o) j alpha)
  unfolding red_first channels_of letters_of value_of
  of_order Rgb zero h = red_letter
  of_order Rgb (suc zero) h = green_letter
  of_order Rgb (suc (suc zero)) h = blue_letter
  of_order Rgb (suc (suc (suc j))) h = absurd (omega arith)
  of_order Rgba zero h = red_letter
  of_order Rgba (suc zero) h = green_letter
  of_order Rgba (suc (suc zero)) h = blue_letter
  of_order Rgba (suc (suc (suc zero))) h = alpha_is true
  of_order Rgba (suc (suc (suc (suc j)))) h = absurd (omega arith)
  of_order Bgra zero h = blue_first ∙ blue_letter
  of_order Bgra (suc zero) h = green_between ∙ green_letter
  of_order Bgra (suc (suc zero)) h = red_last ∙ red_letter
  of_order Bgra (suc (suc (suc zero))) h = alpha_is false
  of_order Bgra (suc (suc (suc (suc j)))) h = absurd (omega arith)
  of_order Bgr zero h = blue_first ∙ blue_letter
  of_order Bgr (suc zero) h = green_between ∙ green_letter
  of_order Bgr (suc (suc zero)) h = red_last ∙ red_letter
  of_order Bgr (suc (suc (suc j))) h = absurd (omega arith)

  pub letter_is : (j : ℕ) → j < channels_of s.order
      → letter_of (kernel_of s) (luma_at s f row column) (rounded (chroma16 s f (first_chroma (red_first s.order)) row column))
      (rounded (chroma16 s f (third_chroma (red_first s.order)) row column)) j
      ≡ value_of s f row column (get_or (letters_of s.order) j alpha)
  unfolding letter_for kernel_of
  letter_is j h = of_order s.order j h

  -- ---- what was clipped of a pixel

  module _ (told : ℕ → ℕ) (test : ℤ → ℕ)
      (is : (sum a b : ℕ) (z : ℤ) → sum + b ≡ a + offset_of s.depth * 8192 + 4096 → Is a b z → told sum ≡ test (quotient z)) where
    abbrev chroma_of : (Bool → Chroma) → Bool → ℕ
    chroma_of which first = rounded (chroma16 s f (which first) row column)

    told_is : (first : Bool)
        → told (first_sum (kernel_for first) (luma_at s f row column) (chroma_of first_chroma first))
        + told (green_sum (kernel_for first) (luma_at s f row column) (chroma_of first_chroma first) (chroma_of third_chroma first))
        + told (third_sum (kernel_for first) (luma_at s f row column) (chroma_of third_chroma first)) ≡ count_at test s f row column
    unfolding count_at quotient_at quotient_of
    told_is true = told_red_first s.depth s.range t known (narrow s known u) (luma_at s f row column) _ _ hb hr told test is
    told_is false = told_blue_first s.depth s.range t known (narrow s known u) (luma_at s f row column) _ _ hb hr told test is

  abbrev p : ℕ
  p = rounded (chroma16 s f (first_chroma (red_first s.order)) row column)

  abbrev q : ℕ
  q = rounded (chroma16 s f (third_chroma (red_first s.order)) row column)

  pub below_is : below_at (kernel_of s) (luma_at s f row column) p q ≡ count_at is_below s f row column
  unfolding kernel_of below_at
  below_is = by_first (red_first s.order)
    where
      by_first : (first : Bool)
          → below_at (kernel_for first) (luma_at s f row column) (rounded (chroma16 s f (first_chroma first) row column)) (rounded (chroma16 s f (third_chroma first) row column))
          ≡ count_at is_below s f row column
      by_first true = told_is (below_of (offset_of s.depth)) is_below (λ sum a b z e h. sym (quotient_below (offset_of s.depth) sum e h)) true
      by_first false = told_is (below_of (offset_of s.depth)) is_below (λ sum a b z e h. sym (quotient_below (offset_of s.depth) sum e h)) false

  pub above_is : above_at (kernel_of s) (luma_at s f row column) p q ≡ count_at (is_above (max_of s.depth)) s f row column
  unfolding kernel_of above_at
  above_is = by_first (red_first s.order)
    where
      by_first : (first : Bool)
          → above_at (kernel_for first) (luma_at s f row column) (rounded (chroma16 s f (first_chroma first) row column)) (rounded (chroma16 s f (third_chroma first) row column))
          ≡ count_at (is_above (max_of s.depth)) s f row column
      by_first true = told_is (above_of (offset_of s.depth) (max_of s.depth)) (is_above (max_of s.depth)) (λ sum a b z e h. sym (quotient_above (offset_of s.depth) sum e h (max_of s.depth))) true
      by_first false = told_is (above_of (offset_of s.depth) (max_of s.depth)) (is_above (max_of s.depth)) (λ sum a b z e h. sym (quotient_above (offset_of s.depth) sum e h (max_of s.depth))) false
