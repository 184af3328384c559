-- A row that the row functions leave is the row of the definitions, and so is what they tell of it: its chroma is blended as document 01 has it, column by column
-- (`blend_is`), and its letters are those of the pixel (`Letters`). Over any lists that hold the row's samples.
-- Assumes nothing.
use mathlib.Core.Path.{◌≡◌, refl, sym, ap, ◌∙◌}
use mathlib.Core.Bool.{Bool, true, false, cond}
use mathlib.Core.List.{List}
use Prim.Native.Nat.{ℕ, ◌+◌, ◌-◌, ◌*◌, ◌/◌, ◌%◌, ◌≤◌, ◌<◌}
use native.Mathlib.Nat.{div-lt_iff_lt-mul, mod-lt}
use native.Mathlib.Omega.{arith}
use borrow.Author.Tests.{ltb-true, ltb-false}
use lib.Dec.{T, eqb, ltb}
use lib.ListN.{length}
use Rattle.yuv_support.specs.declared.YuvMode.{YuvMode}
use Rattle.yuv_support.specs.declared.Settings.{Settings}
use Rattle.yuv_support.specs.Settings.{among, depths, max_of}
use Rattle.yuv_support.specs.Coefficients.{usable}
use Rattle.yuv_support.specs.Blend.{Frame, Chroma, chroma_blue, chroma_red, two, left, right, tail, sixteenths, pair_place, place_of, chroma_width, luma_at, chroma_sample, chroma16, tail_of, rounded}
use Rattle.yuv_support.specs.Counts.{is_below, is_above, total, count_at, clipped_row}
use Rattle.yuv_support.specs.Picture.{channels_of, element_of, row_of}
use Rattle.yuv_support.proofs.Blend.{blend_le}
use Rattle.yuv_support.proofs.Counts.{total_as}
use Rattle.yuv_support.proofs.Overlay.{overlay_length, overlay_at, is_overlay}
use Rattle.yuv_support.proofs.Picture.{three_or_four_channels}
use Rattle.numerics.specs.Kernel.{below_at, above_at}
use Rattle.numerics.specs.Row.{row_value, at, pair_chroma, tailed, row_chroma, whole_value, clipped_over, whole_clipped}
use Rattle.kernel.specs.Kernels.{red_first, most_of, first_chroma, third_chroma, kernel_of}
use Rattle.kernel.proofs.Letters.{letter_is, below_is, above_is}

-- N and F are the samples of the near and the far row at a column
module _ (mode : YuvMode) (ch : Chroma) (width : ℕ) (near far : List ℕ) (N F : ℕ → ℕ) (last : ℕ)
    (hn : (i : ℕ) → i < chroma_width width → at near i ≡ N i) (hf : (i : ℕ) → i < chroma_width width → at far i ≡ F i)
    (ht : last ≡ rounded (tail_of mode ch (N (chroma_width width - 1)) (F (chroma_width width - 1)))) where
  pair_is : (column : ℕ) → column / 2 + 1 < chroma_width width
      → pair_chroma near far column
      ≡ rounded (sixteenths mode ch two (pair_place column) (N (column / 2)) (N (column / 2 + 1)) (F (column / 2)) (F (column / 2 + 1)))
  unfolding sixteenths
  pair_is column h =
      rw (hn (column / 2) (omega arith), hn (column / 2 + 1) h, hf (column / 2) (omega arith), hf (column / 2 + 1) h) (by_side (eqb (column % 2) 0))
    where
      by_side : (b : Bool)
          → cond b (rounded (9 * N (column / 2) + 3 * N (column / 2 + 1) + 3 * F (column / 2) + F (column / 2 + 1)))
          (rounded (3 * N (column / 2) + 9 * N (column / 2 + 1) + F (column / 2) + 3 * F (column / 2 + 1)))
          ≡ rounded (sixteenths mode ch two (cond b left right) (N (column / 2)) (N (column / 2 + 1)) (F (column / 2)) (F (column / 2 + 1)))
      by_side true = refl
      by_side false = refl

  pub blend_is : (column : ℕ) → column < width
      → row_chroma width near far last column
      ≡ rounded (sixteenths mode ch two (place_of width column) (N (column / 2)) (N (column / 2 + 1)) (F (column / 2)) (F (column / 2 + 1)))
  unfolding tailed place_of sixteenths
  blend_is column h = by_place (ltb (column / 2 + 1) (chroma_width width)) refl
    where
      by_place : (b : Bool) → ltb (column / 2 + 1) (chroma_width width) ≡ b
          → cond b (pair_chroma near far column) last
          ≡ rounded (sixteenths mode ch two (cond b (pair_place column) tail) (N (column / 2)) (N (column / 2 + 1)) (F (column / 2)) (F (column / 2 + 1)))
      by_place true e = pair_is column (ltb-true _ _ e)
      by_place false e =
          let b : chroma_width width ≤ column / 2 + 1 = ltb-false _ _ e in
          let l : chroma_width width - 1 ≡ column / 2 = omega arith in
          ht ∙ rw l

-- ---- the whole row

module _ (s : Settings) (f : Frame) (known : T (among s.depth depths)) (u : T (usable s))
    (small : (ch : Chroma) (r i : ℕ) → chroma_sample s f ch r i ≤ most_of s.depth) (row near far : ℕ)
    (blended : (ch : Chroma) (column : ℕ) → chroma16 s f ch row column
    ≡ sixteenths s.mode ch two (place_of f.width column) (chroma_sample s f ch near (column / 2)) (chroma_sample s f ch near (column / 2 + 1))
    (chroma_sample s f ch far (column / 2)) (chroma_sample s f ch far (column / 2 + 1)))
    (y : List ℕ) (nears fars : Chroma → List ℕ) (lasts : Chroma → ℕ)
    (hy : (i : ℕ) → i < f.width → at y i ≡ luma_at s f row i)
    (hn : (ch : Chroma) (i : ℕ) → i < chroma_width f.width → at (nears ch) i ≡ chroma_sample s f ch near i)
    (hf : (ch : Chroma) (i : ℕ) → i < chroma_width f.width → at (fars ch) i ≡ chroma_sample s f ch far i)
    (ht : (ch : Chroma) → lasts ch ≡ rounded (tail_of s.mode ch (chroma_sample s f ch near (chroma_width f.width - 1)) (chroma_sample s f ch far (chroma_width f.width - 1)))) where
  chroma_le : (ch : Chroma) (column : ℕ) → rounded (chroma16 s f ch row column) ≤ most_of s.depth
  chroma_le ch column =
      rw (blended ch column)
      (blend_le s.mode ch two (place_of f.width column) _ _ _ _ (most_of s.depth) (small ch near (column / 2)) (small ch near (column / 2 + 1)) (small ch far (column / 2)) (small ch far (column / 2 + 1)))

  chroma_is : (ch : Chroma) (column : ℕ) → column < f.width → row_chroma f.width (nears ch) (fars ch) (lasts ch) column ≡ rounded (chroma16 s f ch row column)
  chroma_is ch column h =
      blend_is s.mode ch f.width (nears ch) (fars ch) (chroma_sample s f ch near) (chroma_sample s f ch far) (lasts ch) (hn ch) (hf ch) (ht ch) column h
      ∙ ap rounded (sym (blended ch column))

  abbrev p : Chroma
  p = first_chroma (red_first s.order)

  abbrev q : Chroma
  q = third_chroma (red_first s.order)

  abbrev n : ℕ
  n = channels_of s.order

  pub value_is : (x : ℕ) → x < f.width * n
      → whole_value (kernel_of s) n f.width y (nears p) (fars p) (nears q) (fars q) (lasts p) (lasts q) x ≡ element_of s f row x
  unfolding row_value element_of
  value_is x h =
      let some : 0 < n = omega (arith, three_or_four_channels s.order) in
      let c : x / n < f.width = (div-lt_iff_lt-mul some).1 h in
      rw (hy (x / n) c, chroma_is p (x / n) c, chroma_is q (x / n) c)
      (letter_is s f known u row (x / n) (chroma_le chroma_blue (x / n)) (chroma_le chroma_red (x / n)) (x % n) (mod-lt x some))

  pub row_is : (xs : List ℕ) → length xs ≡ f.width * n
      → row_of (λ r. whole_value (kernel_of s) n f.width y (nears p) (fars p) (nears q) (fars q) (lasts p) (lasts q)) 0 xs ≡ row_of (element_of s f) row xs
  row_is xs l =
      is_overlay (λ x old. element_of s f row x) xs _ (overlay_length _ 0 xs)
      (λ x b. overlay_at _ xs x b ∙ value_is x (rw l at b))

  -- what is clipped in the row
  pub clipped_is : whole_clipped (kernel_of s) f.width y (nears p) (fars p) (nears q) (fars q) (lasts p) (lasts q) ≡ clipped_row s f row
  unfolding clipped_over clipped_row
  clipped_is = rw (below, above)
    where
      below : total (λ c. below_at (kernel_of s) (at y c) (row_chroma f.width (nears p) (fars p) (lasts p) c) (row_chroma f.width (nears q) (fars q) (lasts q) c)) f.width
          ≡ total (count_at is_below s f row) f.width
      below =
          total_as _ (count_at is_below s f row) f.width
          (λ c h. rw (hy c h, chroma_is p c h, chroma_is q c h) (below_is s f known u row c (chroma_le chroma_blue c) (chroma_le chroma_red c)))

      above : total (λ c. above_at (kernel_of s) (at y c) (row_chroma f.width (nears p) (fars p) (lasts p) c) (row_chroma f.width (nears q) (fars q) (lasts q) c)) f.width
          ≡ total (count_at (is_above (max_of s.depth)) s f row) f.width
      above =
          total_as _ (count_at (is_above (max_of s.depth)) s f row) f.width
          (λ c h. rw (hy c h, chroma_is p c h, chroma_is q c h) (above_is s f known u row c (chroma_le chroma_blue c) (chroma_le chroma_red c)))
