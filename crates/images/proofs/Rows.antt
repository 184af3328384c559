-- Inside the picture the other row is the far row: where a luma row blends one chroma row only, near and far are the same.
-- Both rows are rows of the chroma planes, neighbours or the same.
-- Assumes nothing.
use mathlib.Core.Path.{◌≡◌, refl, sym}
use mathlib.Core.Bool.{Bool, true, false, cond}
use Prim.Native.Nat.{ℕ, ◌/◌, ◌%◌, ◌≤◌, ◌<◌}
use native.Mathlib.Omega.{arith}
use borrow.Author.Tests.{ltb-false, eq-eqb, ne_eqb}
use lib.Dec.{eqb, ltb}
use Rattle.yuv_support.specs.declared.YuvChromaSubsampling.{YuvChromaSubsampling}
use Rattle.yuv_support.specs.declared.YuvChromaSubsampling.TheVariants.{Yuv420, Yuv422}
use Rattle.yuv_support.specs.Blend.{Rows, one, two, rows_of, chroma_height, next_row, near_row, far_row}
use Rattle.yuv_support.proofs.Blend.{near_row_lt, far_row_lt}
use Rattle.images.specs.Rows.{second_of, other_row}

far_is_second : (t : Bool) (near far : ℕ) → (t ≡ false → near ≡ far) → far ≡ second_of (cond t two one) near far
far_is_second true near far e = refl
far_is_second false near far e = sym (e refl)

module _ (height row : ℕ) (inside : row < height) where
  pub other_of_even : row % 2 ≡ 0 → next_row height row ≡ other_row Yuv420 height row
  unfolding other_row rows_of near_row far_row
  other_of_even even =
      simp (eq-eqb (row % 2) 0 even)
      (far_is_second (ltb (row / 2) (height / 2)) (row / 2) (next_row height row)
      (λ f. let l : height / 2 ≤ row / 2 = ltb-false (row / 2) (height / 2) f in omega arith))

  pub other_of_odd : (row % 2 ≡ 0 → ⊥) → row / 2 ≡ other_row Yuv420 height row
  unfolding other_row rows_of near_row far_row
  other_of_odd odd =
      simp (ne_eqb (row % 2) 0 odd)
      (far_is_second (ltb (row / 2) (height / 2)) (next_row height row) (row / 2)
      (λ f. let l : height / 2 ≤ row / 2 = ltb-false (row / 2) (height / 2) f in omega arith))

pub other_of_422 : (height row : ℕ) → row ≡ other_row Yuv422 height row
unfolding other_row rows_of near_row far_row
other_of_422 height row = refl

pub chroma_row_exists : (s : YuvChromaSubsampling) (height : ℕ) → 1 ≤ height → 1 ≤ chroma_height s height
unfolding chroma_height
chroma_row_exists Yuv420 height h = omega arith
chroma_row_exists Yuv422 height h = h

-- the other row lies in the planes, as the near and the far row do
second_below : (n : Rows) (near far rows : ℕ) → near < rows → far < rows → second_of n near far < rows
second_below one near far rows a b = a
second_below two near far rows a b = b

pub other_row_below : (s : YuvChromaSubsampling) (height row : ℕ) → row < height → other_row s height row < chroma_height s height
unfolding other_row
other_row_below s height row inside =
    second_below (rows_of s height row) _ _ (chroma_height s height) (near_row_lt s height row inside) (far_row_lt s height row inside)

-- they are neighbours or the same
near_far_of_420 : (t : Bool) (height row : ℕ) → row < height
    → cond t (row / 2) (next_row height row) % 2 ≡ cond t (next_row height row) (row / 2) % 2 → cond t (row / 2) (next_row height row) ≡ cond t (next_row height row) (row / 2)
near_far_of_420 true height row inside e = omega arith
near_far_of_420 false height row inside e = omega arith

near_far : (s : YuvChromaSubsampling) (height row : ℕ) → row < height
    → near_row s height row % 2 ≡ far_row s height row % 2 → near_row s height row ≡ far_row s height row
unfolding near_row far_row
near_far Yuv420 height row inside e = near_far_of_420 (eqb (row % 2) 0) height row inside e
near_far Yuv422 height row inside e = refl

near_second : (n : Rows) (near far : ℕ) → (near % 2 ≡ far % 2 → near ≡ far) → near % 2 ≡ second_of n near far % 2 → near ≡ second_of n near far
near_second one near far h e = refl
near_second two near far h e = h e

pub near_other : (s : YuvChromaSubsampling) (height row : ℕ) → row < height
    → near_row s height row % 2 ≡ other_row s height row % 2 → near_row s height row ≡ other_row s height row
unfolding other_row
near_other s height row inside e = near_second (rows_of s height row) _ _ (near_far s height row inside) e
