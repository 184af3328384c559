-- A group of pairs, which works on parts of the rows: its values are those of the whole rows, further on.
-- Assumes nothing.
use mathlib.Core.Path.{◌≡◌, ap, ◌∙◌}
use mathlib.Core.Logic.{◌⊎◌}
use mathlib.Core.List.{List}
use Prim.Native.Nat.{ℕ, ◌+◌, ◌-◌, ◌*◌, ◌≤◌, ◌<◌}
use native.Mathlib.Nat.{mul-le-mul_left}
use native.Mathlib.Omega.{arith}
use borrow.Rule.Slice.PartMut.{put_mid}
use lib.ListN.{length}
use Rattle.yuv_support.specs.Picture.{row_of}
use Rattle.yuv_support.proofs.Rows.{part_at}
use Rattle.numerics.specs.declared.Kernel.{Kernel}
use Rattle.numerics.specs.Row.{row_value, at, clipped_over, Begun}
use Rattle.numerics.proofs.Row.{value_shifted, begun_part}
use Rattle.numerics.proofs.Parts.{cut}
use Rattle.numerics.proofs.Clips.{clipped_as}
use Rattle.numerics.proofs.Choice.{some_letters}

-- P' and Q' are the chroma of the columns of the group, by which it works, P and Q that of the row
module _ (k : Kernel) (n : ℕ) (l : (n ≡ 3) ⊎ (n ≡ 4)) (y : List ℕ) (P Q P' Q' : ℕ → ℕ) (from e done : ℕ) (hd : from ≤ done) (hd' : done < from + 8 * e)
    (first_moved : (c : ℕ) → c < 2 * (8 * e) → P' c ≡ P (2 * from + c)) (third_moved : (c : ℕ) → c < 2 * (8 * e) → Q' c ≡ Q (2 * from + c)) where
  abbrev end : ℕ
  end = from + 8 * e

  luma_moved : (c : ℕ) → c < 2 * (8 * e) → at (cut (2 * from) (2 * end) y) c ≡ at y (2 * from + c)
  luma_moved c h = part_at (2 * from) (2 * end - 2 * from) y c (omega arith)

  pub group_row : {row₀ row ys : List ℕ} → Begun (row_value k n (at y) P Q) row₀ row (n * (2 * done)) → n * (2 * end) ≤ length row₀
      → ys ≡ row_of (λ r. row_value k n (at (cut (2 * from) (2 * end) y)) P' Q') 0 (cut (n * (2 * from)) (n * (2 * end)) row)
      → Begun (row_value k n (at y) P Q) row₀ (put_mid (n * (2 * from)) (n * (2 * end) - n * (2 * from)) row ys) (n * (2 * end))
  group_row b fits s =
      begun_part (row_value k n (at (cut (2 * from) (2 * end) y)) P' Q')
      (n * (2 * from)) (n * (2 * end)) b (mul-le-mul_left n (omega arith)) (mul-le-mul_left n (omega arith)) fits s
      (λ x h. value_shifted k n (some_letters l) (at y) P Q _ _ _ (2 * from) (2 * (8 * e)) luma_moved first_moved third_moved x (omega arith))

  pub group_counted : clipped_over k (λ c. at (cut (2 * from) (2 * end) y) (2 * (done - from) + c)) (λ c. P' (2 * (done - from) + c)) (λ c. Q' (2 * (done - from) + c)) (2 * (8 * e - (done - from)))
      ≡ clipped_over k (λ c. at y (2 * done + c)) (λ c. P (2 * done + c)) (λ c. Q (2 * done + c)) (2 * (from + 8 * e - done))
  group_counted =
      ap (clipped_over k _ _ _) left
      ∙ clipped_as k (λ c. at y (2 * done + c)) (λ c. P (2 * done + c)) (λ c. Q (2 * done + c)) _ _ _ (2 * (from + 8 * e - done))
      (λ c h. luma_moved (2 * (done - from) + c) (inside c h) ∙ rw (place c))
      (λ c h. first_moved (2 * (done - from) + c) (inside c h) ∙ rw (place c))
      (λ c h. third_moved (2 * (done - from) + c) (inside c h) ∙ rw (place c))
    where
      left : 2 * (8 * e - (done - from)) ≡ 2 * (from + 8 * e - done)
      left = omega arith

      inside : (c : ℕ) → c < 2 * (from + 8 * e - done) → 2 * (done - from) + c < 2 * (8 * e)
      inside c h = omega arith

      place : (c : ℕ) → 2 * from + (2 * (done - from) + c) ≡ 2 * done + c
      place c = omega arith
