-- The turns of the loops that read and write samples, by the numbers of the samples: what was read, stored, lent and came back (`Numbers` of
-- sample), and then one sample or one row more (`StreamRows`, `StreamPlanes`).
-- Assumes nothing.
use Rattle.std.proofs.Common.{◌≡◌, ℕ, ◌+◌, ◌-◌, ◌*◌, ◌<◌, List, map, length, take, drop, set, get_or, arith, refl, ap, ◌∙◌}
use Rattle.std.proofs.lemmas.List.Edits.{sets}
use Rattle.std.proofs.Math.Nat.{mul_assoc}
use borrow.Rule.Slice.PartMut.{put_mid}
use Rattle.yuv_support.specs.Picture.{row_of}
use Rattle.sample.specs.Bytes.{bytes_of, sample_at}
use Rattle.sample.proofs.Numbers.{numbers_length, numbers_at, numbers_set, numbers_part, numbers_put}
use Rattle.planes.specs.Stream.{row_bytes}
use Rattle.planes.proofs.StreamRows.{RowRead, read_one, RowWritten, write_one}
use Rattle.planes.proofs.StreamPlanes.{PlaneRead, read_next, PlaneWritten, write_next}

module _ {X : Type 0} {number : X → ℕ} {numbers : List X → List ℕ} (are : (xs : List X) → numbers xs ≡ map number xs) where
  pub sample_read : {g : ℕ → ℕ} {row₀ row : List X} {i : ℕ} (x : X) → RowRead g (numbers row₀) (numbers row) i → i < length row → number x ≡ g i
      → RowRead g (numbers row₀) (numbers (set row i x)) (i + 1)
  sample_read {row = row} {i} x w h is = rw (numbers_set are row i is) (read_one w (omega (arith, numbers_length are row)) refl)

  pub sample_written : {n : ℕ} {row : List X} {out₀ out out' : List ℕ} {i : ℕ} (x : X) → RowWritten n (numbers row) out₀ out i → i < length row
      → x ≡ get_or row i x → out' ≡ sets out (n * i) (bytes_of n (number x)) → RowWritten n (numbers row) out₀ out' (i + 1)
  sample_written {n} {row} {i = i} x w h is e =
      write_one w (omega (arith, numbers_length are row)) (rw (numbers_at are row i x h is) at e)

  pub rows_read : {n : ℕ} {s : List ℕ} {at columns rows stride : ℕ} {plane₀ plane : List X} {r : ℕ} (from k : ℕ) {row : List X}
      → PlaneRead n s at columns rows stride (numbers plane₀) (numbers plane) r → r < rows → from ≡ at + n * columns * r → k ≡ n * columns
      → numbers row ≡ row_of (λ q x. sample_at n (take k (drop from s)) (n * x)) 0 (numbers (take (stride * r + columns - stride * r) (drop (stride * r) plane)))
      → PlaneRead n s at columns rows stride (numbers plane₀) (numbers (put_mid (stride * r) (stride * r + columns - stride * r) plane row)) (r + 1)
  rows_read {n} {s} {columns = columns} {stride = stride} {plane = plane} {r} from k {row} w t ef ek is =
      rw (numbers_put are (stride * r) (stride * r + columns - stride * r) plane row)
      (read_next w from k t (omega (arith, mul_assoc n columns r)) ek
      (is ∙ ap (row_of (λ q x. sample_at n (take k (drop from s)) (n * x)) 0) (numbers_part are _ _ plane)))

  pub rows_written : {n stride columns rows : ℕ} {plane : List X} {at : ℕ} {out₀ out : List ℕ} {to r : ℕ} (k : ℕ) {part : List X} {row : List ℕ}
      → PlaneWritten n stride columns rows (numbers plane) at out₀ out to r → r < rows → k ≡ n * columns
      → part ≡ take columns (drop (stride * r) plane) → row ≡ row_bytes n (numbers part)
      → PlaneWritten n stride columns rows (numbers plane) at out₀ (put_mid to (to + k - to) out row) (to + k) (r + 1)
  rows_written {n} {columns = columns} {plane = plane} k w t ek ep er =
      write_next w k t ek (er ∙ ap (row_bytes n) (ap numbers ep ∙ numbers_part are columns _ plane))
