-- A group of pairs, which works on parts of the rows that it is lent: its letters and counts are those of the whole rows, further on.
-- Assumes nothing.
use mathlib.Core.Path.{◌≡◌, ◌∙◌}
use mathlib.Core.List.{List}
use Prim.Native.Nat.{ℕ, ◌+◌, ◌-◌, ◌*◌, ◌≤◌, ◌<◌}
use native.Mathlib.Omega.{arith}
use borrow.Rule.Slice.PartMut.{put_mid}
use lib.ListN.{length}
use Rattle.std.specs.Prelude.{map}
use Rattle.yuv_support.specs.declared.Clipped.{Clipped}
use Rattle.yuv_support.specs.Picture.{row_of}
use Rattle.sample.proofs.Numbers.{numbers_part, numbers_put}
use Rattle.numerics.specs.Row.{row_value, at, tailed, clipped_over, Reach}
use Rattle.numerics.proofs.Row.{begun_length}
use Rattle.numerics.proofs.Parts.{cut, tailed_part}
use Rattle.blocks.specs.declared.chroma.ChromaRows.{ChromaRows}
use Rattle.blocks.specs.declared.chroma.Source.{Source}
use Rattle.blocks.specs.declared.chroma.Pixels.{Pixels}
use Rattle.blocks.specs.Parts.{part_chroma, after}
use Rattle.blocks.specs.Source.{groups_fit, begun_letters, clipped_after}
use Rattle.interpolate.proofs.Lent.{lent}
use Rattle.interpolate.proofs.Moved.{group_row, group_counted}

module _ {X : Type 0} {number : X → ℕ} {numbers : List X → List ℕ} (are : (xs : List X) → numbers xs ≡ map number xs)
    (pixels : Pixels) (s : Source X) (from e : ℕ) {samples to done : ℕ} {row : List X} (f : groups_fit numbers pixels.letters row s (from + 8 * e) samples)
    (r : Reach (from + 8 * e) samples to) (hd : from ≤ done) (hd' : done < from + 8 * e) where
  abbrev luma : ℕ → ℕ
  luma = at (lent are (2 * from) (2 * (from + 8 * e)) s.y.now)

  abbrev chroma : ChromaRows X → ℕ → ℕ
  chroma rows = part_chroma (lent are from to rows.near.now) (lent are from to rows.far.now) (number rows.tail)

  abbrev of_row : ChromaRows X → ℕ → ℕ
  of_row rows = tailed samples (numbers rows.near.now) (numbers rows.far.now) (number rows.tail)

  abbrev begin : ℕ
  begin = pixels.letters * (2 * from)

  abbrev end : ℕ
  end = pixels.letters * (2 * (from + 8 * e))

  -- the parts, as numbers
  y_is : lent are (2 * from) (2 * (from + 8 * e)) s.y.now ≡ cut (2 * from) (2 * (from + 8 * e)) (numbers s.y.now)
  y_is = numbers_part are (2 * (from + 8 * e) - 2 * from) (2 * from) s.y.now

  pn_is : lent are from to s.first.near.now ≡ cut from to (numbers s.first.near.now)
  pn_is = numbers_part are (to - from) from s.first.near.now

  pf_is : lent are from to s.first.far.now ≡ cut from to (numbers s.first.far.now)
  pf_is = numbers_part are (to - from) from s.first.far.now

  qn_is : lent are from to s.third.near.now ≡ cut from to (numbers s.third.near.now)
  qn_is = numbers_part are (to - from) from s.third.near.now

  qf_is : lent are from to s.third.far.now ≡ cut from to (numbers s.third.far.now)
  qf_is = numbers_part are (to - from) from s.third.far.now

  first_part : (c : ℕ) → c < 2 * (8 * e) → tailed (length (cut from to (numbers s.first.near.now))) (cut from to (numbers s.first.near.now)) (cut from to (numbers s.first.far.now)) (number s.first.tail) c ≡ of_row s.first (2 * from + c)
  first_part = tailed_part (numbers s.first.near.now) (numbers s.first.far.now) (number s.first.tail) from (8 * e) samples to r f.first_near

  third_part : (c : ℕ) → c < 2 * (8 * e) → tailed (length (cut from to (numbers s.third.near.now))) (cut from to (numbers s.third.near.now)) (cut from to (numbers s.third.far.now)) (number s.third.tail) c ≡ of_row s.third (2 * from + c)
  third_part = tailed_part (numbers s.third.near.now) (numbers s.third.far.now) (number s.third.tail) from (8 * e) samples to r f.third_near

  pub grouped_row : {ys : List X} → numbers ys ≡ row_of (λ r. row_value pixels.k pixels.letters luma (chroma s.first) (chroma s.third)) 0 (lent are begin end row)
      → (row₀ : List ℕ) → begun_letters numbers number pixels samples s row₀ row done
      → begun_letters numbers number pixels samples s row₀ (put_mid begin (end - begin) row ys) (from + 8 * e)
  grouped_row {ys} told row₀ b =
      let letters = numbers_part are (end - begin) begin row in
      rw (numbers_put are begin (end - begin) row ys)
      (group_row pixels.k pixels.letters f.letters (numbers s.y.now) (of_row s.first) (of_row s.third) _ _ from e done hd hd' first_part third_part b (omega (arith, begun_length b, f.places)) (rw (y_is, pn_is, pf_is, qn_is, qf_is, letters) at told))

  pub grouped_counts : {told : Clipped}
      → told ≡ clipped_over pixels.k (after (done - from) luma) (after (done - from) (chroma s.first)) (after (done - from) (chroma s.third)) (2 * (8 * e - (done - from)))
      → told ≡ clipped_after numbers number pixels.k samples s done (2 * (from + 8 * e - done))
  grouped_counts told =
      (rw (y_is, pn_is, pf_is, qn_is, qf_is) at told)
      ∙ group_counted pixels.k pixels.letters f.letters (numbers s.y.now) (of_row s.first) (of_row s.third) _ _ from e done hd hd' first_part third_part
