-- A row whose first pairs went through the groups: the columns that are left after them, at most two, make it whole.
-- Assumes nothing.
use mathlib.Core.Path.{◌≡◌, ◌∙◌}
use mathlib.Core.List.{List, [], ◌∷◌}
use Prim.Native.Nat.{ℕ, ◌+◌, ◌-◌, ◌*◌, ◌≤◌}
use native.Mathlib.Omega.{arith}
use borrow.Rule.Slice.PartMut.{put_mid}
use lib.ListN.{length, take, drop}
use Rattle.std.specs.Prelude.{map}
use Rattle.std.specs.Int.{div_ceil}
use Rattle.yuv_support.specs.declared.Clipped.{Clipped}
use Rattle.yuv_support.specs.Blend.{chroma_width}
use Rattle.yuv_support.specs.Counts.{together}
use Rattle.sample.proofs.Numbers.{numbers_part, numbers_put}
use Rattle.numerics.proofs.Parts.{cut}
use Rattle.numerics.proofs.Tails.{last_length, whole_row, whole_counts}
use Rattle.numerics.proofs.Clips.{most_of}
use Rattle.blocks.specs.declared.chroma.Source.{Source}
use Rattle.blocks.specs.declared.chroma.Pixels.{Pixels}
use Rattle.blocks.specs.Source.{row_fits, pixel_letters, pixels_clipped, begun_letters, row_letters, clipped_of, row_clipped}

-- `all` is how many pairs went through the groups
module _ {X : Type 0} {number : X → ℕ} {numbers : List X → List ℕ} (are : (xs : List X) → numbers xs ≡ map number xs)
    (pixels : Pixels) (s : Source X) {width samples all : ℕ} {row₀ : List X} (f : row_fits numbers pixels.letters row₀ s width)
    (is : samples ≡ div_ceil width 2) (lo : chroma_width width - 1 ≤ all) (hi : 2 * all ≤ width) where
  abbrev two : X → List X
  two v = v ∷ v ∷ []

  abbrev left : List X
  left = take (width - 2 * all) (drop (2 * all) s.y.now)

  abbrev from : ℕ
  from = pixels.letters * (2 * all)

  abbrev wide : ℕ
  wide = pixels.letters * width - from

  samples_are : samples ≡ chroma_width width
  samples_are = omega (arith, is)

  -- the samples, as numbers
  left_is : numbers left ≡ cut (2 * all) width (numbers s.y.now)
  left_is = numbers_part are (width - 2 * all) (2 * all) s.y.now

  first_is : numbers (two s.first.tail) ≡ number s.first.tail ∷ number s.first.tail ∷ []
  first_is = are (two s.first.tail)

  third_is : numbers (two s.third.tail) ≡ number s.third.tail ∷ number s.third.tail ∷ []
  third_is = are (two s.third.tail)

  left_long : length (cut (2 * all) width (numbers s.y.now)) ≡ width - 2 * all
  left_long = last_length pixels.k pixels.letters f.letters width (numbers s.y.now) (numbers s.first.near.now) (numbers s.first.far.now) (numbers s.third.near.now) (numbers s.third.far.now) (number s.first.tail) (number s.third.tail) all lo hi f.luma

  pub left_row : {row ys : List X} → begun_letters numbers number pixels samples s (numbers row₀) row all
      → numbers ys ≡ pixel_letters numbers pixels left (two s.first.tail) (two s.third.tail) (take wide (drop from row))
      → numbers (put_mid from wide row ys) ≡ row_letters numbers number pixels width s row₀
  left_row {row} {ys} b e =
      let begun = rw samples_are at b in
      let places = numbers_part are wide from row in
      rw (numbers_put are from wide row ys)
      (whole_row pixels.k pixels.letters f.letters width (numbers s.y.now) (numbers s.first.near.now) (numbers s.first.far.now) (numbers s.third.near.now) (numbers s.third.far.now) (number s.first.tail) (number s.third.tail) all lo hi begun f.places (rw (left_is, places, first_is, third_is) at e))

  module _ {b a : Clipped} (before : b ≡ clipped_of numbers number pixels.k samples s (2 * all))
      (after : a ≡ pixels_clipped numbers pixels.k left (two s.first.tail) (two s.third.tail)) where
    pub left_room : (b.below + a.below ≤ 4294967295) × (b.above + a.above ≤ 4294967295)
    left_room =
        let m = most_of pixels.k _ _ _ (2 * all) before in
        let x = most_of pixels.k _ _ _ _ (rw left_is at after) in
        (omega (arith, f.wide, m.0, x.0, left_long, hi), omega (arith, f.wide, m.1, x.1, left_long, hi))

    pub left_counts : {told : Clipped} → told ≡ together b a → told ≡ row_clipped numbers number pixels.k width s
    left_counts e =
        let all_before = rw samples_are at before in
        let rest = rw (left_is, first_is, third_is) at after in
        e ∙ rw (all_before, rest, left_long) (whole_counts pixels.k pixels.letters f.letters width (numbers s.y.now) (numbers s.first.near.now) (numbers s.first.far.now) (numbers s.third.near.now) (numbers s.third.far.now) (number s.first.tail) (number s.third.tail) all lo hi)
