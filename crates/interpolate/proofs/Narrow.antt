-- Chroma of a row of fewer than 8 pairs before its tail, in an array that began as the tail's sample.
-- Assumes nothing.
use mathlib.Core.Path.{◌≡◌, refl, ap, ◌∙◌}
use mathlib.Core.Logic.{◌⊎◌, inl, inr}
use mathlib.Core.List.{List, [], ◌∷◌}
use Prim.Native.Nat.{ℕ, ◌+◌, ◌-◌, ◌*◌, ◌/◌, ◌≤◌, ◌<◌}
use native.Mathlib.Omega.{arith}
use borrow.Author.Tests.{lt-ltb, le-ltb}
use lib.ListN.{length, take}
use lib.Seq.{get_or-take, length-take-le}
use Rattle.std.specs.Prelude.{map}
use Rattle.std.specs.Int.{div_ceil}
use Rattle.std.proofs.lemmas.Bool.{cases_lt}
use Rattle.yuv_support.specs.declared.Clipped.{Clipped}
use Rattle.yuv_support.specs.Blend.{chroma_width}
use Rattle.yuv_support.specs.Picture.{up_to}
use Rattle.yuv_support.proofs.Overlay.{overlay_at, value_at}
use Rattle.sample.proofs.Numbers.{numbers_length, numbers_take}
use Rattle.numerics.specs.Row.{at, pair_chroma, tailed, row_chroma, Begun}
use Rattle.numerics.proofs.Row.{begun_filled}
use Rattle.numerics.proofs.Tails.{pairs_of, chroma_tail, same_row, same_counts}
use Rattle.blocks.specs.declared.chroma.Source.{Source}
use Rattle.blocks.specs.declared.chroma.Pixels.{Pixels}
use Rattle.blocks.specs.Source.{row_fits, pixel_letters, pixels_clipped, blended, row_letters, row_clipped}

begun_kept : {n : ℕ} {g : ℕ → ℕ} {xs₀ xs : List ℕ} → Begun g xs₀ xs n → (j : ℕ) → n ≤ j → j < length xs₀ → at xs j ≡ at xs₀ j
begun_kept {n} {g} {xs₀} b j h l = rw b.done (overlay_at (up_to n g) xs₀ j l ∙ rw (le-ltb j n h))

chroma_pair : (width : ℕ) (near far : List ℕ) (tail c : ℕ) → c < 2 * pairs_of width → pair_chroma near far c ≡ row_chroma width near far tail c
unfolding tailed
chroma_pair width near far tail c h = rw (lt-ltb (c / 2 + 1) (chroma_width width) (let l : c / 2 + 1 < chroma_width width = omega arith in l))

module _ {X : Type 0} {number : X → ℕ} {numbers : List X → List ℕ} (are : (xs : List X) → numbers xs ≡ map number xs) where
  abbrev sixteen : X → List X
  sixteen v = v ∷ v ∷ v ∷ v ∷ v ∷ v ∷ v ∷ v ∷ v ∷ v ∷ v ∷ v ∷ v ∷ v ∷ v ∷ v ∷ []

  sixteen_at : (v : X) (c : ℕ) → c < 16 → at (numbers (sixteen v)) c ≡ number v
  sixteen_at v c h =
      ap (λ (ys : List ℕ). at ys c) (are (sixteen v))
      ∙ value_at (λ j. number v) (number v ∷ number v ∷ number v ∷ number v ∷ number v ∷ number v ∷ number v ∷ number v ∷ number v ∷ number v ∷ number v ∷ number v ∷ number v ∷ number v ∷ number v ∷ number v ∷ []) (refl, (refl, (refl, (refl, (refl, (refl, (refl, (refl, (refl, (refl, (refl, (refl, (refl, (refl, (refl, (refl, tt)))))))))))))))) c h

  narrow_chroma : (width : ℕ) (near far : List ℕ) (v : X) {xs : List ℕ} → Begun (pair_chroma near far) (numbers (sixteen v)) xs (2 * pairs_of width) → width ≤ 16
      → (c : ℕ) → c < width → at xs c ≡ row_chroma width near far (number v) c
  narrow_chroma width near far v {xs} b w c h = by_place (cases_lt c (2 * pairs_of width))
    where
      long : length (numbers (sixteen v)) ≡ 16
      long = numbers_length are (sixteen v)

      by_place : (c < 2 * pairs_of width) ⊎ (2 * pairs_of width ≤ c) → at xs c ≡ row_chroma width near far (number v) c
      by_place (inl lo) = (begun_filled b (omega (arith, long))).value c lo ∙ chroma_pair width near far (number v) c lo
      by_place (inr hi) = begun_kept b c hi (omega (arith, long)) ∙ sixteen_at v c (omega arith) ∙ rw (chroma_tail width near far (number v) c hi)

  -- the pixels of such a row, of luma and of chroma p and q, are those of the whole row
  module _ (pixels : Pixels) (s : Source X) {width half : ℕ} {row₀ : List X} (f : row_fits numbers pixels.letters row₀ s width)
      (is : half ≡ div_ceil width 2) (few : chroma_width width ≤ 8) {p q : List X}
      (first : blended numbers s.first (sixteen s.first.tail) p (half - 1))
      (third : blended numbers s.third (sixteen s.third.tail) q (half - 1)) where
    pairs_are : half - 1 ≡ pairs_of width
    pairs_are = omega (arith, is)

    first_is : (c : ℕ) → c < width → at (numbers p) c ≡ row_chroma width (numbers s.first.near.now) (numbers s.first.far.now) (number s.first.tail) c
    first_is = narrow_chroma width (numbers s.first.near.now) (numbers s.first.far.now) s.first.tail (rw pairs_are at first) (omega (arith, few))

    third_is : (c : ℕ) → c < width → at (numbers q) c ≡ row_chroma width (numbers s.third.near.now) (numbers s.third.far.now) (number s.third.tail) c
    third_is = narrow_chroma width (numbers s.third.near.now) (numbers s.third.far.now) s.third.tail (rw pairs_are at third) (omega (arith, few))

    luma_is : (c : ℕ) → c < width → at (take width (numbers s.y.now)) c ≡ at (numbers s.y.now) c
    luma_is c h = get_or-take width (numbers s.y.now) c 0 h

    pub narrow_row : {row : List ℕ} → row ≡ pixel_letters numbers pixels (take width s.y.now) p q row₀ → row ≡ row_letters numbers number pixels width s row₀
    narrow_row e =
        same_row pixels.k pixels.letters f.letters width (numbers s.y.now) (numbers s.first.near.now) (numbers s.first.far.now) (numbers s.third.near.now) (numbers s.third.far.now) (number s.first.tail) (number s.third.tail)
        (take width (numbers s.y.now)) _ _ luma_is first_is third_is (numbers row₀) f.places (rw (numbers_take are width s.y.now) at e)

    pub narrow_counts : {told : Clipped} → told ≡ pixels_clipped numbers pixels.k (take width s.y.now) p q → told ≡ row_clipped numbers number pixels.k width s
    narrow_counts e =
        (rw (numbers_take are width s.y.now, length-take-le width (numbers s.y.now) f.luma) at e)
        ∙ same_counts pixels.k pixels.letters f.letters width (numbers s.y.now) (numbers s.first.near.now) (numbers s.first.far.now) (numbers s.third.near.now) (numbers s.third.far.now) (number s.first.tail) (number s.third.tail)
        (take width (numbers s.y.now)) _ _ luma_is first_is third_is
