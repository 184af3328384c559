-- Letters and counts of parts of rows of u16 samples, whose chroma is in two arrays: by a kernel, and of small samples by the lowered one.
-- Assumes nothing.
use mathlib.Core.Path.{◌≡◌, sym, ◌∙◌}
use mathlib.Core.List.{List}
use Prim.Native.Nat.{ℕ, ◌*◌, ◌≤◌, ◌<◌}
use native.Mathlib.Omega.{arith}
use lib.ListN.{length}
use Rattle.yuv_support.specs.Picture.{row_of}
use Rattle.numerics.specs.declared.Kernel.{Kernel}
use Rattle.numerics.specs.Kernel.{Words, lowered}
use Rattle.numerics.specs.Row.{row_value, at, Small, Begun, Filled}
use Rattle.numerics.proofs.Row.{begun_filled}
use Rattle.numerics.proofs.Choice.{some_letters}
use Rattle.blocks.specs.declared.chroma.Source.{Source}
use Rattle.blocks.specs.Parts.{lettered, pixel_words, small_columns}
use Rattle.blocks.specs.Source.{words_fit, word_chroma, word_counts, SmallChroma}
use Rattle.blocks.proofs.Columns.{small_less, array_small, tailed_small, any_row, any_words, low_row, low_words}

module _ {k : Kernel} (w : Words k) (n e : ℕ) (s : Source ℕ) {row : List ℕ} (f : words_fit n e row s) {p₀ q₀ p q : List ℕ}
    (bp : Begun (word_chroma s.first) p₀ p (2 * (8 * e))) (bq : Begun (word_chroma s.third) q₀ q (2 * (8 * e)))
    (rp : 2 * (8 * e) ≤ length p₀) (rq : 2 * (8 * e) ≤ length q₀) where
  columns : 8 * (2 * e) ≡ 2 * (8 * e)
  columns = omega arith

  some : 0 < n
  some = some_letters f.fits.letters

  fp : Filled (2 * (8 * e)) (word_chroma s.first) p
  fp = begun_filled bp rp

  fq : Filled (2 * (8 * e)) (word_chroma s.third) q
  fq = begun_filled bq rq

  pub any_letters : {row' : List ℕ} → row' ≡ lettered k n s.y.now p q row
      → row' ≡ row_of (λ r. row_value k n (at s.y.now) (word_chroma s.first) (word_chroma s.third)) 0 row
  any_letters l = any_row k n (2 * (8 * e)) some s.y.now (word_chroma s.first) (word_chroma s.third) p q fp fq row f.places l

  pub any_counts : {words : List ℕ} → Filled (8 * (2 * e)) (pixel_words k s.y.now p q) words → Filled (2 * (8 * e)) (word_counts k s) words
  any_counts l = any_words k n (2 * (8 * e)) some s.y.now (word_chroma s.first) (word_chroma s.third) p q fp fq (rw columns at l)

  -- where all samples are below 4,096
  module _ (sy : Small (length s.y.now) s.y.now) (sp : SmallChroma s.first) (sq : SmallChroma s.third) where
    hp : (c : ℕ) → c < 2 * (8 * e) → word_chroma s.first c ≤ 4095
    hp c h = tailed_small s.first.near.now s.first.far.now s.first.tail sp.near sp.far f.first_far sp.tail c

    hq : (c : ℕ) → c < 2 * (8 * e) → word_chroma s.third c ≤ 4095
    hq c h = tailed_small s.third.near.now s.third.far.now s.third.tail sq.near sq.far (f.third_far ∙ sym f.third_near) sq.tail c

    pub small_parts : small_columns (8 * (2 * e)) s.y.now p q
    small_parts = (small_less (omega (arith, f.fits.luma)) sy, rw columns (array_small fp hp), rw columns (array_small fq hq))

    pub low_letters : {low : Kernel} → low ≡ lowered k → {row' : List ℕ} → row' ≡ lettered low n s.y.now p q row
        → row' ≡ row_of (λ r. row_value k n (at s.y.now) (word_chroma s.first) (word_chroma s.third)) 0 row
    low_letters h l = low_row w n (2 * (8 * e)) some s.y.now (word_chroma s.first) (word_chroma s.third) p q fp fq hp hq h row f.places l

    pub low_counts : {low : Kernel} → low ≡ lowered k → {words : List ℕ} → Filled (8 * (2 * e)) (pixel_words low s.y.now p q) words
        → Filled (2 * (8 * e)) (word_counts k s) words
    low_counts h l = low_words w n (2 * (8 * e)) some s.y.now (word_chroma s.first) (word_chroma s.third) p q fp fq hp hq h (rw columns at l)
