-- A row of letters, from a row of luma and rows of chroma, and what was clipped in it.
-- Definitions only.
use Rattle.std.specs.Prelude.{ℕ, ◌+◌, ◌*◌, ◌/◌, ◌%◌, ◌≤◌, ◌<◌, ◌⊎◌, ◌≡◌, cond, List, [], ◌∷◌, eqb, ltb, length, get_or}
use Rattle.yuv_support.specs.Blend.{chroma_width, rounded}
use Rattle.yuv_support.specs.declared.Clipped.{Clipped}
use Rattle.yuv_support.specs.Picture.{overlay, up_to}
use Rattle.yuv_support.specs.Counts.{total}
use Rattle.numerics.specs.declared.Kernel.{Kernel}
use Rattle.numerics.specs.Kernel.{first_letter_of, green_of, third_of, letter_of, below_at, above_at}

-- element x of a row of n letters to the pixel: Y, P and Q give luma and the chroma of the first and the third letter at a column
unfoldable pub row_value : Kernel → ℕ → (ℕ → ℕ) → (ℕ → ℕ) → (ℕ → ℕ) → ℕ → ℕ
row_value k n Y P Q x = letter_of k (Y (x / n)) (P (x / n)) (Q (x / n)) (x % n)

-- the sample of a row at a column
abbrev pub at : List ℕ → ℕ → ℕ
at xs column = get_or xs column 0

-- chroma at the left and at the right pixel of pair j, from the near and the far row
abbrev pub left_of : List ℕ → List ℕ → ℕ → ℕ
left_of near far j = rounded (9 * at near j + 3 * at near (j + 1) + 3 * at far j + at far (j + 1))

abbrev pub right_of : List ℕ → List ℕ → ℕ → ℕ
right_of near far j = rounded (3 * at near j + 9 * at near (j + 1) + at far j + 3 * at far (j + 1))

-- the near and the far sample of a column, in quarters; and chroma from the sums of the columns
abbrev pub column_of : List ℕ → List ℕ → ℕ → ℕ
column_of near far j = 3 * at near j + at far j

abbrev pub across_at : List ℕ → ℕ → ℕ
across_at sums column =
    cond (eqb (column % 2) 0) (rounded (3 * at sums (column / 2) + at sums (column / 2 + 1))) (rounded (at sums (column / 2) + 3 * at sums (column / 2 + 1)))

-- chroma at a column of the pairs
abbrev pub pair_chroma : List ℕ → List ℕ → ℕ → ℕ
pair_chroma near far column = cond (eqb (column % 2) 0) (left_of near far (column / 2)) (right_of near far (column / 2))

-- chroma at a column of rows of some number of samples: of the pairs, or the sample of the tail, which has no sample after its own
unfoldable pub tailed : ℕ → List ℕ → List ℕ → ℕ → ℕ → ℕ
tailed samples near far tail column = cond (ltb (column / 2 + 1) samples) (pair_chroma near far column) tail

-- the same of a row that is `width` wide
abbrev pub row_chroma : ℕ → List ℕ → List ℕ → ℕ → ℕ → ℕ
row_chroma width = tailed (chroma_width width)

-- the letters of a pixel as they are stored, three or four
abbrev pub three : Kernel → ℕ → ℕ → ℕ → List ℕ
three k y p q = first_letter_of k y p ∷ green_of k y p q ∷ third_of k y q ∷ []

abbrev pub four : Kernel → ℕ → ℕ → ℕ → List ℕ
four k y p q = first_letter_of k y p ∷ green_of k y p q ∷ third_of k y q ∷ k.max ∷ []

abbrev pub stored : Kernel → ℕ → ℕ → ℕ → ℕ → List ℕ
stored k n y p q = cond (eqb n 3) (three k y p q) (four k y p q)

-- element x of a row whose tail has the chroma samples tp and tq: from so many samples of chroma, and of the whole row
abbrev pub tailed_value : Kernel → ℕ → ℕ → List ℕ → List ℕ → List ℕ → List ℕ → List ℕ → ℕ → ℕ → ℕ → ℕ
tailed_value k n samples y pn pf qn qf tp tq = row_value k n (at y) (tailed samples pn pf tp) (tailed samples qn qf tq)

abbrev pub whole_value : Kernel → ℕ → ℕ → List ℕ → List ℕ → List ℕ → List ℕ → List ℕ → ℕ → ℕ → ℕ → ℕ
whole_value k n width y pn pf qn qf tp tq = row_value k n (at y) (row_chroma width pn pf tp) (row_chroma width qn qf tq)

-- ---- what was clipped

-- in the first n columns of a row
unfoldable pub clipped_over : Kernel → (ℕ → ℕ) → (ℕ → ℕ) → (ℕ → ℕ) → ℕ → Clipped
clipped_over k Y P Q n = record {
  below = total (λ c. below_at k (Y c) (P c) (Q c)) n;
  above = total (λ c. above_at k (Y c) (P c) (Q c)) n;
}

-- of the whole row
abbrev pub whole_clipped : Kernel → ℕ → List ℕ → List ℕ → List ℕ → List ℕ → List ℕ → ℕ → ℕ → Clipped
whole_clipped k width y pn pf qn qf tp tq = clipped_over k (at y) (row_chroma width pn pf tp) (row_chroma width qn qf tq) width

-- the word of counts of a pixel, and of the pair at columns 2·j and 2·j + 1
abbrev pub word_at : Kernel → ℕ → ℕ → ℕ → ℕ
word_at k y p q = below_at k y p q + 256 * above_at k y p q

abbrev pub pair_word : Kernel → (ℕ → ℕ) → (ℕ → ℕ) → (ℕ → ℕ) → ℕ → ℕ
pair_word k Y P Q j = word_at k (Y (2 * j)) (P (2 * j)) (Q (2 * j)) + word_at k (Y (2 * j + 1)) (P (2 * j + 1)) (Q (2 * j + 1))

-- each of these words of counts holds at most six of either kind; and what they hold together
abbrev pub words_few : List ℕ → Type 0
words_few words = (j : ℕ) → j < length words → (at words j % 256 ≤ 6) × (at words j / 256 ≤ 6)

abbrev pub words_counted : List ℕ → Clipped
words_counted words = record { below = total (λ j. at words j % 256) (length words); above = total (λ j. at words j / 256) (length words) }

-- ---- what the row functions ask of their callers, at n letters to the pixel

-- the first n samples are below 4,096
pub record Small (n : ℕ) (xs : List ℕ) : Type 0 where
  pub most : (j : ℕ) → j < n → at xs j ≤ 4095

-- the first n elements of an array are g of their places
pub record Filled (n : ℕ) (g : ℕ → ℕ) (xs : List ℕ) : Type 0 where
  pub value : (j : ℕ) → j < n → at xs j ≡ g j

-- the first c elements of a row are g of their places, and the others as they stood in row₀
pub record Begun (g : ℕ → ℕ) (row₀ row : List ℕ) (c : ℕ) : Type 0 where
  pub done : row ≡ overlay (up_to c g) 0 row₀

-- luma and chroma of some columns, places for their letters, and for words of counts
pub record BlockFits (n columns counts : ℕ) (row y p q words : List ℕ) : Type 0 where
  pub letters : (n ≡ 3) ⊎ (n ≡ 4)
  pub places : length row ≡ n * columns
  pub luma : columns ≤ length y
  pub first : columns ≤ length p
  pub third : columns ≤ length q
  pub room : counts ≤ length words

-- the places and the luma of `pairs` pairs are there, and `samples` samples of chroma, at least one to the pair
pub record GroupsFit (n : ℕ) (row y pn pf qn qf : List ℕ) (pairs samples : ℕ) : Type 0 where
  pub letters : (n ≡ 3) ⊎ (n ≡ 4)
  pub places : n * (2 * pairs) ≤ length row
  pub luma : 2 * pairs ≤ length y
  pub known : pairs ≤ samples
  pub first_near : samples ≤ length pn
  pub first_far : samples ≤ length pf
  pub third_near : samples ≤ length qn
  pub third_far : samples ≤ length qf

-- where the samples of the pairs up to `end` end: with the sample after their own, or with the row
pub record Reach (end samples to : ℕ) : Type 0 where
  pub least : end ≤ to
  pub most : to ≤ end + 1
  pub inside : to ≤ samples
  pub last : (to ≡ end + 1) ⊎ (to ≡ samples)

-- the next group after `done` pairs: it begins among them, goes on after them, and has at most 256 of the pairs
pub record Next (done pairs from eights : ℕ) : Type 0 where
  pub back : from ≤ done
  pub on : done < from + 8 * eights
  pub inside : from + 8 * eights ≤ pairs
  pub few : eights ≤ 32

-- the samples and the places of a row are there
pub record RowFits (n : ℕ) (row y pn pf qn qf : List ℕ) (width : ℕ) : Type 0 where
  pub letters : (n ≡ 3) ⊎ (n ≡ 4)
  pub some : 1 ≤ width
  pub wide : width ≤ 16384
  pub places : length row ≡ n * width
  pub luma : width ≤ length y
  pub first_near : chroma_width width ≤ length pn
  pub first_far : chroma_width width ≤ length pf
  pub third_near : chroma_width width ≤ length qn
  pub third_far : chroma_width width ≤ length qf
