-- The samples of a row as numbers: luma, chroma at a column, and what the row functions ask of them and give. `numbers` and `number` are those
-- of the width of the samples.
-- Definitions only.
use Rattle.std.specs.Prelude.{ℕ, ◌+◌, ◌-◌, ◌*◌, ◌≤◌, ◌≡◌, [], List, length}
use Rattle.yuv_support.specs.declared.Clipped.{Clipped}
use Rattle.yuv_support.specs.Blend.{chroma_width}
use Rattle.yuv_support.specs.Picture.{row_of}
use Rattle.numerics.specs.declared.Kernel.{Kernel}
use Rattle.numerics.specs.Row.{row_value, tailed_value, clipped_over, at, pair_chroma, tailed, word_at, Small, Begun, BlockFits, GroupsFit, RowFits}
use Rattle.blocks.specs.declared.chroma.ChromaRows.{ChromaRows}
use Rattle.blocks.specs.declared.chroma.Source.{Source}
use Rattle.blocks.specs.declared.chroma.Pixels.{Pixels}
use Rattle.blocks.specs.Parts.{PartsFit, part_chroma, after, lettered}

-- ---- what is asked, at n letters to the pixel

module _ {X : Type 0} (numbers : List X → List ℕ) where
  abbrev pub parts_fit : ℕ → ℕ → List X → Source X → Type 0
  parts_fit n eights row s =
      PartsFit n eights (numbers row) (numbers s.y.now) (numbers s.first.near.now) (numbers s.first.far.now) (numbers s.third.near.now) (numbers s.third.far.now)

  abbrev pub groups_fit : ℕ → List X → Source X → ℕ → ℕ → Type 0
  groups_fit n row s pairs samples =
      GroupsFit n (numbers row) (numbers s.y.now) (numbers s.first.near.now) (numbers s.first.far.now) (numbers s.third.near.now) (numbers s.third.far.now) pairs samples

  abbrev pub row_fits : ℕ → List X → Source X → ℕ → Type 0
  row_fits n row s width =
      RowFits n (numbers row) (numbers s.y.now) (numbers s.first.near.now) (numbers s.first.far.now) (numbers s.third.near.now) (numbers s.third.far.now) width

  -- the samples of n pairs, at least one, are there, with the sample after their own or without it
  abbrev pub tailed_fit : ℕ → ChromaRows X → Type 0
  tailed_fit n rows =
      (1 ≤ length (numbers rows.near.now)) × (n ≤ length (numbers rows.near.now)) × (length (numbers rows.near.now) ≤ n + 1) × (length (numbers rows.near.now) ≤ length (numbers rows.far.now))

  -- as many samples of each row as the near one has are below 4,096
  abbrev pub small_rows : ChromaRows X → Type 0
  small_rows rows = Small (length (numbers rows.near.now)) (numbers rows.near.now) × Small (length (numbers rows.near.now)) (numbers rows.far.now)

  -- pixel by pixel: luma and chroma at each column
  abbrev pub pixels_fit : ℕ → List X → List X → List X → List X → Type 0
  pixels_fit n row y p q = BlockFits n (length (numbers y)) 0 (numbers row) (numbers y) (numbers p) (numbers q) []

  abbrev pub pixel_letters : Pixels → List X → List X → List X → List X → List ℕ
  pixel_letters pixels y p q row = lettered pixels.k pixels.letters (numbers y) (numbers p) (numbers q) (numbers row)

  abbrev pub pixels_clipped : Kernel → List X → List X → List X → Clipped
  pixels_clipped k y p q = clipped_over k (at (numbers y)) (at (numbers p)) (at (numbers q)) (length (numbers y))

  -- an array d, which was d₀, begins with chroma at the columns of n pairs
  abbrev pub blended : ChromaRows X → List X → List X → ℕ → Type 0
  blended rows d₀ d n = Begun (pair_chroma (numbers rows.near.now) (numbers rows.far.now)) (numbers d₀) (numbers d) (2 * n)

-- ---- what is given

module _ {X : Type 0} (numbers : List X → List ℕ) (number : X → ℕ) where
  abbrev pub luma_of : Source X → ℕ → ℕ
  luma_of s = at (numbers s.y.now)

  -- chroma at a column of rows of so many samples of chroma, and of parts of rows
  abbrev pub chroma_of : ℕ → ChromaRows X → ℕ → ℕ
  chroma_of samples rows = tailed samples (numbers rows.near.now) (numbers rows.far.now) (number rows.tail)

  abbrev pub part_of : ChromaRows X → ℕ → ℕ
  part_of rows = part_chroma (numbers rows.near.now) (numbers rows.far.now) (number rows.tail)

  -- element x of a row of letters
  abbrev pub value_of : Pixels → ℕ → Source X → ℕ → ℕ
  value_of pixels samples s =
      tailed_value pixels.k pixels.letters samples (numbers s.y.now) (numbers s.first.near.now) (numbers s.first.far.now) (numbers s.third.near.now) (numbers s.third.far.now) (number s.first.tail) (number s.third.tail)

  -- a row that was `row`: its letters, those of parts of the rows, and one whose first pairs have theirs, from row₀
  abbrev pub row_letters : Pixels → ℕ → Source X → List X → List ℕ
  row_letters pixels width s row = row_of (λ r. value_of pixels (chroma_width width) s) 0 (numbers row)

  abbrev pub part_letters : Pixels → Source X → List X → List ℕ
  part_letters pixels s row = row_of (λ r. row_value pixels.k pixels.letters (luma_of s) (part_of s.first) (part_of s.third)) 0 (numbers row)

  abbrev pub begun_letters : Pixels → ℕ → Source X → List ℕ → List X → ℕ → Type 0
  begun_letters pixels samples s row₀ row pairs = Begun (value_of pixels samples s) row₀ (numbers row) (pixels.letters * (2 * pairs))

  -- an array d' of n pairs is d with the tail's sample at the last pair, where `some` of them have a sample after their own
  abbrev pub tail_put : X → ℕ → ℕ → List X → List X → Type 0
  tail_put tail some n d d' =
      (near far d₀ : List ℕ) (samples : ℕ) → some + 1 ≡ samples → Begun (pair_chroma near far) d₀ (numbers d) (2 * some)
      → Begun (tailed samples near far (number tail)) d₀ (numbers d') (2 * n)

  -- what was clipped in the first n columns; in a whole row; and after the first `done` pairs, in n columns and in parts of the rows
  abbrev pub clipped_of : Kernel → ℕ → Source X → ℕ → Clipped
  clipped_of k samples s n = clipped_over k (luma_of s) (chroma_of samples s.first) (chroma_of samples s.third) n

  abbrev pub row_clipped : Kernel → ℕ → Source X → Clipped
  row_clipped k width s = clipped_of k (chroma_width width) s width

  abbrev pub clipped_after : Kernel → ℕ → Source X → ℕ → ℕ → Clipped
  clipped_after k samples s done n = clipped_over k (after done (luma_of s)) (after done (chroma_of samples s.first)) (after done (chroma_of samples s.third)) n

  abbrev pub part_clipped : Kernel → Source X → ℕ → ℕ → Clipped
  part_clipped k s done eights =
      clipped_over k (after done (luma_of s)) (after done (part_of s.first)) (after done (part_of s.third)) (2 * (8 * eights - done))

-- ---- the same of u16 samples, which are their numbers

abbrev pub words_fit : ℕ → ℕ → List ℕ → Source ℕ → Type 0
words_fit = parts_fit (λ xs. xs)

abbrev pub word_chroma : ChromaRows ℕ → ℕ → ℕ
word_chroma = part_of (λ xs. xs) (λ x. x)

abbrev pub word_letters : Pixels → Source ℕ → List ℕ → List ℕ
word_letters = part_letters (λ xs. xs) (λ x. x)

abbrev pub word_counts : Kernel → Source ℕ → ℕ → ℕ
word_counts k s c = word_at k (at s.y.now c) (word_chroma s.first c) (word_chroma s.third c)

-- no more samples than a group has; and all below 4,096, the tail's too
abbrev pub few_chroma : ChromaRows ℕ → Type 0
few_chroma rows = (length rows.near.now ≤ 512) × (length rows.far.now ≤ 512)

pub record SmallChroma (rows : ChromaRows ℕ) : Type 0 where
  pub near : Small (length rows.near.now) rows.near.now
  pub far : Small (length rows.far.now) rows.far.now
  pub tail : rows.tail ≤ 4095
