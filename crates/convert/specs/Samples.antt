-- A row from its samples, and what is clipped in it. `numbers` are those of the width of its samples.
-- Definitions only.
use Rattle.std.specs.Prelude.{◌≡◌, ℕ, List, Bool, true, false}
use Rattle.yuv_support.specs.declared.Clipped.{Clipped}
use Rattle.yuv_support.specs.declared.Settings.{Settings}
use Rattle.numerics.specs.declared.Kernel.{Kernel}
use Rattle.blocks.specs.declared.chroma.ChromaRows.{ChromaRows}
use Rattle.kernel.specs.Ordered.{ordered_value, ordered_clipped, OrderedFits}
use Rattle.convert.specs.declared.RowSamples.{RowSamples}

-- the chroma of the first and of the third letter
abbrev pub Arranged : {X : Type 0} → Bool → ChromaRows X → ChromaRows X → ChromaRows X → ChromaRows X → Type 0
Arranged true blue red first third = (first ≡ red) × (third ≡ blue)
Arranged false blue red first third = (first ≡ blue) × (third ≡ red)

module _ {X : Type 0} (numbers : List X → List ℕ) where
  -- element x of the row
  abbrev pub samples_value : Kernel → Settings → ℕ → RowSamples X → ℕ → ℕ
  samples_value k s width r =
      ordered_value k s.order s.mode width (numbers r.y.now)
      (numbers r.u.near.now) (numbers r.u.far.now) (numbers r.v.near.now) (numbers r.v.far.now)

  abbrev pub samples_clipped : Kernel → Settings → ℕ → RowSamples X → Clipped
  samples_clipped k s width r =
      ordered_clipped k s.order s.mode width (numbers r.y.now)
      (numbers r.u.near.now) (numbers r.u.far.now) (numbers r.v.near.now) (numbers r.v.far.now)

  -- the samples and the places of the row are there
  abbrev pub SamplesFit : Settings → ℕ → List X → RowSamples X → Type 0
  SamplesFit s width row r =
      OrderedFits s.order (numbers row) (numbers r.y.now)
      (numbers r.u.near.now) (numbers r.u.far.now) (numbers r.v.near.now) (numbers r.v.far.now) width
