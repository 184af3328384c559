-- The promises of an entry: from its answer, and what it left in the destination.
-- Assumes nothing.
use mathlib.Core.Path.{◌≡◌, sym, ◌∙◌}
use mathlib.Core.Bool.{true, false}
use mathlib.Core.List.{List}
use Prim.Native.Nat.{ℕ, ◌+◌}
use native.Mathlib.Nat.{add-zero}
use borrow.Author.Tests.{eqb-true, eqb-false}
use lib.Dec.{T, eqb}
use Rattle.yuv_support.specs.declared.Codes.{Codes}
use Rattle.yuv_support.specs.declared.Clipped.{Clipped}
use Rattle.yuv_support.specs.declared.Settings.{Settings}
use Rattle.yuv_support.specs.declared.Geometry.{Geometry}
use Rattle.yuv_support.specs.Settings.{among, depths}
use Rattle.yuv_support.specs.Blend.{Frame, frame_of}
use Rattle.yuv_support.specs.Picture.{band, band_rows}
use Rattle.yuv_support.specs.Counts.{clipped_in, unclipped}
use Rattle.yuv_support.specs.Questions.{Verdict, decoded}
use Rattle.yuv_support.specs.Distance.{WithinDepth}
use Rattle.yuv_support.specs.Conversion.{answer_to, answer_to_band, rows_after, clipped_after_band, destination_after_band, Demand3AfterBand}
use Rattle.yuv_support.proofs.Conversion.{FirstRow, accepted_band, demand3_met}
use Rattle.yuv_support.proofs.Bands.{rowed, refused_keeps}

-- an accepted band is one of an accepted picture, at a first row
pub band_of_accepted : (known : List ℕ) (within : (d : ℕ) → T (among d known) → T (among d depths)) (codes : Codes) (image : Geometry)
    (y u v : List ℕ) (stride : ℕ) (rgb : List ℕ) (first : ℕ) (a : Verdict) → a ≡ answer_to_band known codes image y u v stride rgb first
    → eqb a.number 0 ≡ true → ((answer_to known codes image y u v stride rgb).number ≡ 0) × FirstRow first image.height
band_of_accepted known within codes image y u v stride rgb first a e t =
    accepted_band known within codes image y u v stride rgb first (rw e at (eqb-true a.number 0 t))

-- `Asked` is what demand 3 asks of the samples, and `enough` that they then lie within the depth; `given` makes the answer that is handed
-- out of the verdict, the counts, the rows written and the next first row
module _ (known : List ℕ) (within : (d : ℕ) → T (among d known) → T (among d depths)) (codes : Codes) (image : Geometry)
    (y u v : List ℕ) (stride : ℕ) (rgb : List ℕ) (first : ℕ) (a : Verdict) (e : a ≡ answer_to_band known codes image y u v stride rgb first)
    (limit : ℕ) (Asked : Settings → Frame → Type 0)
    (enough : T (among codes.depth known) → Asked (decoded codes) (frame_of image y u v) → WithinDepth (decoded codes) (frame_of image y u v))
    (Answer : Type 0) (given : Verdict → Clipped → ℕ → ℕ → Answer) where
  abbrev Promised : Clipped → ℕ → ℕ → List ℕ → Type 0
  Promised clipped rows next out =
      (given a clipped rows next
      ≡ given (answer_to_band known codes image y u v stride rgb first) (clipped_after_band known codes image y u v stride rgb first limit)
      (rows_after known codes image y u v stride rgb first limit) (first + rows_after known codes image y u v stride rgb first limit))
      × ((out ≡ destination_after_band known codes image y u v stride rgb first limit) × Demand3AfterBand Asked known codes image y u v stride rgb first limit out)

  pub converted : eqb a.number 0 ≡ true → (rows : ℕ) → rows ≡ band_rows image.height first limit
      → (clipped : Clipped) → clipped ≡ clipped_in (decoded codes) (frame_of image y u v) first rows
      → (out : List ℕ) → out ≡ band (decoded codes) (frame_of image y u v) stride first rows rgb → Promised clipped rows (first + rows) out
  unfolding rows_after clipped_after_band destination_after_band
  converted t rows r clipped c out o =
      -- an accepted band is one of an accepted picture, at a first row
      let h = accepted_band known within codes image y u v stride rgb first (rw e at (eqb-true a.number 0 t)) in
      let below = (rowed image.height first limit h.1).after.most in
      (rw (c, r, e, rw e at t), (o ∙ rw (r, rw e at t), λ _. rw (o, r) (demand3_met known within codes image y u v stride rgb Asked enough h.0 first _ below)))

  pub untouched : eqb a.number 0 ≡ false → Promised unclipped 0 first rgb
  untouched t =
      let refused : (answer_to_band known codes image y u v stride rgb first).number ≡ 0 → ⊥ = λ z. eqb-false a.number 0 t (rw e z) in
      let k = refused_keeps known codes image y u v stride rgb first limit refused in
      (rw (k.clipped, k.rows, e, add-zero first), (sym k.destination, λ z. absurd (refused z)))
