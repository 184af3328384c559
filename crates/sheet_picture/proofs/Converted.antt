-- The conversion of a small picture is accepted, each component stands in its destination, and what was clipped is told of all rows: what the
-- public entries promise of any call, at planes that are just long enough. One law for both element widths: `known` are the depths of the width.
-- Assumes nothing.
use mathlib.Core.Path.{◌≡◌, refl, sym, ap, ◌∙◌}
use mathlib.Core.Bool.{true}
use mathlib.Core.List.{List, ◌++◌}
use Prim.Native.Nat.{ℕ, zero, suc, ◌+◌, ◌-◌, ◌*◌, ◌≤◌}
use native.Mathlib.Nat.{mul-le-mul, mul-suc, le_refl}
use native.Mathlib.Omega.{arith}
use borrow.Author.Tests.{le-leb, eq-eqb}
use lib.ListN.{length, take}
use lib.Seq.{length-take-le}
use Rattle.yuv_support.specs.declared.YuvSourceChannels.{YuvSourceChannels}
use Rattle.yuv_support.specs.declared.CbCrInverseTransform.{CbCrInverseTransform}
use Rattle.yuv_support.specs.declared.Clipped.{Clipped}
use Rattle.yuv_support.specs.declared.Codes.{Codes}
use Rattle.yuv_support.specs.declared.Geometry.{Geometry}
use Rattle.yuv_support.specs.Settings.{sampling_of, order_of, matrix_of, last_packing, among}
use Rattle.yuv_support.specs.Coefficients.{coefficients_of, usable_with, usable}
use Rattle.yuv_support.specs.Blend.{frame_of, chroma_width, chroma_height}
use Rattle.yuv_support.specs.Picture.{channels_of, picture, band}
use Rattle.yuv_support.specs.Questions.{accepted, verdict, questions_of, decoded, needed}
use Rattle.yuv_support.specs.Counts.{clipped_in}
use Rattle.yuv_support.specs.Conversion.{answer_to, clipped_after, destination_after}
use Rattle.yuv_support.proofs.Picture.{component_in_lem}
use Rattle.yuv_support.proofs.Rows.{row_fits}
use Rattle.yuv_support.proofs.Tests.{passed}
use Rattle.images.proofs.Rows.{chroma_row_exists}
use Rattle.sheet_values.specs.declared.Values.{Values}
use Rattle.sheet_values.specs.Values.{codes_of, image_of, no_weight, luma_count, chroma_count}
use Rattle.sheet_table.specs.Table.{heading, clipped_text, table}
use Rattle.sheet_table.specs.Shown.{stride_of, shown_rows, Shows}
use Rattle.sheet_table.proofs.Room.{row_room}
use Rattle.sheet_table.proofs.Shown.{shown_table}
use Rattle.sheet_picture.specs.Samples.{Fit, Samples, planes_frame}

-- question 13 asks nothing of a matrix that has a name
named_usable : (m : ℕ) (t : CbCrInverseTransform) → m ≤ 5 → usable_with (matrix_of m no_weight no_weight) t ≡ true
unfolding usable_with
named_usable zero t h = refl
named_usable (suc zero) t h = refl
named_usable (suc (suc zero)) t h = refl
named_usable (suc (suc (suc zero))) t h = refl
named_usable (suc (suc (suc (suc zero)))) t h = refl
named_usable (suc (suc (suc (suc (suc zero))))) t h = refl
named_usable (suc (suc (suc (suc (suc (suc m)))))) t h = absurd (omega arith)

-- rows that follow each other closely need as many elements as there are
close_rows : (w h : ℕ) → 1 ≤ h → w * (h - 1) + w ≡ w * h
close_rows w h l =
    let e : h ≡ suc (h - 1) = omega arith in
    sym (ap (λ (n : ℕ). w * n) e ∙ mul-suc w (h - 1))

module _ {known : List ℕ} {v : Values} (fit : Fit known v) where
  abbrev stride : ℕ
  stride = stride_of (order_of v.order) v.width

  -- the destination's elements
  rgb_room : needed stride stride v.height ≤ 16384
  rgb_room =
      let e : stride * (v.height - 1) + stride ≡ stride * v.height = close_rows stride v.height fit.height_least in
      let m : stride * v.height ≤ 256 * 64 = mul-le-mul (row_room (order_of v.order) fit.width) fit.height in
      omega arith

  module _ (y u w old : List ℕ) (ly : length y ≡ luma_count v) (lu : length u ≡ chroma_count v) (lw : length w ≡ chroma_count v)
      (lo : length old ≡ 16384) where
    small_accepted : answer_to known (codes_of v) (image_of v) y u w stride old ≡ accepted
    unfolding answer_to questions_of verdict usable
    small_accepted =
        let wide = chroma_width v.width in
        let rows = chroma_height (sampling_of v.sampling) v.height in
        let chroma = close_rows wide rows (chroma_row_exists (sampling_of v.sampling) v.height fit.height_least) in
        let luma = close_rows v.width v.height fit.height_least in
        let r = rgb_room in
        rw (
          le-leb _ _ fit.sampling,
          le-leb _ _ fit.order,
          le-leb _ _ fit.range,
          le-leb v.matrix 6 (omega (arith, fit.matrix)),
          le-leb 0 (last_packing v.depth) (omega arith),
          passed (among v.depth known) fit.depth,
          le-leb _ _ fit.width_least,
          le-leb _ _ fit.height_least,
          le-leb v.width 16384 (omega (arith, fit.width)),
          le-leb v.height 16384 (omega (arith, fit.height)),
          le-leb (needed stride stride v.height) (length old) (omega arith),
          le-leb _ _ (le_refl stride),
          le-leb _ _ (le_refl v.width),
          le-leb (needed v.width v.width v.height) (length y) (omega arith),
          le-leb _ _ (le_refl wide),
          le-leb (needed wide wide rows) (length u) (omega arith),
          le-leb (needed wide wide rows) (length w) (omega arith),
          named_usable v.matrix (coefficients_of (decoded (codes_of v))) fit.matrix,
        )

    number_0 : (answer_to known (codes_of v) (image_of v) y u w stride old).number ≡ 0
    number_0 = ap (λ r. r.number) small_accepted

    small_clipped : clipped_after known (codes_of v) (image_of v) y u w stride old ≡ clipped_in (decoded (codes_of v)) (frame_of (image_of v) y u w) 0 v.height
    unfolding clipped_after
    small_clipped = rw (eq-eqb _ 0 number_0)

    small_shows : (new : List ℕ) → new ≡ destination_after known (codes_of v) (image_of v) y u w stride old
        → Shows (decoded (codes_of v)) (frame_of (image_of v) y u w) new
    unfolding destination_after picture
    small_shows new e c row column hr hc =
        let r = rgb_room in
        let p : new ≡ band (decoded (codes_of v)) (frame_of (image_of v) y u w) stride 0 v.height old = e ∙ rw (eq-eqb _ 0 number_0) in
        rw p
        (component_in_lem (decoded (codes_of v)) (frame_of (image_of v) y u w) stride 0 v.height old (le_refl stride) c row column
        (omega arith) (omega arith) hc
        (row_fits stride stride v.height row (length old) (omega arith) hr))

-- ---- the planes, of which the first samples are lent

module _ {known : List ℕ} {limit : ℕ} {v : Values} {y u w : List ℕ} (fit : Fit known v) (samples : Samples limit v y u w) where
  ly : length (take (luma_count v) y) ≡ luma_count v
  ly = length-take-le _ y samples.luma.long

  lu : length (take (chroma_count v) u) ≡ chroma_count v
  lu = length-take-le _ u samples.cb.long

  lw : length (take (chroma_count v) w) ≡ chroma_count v
  lw = length-take-le _ w samples.cr.long

  -- what a conversion of the planes Y, U and W leaves and answers, its other arguments being known by their equations
  module _ {codes : Codes} {image : Geometry} {order : YuvSourceChannels} {stride n m : ℕ} {Y U W : List ℕ} (old : List ℕ)
      (ec : codes ≡ codes_of v) (ei : image ≡ image_of v) (eo : order ≡ order_of v.order) (es : stride ≡ v.width * channels_of order)
      (en : n ≡ luma_count v) (em : m ≡ chroma_count v) (ey : Y ≡ take n y) (eu : U ≡ take m u) (ew : W ≡ take m w)
      (lo : length old ≡ 16384) where
    pub planes_shown : {new : List ℕ} → new ≡ destination_after known codes image Y U W stride old
        → Shows (decoded (codes_of v)) (planes_frame v y u w) new
    planes_shown {new} d =
        small_shows fit _ _ _ old ly lu lw lo new (d ∙ rw (ec, ei, es, eo, ey, eu, ew, en, em) refl)

    pub planes_clipped : {clipped : Clipped} → clipped ≡ clipped_after known codes image Y U W stride old
        → clipped ≡ clipped_in (decoded (codes_of v)) (planes_frame v y u w) 0 v.height
    planes_clipped {clipped} k =
        k ∙ rw (ec, ei, es, eo, ey, eu, ew, en, em) (small_clipped fit _ _ _ old ly lu lw lo)

-- the table of a picture that is shown and of what was clipped in it, whose order is known by its equation
pub picture_written : (v : Values) (y u w rgb : List ℕ) {order : YuvSourceChannels} {clipped : Clipped} → order ≡ order_of v.order
    → Shows (decoded (codes_of v)) (planes_frame v y u w) rgb → clipped ≡ clipped_in (decoded (codes_of v)) (planes_frame v y u w) 0 v.height
    → heading ++ shown_rows order v.width rgb v.height ++ clipped_text clipped ≡ table (decoded (codes_of v)) (planes_frame v y u w)
picture_written v y u w rgb eo shows counts = rw eo (shown_table (decoded (codes_of v)) (planes_frame v y u w) rgb shows counts)
