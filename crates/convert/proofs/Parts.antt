-- A row of a plane of samples, as numbers; and the rows that a luma row of a picture in the low bits needs.
-- Assumes nothing.
use mathlib.Core.Path.{◌≡◌, ap, ◌∙◌}
use mathlib.Core.List.{List, map}
use Prim.Native.Nat.{ℕ, ◌+◌, ◌*◌, ◌≤◌, ◌<◌}
use native.Mathlib.Nat.{le_trans}
use native.Mathlib.Omega.{arith}
use lib.ListN.{length, take, drop, get_or}
use Rattle.yuv_support.specs.declared.YuvBytesPacking.TheVariants.{LeastSignificantBytes}
use Rattle.yuv_support.specs.declared.Settings.{Settings}
use Rattle.yuv_support.specs.Picture.{channels_of, row_of, element_of}
use Rattle.yuv_support.specs.Counts.{clipped_row}
use Rattle.yuv_support.specs.Questions.{part_of}
use Rattle.images.specs.declared.ChromaRows.{ChromaRows}
use Rattle.images.specs.declared.picture.YuvPlanarImage.{YuvPlanarImage}
use Rattle.images.specs.Rows.{chroma_rows}
use Rattle.numerics.specs.declared.Kernel.{Kernel}
use Rattle.kernel.specs.Kernels.{most_of}
use Rattle.kernel.specs.Lent.{frame}
use Rattle.kernel.specs.Ordered.{ordered_value, ordered_clipped, OrderedFits, Ready}
use Rattle.kernel.proofs.Frames.{Parts, low_parts, parts_in, parts_fit, row_of_parts, clipped_of_parts}
use Rattle.sample.proofs.Numbers.{numbers_length, numbers_part}

-- the rows p of the chroma planes lie inside the planes
pub record RowsInside {X : Type 0} (image : YuvPlanarImage X) (p : ChromaRows) : Type 0 where
  pub u_near : image.u_stride * p.near + p.columns ≤ length image.u_plane.now
  pub u_other : image.u_stride * p.other + p.columns ≤ length image.u_plane.now
  pub v_near : image.v_stride * p.near + p.columns ≤ length image.v_plane.now
  pub v_other : image.v_stride * p.other + p.columns ≤ length image.v_plane.now

-- row r, of which y and the chroma rows were lent, fits the kernel, which gives its letters and counts
pub record RowLent {X : Type 0} (numbers : List X → List ℕ) (s : Settings) (image : YuvPlanarImage X) (k : Kernel) (r : ℕ) (y un uf vn vf : List X) : Type 0 where
  pub fits : (row : List X) → length (numbers row) ≡ image.width * channels_of s.order
      → OrderedFits s.order (numbers row) (numbers y) (numbers un) (numbers uf) (numbers vn) (numbers vf) image.width
  pub row : (row : List X) → length (numbers row) ≡ image.width * channels_of s.order
      → row_of (λ x. ordered_value k s.order s.mode image.width (numbers y) (numbers un) (numbers uf) (numbers vn) (numbers vf)) 0 (numbers row)
      ≡ row_of (element_of s (frame numbers image)) r (numbers row)
  pub counts : ordered_clipped k s.order s.mode image.width (numbers y) (numbers un) (numbers uf) (numbers vn) (numbers vf)
      ≡ clipped_row s (frame numbers image) r

module _ {X : Type 0} {number : X → ℕ} {numbers : List X → List ℕ} (are : (xs : List X) → numbers xs ≡ map number xs) where
  row_numbers : (stride r n : ℕ) (plane : List X) {part : List X} → part ≡ take n (drop (stride * r) plane) → numbers part ≡ part_of stride r n (numbers plane)
  row_numbers stride r n plane e = ap numbers e ∙ numbers_part are n (stride * r) plane

  row_inside : (stride r n : ℕ) (plane : List X) → stride * r + n ≤ length (numbers plane) → stride * r + n ≤ length plane
  row_inside stride r n plane h = omega (arith, numbers_length are plane, h)

  -- the rows p of a picture whose samples are in the low bits, as they were lent
  lent_parts : (s : Settings) (image : YuvPlanarImage X) (r : ℕ) (p : ChromaRows) {y un uf vn vf : List X} → s.packing ≡ LeastSignificantBytes
      → y ≡ take image.width (drop (image.y_stride * r) image.y_plane.now)
      → un ≡ take p.columns (drop (image.u_stride * p.near) image.u_plane.now) → uf ≡ take p.columns (drop (image.u_stride * p.other) image.u_plane.now)
      → vn ≡ take p.columns (drop (image.v_stride * p.near) image.v_plane.now) → vf ≡ take p.columns (drop (image.v_stride * p.other) image.v_plane.now)
      → Parts s (frame numbers image) r p (numbers y) (numbers un) (numbers uf) (numbers vn) (numbers vf)
  lent_parts s image r p low y un uf vn vf = low_parts s low record {
    y_is = row_numbers image.y_stride r image.width image.y_plane.now y;
    u_near = row_numbers image.u_stride p.near p.columns image.u_plane.now un;
    u_other = row_numbers image.u_stride p.other p.columns image.u_plane.now uf;
    v_near = row_numbers image.v_stride p.near p.columns image.v_plane.now vn;
    v_other = row_numbers image.v_stride p.other p.columns image.v_plane.now vf;
  }

  -- of the chroma rows p that the code finds
  module _ (s : Settings) (image : YuvPlanarImage X) {k : Kernel} (ready : Ready s (frame numbers image) k) (r : ℕ) {p : ChromaRows} (exists : r < image.height)
      (is : p ≡ chroma_rows s.sampling image.width image.height r) where
    pub rows_inside : RowsInside image p
    rows_inside =
        let i = parts_in ready r exists is in
        record {
          u_near = row_inside image.u_stride p.near p.columns image.u_plane.now i.u_near;
          u_other = row_inside image.u_stride p.other p.columns image.u_plane.now i.u_other;
          v_near = row_inside image.v_stride p.near p.columns image.v_plane.now i.v_near;
          v_other = row_inside image.v_stride p.other p.columns image.v_plane.now i.v_other;
        }

    -- where no sample is above the largest of the width, nor that above the kernel's
    module _ (low : s.packing ≡ LeastSignificantBytes) {y un uf vn vf : List X}
        (ey : y ≡ take image.width (drop (image.y_stride * r) image.y_plane.now))
        (eun : un ≡ take p.columns (drop (image.u_stride * p.near) image.u_plane.now)) (euf : uf ≡ take p.columns (drop (image.u_stride * p.other) image.u_plane.now))
        (evn : vn ≡ take p.columns (drop (image.v_stride * p.near) image.v_plane.now)) (evf : vf ≡ take p.columns (drop (image.v_stride * p.other) image.v_plane.now))
        {most : ℕ} (known : most ≤ most_of s.depth) (hu : (j : ℕ) → get_or (numbers image.u_plane.now) j 0 ≤ most)
        (hv : (j : ℕ) → get_or (numbers image.v_plane.now) j 0 ≤ most) where
      lent : Parts s (frame numbers image) r p (numbers y) (numbers un) (numbers uf) (numbers vn) (numbers vf)
      lent = lent_parts s image r p low ey eun euf evn evf

      pub row_lent : RowLent numbers s image k r y un uf vn vf
      row_lent = record {
        fits = λ row l. parts_fit ready r exists is lent (numbers row) l;
        row = λ row l. row_of_parts ready r exists is lent (λ j. le_trans (hu j) known) (λ j. le_trans (hv j) known) (numbers row) l;
        counts = clipped_of_parts ready r exists is lent (λ j. le_trans (hu j) known) (λ j. le_trans (hv j) known);
      }
