-- A frame is put plane after plane: U and V have room where the plane before ended (`u_room`, `v_room`), since writing keeps the output's
-- length, and the parts written are the frame's text (`frame_put`). One law for samples of any width.
-- Assumes nothing.
use mathlib.Core.Path.{◌≡◌, refl, ap, ◌∙◌}
use mathlib.Core.List.{List, map}
use Prim.Native.Nat.{ℕ, ◌+◌, ◌*◌, ◌≤◌}
use native.Mathlib.Omega.{arith}
use lib.ListN.{length}
use lib.Seq.{sets, length-sets}
use Rattle.sample.specs.declared.plane.Size.{Size}
use Rattle.yuv_support.specs.declared.Geometry.{Geometry}
use Rattle.yuv_support.specs.declared.YuvChromaSubsampling.{YuvChromaSubsampling}
use Rattle.yuv_support.specs.Blend.{chroma_width, chroma_height}
use Rattle.sheet_writing.specs.Text.{Wrote}
use Rattle.sheet_writing.proofs.Write.{wrote_then}
use Rattle.y4m_text.specs.Write.{frame_line}
use Rattle.planes.specs.Stream.{plane_bytes}
use Rattle.planes.proofs.StreamPlanes.{plane_bytes_length}
use Rattle.y4m_frames.specs.Questions.{lengths_of}
use Rattle.y4m.specs.Writing.{frame_text, frame_length}
use Rattle.y4m.specs.Inner.{OutputFits}
use Rattle.y4m.proofs.Samples.{same_lengths}
use Rattle.y4m.proofs.WrittenBytes.{frame_text_length}

same_length : {old : List ℕ} {at : ℕ} {text new : List ℕ} {next : ℕ} → Wrote old at text new next → length new ≡ length old
same_length {old} {at} {text} w = ap length w.bytes ∙ length-sets old at text

-- what is known once the line is put, `columns` and `rows` being those of U and V
pub record Begun (e : ℕ) (sampling : YuvChromaSubsampling) (i : Geometry) (y u v out : List ℕ) (columns rows : ℕ) (lined : List ℕ) : Type 0 where
  pub fits : OutputFits e sampling i (lengths_of y u v) (length out)
  pub columns_are : columns ≡ chroma_width i.width
  pub rows_are : rows ≡ chroma_height sampling i.height
  pub line : lined ≡ sets out 0 frame_line

-- of the samples, whose lengths are those of their numbers
module _ {X : Type 0} {number : X → ℕ} {numbers : List X → List ℕ} (are : (xs : List X) → numbers xs ≡ map number xs) where
  pub begun : {e : ℕ} {sampling : YuvChromaSubsampling} {i : Geometry} {y u v : List X} {out : List ℕ} {chroma : Size} {lined : List ℕ}
      → OutputFits e sampling i (lengths_of y u v) (length out)
      → chroma ≡ record { width = chroma_width i.width; height = chroma_height sampling i.height }
      → lined ≡ sets out 0 frame_line
      → Begun e sampling i (numbers y) (numbers u) (numbers v) out chroma.width chroma.height lined
  begun {y = y} {u = u} {v = v} fits sides line = record {
    fits = rw (same_lengths are y u v) fits;
    columns_are = rw sides;
    rows_are = rw sides;
    line = line;
  }

module _ {e : ℕ} {sampling : YuvChromaSubsampling} {i : Geometry} {y u v out : List ℕ} {columns rows : ℕ} {lined : List ℕ}
    (s : Begun e sampling i y u v out columns rows lined) where
  line_wrote : Wrote out 0 frame_line lined 6
  line_wrote = record { place = refl; bytes = s.line }

  module _ {with_y : List ℕ} {a : ℕ} (y_wrote : Wrote lined 6 (plane_bytes e i.y_stride i.width i.height y) with_y a) where
    y_end : a ≡ 6 + e * (i.width * i.height)
    y_end = y_wrote.place ∙ ap (λ (n : ℕ). 6 + n) (plane_bytes_length e i.y_stride i.width i.height y s.fits.y_length)

    pub u_room : a + e * (columns * rows) ≤ length with_y
    u_room = rw (s.columns_are, s.rows_are) (omega (arith, s.fits.room, y_end, same_length line_wrote, same_length y_wrote))

    module _ {with_u : List ℕ} {b : ℕ} (u_wrote : Wrote with_y a (plane_bytes e i.u_stride columns rows u) with_u b) where
      u_end : b ≡ a + e * (columns * rows)
      u_end = u_wrote.place ∙ ap (λ (n : ℕ). a + n) (plane_bytes_length e i.u_stride columns rows u (rw (s.columns_are, s.rows_are) s.fits.u_length))

      pub v_room : b + e * (columns * rows) ≤ length with_u
      v_room =
          rw (u_end, s.columns_are, s.rows_are)
          (omega (arith, s.fits.room, y_end, same_length line_wrote, same_length y_wrote, same_length u_wrote))

      pub frame_put : {new : List ℕ} {last : ℕ} → Wrote with_u b (plane_bytes e i.v_stride columns rows v) new last
          → (last ≡ frame_length e sampling i) × (new ≡ sets out 0 (frame_text e sampling i y u v))
      unfolding frame_text
      frame_put {new} {last} v_wrote =
          let w : Wrote out 0 (frame_text e sampling i y u v) new last =
          rw (s.columns_are, s.rows_are) at (wrote_then (wrote_then (wrote_then line_wrote y_wrote) u_wrote) v_wrote) in
          (omega (arith, w.place, frame_text_length e sampling i y u v (length out) s.fits), w.bytes)
