-- What an accepted call wrote: its questions become facts of its numbers (`header_accepted`, `frame_accepted`), so that the text fits the
-- output, and the bytes written are the text (`header_part_is`, `frame_part_is`).
-- Assumes nothing.
use mathlib.Core.Path.{◌≡◌, refl, sym, subst⁻¹}
use mathlib.Core.List.{List, [], ◌∷◌, ◌++◌}
use Prim.Native.Nat.{ℕ, ◌≤◌}
use native.Mathlib.Omega.{arith}
use borrow.Author.Tests.{leb-true}
use lib.Dec.{T}
use lib.ListN.{length, length-append}
use Rattle.yuv_support.specs.declared.Geometry.{Geometry}
use Rattle.yuv_support.specs.declared.YuvChromaSubsampling.{YuvChromaSubsampling}
use Rattle.yuv_support.specs.Settings.{among, sampling_of, depths}
use Rattle.yuv_support.specs.Blend.{chroma_width, chroma_height}
use Rattle.yuv_support.specs.Questions.{ask, at_least, sampling_known, sides}
use Rattle.yuv_support.proofs.Questions.{each_holds, both_accepted}
use Rattle.images.specs.declared.Lengths.{Lengths}
use Rattle.images.specs.Request.{constraints}
use Rattle.images.proofs.Held.{Sides, sides_held}
use Rattle.sheet_writing.proofs.Write.{text_kept}
use Rattle.y4m_text.specs.Write.{header_text}
use Rattle.planes.proofs.StreamPlanes.{plane_bytes_length}
use Rattle.y4m_frames.specs.Stream.{depths_of}
use Rattle.y4m.specs.Writing.{write_header_answer, header_written, after_header, write_frame_answer, frame_text, frame_length, frame_written, after_frame}
use Rattle.y4m.specs.Inner.{OutputFits}
use Rattle.y4m.specs.RoundTrip.{FrameCall, call_image, call_lengths, header_part, frame_part}

-- ---- the questions that held

pub record HeaderAccepted (sampling depth width height out_length : ℕ) : Type 0 where
  pub sampling_known : sampling ≤ 1
  pub depth_known : T (among depth depths)
  pub bounded : Sides width height
  pub room : length (header_text sampling depth width height) ≤ out_length

pub header_accepted : (sampling depth width height out_length : ℕ) → (write_header_answer sampling depth width height out_length).number ≡ 0
    → HeaderAccepted sampling depth width height out_length
unfolding write_header_answer
header_accepted sampling depth width height out_length a =
    let format = sampling_known sampling ∷ ask 2 (among depth depths) ∷ [] in
    let output = at_least 5 (length (header_text sampling depth width height)) out_length ∷ [] in
    let first = both_accepted format (sides width height ++ output) refl a in
    let second = both_accepted (sides width height) output refl first.1 in
    let h = each_holds format refl first.0 in
    record {
      sampling_known = leb-true _ _ (h 0);
      depth_known = subst⁻¹ T (h 1) tt;
      bounded = sides_held width height second.0;
      room = leb-true _ _ (each_holds output refl second.1 0);
    }

pub frame_accepted : (e : ℕ) (sampling depth : ℕ) (i : Geometry) (l : Lengths) (out_length : ℕ)
    → (write_frame_answer e sampling depth i l out_length).number ≡ 0 → OutputFits e (sampling_of sampling) i l out_length
unfolding write_frame_answer
frame_accepted e sampling depth i l out_length a =
    let h =
    each_holds
    (sampling_known sampling
    ∷ ask 2 (among depth (depths_of e))
    ∷ (sides i.width i.height
    ++ constraints (sampling_of sampling) i l
    ++ at_least 5 (frame_length e (sampling_of sampling) i) out_length ∷ []))
    refl a in
    record {
      y_stride = leb-true _ _ (h 4);
      y_length = leb-true _ _ (h 5);
      u_stride = leb-true _ _ (h 6);
      u_length = leb-true _ _ (h 7);
      v_stride = leb-true _ _ (h 8);
      v_length = leb-true _ _ (h 9);
      room = leb-true _ _ (h 10);
    }

-- ---- the bytes written

pub header_part_is : (e : ℕ) (sampling depth width height : ℕ) (out : List ℕ)
    → (write_header_answer sampling depth width height (length out)).number ≡ 0
    → header_part e sampling depth width height out ≡ header_text sampling depth width height
unfolding header_part header_written after_header
header_part_is e sampling depth width height out a =
    rw a (text_kept (header_text sampling depth width height) out refl refl refl (header_accepted sampling depth width height (length out) a).room)

pub frame_text_length : (e : ℕ) (sampling : YuvChromaSubsampling) (i : Geometry) (y u v : List ℕ) (out_length : ℕ)
    → OutputFits e sampling i (record { y = length y; u = length u; v = length v; rgb = 0 }) out_length
    → length (frame_text e sampling i y u v) ≡ frame_length e sampling i
unfolding frame_text
frame_text_length e sampling i y u v out_length a =
    let columns = chroma_width i.width in
    let rows = chroma_height sampling i.height in
    simp length-append
    (omega (
      arith,
      plane_bytes_length e i.y_stride i.width i.height y a.y_length,
      plane_bytes_length e i.u_stride columns rows u a.u_length,
      plane_bytes_length e i.v_stride columns rows v a.v_length,
    ))

pub frame_part_is : (e : ℕ) (sampling depth width height : ℕ) (out : List ℕ) (c : FrameCall)
    → (write_frame_answer e sampling depth (call_image e sampling depth width height out c) (call_lengths e sampling depth width height out c) (length c.out)).number ≡ 0
    → frame_part e sampling depth width height out c ≡ frame_text e (sampling_of sampling) (call_image e sampling depth width height out c) c.y c.u c.v
unfolding frame_part frame_written after_frame
frame_part_is e sampling depth width height out c a =
    let i = call_image e sampling depth width height out c in
    let f = frame_accepted e sampling depth i (call_lengths e sampling depth width height out c) (length c.out) a in
    let l = frame_text_length e (sampling_of sampling) i c.y c.u c.v (length c.out) f in
    rw a (text_kept (frame_text e (sampling_of sampling) i c.y c.u c.v) c.out (sym l) refl refl (omega (arith, f.room)))
