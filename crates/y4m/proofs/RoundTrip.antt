-- What was written is read back: the stream is the header's text and then the texts of the frames. So its header is found, each frame stands
-- after those before it, and reading finds it there.
-- Assumes nothing.
use mathlib.Core.Path.{◌≡◌, refl, sym, ap, ◌∙◌}
use mathlib.Core.List.{List, [], ◌∷◌, ◌++◌, append_assoc, append-nil}
use Prim.Native.Nat.{ℕ, ◌+◌, ◌≤◌, ◌<◌}
use native.Mathlib.Omega.{arith}
use borrow.Author.Tests.{ne_eqb}
use lib.Dec.{T}
use lib.ListN.{length, length-append}
use Rattle.yuv_support.specs.Settings.{among, sampling_of}
use Rattle.y4m_lines.specs.Lines.{past_line}
use Rattle.y4m_lines.proofs.WrittenHeader.{HeaderFound, header_found}
use Rattle.y4m_frames.specs.declared.Strides.{Strides}
use Rattle.y4m_frames.specs.Stream.{depths_of, frame_begin}
use Rattle.y4m.specs.Writing.{write_header_answer, write_frame_answer, frame_text}
use Rattle.y4m.specs.RoundTrip.{FrameCall, call_image, call_lengths, header_part, frame_part, frame_parts, AllAccepted, FoundAgain, written, ReadBack, WrittenIsReadBack}
use Rattle.y4m.proofs.WrittenBytes.{HeaderAccepted, header_accepted, header_part_is, frame_accepted, frame_part_is}
use Rattle.y4m.proofs.ReadAgain.{none_found, frame_found}

module _ (e : ℕ) (sampling depth width height : ℕ) (out : List ℕ) where
  abbrev part : FrameCall → List ℕ
  part = frame_part e sampling depth width height out

  abbrev parts : List FrameCall → List ℕ
  parts = frame_parts e sampling depth width height out

  abbrev stream : List FrameCall → List ℕ
  stream = written e sampling depth width height out

  abbrev Accepted : FrameCall → Type 0
  Accepted c =
      (write_frame_answer e sampling depth (call_image e sampling depth width height out c) (call_lengths e sampling depth width height out c) (length c.out)).number ≡ 0

  -- ---- calls one after the other

  parts_append : (first more : List FrameCall) → parts (first ++ more) ≡ parts first ++ parts more
  unfolding frame_parts
  parts_append [] more = refl
  parts_append (c ∷ first) more = rw (parts_append first more) (sym (append_assoc (part c) (parts first) (parts more)))

  stream_append : (first more : List FrameCall) → stream (first ++ more) ≡ stream first ++ parts more
  stream_append first more = rw (parts_append first more) (sym (append_assoc (header_part e sampling depth width height out) (parts first) (parts more)))

  stream_split : (first : List FrameCall) (c : FrameCall) (rest : List FrameCall) → stream (first ++ c ∷ rest) ≡ stream first ++ (part c ++ parts rest)
  unfolding frame_parts
  stream_split first c rest = stream_append first (c ∷ rest)

  one_more : (first : List FrameCall) (c : FrameCall) → length (stream (first ++ c ∷ [])) ≡ length (stream first) + length (part c)
  unfolding frame_parts
  one_more first c =
      let last : stream (first ++ c ∷ []) ≡ stream first ++ part c = rw append-nil at (stream_append first (c ∷ [])) in
      ap length last ∙ length-append (stream first) (part c)

  one_accepted : (first : List FrameCall) (c : FrameCall) (rest : List FrameCall) → AllAccepted e sampling depth width height out (first ++ c ∷ rest) → Accepted c
  one_accepted [] c rest all = all.0
  one_accepted (d ∷ first) c rest all = one_accepted first c rest all.1

  -- ---- an accepted header

  module _ (some : 0 < e) (known : T (among depth (depths_of e))) (a : (write_header_answer sampling depth width height (length out)).number ≡ 0) where
    header : HeaderAccepted sampling depth width height (length out)
    header = header_accepted sampling depth width height (length out) a

    found : (calls : List FrameCall) → HeaderFound sampling depth width height (stream calls)
    found calls =
        rw (header_part_is e sampling depth width height out a)
        (header_found sampling depth width height (parts calls) header.sampling_known header.depth_known
        header.bounded.width_most header.bounded.height_most)

    -- every frame begins after the header
    past_header : (calls first : List FrameCall) → past_line (stream calls) 0 ≤ length (stream first)
    past_header calls first =
        omega (
          arith,
          (found calls).past_is,
          ap length (header_part_is e sampling depth width height out a),
          length-append (header_part e sampling depth width height out) (parts first),
        )

    frame_back : (first : List FrameCall) (c : FrameCall) (rest : List FrameCall) → Accepted c
        → (place : ℕ) (t : Strides) (y u v : List ℕ)
        → let s = stream (first ++ c ∷ rest) in frame_begin s place ≡ length (stream first)
        → FoundAgain e sampling depth width height out s c (length (stream (first ++ c ∷ []))) place t y u v
    frame_back first c rest accepted place t y u v at =
        let i = call_image e sampling depth width height out c in
        let l = call_lengths e sampling depth width height out c in
        let s = stream (first ++ c ∷ rest) in
        let text : part c ≡ frame_text e (sampling_of sampling) i c.y c.u c.v = frame_part_is e sampling depth width height out c accepted in
        let split : s ≡ stream first ++ (frame_text e (sampling_of sampling) i c.y c.u c.v ++ parts rest) = rw text at (stream_split first c rest) in
        let end : length (stream first) + length (frame_text e (sampling_of sampling) i c.y c.u c.v) ≡ length (stream (first ++ c ∷ [])) =
        rw text at (sym (one_more first c)) in
        rw end at
        (frame_found e some sampling depth width height out s (found (first ++ c ∷ rest)) known header c (stream first) (parts rest) split
        (length c.out) (frame_accepted e sampling depth i l (length c.out) accepted) place at (past_header (first ++ c ∷ rest) first) t y u v)

    start : (calls : List FrameCall) → frame_begin (stream calls) 0 ≡ length (stream [])
    unfolding frame_parts
    start calls = (found calls).past_is ∙ sym (rw append-nil (ap length (header_part_is e sampling depth width height out a)))

    read_back : (calls : List FrameCall) → AllAccepted e sampling depth width height out calls → ReadBack e sampling depth width height out calls
    read_back calls all = record {
      start = start calls;
      places = λ first. let p = past_header calls first in rw (ne_eqb (length (stream first)) 0 (λ z. omega arith));
      frames = λ first c rest is place t y u v at.
          rw is (frame_back first c rest (one_accepted first c rest (rw is at all)) place t y u v (rw is at at));
      last = λ place t y u v at.
          none_found e some sampling depth width height out (stream calls) (found calls) known header place at (past_header calls calls) t y u v;
    }

pub written_is_read_back : WrittenIsReadBack
written_is_read_back e sampling depth width height out calls some known a all = read_back e sampling depth width height out some known a calls all
