-- What reading finds in a stream s whose header is well formed and known. At a place where a written frame stands nothing but the lent planes is
-- judged, and its planes are found where they were written (`frame_found`); at the stream's end there is no frame (`none_found`).
-- Assumes nothing.
use mathlib.Core.Path.{◌≡◌, refl, sym, ap, ◌∙◌}
use mathlib.Core.Bool.{true, false}
use mathlib.Core.List.{List, ◌++◌, append_assoc}
use Prim.Native.Nat.{ℕ, ◌+◌, ◌*◌, ◌≤◌, ◌<◌}
use native.Mathlib.Omega.{arith}
use borrow.Author.Tests.{le-leb, eq-eqb, ne_eqb}
use lib.Dec.{T, leb}
use lib.ListN.{length, get_or, length-append}
use Rattle.yuv_support.specs.declared.Geometry.{Geometry}
use Rattle.yuv_support.specs.Settings.{among, sampling_of}
use Rattle.yuv_support.specs.Blend.{chroma_width, chroma_height}
use Rattle.yuv_support.specs.Picture.{painted}
use Rattle.yuv_support.specs.Questions.{verdict, needed}
use Rattle.yuv_support.proofs.Tests.{passed}
use Rattle.images.specs.declared.Lengths.{Lengths}
use Rattle.images.specs.Request.{constraints}
use Rattle.y4m_text.specs.Write.{frame_line}
use Rattle.y4m_text.proofs.Codes.{code_back}
use Rattle.y4m_lines.specs.Lines.{past_line}
use Rattle.y4m_lines.specs.Header.{is_frame_line}
use Rattle.y4m_lines.proofs.WrittenHeader.{HeaderFound, frame_line_found}
use Rattle.planes.specs.Stream.{plane_bytes, plane_read}
use Rattle.planes.proofs.StreamPlanes.{plane_bytes_length}
use Rattle.planes.proofs.ReadBack.{plane_read_back}
use Rattle.y4m_frames.specs.declared.Strides.{Strides}
use Rattle.y4m_frames.specs.Stream.{depths_of, is_known, sides_known, frame_begin, ends_at, is_place, u_begin, v_begin, frame_end, samples_begin, past_frame}
use Rattle.y4m_frames.specs.Questions.{lengths_of, lent_image, frame_questions, frame_answer, is_read}
use Rattle.y4m.specs.Reading.{frame_told, y_after, u_after, v_after}
use Rattle.y4m.specs.Writing.{frame_text}
use Rattle.y4m.specs.Inner.{OutputFits}
use Rattle.y4m.specs.RoundTrip.{FrameCall, call_image, call_lengths, with_samples, SameFormat, FoundAgain, NoFurther}
use Rattle.y4m.proofs.WrittenBytes.{HeaderAccepted, frame_text_length}

-- a plane that was written after some bytes is read from there
plane_found : (e : ℕ) → 0 < e → (s : List ℕ) (columns rows : ℕ) (plane : List ℕ) (stride : ℕ) → needed stride columns rows ≤ length plane
    → (first rest : List ℕ) → s ≡ first ++ (plane_bytes e stride columns rows plane ++ rest) → (from : ℕ) → from ≡ length first
    → (to_stride : ℕ) (old : List ℕ)
    → plane_read e s from columns rows to_stride old ≡ painted (λ r x. get_or plane (stride * r + x) 0) to_stride columns 0 rows old
plane_found e some s columns rows plane stride long first rest split from begin to_stride old =
    rw (split, begin) (plane_read_back e some stride columns rows plane long first rest to_stride old)

sides_known_lem : (sampling depth width height n : ℕ) → HeaderAccepted sampling depth width height n → sides_known width height ≡ true
unfolding verdict
sides_known_lem sampling depth width height n h =
    rw (le-leb 1 width h.bounded.width_least, le-leb 1 height h.bounded.height_least, le-leb width 16384 h.bounded.width_most, le-leb height 16384 h.bounded.height_most)

module _ (e : ℕ) (some : 0 < e) (sampling depth width height : ℕ) (out : List ℕ) (s : List ℕ) (h : HeaderFound sampling depth width height s)
    (known : T (among depth (depths_of e))) (a : HeaderAccepted sampling depth width height (length out)) where
  is_known_lem : is_known (depths_of e) s ≡ true
  unfolding is_known
  is_known_lem =
      rw (h.format_is, h.width_is, h.height_is, passed (among depth (depths_of e)) known)
      (sides_known_lem sampling depth width height (length out) a)

  same_format : (place : ℕ) (t : Strides) (l : Lengths) → SameFormat e sampling depth width height out s place t l
  unfolding frame_told
  same_format place t l = record {
    told_width = rw (h.formed, is_known_lem, h.width_is);
    told_height = rw (h.formed, is_known_lem, h.height_is);
    told_sampling = rw (h.formed, is_known_lem, h.format_is) (code_back sampling a.sampling_known);
    told_depth = rw (h.formed, is_known_lem, h.format_is);
  }

  -- ---- at the end

  module _ (place : ℕ) (at : frame_begin s place ≡ length s) (past : past_line s 0 ≤ length s) where
    ends : ends_at s place ≡ true
    unfolding ends_at
    ends = rw at (eq-eqb (length s) (length s) refl)

    end_is_place : is_place s place ≡ true
    unfolding is_place
    end_is_place = rw (ends, at, le-leb (past_line s 0) (length s) past, le-leb (length s) (length s) (omega arith))

    pub none_found : (t : Strides) (y u v : List ℕ) → NoFurther e sampling depth width height out s place t y u v
    unfolding frame_told frame_answer frame_questions is_read y_after u_after v_after verdict
    none_found t y u v = record {
      same = same_format place t (lengths_of y u v);
      answer = rw (h.formed, end_is_place, is_known_lem, ends);
      not_found = rw ends;
      next = rw ends;
      y_kept = rw ends;
      u_kept = rw ends;
      v_kept = rw ends;
    }

  -- ---- at a frame that was written

  module _ (c : FrameCall) (before after : List ℕ) where
    abbrev image : Geometry
    image = call_image e sampling depth width height out c

    abbrev columns : ℕ
    columns = chroma_width width

    abbrev rows : ℕ
    rows = chroma_height (sampling_of sampling) height

    abbrev y_bytes : List ℕ
    y_bytes = plane_bytes e c.y_stride width height c.y

    abbrev u_bytes : List ℕ
    u_bytes = plane_bytes e c.u_stride columns rows c.u

    abbrev v_bytes : List ℕ
    v_bytes = plane_bytes e c.v_stride columns rows c.v

    abbrev text : List ℕ
    text = frame_text e (sampling_of sampling) image c.y c.u c.v

    module _ (is : s ≡ before ++ (text ++ after)) (n : ℕ)
        (f : OutputFits e (sampling_of sampling) image (call_lengths e sampling depth width height out c) n)
        (place : ℕ) (at : frame_begin s place ≡ length before) (past : past_line s 0 ≤ length before) where
      -- the stream, parted before each plane
      before_y : s ≡ before ++ frame_line ++ (y_bytes ++ (u_bytes ++ (v_bytes ++ after)))
      unfolding frame_text
      before_y = rw is (simp append_assoc)

      before_u : s ≡ before ++ frame_line ++ y_bytes ++ (u_bytes ++ (v_bytes ++ after))
      before_u = before_y ∙ simp append_assoc

      before_v : s ≡ before ++ frame_line ++ y_bytes ++ u_bytes ++ (v_bytes ++ after)
      before_v = before_u ∙ simp append_assoc

      -- the numbers
      text_length : length text ≡ frame_end e 6 (sampling_of sampling) width height
      text_length = frame_text_length e (sampling_of sampling) image c.y c.u c.v n f

      stream_length : length s ≡ length before + (frame_end e 6 (sampling_of sampling) width height + length after)
      stream_length = rw is (simp length-append (omega (arith, text_length)))

      line_found : (is_frame_line s (length before) ≡ true) × (past_line s (length before) ≡ length before + 6)
      line_found = rw before_y (frame_line_found before (y_bytes ++ (u_bytes ++ (v_bytes ++ after))))

      samples_begin_lem : samples_begin s place ≡ length before + 6
      samples_begin_lem = ap (past_line s) at ∙ line_found.1

      past_frame_lem : past_frame e s place ≡ length before + frame_end e 6 (sampling_of sampling) width height
      past_frame_lem = rw (samples_begin_lem, h.format_is, h.width_is, h.height_is) (omega arith)

      -- the questions
      ends_not : ends_at s place ≡ false
      unfolding ends_at
      ends_not = rw at (ne_eqb (length before) (length s) (λ z. omega (arith, stream_length)))

      is_place_lem : is_place s place ≡ true
      unfolding is_place
      is_place_lem =
          rw (ends_not, at, le-leb (past_line s 0) (length before) past, le-leb (length before) (length s) (omega (arith, stream_length)))
          line_found.0

      fits : leb (past_frame e s place) (length s) ≡ true
      fits = rw past_frame_lem (le-leb _ (length s) (omega (arith, stream_length)))

      -- where the planes begin
      y_begin : samples_begin s place ≡ length (before ++ frame_line)
      y_begin = samples_begin_lem ∙ sym (length-append before frame_line)

      u_begin_lem : u_begin e (samples_begin s place) width height ≡ length (before ++ frame_line ++ y_bytes)
      u_begin_lem =
          let l = plane_bytes_length e c.y_stride width height c.y f.y_length in
          omega (arith, y_begin, length-append (before ++ frame_line) y_bytes)

      v_begin_lem : v_begin e (samples_begin s place) (sampling_of sampling) width height ≡ length (before ++ frame_line ++ y_bytes ++ u_bytes)
      v_begin_lem =
          let l = plane_bytes_length e c.u_stride columns rows c.u f.u_length in
          omega (arith, u_begin_lem, length-append (before ++ frame_line ++ y_bytes) u_bytes)

      module _ (t : Strides) (y u v : List ℕ) where
        abbrev lent : Lengths
        lent = lengths_of y u v

        judged : frame_answer e s place t lent ≡ verdict (constraints (sampling_of sampling) (lent_image width height t) lent)
        unfolding frame_answer frame_questions verdict
        judged = rw (h.formed, is_place_lem, is_known_lem, ends_not, fits, h.format_is, h.width_is, h.height_is)

        module _ (accepted : (frame_answer e s place t lent).number ≡ 0) where
          read : is_read e s place t lent ≡ true
          unfolding is_read
          read = rw (ends_not, accepted)

          y_found : y_after e s place t lent y ≡ with_samples e sampling depth width height out c.y c.y_stride width height t.y y
          unfolding y_after
          y_found =
              rw (read, h.width_is, h.height_is)
              (plane_found e some s width height c.y c.y_stride f.y_length (before ++ frame_line) (u_bytes ++ (v_bytes ++ after)) before_y
              (samples_begin s place) y_begin t.y y)

          u_found : u_after e s place t lent u
              ≡ with_samples e sampling depth width height out c.u c.u_stride columns rows t.u u
          unfolding u_after
          u_found =
              rw (read, h.width_is, h.height_is, h.format_is)
              (plane_found e some s columns rows c.u c.u_stride f.u_length
              (before ++ frame_line ++ y_bytes) (v_bytes ++ after) before_u (u_begin e (samples_begin s place) width height) u_begin_lem t.u u)

          v_found : v_after e s place t lent v
              ≡ with_samples e sampling depth width height out c.v c.v_stride columns rows t.v v
          unfolding v_after
          v_found =
              rw (read, h.width_is, h.height_is, h.format_is)
              (plane_found e some s columns rows c.v c.v_stride f.v_length
              (before ++ frame_line ++ y_bytes ++ u_bytes) after before_v (v_begin e (samples_begin s place) (sampling_of sampling) width height) v_begin_lem t.v v)

        pub frame_found : FoundAgain e sampling depth width height out s c (length before + length text) place t y u v
        unfolding frame_told
        frame_found = record {
          same = same_format place t lent;
          judged = judged;
          read = λ r. (rw (read r), rw (read r) (past_frame_lem ∙ ap (λ (k : ℕ). length before + k) (sym text_length)), y_found r, u_found r, v_found r);
        }
