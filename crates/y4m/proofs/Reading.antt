-- From what was judged to what a reading call answers and leaves, with samples of any width.
-- Assumes nothing.
use mathlib.Core.Path.{◌≡◌, refl, sym, ap, ◌∙◌}
use mathlib.Core.Bool.{Bool, true, false, cond, ◌&&◌}
use mathlib.Core.List.{List, ◌∷◌}
use Prim.Native.Nat.{ℕ, ◌≤◌}
use native.Mathlib.Omega.{arith}
use borrow.Author.Tests.{leb-true}
use lib.Dec.{eqb}
use lib.ListN.{length}
use Rattle.std.specs.Prelude.{Option, Some, None, Result, Ok, Err, MatchResult}
use Rattle.std.specs.Option.{option_flatten}
use Rattle.std.specs.Result.{result_ok}
use Rattle.yuv_support.specs.Settings.{depths}
use Rattle.yuv_support.specs.Blend.{chroma_width, chroma_height}
use Rattle.yuv_support.specs.Questions.{Verdict, accepted, verdict, ask}
use Rattle.yuv_support.proofs.Questions.{question_at, each_holds}
use Rattle.yuv_error.specs.declared.error.YuvError.{YuvError}
use Rattle.yuv_error.specs.declared.error.YuvError.TheVariants.{MalformedStream, UnknownStream}
use Rattle.yuv_error.specs.Told.{told, as_told, answered}
use Rattle.yuv_error.specs.Asked.{asked, giving}
use Rattle.yuv_error.proofs.Refused.{refused_number}
use Rattle.images.specs.declared.Lengths.{Lengths}
use Rattle.images.specs.Request.{constraints}
use Rattle.y4m_lines.specs.declared.Header.{Header}
use Rattle.y4m_lines.specs.Header.{is_header, width_of, height_of, format_in}
use Rattle.planes.specs.Stream.{plane_read}
use Rattle.y4m_frames.specs.declared.Strides.{Strides}
use Rattle.y4m_frames.specs.declared.Frame.{Frame}
use Rattle.y4m_frames.specs.declared.KnownHeader.{KnownHeader}
use Rattle.y4m_frames.specs.Stream.{depths_of, is_known, ends_at, is_place, samples_begin, past_frame, is_whole}
use Rattle.y4m_frames.specs.Questions.{lent_image, frame_questions, frame_answer, is_read}
use Rattle.y4m_frames.specs.Judged.{said_of, header_said, known_header, frame_in, judged_frame}
use Rattle.y4m_frames.proofs.Headers.{HeaderIs, known_met}
use Rattle.y4m_frames.proofs.Told.{judged_answered}
use Rattle.y4m.specs.Reading.{header_questions, header_told, told_frame, frame_told, y_after, u_after, v_after}
use Rattle.y4m.specs.Inner.{framed, PlanesFit}

-- the numbers, by the header that is told
framed_said : (met : Bool) (s : List ℕ) (answer : Verdict) (next found : ℕ)
    → framed (as_told answer) (cond met (Some (said_of s)) None) next found ≡ told_frame answer met s next found
framed_said true s answer next found = refl
framed_said false s answer next found = refl

module _ (e : ℕ) (s : List ℕ) (place : ℕ) (t : Strides) (l : Lengths) where
  abbrev met : Bool
  met = is_header s && is_known (depths_of e) s

  -- the answer's frame, step by step as it is taken out
  pub flattened : {r : Result (Option Frame) YuvError} {o : Option (Option Frame)} {f x : Option Frame} → r ≡ judged_frame e s place t l
      → o ≡ result_ok r → f ≡ option_flatten o → f ≡ x → option_flatten (result_ok (judged_frame e s place t l)) ≡ x
  flattened judged ok flat is = rw (ok, judged) at (sym flat ∙ is)

  -- ---- where no frame is read

  -- at the stream's end
  end_unread : judged_frame e s place t l ≡ Ok None → is_read e s place t l ≡ false
  unfolding judged_frame is_read
  end_unread is = by_end (ends_at s place) (asked (frame_questions e s place t l)) _ is
    where
      by_end : (ends : Bool) (r : Result (Unit {0}) YuvError) (f : Frame) → giving r (cond ends None (Some f)) ≡ Ok None
          → cond ends false (eqb (frame_answer e s place t l).number 0) ≡ false
      by_end true r f h = refl
      by_end false (Ok u) f h = absurd (cc)
      by_end false (Err x) f h = absurd (cc)

  -- where a question gets a "no"
  error_unread : {x : YuvError} → judged_frame e s place t l ≡ Err x → is_read e s place t l ≡ false
  unfolding is_read
  error_unread {x} is = by_end (ends_at s place)
    where
      refused : frame_answer e s place t l ≡ told x
      refused = sym (judged_answered e s place t l) ∙ ap answered is

      by_end : (ends : Bool) → cond ends false (eqb (frame_answer e s place t l).number 0) ≡ false
      by_end true = refl
      by_end false = rw (refused, refused_number x) refl

  -- where the answer holds no frame
  module _ (none : option_flatten (result_ok (judged_frame e s place t l)) ≡ None) where
    pub none_unread : is_read e s place t l ≡ false
    none_unread = by_answer (judged_frame e s place t l) refl none
      where
        by_answer : (r : Result (Option Frame) YuvError) → judged_frame e s place t l ≡ r → option_flatten (result_ok r) ≡ None
            → is_read e s place t l ≡ false
        by_answer (Ok None) is n = end_unread is
        by_answer (Ok (Some f)) is n = absurd (cc)
        by_answer (Err x) is n = error_unread is

    pub told_none : framed (as_told (answered (judged_frame e s place t l))) (header_said (depths_of e) s) place 0 ≡ frame_told e s place t l
    unfolding frame_told
    told_none = rw (none_unread, ← judged_answered e s place t l) (framed_said met s (answered (judged_frame e s place t l)) place 0)

  -- ---- a frame that is read

  module _ {f : Frame} (some : option_flatten (result_ok (judged_frame e s place t l)) ≡ Some f) where
    is : judged_frame e s place t l ≡ Ok (Some f)
    is = by_answer (judged_frame e s place t l) some
      where
        by_answer : (r : Result (Option Frame) YuvError) → option_flatten (result_ok r) ≡ Some f → r ≡ Ok (Some f)
        by_answer (Ok None) h = absurd (cc)
        by_answer (Ok (Some g)) h = ap Ok h
        by_answer (Err x) h = absurd (cc)

    answer_read : frame_answer e s place t l ≡ accepted
    answer_read = sym (judged_answered e s place t l) ∙ ap answered is

    -- the stream goes on
    frame_found : (ends_at s place ≡ false) × (f ≡ frame_in e (samples_begin s place) (said_of s))
    unfolding judged_frame
    frame_found = by_end (ends_at s place) refl (asked (frame_questions e s place t l)) _ is
      where
        by_end : (ends : Bool) → ends_at s place ≡ ends → (r : Result (Unit {0}) YuvError) (g : Frame) → giving r (cond ends None (Some g)) ≡ Ok (Some f)
            → (ends_at s place ≡ false) × (f ≡ g)
        by_end true q (Ok u) g h = absurd (cc)
        by_end true q (Err x) g h = absurd (cc)
        by_end false q (Ok u) g h = (q, cc)
        by_end false q (Err x) g h = absurd (cc)

    is_read_lem : is_read e s place t l ≡ true
    unfolding is_read
    is_read_lem = rw (frame_found.0, answer_read) refl

    -- every question held
    holds : (k : ℕ) → (question_at (ask 16 (is_header s && is_place s place) ∷ ask 17 (is_known (depths_of e) s)
        ∷ ask 18 (is_whole e s place)
        ∷ constraints (format_in s).sampling (lent_image (width_of s) (height_of s) t) l) k).holds ≡ true
    unfolding frame_answer frame_questions
    holds k = each_holds _ refl (ap (λ (v : Verdict). v.number) (rw frame_found.0 at answer_read)) k

    pub told_read : framed (as_told (answered (judged_frame e s place t l))) (header_said (depths_of e) s) f.places.end 1 ≡ frame_told e s place t l
    unfolding frame_told
    told_read = rw (judged_answered e s place t l, is_read_lem, frame_found.1, answer_read) (framed_said met s accepted (past_frame e s place) 1)

    pub planes_fit : PlanesFit e s f t l.y l.u l.v
    planes_fit =
        let end : past_frame e s place ≤ length s = leb-true _ _ (holds 2) in
        rw frame_found.1
        (record {
          y = record { bytes = omega arith; narrow = leb-true _ _ (holds 3); long = leb-true _ _ (holds 4) };
          u = record { bytes = omega arith; narrow = leb-true _ _ (holds 5); long = leb-true _ _ (holds 6) };
          v = record { bytes = omega arith; narrow = leb-true _ _ (holds 7); long = leb-true _ _ (holds 8) };
        })

    pub y_read : (y : List ℕ) → plane_read e s f.places.y f.header.size.width f.header.size.height t.y y ≡ y_after e s place t l y
    unfolding y_after
    y_read y = rw (is_read_lem, frame_found.1)

    pub u_read : (u : List ℕ)
        → plane_read e s f.places.u (chroma_width f.header.size.width) (chroma_height f.header.format.sampling f.header.size.height) t.u u
        ≡ u_after e s place t l u
    unfolding u_after
    u_read u = rw (is_read_lem, frame_found.1)

    pub v_read : (v : List ℕ)
        → plane_read e s f.places.v (chroma_width f.header.size.width) (chroma_height f.header.format.sampling f.header.size.height) t.v v
        ≡ v_after e s place t l v
    unfolding v_after
    v_read v = rw (is_read_lem, frame_found.1)

-- ---- what the header's own call tells

module _ (s : List ℕ) where
  pub told_malformed : is_header s ≡ false → framed (as_told (told MalformedStream)) None 0 0 ≡ header_told s
  unfolding header_told header_questions verdict
  told_malformed f = rw f

  -- of a header that was read, r being question 17's answer: the place after it is told where it is known
  module _ {h : Header} (is : HeaderIs s h) (r : Result KnownHeader YuvError) (known : r ≡ known_header depths h) (next : ℕ)
      (P : KnownHeader → Type 0) (place : MatchResult r P (λ e. next ≡ 0)) (says : (k : KnownHeader) → P k → next ≡ h.past) where
    pub told_header : framed (as_told (answered r)) (result_ok r) next 0 ≡ header_told s
    unfolding header_told header_questions verdict
    told_header = by_known (is_known depths s) refl r (known ∙ known_met is depths refl) place
      where
        by_known : (k : Bool) → is_known depths s ≡ k → (r : Result KnownHeader YuvError) → r ≡ cond k (Ok (said_of s)) (Err UnknownStream)
            → MatchResult r P (λ e. next ≡ 0)
            → framed (as_told (answered r)) (result_ok r) next 0 ≡ header_told s
        by_known true k r e m = let p : next ≡ h.past = says (said_of s) (rw e at m) in rw (e, p, is.formed, k, is.past)
        by_known false k r e m = let p : next ≡ 0 = rw e at m in rw (e, p, is.formed, k)
