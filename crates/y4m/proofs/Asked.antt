-- What the questions of a written stream come to. 1 to 4, accepted, bound the sides (`sides_bounded`); the output is left, and the bytes
-- written are told, as the verdict says, be it a header's or a frame's.
-- Assumes nothing.
use mathlib.Core.Path.{◌≡◌, refl, sym, ap, ◌∙◌}
use mathlib.Core.Bool.{Bool}
use mathlib.Core.List.{List, [], ◌∷◌}
use Prim.Native.Nat.{ℕ}
use Rattle.std.specs.Prelude.{Result, Ok, Err}
use Rattle.yuv_support.specs.declared.Geometry.{Geometry}
use Rattle.yuv_support.specs.Settings.{sampling_of}
use Rattle.yuv_support.specs.Questions.{Verdict, ask, verdict, sampling_known, sides}
use Rattle.yuv_support.proofs.Questions.{both_accepted}
use Rattle.yuv_error.specs.declared.error.YuvError.{YuvError}
use Rattle.yuv_error.specs.Told.{answered}
use Rattle.yuv_error.specs.Asked.{asked, giving}
use Rattle.yuv_error.proofs.Asked.{asked_answered}
use Rattle.yuv_error.proofs.Refused.{refused_number}
use Rattle.images.specs.declared.Lengths.{Lengths}
use Rattle.images.proofs.Held.{Sides, sides_held}
use Rattle.y4m_frames.specs.Stream.{depths_of}
use Rattle.y4m.specs.Writing.{told_written, output_after, header_asked, write_header_answer, frame_asked, write_frame_answer}
use Rattle.y4m.specs.Inner.{written_by, output_by, format_questions, OutputFits}
use Rattle.y4m.proofs.WrittenBytes.{frame_accepted}

pub sides_bounded : (sampling : ℕ) (depth_known : Bool) (width height : ℕ) → (verdict (format_questions sampling depth_known width height)).number ≡ 0
    → Sides width height
sides_bounded sampling depth_known width height a =
    sides_held width height (both_accepted (sampling_known sampling ∷ ask 2 depth_known ∷ []) (sides width height) refl a).1

-- ---- an answer and its verdict

module _ (r : Result (Unit {0}) YuvError) (n : ℕ) (v : Verdict) (is : answered (giving r n) ≡ v) where
  pub written_result : written_by (giving r n) ≡ told_written v n
  written_result = by_answer r is
    where
      by_answer : (r : Result (Unit {0}) YuvError) → answered (giving r n) ≡ v → written_by (giving r n) ≡ told_written v n
      by_answer (Ok u) e = rw (← e) refl
      by_answer (Err f) e = rw (← e, refused_number f) refl

  pub output_result : (text out : List ℕ) → output_by (giving r n) text out ≡ output_after v text out
  output_result text out = by_answer r is
    where
      by_answer : (r : Result (Unit {0}) YuvError) → answered (giving r n) ≡ v → output_by (giving r n) text out ≡ output_after v text out
      by_answer (Ok u) e = rw (← e) refl
      by_answer (Err f) e = rw (← e, refused_number f) refl

-- what an answer gives that every accepted call gives
pub given_err : {A : Type 0} (r : Result (Unit {0}) YuvError) (x : A) {e : YuvError} → giving r x ≡ Err e → r ≡ Err e
given_err (Ok u) x h = absurd (cc)
given_err (Err f) x {e} h = let same : f ≡ e = cc in ap Err same

pub given_ok : {A : Type 0} (r : Result (Unit {0}) YuvError) {x y : A} → giving r x ≡ Ok y → (r ≡ Ok tt) × (y ≡ x)
given_ok (Ok u) h = (refl, cc)
given_ok (Err f) h = absurd (cc)

-- ---- a header's and a frame's

pub header_answered : (sampling depth width height out_length n : ℕ)
    → answered (giving (asked (header_asked sampling depth width height out_length)) n) ≡ write_header_answer sampling depth width height out_length
unfolding write_header_answer
header_answered sampling depth width height out_length n =
    asked_answered n (header_asked sampling depth width height out_length) (refl, (refl, (refl, (refl, (refl, tt)))))

pub frame_answered : (known : List ℕ) (e sampling depth : ℕ) (i : Geometry) (l : Lengths) (out_length n : ℕ) → known ≡ depths_of e
    → answered (giving (asked (frame_asked known e sampling depth i l out_length)) n) ≡ write_frame_answer e sampling depth i l out_length
unfolding write_frame_answer
frame_answered known e sampling depth i l out_length n is =
    asked_answered n (frame_asked known e sampling depth i l out_length)
    (refl, (refl, (refl, (refl, (refl, (refl, (refl, (refl, (refl, (refl, (refl, tt)))))))))))
    ∙ rw is

-- a frame whose questions all hold may be written
pub frame_fits : (known : List ℕ) (e sampling depth : ℕ) (i : Geometry) (l : Lengths) (out_length : ℕ) → known ≡ depths_of e
    → asked (frame_asked known e sampling depth i l out_length) ≡ Ok tt → OutputFits e (sampling_of sampling) i l out_length
frame_fits known e sampling depth i l out_length is all =
    let none : ℕ = 0 in
    let answer = frame_answered known e sampling depth i l out_length none is in
    frame_accepted e sampling depth i l out_length (ap (λ (v : Verdict). v.number) (sym answer ∙ ap (λ (r : Result (Unit {0}) YuvError). answered (giving r none)) all))
