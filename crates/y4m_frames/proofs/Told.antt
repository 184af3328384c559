-- The answer to a call for a frame, told by its numbers.
-- Assumes nothing.
use mathlib.Core.Path.{◌≡◌, refl, ap, ◌∙◌}
use mathlib.Core.Bool.{Bool, true, false, cond, ◌&&◌}
use mathlib.Core.List.{List, [], ◌∷◌}
use Prim.Native.Nat.{ℕ}
use Rattle.yuv_support.specs.Questions.{ask, refused}
use Rattle.std.specs.Prelude.{Err}
use Rattle.yuv_error.specs.declared.error.YuvError.TheVariants.{MalformedStream}
use Rattle.yuv_error.specs.Told.{answered}
use Rattle.yuv_error.specs.Asked.{asked}
use Rattle.yuv_error.proofs.Asked.{AllTold, asked_answered}
use Rattle.images.specs.declared.Lengths.{Lengths}
use Rattle.images.specs.Request.{constraints}
use Rattle.y4m_lines.specs.Header.{is_header, width_of, height_of, format_in}
use Rattle.y4m_frames.specs.declared.Strides.{Strides}
use Rattle.y4m_frames.specs.Stream.{depths_of, is_known, ends_at, is_place, is_whole}
use Rattle.y4m_frames.specs.Questions.{lent_image, frame_questions, frame_answer}
use Rattle.y4m_frames.specs.Judged.{frame_at, judged_frame}

module _ (e : ℕ) (s : List ℕ) (place : ℕ) (t : Strides) (l : Lengths) where
  all_told : AllTold (frame_questions e s place t l)
  unfolding frame_questions
  all_told = by_end (ends_at s place)
    where
      by_end : (b : Bool) → AllTold (ask 16 (is_header s && is_place s place) ∷ ask 17 (is_known (depths_of e) s)
          ∷ cond b [] (ask 18 (is_whole e s place) ∷ constraints (format_in s).sampling (lent_image (width_of s) (height_of s) t) l))
      by_end true = (refl, (refl, tt))
      by_end false = (refl, (refl, (refl, (refl, (refl, (refl, (refl, (refl, (refl, tt)))))))))

  pub judged_answered : answered (judged_frame e s place t l) ≡ frame_answer e s place t l
  unfolding judged_frame frame_answer
  judged_answered = asked_answered (frame_at e s place) (frame_questions e s place t l) all_told

  -- 16, where the header is malformed
  pub malformed_frame : is_header s ≡ false → Err MalformedStream ≡ judged_frame e s place t l
  unfolding judged_frame asked frame_questions
  malformed_frame f = rw f

  pub malformed_answer : is_header s ≡ false → refused 16 ≡ frame_answer e s place t l
  malformed_answer f = ap answered (malformed_frame f) ∙ judged_answered
