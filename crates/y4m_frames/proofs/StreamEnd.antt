-- Where the stream ends at the place given, and its header meets neither 16 nor 17, the call is accepted and there is no frame.
-- Assumes nothing.
use Rattle.std.proofs.Common.{◌≡◌, true, ℕ, List, refl, Ok, None}
use Rattle.images.specs.declared.Lengths.{Lengths}
use Rattle.y4m_lines.specs.Header.{is_header}
use Rattle.y4m_frames.specs.declared.Strides.{Strides}
use Rattle.y4m_frames.specs.Stream.{depths_of, is_known, ends_at, is_place}
use Rattle.y4m_frames.specs.Questions.{frame_questions}
use Rattle.y4m_frames.specs.Judged.{judged_frame}
use Rattle.yuv_error.specs.Asked.{asked}

pub judged_end : (e : ℕ) (s : List ℕ) (place : ℕ) (t : Strides) (l : Lengths)
    → is_header s ≡ true → is_known (depths_of e) s ≡ true → is_place s place ≡ true → ends_at s place ≡ true
    → judged_frame e s place t l ≡ Ok None
unfolding judged_frame frame_questions asked
judged_end e s place t l h k p ends = rw (h, k, p, ends) refl
