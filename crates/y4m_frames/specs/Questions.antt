-- Document 02, slip 2: the questions of a call for a frame, in their order, and when a frame is read.
-- Definitions only.
use Rattle.std.specs.Prelude.{ℕ, Bool, false, cond, ◌&&◌, List, [], ◌∷◌, eqb, length}
use Rattle.yuv_support.specs.declared.Geometry.{Geometry}
use Rattle.yuv_support.specs.Questions.{Question, Verdict, ask, verdict}
use Rattle.images.specs.declared.Lengths.{Lengths}
use Rattle.images.specs.Request.{constraints}
use Rattle.y4m_lines.specs.Header.{is_header, width_of, height_of, format_in}
use Rattle.y4m_frames.specs.declared.Strides.{Strides}
use Rattle.y4m_frames.specs.Stream.{depths_of, is_known, ends_at, is_place, is_whole}

-- the lengths of the lent planes; nothing else is lent
abbrev pub lengths_of : {X : Type 0} → List X → List X → List X → Lengths
lengths_of y u v = record { y = length y; u = length u; v = length v; rgb = 0 }

abbrev pub strides : ℕ → ℕ → ℕ → Strides
strides y u v = record { y = y; u = u; v = v }

-- the lent planes as an image: the header's sides, the caller's strides
abbrev pub lent_image : ℕ → ℕ → Strides → Geometry
lent_image width height t = record {
  width = width;
  height = height;
  y_stride = t.y;
  u_stride = t.u;
  v_stride = t.v;
}

-- 16 and 17; then, unless the stream ends at the place, 18 and 7 to 12 of the lent planes
unfoldable pub frame_questions : ℕ → List ℕ → ℕ → Strides → Lengths → List Question
frame_questions e s place t l =
    ask 16 (is_header s && is_place s place)
    ∷ ask 17 (is_known (depths_of e) s)
    ∷ cond (ends_at s place) []
    (ask 18 (is_whole e s place) ∷ constraints (format_in s).sampling (lent_image (width_of s) (height_of s) t) l)

unfoldable pub frame_answer : ℕ → List ℕ → ℕ → Strides → Lengths → Verdict
frame_answer e s place t l = verdict (frame_questions e s place t l)

-- a frame is read where no question got a "no" and the stream goes on
unfoldable pub is_read : ℕ → List ℕ → ℕ → Strides → Lengths → Bool
is_read e s place t l = cond (ends_at s place) false (eqb (frame_answer e s place t l).number 0)
