-- Document 02, slip 2: what reading a header or a frame answers, and what it leaves in the planes.
-- Definitions only.
use Rattle.std.specs.Prelude.{ℕ, Bool, cond, ◌&&◌, List, [], ◌∷◌}
use Rattle.yuv_support.specs.Settings.{depths}
use Rattle.yuv_support.specs.Blend.{chroma_width, chroma_height}
use Rattle.yuv_support.specs.Questions.{Question, Verdict, ask, verdict}
use Rattle.images.specs.declared.Lengths.{Lengths}
use Rattle.y4m_text.specs.Write.{code_of}
use Rattle.y4m_lines.specs.Lines.{past_line}
use Rattle.y4m_lines.specs.Header.{is_header, width_of, height_of, format_in}
use Rattle.planes.specs.Stream.{plane_read}
use Rattle.y4m_frames.specs.declared.Strides.{Strides}
use Rattle.y4m_frames.specs.Stream.{depths_of, is_known, u_begin, v_begin, samples_begin, past_frame}
use Rattle.y4m_frames.specs.Questions.{frame_answer, is_read}
use Rattle.y4m.specs.declared.Y4mFrame.{Y4mFrame}

-- "sides, sampling and depth where the header meets neither 16 nor 17, else 0s"
abbrev pub told_frame : Verdict → Bool → List ℕ → ℕ → ℕ → Y4mFrame
told_frame answer met s next found = record {
  number = answer.number;
  expected = answer.expected;
  received = answer.received;
  next = next;
  width = cond met (width_of s) 0;
  height = cond met (height_of s) 0;
  sampling = cond met (code_of (format_in s).sampling) 0;
  depth = cond met (format_in s).depth 0;
  found = found;
}

-- ---- the header alone: 16, 17 of any element; then the place of the first frame line

unfoldable pub header_questions : List ℕ → List Question
header_questions s = ask 16 (is_header s) ∷ ask 17 (is_known depths s) ∷ []

unfoldable pub header_told : List ℕ → Y4mFrame
header_told s =
    let met = is_header s && is_known depths s in
    told_frame (verdict (header_questions s)) met s (cond met (past_line s 0) 0) 0

-- ---- a frame

-- the answer: "the place after the frame"; without a frame "the place told is the one given, 0 included"
unfoldable pub frame_told : ℕ → List ℕ → ℕ → Strides → Lengths → Y4mFrame
frame_told e s place t l =
    let read = is_read e s place t l in
    told_frame (frame_answer e s place t l) (is_header s && is_known (depths_of e) s) s
    (cond read (past_frame e s place) place) (cond read 1 0)

-- the planes: the frame's samples where one is read, and else unchanged
unfoldable pub y_after : ℕ → List ℕ → ℕ → Strides → Lengths → List ℕ → List ℕ
y_after e s place t l y =
    cond (is_read e s place t l) (plane_read e s (samples_begin s place) (width_of s) (height_of s) t.y y) y

unfoldable pub u_after : ℕ → List ℕ → ℕ → Strides → Lengths → List ℕ → List ℕ
u_after e s place t l u =
    cond (is_read e s place t l)
    (plane_read e s (u_begin e (samples_begin s place) (width_of s) (height_of s))
    (chroma_width (width_of s)) (chroma_height (format_in s).sampling (height_of s)) t.u u)
    u

unfoldable pub v_after : ℕ → List ℕ → ℕ → Strides → Lengths → List ℕ → List ℕ
v_after e s place t l v =
    cond (is_read e s place t l)
    (plane_read e s (v_begin e (samples_begin s place) (format_in s).sampling (width_of s) (height_of s))
    (chroma_width (width_of s)) (chroma_height (format_in s).sampling (height_of s)) t.v v)
    v
