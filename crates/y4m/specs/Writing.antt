-- Document 02, slip 2: what writing a header or a frame answers, and what it leaves in the output.
-- Definitions only.
use Rattle.std.specs.Prelude.{ℕ, cond, List, [], ◌∷◌, ◌++◌, eqb, length}
use Rattle.std.proofs.lemmas.List.Edits.{sets}
use Rattle.yuv_support.specs.declared.Geometry.{Geometry}
use Rattle.yuv_support.specs.declared.YuvChromaSubsampling.{YuvChromaSubsampling}
use Rattle.yuv_support.specs.Settings.{among, sampling_of, depths}
use Rattle.yuv_support.specs.Blend.{chroma_width, chroma_height}
use Rattle.yuv_support.specs.Questions.{Question, Verdict, ask, at_least, verdict, sampling_known, sides}
use Rattle.images.specs.declared.Lengths.{Lengths}
use Rattle.images.specs.Request.{constraints}
use Rattle.y4m_text.specs.Write.{header_text, frame_line}
use Rattle.planes.specs.Stream.{plane_bytes}
use Rattle.y4m.specs.declared.Written.{Written}
use Rattle.y4m_frames.specs.Stream.{depths_of, frame_end}

-- "Each tells the bytes written, 0 on a refusal"
abbrev pub told_written : Verdict → ℕ → Written
told_written answer n = record {
  number = answer.number;
  expected = answer.expected;
  received = answer.received;
  written = cond (eqb answer.number 0) n 0;
}

-- the output: the text from its begin on, all else kept; on a refusal unchanged
abbrev pub output_after : Verdict → List ℕ → List ℕ → List ℕ
output_after answer text out = cond (eqb answer.number 0) (sets out 0 text) out

-- ---- the header: 1 to 4, then 5 of the output's length

abbrev pub header_asked : ℕ → ℕ → ℕ → ℕ → ℕ → List Question
header_asked sampling depth width height out_length =
    sampling_known sampling
    ∷ ask 2 (among depth depths)
    ∷ (sides width height ++ at_least 5 (length (header_text sampling depth width height)) out_length ∷ [])

unfoldable pub write_header_answer : ℕ → ℕ → ℕ → ℕ → ℕ → Verdict
write_header_answer sampling depth width height out_length = verdict (header_asked sampling depth width height out_length)

unfoldable pub header_written : ℕ → ℕ → ℕ → ℕ → ℕ → Written
header_written sampling depth width height out_length =
    told_written (write_header_answer sampling depth width height out_length) (length (header_text sampling depth width height))

unfoldable pub after_header : ℕ → ℕ → ℕ → ℕ → List ℕ → List ℕ
after_header sampling depth width height out =
    output_after (write_header_answer sampling depth width height (length out)) (header_text sampling depth width height) out

-- ---- a frame: 1 to 4, 7 to 12, then 5 of the output's length

-- "FRAME alone on its line, samples as they are": Y, U, V
unfoldable pub frame_text : ℕ → YuvChromaSubsampling → Geometry → List ℕ → List ℕ → List ℕ → List ℕ
frame_text e sampling i y u v =
    let columns = chroma_width i.width in
    let rows = chroma_height sampling i.height in
    frame_line
    ++ plane_bytes e i.y_stride i.width i.height y
    ++ plane_bytes e i.u_stride columns rows u
    ++ plane_bytes e i.v_stride columns rows v

-- how many bytes it has: six of the line, then the samples
abbrev pub frame_length : ℕ → YuvChromaSubsampling → Geometry → ℕ
frame_length e sampling i = frame_end e 6 sampling i.width i.height

-- `known` being the depths of the samples
abbrev pub frame_asked : List ℕ → ℕ → ℕ → ℕ → Geometry → Lengths → ℕ → List Question
frame_asked known e sampling depth i l out_length =
    sampling_known sampling
    ∷ ask 2 (among depth known)
    ∷ (sides i.width i.height
    ++ constraints (sampling_of sampling) i l
    ++ at_least 5 (frame_length e (sampling_of sampling) i) out_length ∷ [])

unfoldable pub write_frame_answer : ℕ → ℕ → ℕ → Geometry → Lengths → ℕ → Verdict
write_frame_answer e sampling depth i l out_length = verdict (frame_asked (depths_of e) e sampling depth i l out_length)

unfoldable pub frame_written : ℕ → ℕ → ℕ → Geometry → Lengths → ℕ → Written
frame_written e sampling depth i l out_length =
    told_written (write_frame_answer e sampling depth i l out_length) (frame_length e (sampling_of sampling) i)

unfoldable pub after_frame : ℕ → ℕ → ℕ → Geometry → Lengths → List ℕ → List ℕ → List ℕ → List ℕ → List ℕ
after_frame e sampling depth i l y u v out =
    output_after (write_frame_answer e sampling depth i l (length out)) (frame_text e (sampling_of sampling) i y u v) out
