-- What the functions below the entries ask and answer.
-- Definitions only.
use Rattle.std.specs.Prelude.{ℕ, ◌+◌, ◌*◌, ◌≤◌, Bool, List, ◌∷◌, length, Option, Some, None, Result, Ok, Err}
use Rattle.yuv_support.specs.declared.Geometry.{Geometry}
use Rattle.yuv_support.specs.declared.YuvChromaSubsampling.{YuvChromaSubsampling}
use Rattle.yuv_support.specs.Blend.{chroma_width, chroma_height}
use Rattle.yuv_support.specs.Questions.{Question, accepted, ask, sampling_known, sides, needed}
use Rattle.images.specs.declared.Lengths.{Lengths}
use Rattle.y4m_text.specs.Write.{code_of}
use Rattle.y4m_frames.specs.declared.KnownHeader.{KnownHeader}
use Rattle.y4m_frames.specs.declared.Frame.{Frame}
use Rattle.y4m_frames.specs.declared.Strides.{Strides}
use Rattle.y4m.specs.declared.Y4mFrame.{Y4mFrame}
use Rattle.yuv_error.specs.declared.error.YuvError.{YuvError}
use Rattle.yuv_error.specs.declared.report.Told.{Told}
use Rattle.yuv_error.specs.Told.{told}
use Rattle.std.proofs.lemmas.List.Edits.{sets}
use Rattle.y4m.specs.declared.Written.{Written}
use Rattle.y4m.specs.Writing.{frame_length, told_written}

-- the numbers of an answer, with what the header says; where it is not known, 0s
abbrev pub framed : Told → Option KnownHeader → ℕ → ℕ → Y4mFrame
framed told None next found = record {
  number = told.number;
  expected = told.expected;
  received = told.received;
  next = next;
  width = 0;
  height = 0;
  sampling = 0;
  depth = 0;
  found = found;
}
framed told (Some h) next found = record {
  number = told.number;
  expected = told.expected;
  received = told.received;
  next = next;
  width = h.size.width;
  height = h.size.height;
  sampling = code_of h.format.sampling;
  depth = h.format.depth;
  found = found;
}

-- the numbers of a written text's answer, by its bytes; none are written on a refusal
abbrev pub written_by : Result ℕ YuvError → Written
written_by (Ok n) = told_written accepted n
written_by (Err e) = told_written (told e) 0

-- the output: the text from its begin on; on a refusal unchanged
abbrev pub output_by : Result ℕ YuvError → List ℕ → List ℕ → List ℕ
output_by (Ok n) text out = sets out 0 text
output_by (Err e) text out = out

-- a plane of a stream fits into a lent plane: the stream has its bytes, and the plane has room
pub record PlaneFits (e : ℕ) (s : List ℕ) (at columns rows stride room : ℕ) : Type 0 where
  pub bytes : at + e * (columns * rows) ≤ length s
  pub narrow : columns ≤ stride
  pub long : needed stride columns rows ≤ room

pub record PlanesFit (e : ℕ) (s : List ℕ) (f : Frame) (t : Strides) (y_room u_room v_room : ℕ) : Type 0 where
  pub y : PlaneFits e s f.places.y f.header.size.width f.header.size.height t.y y_room
  pub u : PlaneFits e s f.places.u (chroma_width f.header.size.width) (chroma_height f.header.format.sampling f.header.size.height) t.u u_room
  pub v : PlaneFits e s f.places.v (chroma_width f.header.size.width) (chroma_height f.header.format.sampling f.header.size.height) t.v v_room

-- 1 to 4 of a stream that is to be written
abbrev pub format_questions : ℕ → Bool → ℕ → ℕ → List Question
format_questions sampling depth_known width height = sampling_known sampling ∷ ask 2 depth_known ∷ sides width height

-- a frame may be written: its planes have its rows, and the output has room for it
pub record OutputFits (e : ℕ) (sampling : YuvChromaSubsampling) (i : Geometry) (l : Lengths) (out_length : ℕ) : Type 0 where
  pub y_stride : i.width ≤ i.y_stride
  pub y_length : needed i.y_stride i.width i.height ≤ l.y
  pub u_stride : chroma_width i.width ≤ i.u_stride
  pub u_length : needed i.u_stride (chroma_width i.width) (chroma_height sampling i.height) ≤ l.u
  pub v_stride : chroma_width i.width ≤ i.v_stride
  pub v_length : needed i.v_stride (chroma_width i.width) (chroma_height sampling i.height) ≤ l.v
  pub room : frame_length e sampling i ≤ out_length
