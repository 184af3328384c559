-- What the functions that judge a frame answer, by the definitions of Stream and Questions.
-- Definitions only.
use Rattle.std.specs.Prelude.{ℕ, cond, ◌&&◌, List, ◌∷◌, leb, length, Option, Some, None, Result, Ok, Err}
use Rattle.yuv_support.specs.declared.YuvChromaSubsampling.{YuvChromaSubsampling}
use Rattle.yuv_support.specs.Settings.{among}
use Rattle.yuv_support.specs.Questions.{Question, ask}
use Rattle.yuv_error.specs.declared.error.YuvError.{YuvError}
use Rattle.yuv_error.specs.declared.error.YuvError.TheVariants.{MalformedStream, UnknownStream}
use Rattle.yuv_error.specs.Asked.{asked, giving}
use Rattle.images.specs.declared.Lengths.{Lengths}
use Rattle.images.specs.Request.{constraints}
use Rattle.y4m_text.specs.declared.Format.{Format}
use Rattle.y4m_lines.specs.declared.Header.{Header}
use Rattle.y4m_lines.specs.Header.{is_header, width_of, height_of, format_in}
use Rattle.y4m_frames.specs.declared.KnownHeader.{KnownHeader}
use Rattle.y4m_frames.specs.declared.Frame.{Frame}
use Rattle.y4m_frames.specs.declared.Places.{Places}
use Rattle.y4m_frames.specs.declared.Strides.{Strides}
use Rattle.y4m_frames.specs.Stream.{is_known, sides_known, ends_at, is_place, u_begin, v_begin, frame_end, samples_begin}
use Rattle.y4m_frames.specs.Questions.{lent_image, frame_questions}

-- ---- question 17 of a header

-- what a header with known sides and a known depth says
abbrev pub known_with : List ℕ → ℕ → ℕ → Option Format → Result KnownHeader YuvError
known_with known width height None = Err UnknownStream
known_with known width height (Some f) =
    cond (among f.depth known && sides_known width height) (Ok (record { size = record { width = width; height = height }; format = f })) (Err UnknownStream)

-- of a header as it was read
abbrev pub known_header : List ℕ → Header → Result KnownHeader YuvError
known_header known h = known_with known h.width h.height h.format

-- of a stream whose header is well formed
abbrev pub said_of : List ℕ → KnownHeader
said_of s = record { size = record { width = width_of s; height = height_of s }; format = format_in s }

abbrev pub header_known : List ℕ → List ℕ → Result KnownHeader YuvError
header_known known s = cond (is_known known s) (Ok (said_of s)) (Err UnknownStream)

-- of any stream: nothing is told of a header that meets 16 or 17
abbrev pub header_said : List ℕ → List ℕ → Option KnownHeader
header_said known s = cond (is_header s && is_known known s) (Some (said_of s)) None

-- ---- a frame

-- 16 of a place: the stream's end, or where the samples of its frame begin
abbrev pub samples_at : List ℕ → ℕ → Result (Option ℕ) YuvError
samples_at s place = cond (is_place s place) (Ok (cond (ends_at s place) None (Some (samples_begin s place)))) (Err MalformedStream)

-- where the planes of a frame begin and end whose samples begin at a place
abbrev pub places_of : ℕ → ℕ → YuvChromaSubsampling → ℕ → ℕ → Places
places_of e at sampling width height = record {
  y = at;
  u = u_begin e at width height;
  v = v_begin e at sampling width height;
  end = frame_end e at sampling width height;
}

-- 18 and 7 to 12 of samples that begin at a place
abbrev pub samples_questions : ℕ → List ℕ → ℕ → KnownHeader → Strides → Lengths → List Question
samples_questions e s at h t l =
    ask 18 (leb (frame_end e at h.format.sampling h.size.width h.size.height) (length s))
    ∷ constraints h.format.sampling (lent_image h.size.width h.size.height t) l

-- the frame whose samples begin at a place
abbrev pub frame_in : ℕ → ℕ → KnownHeader → Frame
frame_in e at h = record { header = h; places = places_of e at h.format.sampling h.size.width h.size.height }

-- the frame at a place; at the stream's end there is none
abbrev pub frame_at : ℕ → List ℕ → ℕ → Option Frame
frame_at e s place = cond (ends_at s place) None (Some (frame_in e (samples_begin s place) (said_of s)))

-- the frame, or the error of the first question that gets a "no"
unfoldable pub judged_frame : ℕ → List ℕ → ℕ → Strides → Lengths → Result (Option Frame) YuvError
judged_frame e s place t l = giving (asked (frame_questions e s place t l)) (frame_at e s place)
