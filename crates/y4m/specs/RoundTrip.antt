-- Document 02, slip 2: "a writer whose frames the reader turns back into the same samples", by the definitions that the entries' promises cite.
-- Definitions only.
use Rattle.std.specs.Prelude.{◌≡◌, List, [], ◌∷◌, ◌++◌, ℕ, ◌+◌, ◌*◌, ◌≤◌, T, length, take, get_or}
use Rattle.yuv_support.specs.declared.Geometry.{Geometry}
use Rattle.yuv_support.specs.Settings.{among, sampling_of}
use Rattle.yuv_support.specs.Blend.{chroma_width, chroma_height}
use Rattle.yuv_support.specs.Picture.{painted}
use Rattle.yuv_support.specs.Questions.{verdict}
use Rattle.images.specs.declared.Lengths.{Lengths}
use Rattle.images.specs.Request.{constraints}
use Rattle.y4m_frames.specs.declared.Strides.{Strides}
use Rattle.y4m_frames.specs.Stream.{depths_of, frame_begin}
use Rattle.y4m_frames.specs.Questions.{lengths_of, lent_image, frame_answer}
use Rattle.y4m.specs.Reading.{frame_told, y_after, u_after, v_after}
use Rattle.y4m.specs.Writing.{header_written, after_header, write_header_answer, frame_written, after_frame, write_frame_answer}

-- what a call for a frame was given: the planes with their strides, and the output
pub record FrameCall : Type 0 where
  pub y_stride : ℕ
  pub u_stride : ℕ
  pub v_stride : ℕ
  pub y : List ℕ
  pub u : List ℕ
  pub v : List ℕ
  pub out : List ℕ

-- one stream: its element, sampling, depth and sides, and the output of the header's call
module _ (e : ℕ) (sampling depth width height : ℕ) (out : List ℕ) where
  abbrev pub call_image : FrameCall → Geometry
  call_image c = record {
    width = width;
    height = height;
    y_stride = c.y_stride;
    u_stride = c.u_stride;
    v_stride = c.v_stride;
  }

  abbrev pub call_lengths : FrameCall → Lengths
  call_lengths c = lengths_of c.y c.u c.v

  -- the bytes that the header's call wrote, and those of a frame's call
  unfoldable pub header_part : List ℕ
  header_part = take (header_written sampling depth width height (length out)).written (after_header sampling depth width height out)

  unfoldable pub frame_part : FrameCall → List ℕ
  frame_part c =
      take (frame_written e sampling depth (call_image c) (call_lengths c) (length c.out)).written
      (after_frame e sampling depth (call_image c) (call_lengths c) c.y c.u c.v c.out)

  -- those of some calls, one after the other
  unfoldable pub frame_parts : List FrameCall → List ℕ
  frame_parts [] = []
  frame_parts (c ∷ cs) = frame_part c ++ frame_parts cs

  -- every one of them was accepted
  abbrev pub AllAccepted : List FrameCall → Type 0
  AllAccepted [] = Unit {0}
  AllAccepted (c ∷ cs) = ((write_frame_answer e sampling depth (call_image c) (call_lengths c) (length c.out)).number ≡ 0) × AllAccepted cs

  -- a plane that has, at its rows and columns, the samples of another
  abbrev pub with_samples : List ℕ → ℕ → ℕ → ℕ → ℕ → List ℕ → List ℕ
  with_samples from from_stride columns rows stride old = painted (λ r x. get_or from (from_stride * r + x) 0) stride columns 0 rows old

  -- the sides, the sampling and the depth that a reading call tells
  pub record SameFormat (s : List ℕ) (place : ℕ) (t : Strides) (l : Lengths) : Type 0 where
    pub told_width : (frame_told e s place t l).width ≡ width
    pub told_height : (frame_told e s place t l).height ≡ height
    pub told_sampling : (frame_told e s place t l).sampling ≡ sampling
    pub told_depth : (frame_told e s place t l).depth ≡ depth

  -- what a reading call finds of a frame's call c, whose frame ends at `end` in the stream s
  pub record FoundAgain (s : List ℕ) (c : FrameCall) (end place : ℕ) (t : Strides) (y u v : List ℕ) : Type 0 where
    pub same : SameFormat s place t (lengths_of y u v)
    -- only the lent planes are judged
    pub judged : let l = lengths_of y u v in
        frame_answer e s place t l
        ≡ verdict (constraints (sampling_of sampling) (lent_image width height t) l)
    -- accepted, the frame is read: the place told is its end, and the planes have c's samples
    pub read : let l = lengths_of y u v in (frame_answer e s place t l).number ≡ 0 →
        ((frame_told e s place t l).found ≡ 1)
        × ((frame_told e s place t l).next ≡ end)
        × (y_after e s place t l y ≡ with_samples c.y c.y_stride width height t.y y)
        × (u_after e s place t l u ≡ with_samples c.u c.u_stride (chroma_width width) (chroma_height (sampling_of sampling) height) t.u u)
        × (v_after e s place t l v ≡ with_samples c.v c.v_stride (chroma_width width) (chroma_height (sampling_of sampling) height) t.v v)

  -- after the last frame: accepted, nothing found, nothing changed
  pub record NoFurther (s : List ℕ) (place : ℕ) (t : Strides) (y u v : List ℕ) : Type 0 where
    pub same : SameFormat s place t (lengths_of y u v)
    pub answer : frame_answer e s place t (lengths_of y u v) ≡ verdict []
    pub not_found : (frame_told e s place t (lengths_of y u v)).found ≡ 0
    pub next : (frame_told e s place t (lengths_of y u v)).next ≡ place
    pub y_kept : y_after e s place t (lengths_of y u v) y ≡ y
    pub u_kept : u_after e s place t (lengths_of y u v) u ≡ u
    pub v_kept : v_after e s place t (lengths_of y u v) v ≡ v

  -- the stream that the calls wrote, and where the frame after some of them begins
  abbrev pub written : List FrameCall → List ℕ
  written calls = header_part ++ frame_parts calls

  abbrev pub begins : List FrameCall → ℕ
  begins calls = length (written calls)

  -- each frame is found again at the end of those before it, and after the last there is none
  pub record ReadBack (calls : List FrameCall) : Type 0 where
    -- 0 stands for the first frame's place, and a place told may be given
    pub start : frame_begin (written calls) 0 ≡ begins []
    pub places : (first : List FrameCall) → frame_begin (written calls) (begins first) ≡ begins first
    pub frames : (first : List FrameCall) (c : FrameCall) (rest : List FrameCall) → calls ≡ first ++ c ∷ rest
        → (place : ℕ) (t : Strides) (y u v : List ℕ) → frame_begin (written calls) place ≡ begins first
        → FoundAgain (written calls) c (begins (first ++ c ∷ [])) place t y u v
    pub last : (place : ℕ) (t : Strides) (y u v : List ℕ) → frame_begin (written calls) place ≡ begins calls
        → NoFurther (written calls) place t y u v

-- the theorem; a sample has some bytes, e, and the stream's depth is one of those that such samples have
abbrev pub WrittenIsReadBack : Type 0
WrittenIsReadBack =
    (e : ℕ) (sampling depth width height : ℕ) (out : List ℕ) (calls : List FrameCall)
    → 1 ≤ e
    → T (among depth (depths_of e))
    → (write_header_answer sampling depth width height (length out)).number ≡ 0
    → AllAccepted e sampling depth width height out calls
    → ReadBack e sampling depth width height out calls
