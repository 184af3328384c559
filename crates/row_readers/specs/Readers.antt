-- Document 01, "Two added readers": what each reader answers, the part that it hands back, of a buffer of any elements, and where that part
-- lies in its buffer.
-- Definitions only.
use Rattle.std.specs.Prelude.{ℕ, ◌*◌, cond, List, [], eqb, length}
use Rattle.yuv_support.specs.Settings.{sampling_of, order_of}
use Rattle.yuv_support.specs.Blend.{chroma_width, near_row}
use Rattle.yuv_support.specs.Picture.{channels_of}
use Rattle.yuv_support.specs.Questions.{Verdict, Extent, extent, verdict, row_questions, chroma_row_questions, finished_row, near_chroma_row}
use Rattle.sample.specs.declared.plane.Plane.{Plane}
use Rattle.row_readers.specs.declared.Part.{Part}

-- a buffer as the questions see it
abbrev pub extent_of : {X : Type 0} → List X → ℕ → Extent
extent_of buffer stride = extent (length buffer) stride

abbrev pub lent : {X : Type 0} → Plane X → Extent
lent p = extent_of p.elements.now p.stride

-- what comes back: the part, or nothing on a "no"
abbrev pub handed : {X : Type 0} → Verdict → List X → List X
handed v part = cond (eqb v.number 0) part []

-- the same without the buffer: the verdict, then where the part starts and how long it is, both 0 on a "no"
abbrev pub placed : Verdict → ℕ → ℕ → Part
placed v start n = record {
  number = v.number;
  expected = v.expected;
  received = v.received;
  start = cond (eqb v.number 0) start 0;
  length = cond (eqb v.number 0) n 0;
}

-- ---- the finished row

abbrev pub row_answer : ℕ → ℕ → ℕ → Extent → ℕ → Verdict
row_answer order width height rgb row = verdict (row_questions order width height rgb row)

unfoldable pub row_part : {X : Type 0} → ℕ → ℕ → ℕ → List X → ℕ → ℕ → List X
row_part order width height rgb stride row =
    handed (row_answer order width height (extent_of rgb stride) row) (finished_row order width stride row rgb)

unfoldable pub row_place : ℕ → ℕ → ℕ → Extent → ℕ → Part
row_place order width height rgb row =
    placed (row_answer order width height rgb row) (rgb.stride * row) (width * channels_of (order_of order))

-- ---- the near chroma row

-- by the code of the plane wanted: 0 is U, 1 is V
abbrev pub wanted : {A : Type 0} → ℕ → A → A → A
wanted plane u v = cond (eqb plane 0) u v

abbrev pub chroma_row_answer : ℕ → ℕ → ℕ → ℕ → Extent → Extent → ℕ → Verdict
chroma_row_answer sampling plane width height u v row = verdict (chroma_row_questions sampling plane width height u v row)

unfoldable pub chroma_row_part : {X : Type 0} → ℕ → ℕ → ℕ → ℕ → List X → ℕ → List X → ℕ → ℕ → List X
chroma_row_part sampling plane width height u u_stride v v_stride row =
    handed (chroma_row_answer sampling plane width height (extent_of u u_stride) (extent_of v v_stride) row)
    (near_chroma_row sampling width height (wanted plane u_stride v_stride) row (wanted plane u v))

unfoldable pub chroma_row_place : ℕ → ℕ → ℕ → ℕ → Extent → Extent → ℕ → Part
chroma_row_place sampling plane width height u v row =
    placed (chroma_row_answer sampling plane width height u v row)
    (wanted plane u.stride v.stride * near_row (sampling_of sampling) height row)
    (chroma_width width)
