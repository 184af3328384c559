-- Document 01, "Questions to every conversion", and document 02, slips 1, 4 and 5: questions 1 to 14 and 19, the verdict, and the two readers.
-- Definitions only.
use Rattle.std.specs.Prelude.{ℕ, ◌+◌, ◌-◌, ◌*◌, ◌%◌, Bool, cond, ◌&&◌, ◌||◌, List, [], ◌∷◌, ◌++◌, eqb, leb, ltb, take, drop}
use Rattle.yuv_support.specs.declared.YuvChromaSubsampling.{YuvChromaSubsampling}
use Rattle.yuv_support.specs.declared.Codes.{Codes}
use Rattle.yuv_support.specs.declared.Settings.{Settings}
use Rattle.yuv_support.specs.declared.Geometry.{Geometry}
use Rattle.yuv_support.specs.Settings.{sampling_of, order_of, range_of, matrix_of, packing_of, last_packing, mode_of, among}
use Rattle.yuv_support.specs.Coefficients.{usable}
use Rattle.yuv_support.specs.Blend.{chroma_width, chroma_height, near_row}
use Rattle.yuv_support.specs.Picture.{channels_of}

-- a question of a call: does it hold, its number, and the expected and received that its "no" names
pub record Question : Type 0 where
  pub holds : Bool
  pub number : ℕ
  pub expected : ℕ
  pub received : ℕ

pub record Verdict : Type 0 where
  pub number : ℕ
  pub expected : ℕ
  pub received : ℕ

abbrev pub accepted : Verdict
accepted = record { number = 0; expected = 0; received = 0 }

-- a "no" that names no sizes
abbrev pub refused : ℕ → Verdict
refused number = record { number = number; expected = 0; received = 0 }

-- the first "no", else 0, 0, 0
unfoldable pub verdict : List Question → Verdict
verdict [] = accepted
verdict (q ∷ qs) =
    cond q.holds (verdict qs) (record { number = q.number; expected = q.expected; received = q.received })

-- expected and received are 0 unless named
abbrev pub ask : ℕ → Bool → Question
ask number holds = record { holds = holds; number = number; expected = 0; received = 0 }

-- is what was received at least what is needed?
abbrev pub at_least : ℕ → ℕ → ℕ → Question
at_least number needed received = record { holds = leb needed received; number = number; expected = needed; received = received }

-- ---- what a conversion is asked with: codes and weights, sides, strides, and the lengths of the four buffers

-- a buffer as the questions see it
pub record Extent : Type 0 where
  pub length : ℕ
  pub stride : ℕ

abbrev pub extent : ℕ → ℕ → Extent
extent length stride = record { length = length; stride = stride }

pub record Request : Type 0 where
  pub codes : Codes
  pub image : Geometry
  pub y_length : ℕ
  pub u_length : ℕ
  pub v_length : ℕ
  pub rgb : Extent

-- the settings that the codes stand for
abbrev pub decoded : Codes → Settings
decoded c = record {
  depth = c.depth;
  sampling = sampling_of c.sampling;
  order = order_of c.order;
  range = range_of c.range;
  matrix = matrix_of c.matrix c.kr c.kb;
  packing = packing_of c.packing;
  mode = mode_of c.mode;
}

-- ---- the questions

-- 1
abbrev pub sampling_known : ℕ → Question
sampling_known sampling = ask 1 (leb sampling 1)

-- 2; which depths are known is a matter of the element's width
abbrev pub codes_known : Bool → Codes → Question
codes_known depth_known c =
    ask 2 (leb c.order 3 && (leb c.range 1 && (leb c.matrix 6 && (leb c.packing (last_packing c.depth) && (leb c.mode 1 && depth_known)))))

-- 3 and 4
abbrev pub sides : ℕ → ℕ → List Question
sides width height =
    ask 3 (leb 1 width && leb 1 height) ∷ ask 4 (leb width 16384 && leb height 16384) ∷ []

-- the form of 5: the elements that rows of n need, at a stride
abbrev pub needed : ℕ → ℕ → ℕ → ℕ
needed stride n height = stride * (height - 1) + n

-- 5 and 6, n being width·channels
abbrev pub destination : Extent → ℕ → ℕ → List Question
destination e n height =
    at_least 5 (needed e.stride n height) e.length ∷ at_least 6 n e.stride ∷ []

-- 7 and 8 of luma, 9 and 10 of U, 11 and 12 of V: the stride (which names width·height and stride·height), then the length
abbrev pub plane : ℕ → Extent → ℕ → ℕ → List Question
plane number e width height =
    record { holds = leb width e.stride; number = number; expected = width * height; received = e.stride * height }
    ∷ at_least (number + 1) (needed e.stride width height) e.length ∷ []

abbrev pub chroma_planes : YuvChromaSubsampling → ℕ → ℕ → Extent → Extent → List Question
chroma_planes s width height u v =
    plane 9 u (chroma_width width) (chroma_height s height) ++ plane 11 v (chroma_width width) (chroma_height s height)

-- 13
abbrev pub weights_usable : Settings → Question
weights_usable s = ask 13 (usable s)

-- 14
abbrev pub row_below : ℕ → ℕ → Question
row_below row height = ask 14 (ltb row height)

-- 19: a band's first row is not above the height, and is even or the height itself
abbrev pub first_row_usable : ℕ → ℕ → Question
first_row_usable first height = ask 19 (leb first height && (eqb (first % 2) 0 || eqb first height))

-- ---- who is asked what

-- a conversion: 1 to 13
unfoldable pub questions_of : Bool → Request → List Question
questions_of depth_known q =
    let s = decoded q.codes in
    let i = q.image in
    sampling_known q.codes.sampling
    ∷ codes_known depth_known q.codes
    ∷ (sides i.width i.height
    ++ destination q.rgb (i.width * channels_of s.order) i.height
    ++ plane 7 (extent q.y_length i.y_stride) i.width i.height
    ++ chroma_planes s.sampling i.width i.height (extent q.u_length i.u_stride) (extent q.v_length i.v_stride)
    ++ weights_usable s ∷ [])

-- the same, `known` being the depths of the element's width
abbrev pub conversion_questions : List ℕ → Request → List Question
conversion_questions known q = questions_of (among q.codes.depth known) q

-- a band of rows: those of the whole picture, then 19
abbrev pub band_questions : List Question → ℕ → ℕ → List Question
band_questions asked first height = asked ++ first_row_usable first height ∷ []

-- the settings used: the questions that concern the codes alone, 1, 2 and 13
unfoldable pub settings_questions : Bool → Codes → List Question
settings_questions depth_known c = sampling_known c.sampling ∷ codes_known depth_known c ∷ weights_usable (decoded c) ∷ []

-- the finished row: 2 for the order code, 3 to 6, then 14
unfoldable pub row_questions : ℕ → ℕ → ℕ → Extent → ℕ → List Question
row_questions order width height rgb row =
    ask 2 (leb order 3)
    ∷ (sides width height
    ++ destination rgb (width * channels_of (order_of order)) height
    ++ row_below row height ∷ [])

-- the near chroma row: 1, 2 for the code of the plane wanted, 3, 4, 9 to 12 of both planes, then 14
unfoldable pub chroma_row_questions : ℕ → ℕ → ℕ → ℕ → Extent → Extent → ℕ → List Question
chroma_row_questions sampling wanted width height u v row =
    sampling_known sampling
    ∷ ask 2 (leb wanted 1)
    ∷ (sides width height
    ++ chroma_planes (sampling_of sampling) width height u v
    ++ row_below row height ∷ [])

-- ---- the parts that the readers hand back; on a "no" the part is empty

-- n elements of a buffer from the begin of a row on
abbrev pub part_of : {X : Type 0} → ℕ → ℕ → ℕ → List X → List X
part_of stride row n buffer = take n (drop (stride * row) buffer)

unfoldable pub finished_row : {X : Type 0} → ℕ → ℕ → ℕ → ℕ → List X → List X
finished_row order width stride row rgb = part_of stride row (width * channels_of (order_of order)) rgb

unfoldable pub near_chroma_row : {X : Type 0} → ℕ → ℕ → ℕ → ℕ → ℕ → List X → List X
near_chroma_row sampling width height stride row plane =
    part_of stride (near_row (sampling_of sampling) height row) (chroma_width width) plane
