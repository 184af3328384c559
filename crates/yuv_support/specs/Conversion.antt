-- What a conversion answers and leaves: the promise of the public entries, from the codes, the image, and planes and destination as they
-- stood before the call. Document 01, "The words of demand 3" and "Questions to every conversion", and document 02, slip 5.
-- Definitions only.
use Rattle.std.specs.Prelude.{◌≡◌, cond, List, ℕ, ◌+◌, ◌≤◌, ◌<◌, T, eqb, length, get_or}
use Rattle.yuv_support.specs.declared.Codes.{Codes}
use Rattle.yuv_support.specs.declared.Clipped.{Clipped}
use Rattle.yuv_support.specs.declared.Settings.{Settings}
use Rattle.yuv_support.specs.declared.Geometry.{Geometry}
use Rattle.yuv_support.specs.Blend.{Frame, frame_of}
use Rattle.yuv_support.specs.Picture.{band, band_rows, picture, pixel_of, pixel_in, OfNoPixel}
use Rattle.yuv_support.specs.Counts.{clipped_in, unclipped}
use Rattle.yuv_support.specs.Questions.{Verdict, Request, extent, verdict, decoded, conversion_questions, band_questions}
use Rattle.yuv_support.specs.Distance.{measured, FaithfulBand}

abbrev pub request_for : Codes → Geometry → List ℕ → List ℕ → List ℕ → ℕ → List ℕ → Request
request_for codes image y u v stride rgb = record {
  codes = codes;
  image = image;
  y_length = length y;
  u_length = length u;
  v_length = length v;
  rgb = extent (length rgb) stride;
}

-- the answer: the first "no" of questions 1 to 13, `known` being the depths of the element's width; else 0, 0, 0
unfoldable pub answer_to : List ℕ → Codes → Geometry → List ℕ → List ℕ → List ℕ → ℕ → List ℕ → Verdict
answer_to known codes image y u v stride rgb = verdict (conversion_questions known (request_for codes image y u v stride rgb))

-- the destination: the finished picture where the call is accepted, and else unchanged
unfoldable pub destination_after : List ℕ → Codes → Geometry → List ℕ → List ℕ → List ℕ → ℕ → List ℕ → List ℕ
destination_after known codes image y u v stride rgb =
    cond (eqb (answer_to known codes image y u v stride rgb).number 0) (picture (decoded codes) (frame_of image y u v) stride rgb) rgb

-- what was clipped: in all rows where the call is accepted, and else nothing
unfoldable pub clipped_after : List ℕ → Codes → Geometry → List ℕ → List ℕ → List ℕ → ℕ → List ℕ → Clipped
clipped_after known codes image y u v stride rgb =
    cond (eqb (answer_to known codes image y u v stride rgb).number 0) (clipped_in (decoded codes) (frame_of image y u v) 0 image.height) unclipped

-- demand 3 of the finished destination `out`, one claim of the `count` rows from row `first` on: planes and destination `rgb` are as they
-- stood before the call, and `Asked` is what part 3 asks of the samples
pub record Demand3 (Asked : Settings → Frame → Type 0) (s : Settings) (f : Frame) (stride first count : ℕ) (rgb out : List ℕ) : Type 0 where
  -- 1. every pixel of these rows holds its three components and the opaque alpha, whatever the matrix and the samples
  pub pixels : (row column : ℕ) → first ≤ row → row < first + count → column < f.width → pixel_in s out stride row column ≡ pixel_of s f row column
  -- 2. all else is kept: every element that belongs to no pixel of these rows, and the length
  pub kept : (j : ℕ) → OfNoPixel s f stride first count j → get_or out j 0 ≡ get_or rgb j 0
  pub same_length : length out ≡ length rgb
  -- 3. in a measured setting every component of every pixel of these rows lies less than the depth's bound from its exact equation
  pub distance : T (measured s) → Asked s f → FaithfulBand s f stride first count out

-- it holds of all rows whenever the call is accepted
abbrev pub Demand3After : (Settings → Frame → Type 0) → List ℕ → Codes → Geometry → List ℕ → List ℕ → List ℕ → ℕ → List ℕ → List ℕ → Type 0
Demand3After Asked known codes image y u v stride rgb out =
    (answer_to known codes image y u v stride rgb).number ≡ 0
    → Demand3 Asked (decoded codes) (frame_of image y u v) stride 0 image.height rgb out

-- ---- a band: the same of the rows from row `first` on, at most `limit` of them. The whole conversion is the band from row 0 with the height
-- as limit (Bands).

-- the answer: the first "no" of questions 1 to 13 and 19
unfoldable pub answer_to_band : List ℕ → Codes → Geometry → List ℕ → List ℕ → List ℕ → ℕ → List ℕ → ℕ → Verdict
answer_to_band known codes image y u v stride rgb first =
    verdict (band_questions (conversion_questions known (request_for codes image y u v stride rgb)) first image.height)

-- how many rows are written: the band's where the call is accepted, and else none
unfoldable pub rows_after : List ℕ → Codes → Geometry → List ℕ → List ℕ → List ℕ → ℕ → List ℕ → ℕ → ℕ → ℕ
rows_after known codes image y u v stride rgb first limit =
    cond (eqb (answer_to_band known codes image y u v stride rgb first).number 0) (band_rows image.height first limit) 0

-- the destination: the pixels of the rows written, and all else as it was
unfoldable pub destination_after_band : List ℕ → Codes → Geometry → List ℕ → List ℕ → List ℕ → ℕ → List ℕ → ℕ → ℕ → List ℕ
destination_after_band known codes image y u v stride rgb first limit =
    band (decoded codes) (frame_of image y u v) stride first (rows_after known codes image y u v stride rgb first limit) rgb

-- what was clipped in the rows written
unfoldable pub clipped_after_band : List ℕ → Codes → Geometry → List ℕ → List ℕ → List ℕ → ℕ → List ℕ → ℕ → ℕ → Clipped
clipped_after_band known codes image y u v stride rgb first limit =
    clipped_in (decoded codes) (frame_of image y u v) first (rows_after known codes image y u v stride rgb first limit)

-- demand 3 holds of the band's rows whenever the call is accepted
abbrev pub Demand3AfterBand : (Settings → Frame → Type 0) → List ℕ → Codes → Geometry → List ℕ → List ℕ → List ℕ → ℕ → List ℕ → ℕ → ℕ → List ℕ → Type 0
Demand3AfterBand Asked known codes image y u v stride rgb first limit out =
    (answer_to_band known codes image y u v stride rgb first).number ≡ 0
    → Demand3 Asked (decoded codes) (frame_of image y u v) stride first (band_rows image.height first limit) rgb out
