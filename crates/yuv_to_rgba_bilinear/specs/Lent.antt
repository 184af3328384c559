-- The promise of a conversion (yuv_support, Conversion), of a picture and a destination as they are lent: `numbers` gives the numbers that a
-- list of samples is, and `known` the depths of the element's width.
-- Definitions only.
use Rattle.std.specs.Prelude.{ℕ, List}
use Rattle.yuv_support.specs.declared.Clipped.{Clipped}
use Rattle.yuv_support.specs.declared.Codes.{Codes}
use Rattle.yuv_support.specs.declared.Settings.{Settings}
use Rattle.yuv_support.specs.Blend.{Frame}
use Rattle.yuv_support.specs.Questions.{Verdict}
use Rattle.yuv_support.specs.Conversion.{answer_to, clipped_after, destination_after, Demand3After, answer_to_band, rows_after, clipped_after_band, destination_after_band, Demand3AfterBand}
use Rattle.images.specs.declared.picture.YuvPlanarImage.{YuvPlanarImage}
use Rattle.images.specs.Lent.{geometry}

module _ {X : Type 0} (numbers : List X → List ℕ) (known : List ℕ) (codes : Codes) (image : YuvPlanarImage X) (stride : ℕ) (rgb : List X) where
  -- of the whole picture: the answer, what was clipped, and what the destination holds
  abbrev pub answer_of : Verdict
  answer_of = answer_to known codes (geometry image) (numbers image.y_plane.now) (numbers image.u_plane.now) (numbers image.v_plane.now) stride (numbers rgb)

  abbrev pub clipped_of_picture : Clipped
  clipped_of_picture = clipped_after known codes (geometry image) (numbers image.y_plane.now) (numbers image.u_plane.now) (numbers image.v_plane.now) stride (numbers rgb)

  abbrev pub finished_picture : List ℕ
  finished_picture = destination_after known codes (geometry image) (numbers image.y_plane.now) (numbers image.u_plane.now) (numbers image.v_plane.now) stride (numbers rgb)

  -- of a band from row `first` on, at most `limit` rows, also how many rows are written
  abbrev pub band_answer_of : ℕ → Verdict
  band_answer_of first = answer_to_band known codes (geometry image) (numbers image.y_plane.now) (numbers image.u_plane.now) (numbers image.v_plane.now) stride (numbers rgb) first

  abbrev pub rows_of_band : ℕ → ℕ → ℕ
  rows_of_band = rows_after known codes (geometry image) (numbers image.y_plane.now) (numbers image.u_plane.now) (numbers image.v_plane.now) stride (numbers rgb)

  abbrev pub clipped_of_band : ℕ → ℕ → Clipped
  clipped_of_band = clipped_after_band known codes (geometry image) (numbers image.y_plane.now) (numbers image.u_plane.now) (numbers image.v_plane.now) stride (numbers rgb)

  abbrev pub finished_band : ℕ → ℕ → List ℕ
  finished_band = destination_after_band known codes (geometry image) (numbers image.y_plane.now) (numbers image.u_plane.now) (numbers image.v_plane.now) stride (numbers rgb)

-- demand 3 of the finished destination `out`; `asked` is what part 3 asks of the samples
module _ (asked : Settings → Frame → Type 0) {X : Type 0} (numbers : List X → List ℕ) (known : List ℕ) (codes : Codes) (image : YuvPlanarImage X) (stride : ℕ) (rgb : List X) where
  abbrev pub FaithfulPicture : List X → Type 0
  FaithfulPicture out =
      Demand3After asked known codes (geometry image) (numbers image.y_plane.now) (numbers image.u_plane.now) (numbers image.v_plane.now) stride (numbers rgb) (numbers out)

  abbrev pub FaithfulRows : ℕ → ℕ → List X → Type 0
  FaithfulRows first limit out =
      Demand3AfterBand asked known codes (geometry image) (numbers image.y_plane.now) (numbers image.u_plane.now) (numbers image.v_plane.now) stride (numbers rgb) first limit (numbers out)
