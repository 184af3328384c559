-- The questions of a lent picture are those of the numbers of its samples; what a band that they let through gives the rows, and what a
-- refused one leaves.
-- Assumes nothing.
use Rattle.std.proofs.Common.{◌≡◌, ℕ, List, map, length, sym, ◌∙◌, refl, T}
use borrow.Author.Tests.{eqb-false}
use Rattle.yuv_support.specs.declared.Codes.{Codes}
use Rattle.yuv_support.specs.declared.Settings.{Settings}
use Rattle.yuv_support.specs.Settings.{among, depths}
use Rattle.yuv_support.specs.Blend.{Frame}
use Rattle.yuv_support.specs.Counts.{unclipped}
use Rattle.yuv_support.specs.Distance.{WithinDepth}
use Rattle.yuv_support.specs.Questions.{Verdict, accepted, decoded, verdict, questions_of, band_questions}
use Rattle.yuv_support.specs.Conversion.{answer_to_band}
use Rattle.yuv_support.specs.Bands.{SameAsWhole}
use Rattle.yuv_support.proofs.Bands.{whole_as_band, refused_keeps}
use Rattle.images.specs.Request.{request_of}
use Rattle.images.specs.declared.picture.YuvPlanarImage.{YuvPlanarImage}
use Rattle.images.specs.Lent.{geometry, lengths_with}
use Rattle.kernel.specs.Lent.{frame}
use Rattle.kernel.proofs.Accepted.{AcceptedBand, FinishedBand, accepted_gives, accepted_finishes, whole_demand3}
use Rattle.sample.proofs.Numbers.{numbers_length}
use Rattle.yuv_error.specs.declared.error.YuvError.{YuvError}
use Rattle.yuv_error.specs.Told.{told}
use Rattle.yuv_error.proofs.Refused.{refused_number}
use Rattle.yuv_to_rgba_bilinear.specs.Lent.{band_answer_of, rows_of_band, clipped_of_band, finished_band, FaithfulRows, FaithfulPicture}

module _ {X : Type 0} {number : X → ℕ} {numbers : List X → List ℕ} (are : (xs : List X) → numbers xs ≡ map number xs)
    (known : List ℕ) (codes : Codes) (image : YuvPlanarImage X) (stride : ℕ) (rgb : List X) (first : ℕ) where
  -- the answer of `check_band`
  abbrev pub asks : Verdict
  asks =
      verdict (band_questions (questions_of (among codes.depth known) (request_of codes (geometry image) (lengths_with image (length rgb)) stride)) first image.height)

  pub band_told : asks ≡ band_answer_of numbers known codes image stride rgb first
  unfolding answer_to_band
  band_told =
      rw (numbers_length are image.y_plane.now, numbers_length are image.u_plane.now, numbers_length are image.v_plane.now, numbers_length are rgb) refl

  module _ (within : (d : ℕ) → T (among d known) → T (among d depths)) (e : accepted ≡ asks) where
    pub band_gives : AcceptedBand known within codes (geometry image) (numbers image.y_plane.now) (numbers image.u_plane.now) (numbers image.v_plane.now) stride (numbers rgb) first
    band_gives = accepted_gives known within codes (geometry image) _ _ _ stride (numbers rgb) first (e ∙ band_told)

    pub band_finishes : (asked : Settings → Frame → Type 0)
        → (T (among codes.depth known) → asked (decoded codes) (frame numbers image) → WithinDepth (decoded codes) (frame numbers image))
        → (limit : ℕ) → FinishedBand known within codes (geometry image) (numbers image.y_plane.now) (numbers image.u_plane.now) (numbers image.v_plane.now) stride (numbers rgb) first asked limit
    band_finishes = accepted_finishes known within codes (geometry image) _ _ _ stride (numbers rgb) first (e ∙ band_told)

  -- a call whose answer is an error writes no row, clips nothing, and keeps the destination
  pub record Refused (error : YuvError) (limit : ℕ) : Type 1 where
    pub answer : told error ≡ band_answer_of numbers known codes image stride rgb first
    pub rows : 0 ≡ rows_of_band numbers known codes image stride rgb first limit
    pub counts : unclipped ≡ clipped_of_band numbers known codes image stride rgb first limit
    pub destination : numbers rgb ≡ finished_band numbers known codes image stride rgb first limit
    pub faithful : (asked : Settings → Frame → Type 0) → FaithfulRows asked numbers known codes image stride rgb first limit rgb

  pub band_refused : (error : YuvError) → told error ≡ asks → (limit : ℕ) → Refused error limit
  band_refused error t limit =
      let e = t ∙ band_told in
      let refused : (answer_to_band known codes (geometry image) (numbers image.y_plane.now) (numbers image.u_plane.now) (numbers image.v_plane.now) stride (numbers rgb) first).number ≡ 0 → ⊥ = λ z. eqb-false (told error).number 0 (refused_number error) (rw e z) in
      let k = refused_keeps known codes (geometry image) (numbers image.y_plane.now) (numbers image.u_plane.now) (numbers image.v_plane.now) stride (numbers rgb) first limit refused in
      record {
        answer = e;
        rows = sym k.rows;
        counts = sym k.clipped;
        destination = sym k.destination;
        faithful = λ asked z. absurd (refused z);
      }

-- the whole picture is the band from row 0 with the height as limit
module _ {X : Type 0} (numbers : List X → List ℕ) (known : List ℕ) (codes : Codes) (image : YuvPlanarImage X) (stride : ℕ) (rgb : List X) where
  pub whole_told : SameAsWhole known codes (geometry image) (numbers image.y_plane.now) (numbers image.u_plane.now) (numbers image.v_plane.now) stride (numbers rgb)
  whole_told = whole_as_band known codes (geometry image) _ _ _ stride (numbers rgb)

  pub whole_faithful : (asked : Settings → Frame → Type 0) {out : List X}
      → FaithfulRows asked numbers known codes image stride rgb 0 image.height out → FaithfulPicture asked numbers known codes image stride rgb out
  whole_faithful asked h = whole_demand3 known codes (geometry image) _ _ _ stride (numbers rgb) asked _ h
