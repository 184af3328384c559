-- How many rows a band has (`rowed`), and what follows for calls one after the other: what they leave is the band from row 0 to the next first
-- row (`Joined`), whatever the limits, and each call with a limit of 2 or more goes 2 rows further or to the height.
-- Assumes nothing.
use mathlib.Core.Path.{◌≡◌, refl, sym, ap, ◌∙◌}
use mathlib.Core.Logic.{◌⊎◌, inl, inr}
use mathlib.Core.Bool.{Bool, true, false, cond, or-true}
use mathlib.Core.List.{List, [], ◌∷◌}
use Prim.Native.Nat.{ℕ, ◌+◌, ◌-◌, ◌*◌, ◌/◌, ◌%◌, ◌≤◌, min}
use native.Mathlib.Omega.{arith}
use borrow.Author.Tests.{eqb-true, eqb-false, eq-eqb, ne_eqb, le-leb}
use lib.Dec.{eqb}
use lib.ListN.{length}
use Rattle.yuv_support.specs.declared.Codes.{Codes}
use Rattle.yuv_support.specs.declared.Geometry.{Geometry}
use Rattle.yuv_support.specs.Blend.{frame_of}
use Rattle.yuv_support.specs.Picture.{band, band_rows, picture}
use Rattle.yuv_support.specs.Counts.{clipped_in}
use Rattle.yuv_support.specs.Questions.{Verdict, verdict, accepted, decoded, first_row_usable, questions_of, conversion_questions}
use Rattle.yuv_support.specs.Conversion.{request_for, answer_to, destination_after, clipped_after, answer_to_band, rows_after, destination_after_band, clipped_after_band}
use Rattle.yuv_support.specs.Bands.{Progress, begun, TwoOrMore, further, after_calls, SameAsWhole, BandsFinish, WholeAsBand, BandsTogether, RefusedKeeps}
use Rattle.yuv_support.proofs.Picture.{band_length, no_band, band_join}
use Rattle.yuv_support.proofs.Counts.{bands_add, band_none}
use Rattle.yuv_support.proofs.Questions.{each_holds, all_hold_accepted, verdict_append_accepted, verdict_append_refused}
use Rattle.yuv_support.proofs.Conversion.{FirstRow}

-- ---- the rows of a band

-- the row after the band is a first row again, and with a limit of 2 or more it is the height or 2 rows further
pub record Rowed (height first limit n : ℕ) : Type 0 where
  pub after : FirstRow (first + n) height
  pub further_by_2 : 2 ≤ limit → (first + n ≡ height) ⊎ (2 ≤ n)

pub rowed : (height first limit : ℕ) → FirstRow first height → Rowed height first limit (band_rows height first limit)
unfolding band_rows
rowed height first limit h = by_test (eqb (first + n) height) refl h.even_or_last
  where
    n : ℕ
    n = min limit (height - first)

    by_test : (t : Bool) → eqb (first + n) height ≡ t → (first % 2 ≡ 0) ⊎ (first ≡ height) → Rowed height first limit (cond t n (n - n % 2))
    by_test true e _ =
        let l = eqb-true (first + n) height e in
        record { after = record { most = omega arith; even_or_last = inr l }; further_by_2 = λ _. inl l }
    by_test false e (inl even) =
        let l = eqb-false (first + n) height e in
        record {
          after = record { most = let m = h.most in omega arith; even_or_last = inl (omega arith) };
          further_by_2 = λ two. inr (let m = h.most in omega arith);
        }
    by_test false e (inr last) = absurd (eqb-false (first + n) height e (omega arith))

-- from row 0 with the height as limit, all of them
pub all_rows : (height : ℕ) → band_rows height 0 height ≡ height
unfolding band_rows
all_rows height =
    let n : min height (height - 0) ≡ height = omega arith in
    let e : 0 + height ≡ height = omega arith in
    rw (n, e, eq-eqb height height refl)

-- question 19 lets a first row through
nineteen : (first height : ℕ) → FirstRow first height → verdict (first_row_usable first height ∷ []) ≡ accepted
unfolding verdict
nineteen first height h = by_case h.even_or_last
  where
    by_case : (first % 2 ≡ 0) ⊎ (first ≡ height) → verdict (first_row_usable first height ∷ []) ≡ accepted
    by_case (inl even) = simp (le-leb _ _ h.most, eq-eqb _ _ even)
    by_case (inr last) = simp (le-leb _ _ h.most, eq-eqb _ _ last, or-true)

module _ (known : List ℕ) (codes : Codes) (image : Geometry) (y u v : List ℕ) (stride : ℕ) where
  -- where the whole picture is accepted, so is a band of it at a first row, also on another destination of the same length
  band_accepted : (rgb out : List ℕ) (first : ℕ) → length out ≡ length rgb → FirstRow first image.height
      → (answer_to known codes image y u v stride rgb).number ≡ 0 → answer_to_band known codes image y u v stride out first ≡ accepted
  unfolding answer_to answer_to_band questions_of
  band_accepted rgb out first l h e =
      verdict_append_accepted (conversion_questions known (request_for codes image y u v stride out)) _ refl (rw l e) ∙ nineteen first image.height h

  -- the rows that an accepted call writes
  rows_accepted : (rgb : List ℕ) (first limit : ℕ) → (answer_to_band known codes image y u v stride rgb first).number ≡ 0
      → rows_after known codes image y u v stride rgb first limit ≡ band_rows image.height first limit
  unfolding rows_after
  rows_accepted rgb first limit e = rw (eq-eqb _ _ e)

  rows_refused : (rgb : List ℕ) (first limit : ℕ) → ((answer_to_band known codes image y u v stride rgb first).number ≡ 0 → ⊥)
      → rows_after known codes image y u v stride rgb first limit ≡ 0
  unfolding rows_after
  rows_refused rgb first limit r = rw (ne_eqb _ _ r)

  -- ---- calls that follow each other on a picture that is accepted

  module _ (rgb : List ℕ) (whole : (answer_to known codes image y u v stride rgb).number ≡ 0) where
    -- what they leave is the band from row 0 to the next first row
    record Joined (p : Progress) : Type 0 where
      first : FirstRow p.next image.height
      written : p.rgb ≡ band (decoded codes) (frame_of image y u v) stride 0 p.next rgb
      counted : p.clipped ≡ clipped_in (decoded codes) (frame_of image y u v) 0 p.next

    joined_begun : Joined (begun rgb)
    joined_begun = record {
      first = record { most = omega arith; even_or_last = inl refl };
      written = no_band _ _ stride 0 rgb;
      counted = sym (band_none _ _ 0);
    }

    joined_accepted : (p : Progress) → Joined p → (answer_to_band known codes image y u v stride p.rgb p.next).number ≡ 0
    joined_accepted p j =
        ap (λ (a : Verdict). a.number)
        (band_accepted rgb p.rgb p.next (ap length j.written ∙ band_length _ _ stride 0 p.next rgb) j.first whole)

    joined_rows : (p : Progress) → Joined p → (limit : ℕ)
        → rows_after known codes image y u v stride p.rgb p.next limit ≡ band_rows image.height p.next limit
    joined_rows p j limit = rows_accepted p.rgb p.next limit (joined_accepted p j)

    joined_further : (p : Progress) → Joined p → (limit : ℕ) → Joined (further known codes image y u v stride p limit)
    unfolding destination_after_band clipped_after_band
    joined_further p j limit =
        let zero : 0 + p.next ≡ p.next = omega arith in
        let n = band_rows image.height p.next limit in
        rw (joined_rows p j limit)
        record {
          first = (rowed image.height p.next limit j.first).after;
          written = rw j.written (sym (rw zero at (band_join (decoded codes) (frame_of image y u v) stride 0 p.next n rgb)));
          counted = rw j.counted (sym (rw zero at (bands_add (decoded codes) (frame_of image y u v) 0 p.next n)));
        }

    joined : (p : Progress) → Joined p → (limits : List ℕ) → Joined (after_calls known codes image y u v stride p limits)
    unfolding after_calls
    joined p j [] = j
    joined p j (limit ∷ limits) = joined (further known codes image y u v stride p limit) (joined_further p j limit) limits

    -- 2 rows further with each call, or the height
    far : (p : Progress) → Joined p → (limits : List ℕ) → TwoOrMore limits → let q = after_calls known codes image y u v stride p limits in
        (image.height ≤ q.next) ⊎ (p.next + 2 * length limits ≤ q.next)
    unfolding after_calls
    far p j [] two = inr (omega arith)
    far p j (limit ∷ limits) two =
        by_step ((rowed image.height p.next limit j.first).further_by_2 two.0)
        (far (further known codes image y u v stride p limit) (joined_further p j limit) limits two.1)
      where
        q : Progress
        q = after_calls known codes image y u v stride (further known codes image y u v stride p limit) limits

        n : ℕ
        n = band_rows image.height p.next limit

        next : p.next + rows_after known codes image y u v stride p.rgb p.next limit ≡ p.next + n
        next = rw (joined_rows p j limit)

        by_step : (p.next + n ≡ image.height) ⊎ (2 ≤ n)
            → (image.height ≤ q.next) ⊎ (p.next + rows_after known codes image y u v stride p.rgb p.next limit + 2 * length limits ≤ q.next)
            → (image.height ≤ q.next) ⊎ (p.next + 2 * length (limit ∷ limits) ≤ q.next)
        by_step _ (inl there) = inl there
        by_step (inl last) (inr more) = inl (omega (arith, next))
        by_step (inr two) (inr more) = inr (omega (arith, next))

    bands_finish : BandsFinish known codes image y u v stride rgb
    unfolding destination_after clipped_after picture
    bands_finish = record {
      accepted = λ limits. joined_accepted _ (after limits);
      reached = λ limits two enough. at_height (after_calls known codes image y u v stride (begun rgb) limits) limits (after limits) (far (begun rgb) joined_begun limits two) enough;
      whole = λ limits there.
          ((after limits).written ∙ rw (there, eq-eqb _ _ whole), (after limits).counted ∙ rw (there, eq-eqb _ _ whole));
    }
      where
        after : (limits : List ℕ) → Joined (after_calls known codes image y u v stride (begun rgb) limits)
        after limits = joined (begun rgb) joined_begun limits

        at_height : (q : Progress) (limits : List ℕ) → Joined q → (image.height ≤ q.next) ⊎ (0 + 2 * length limits ≤ q.next)
            → (image.height + 1) / 2 ≤ length limits → q.next ≡ image.height
        at_height q limits j (inl there) _ = let m = j.first.most in omega arith
        at_height q limits j (inr more) enough = let m = j.first.most in omega arith

-- ---- the theorems

pub bands_together : BandsTogether
bands_together known codes image y u v stride rgb e = bands_finish known codes image y u v stride rgb e

pub refused_keeps : RefusedKeeps
unfolding destination_after_band clipped_after_band
refused_keeps known codes image y u v stride rgb first limit r =
    let none = rows_refused known codes image y u v stride rgb first limit r in
    record {
      rows = none;
      destination = rw none (sym (no_band _ _ stride first rgb));
      clipped = rw none (band_none _ _ first);
    }

-- where the whole picture is accepted, the band is of all rows; where it is refused, the band is refused too
module _ (known : List ℕ) (codes : Codes) (image : Geometry) (y u v : List ℕ) (stride : ℕ) (rgb : List ℕ) where
  accepted_answer : (answer_to known codes image y u v stride rgb).number ≡ 0 → answer_to known codes image y u v stride rgb ≡ accepted
  unfolding answer_to questions_of
  accepted_answer e = all_hold_accepted _ (each_holds (conversion_questions known (request_for codes image y u v stride rgb)) refl e)

  refused_answer : ((answer_to known codes image y u v stride rgb).number ≡ 0 → ⊥)
      → answer_to_band known codes image y u v stride rgb 0 ≡ answer_to known codes image y u v stride rgb
  unfolding answer_to answer_to_band
  refused_answer r = verdict_append_refused (conversion_questions known (request_for codes image y u v stride rgb)) _ r

  accepted_whole : (answer_to known codes image y u v stride rgb).number ≡ 0 → SameAsWhole known codes image y u v stride rgb
  unfolding destination_after_band clipped_after_band destination_after clipped_after picture
  accepted_whole e =
      let first : FirstRow 0 image.height = record { most = omega arith; even_or_last = inl refl } in
      let a = band_accepted known codes image y u v stride rgb rgb 0 refl first e in
      let r = rows_accepted known codes image y u v stride rgb 0 image.height (ap (λ (a : Verdict). a.number) a) ∙ all_rows image.height in
      record {
        answer = a ∙ sym (accepted_answer e);
        destination = rw (r, eq-eqb _ _ e);
        clipped = rw (r, eq-eqb _ _ e);
      }

  refused_whole : ((answer_to known codes image y u v stride rgb).number ≡ 0 → ⊥) → SameAsWhole known codes image y u v stride rgb
  unfolding destination_after clipped_after
  refused_whole r =
      let a = refused_answer r in
      let k = refused_keeps known codes image y u v stride rgb 0 image.height (λ e. r (rw a at e)) in
      record {
        answer = a;
        destination = k.destination ∙ rw (ne_eqb _ _ r);
        clipped = k.clipped ∙ rw (ne_eqb _ _ r);
      }

pub whole_as_band : WholeAsBand
whole_as_band known codes image y u v stride rgb = by_answer (eqb (answer_to known codes image y u v stride rgb).number 0) refl
  where
    by_answer : (t : Bool) → eqb (answer_to known codes image y u v stride rgb).number 0 ≡ t → SameAsWhole known codes image y u v stride rgb
    by_answer true e = accepted_whole known codes image y u v stride rgb (eqb-true _ _ e)
    by_answer false e = refused_whole known codes image y u v stride rgb (eqb-false _ _ e)
