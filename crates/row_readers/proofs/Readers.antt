-- What an accepted call of a reader says of its numbers, question by question, and so of the part: it lies in the buffer and has at least one
-- element. Then the place that the definitions name is in the buffer and names the part (`row_within`, `row_cut` and the like), and the number
-- is 0 exactly when a part came back (`row_comes_back`, `chroma_row_comes_back`).
-- Assumes nothing.
use mathlib.Core.Path.{◌≡◌, refl}
use mathlib.Core.Logic.{◌↔◌}
use mathlib.Core.Bool.{Bool, true, false, cond}
use mathlib.Core.List.{List}
use Prim.Native.Nat.{ℕ, ◌+◌, ◌*◌, ◌≤◌, ◌<◌}
use native.Mathlib.Nat.{mul-le-mul}
use native.Mathlib.Omega.{arith}
use borrow.Author.Tests.{leb-true, ltb-true, eq-eqb, ne_eqb}
use lib.Dec.{eqb}
use lib.ListN.{length, take, drop}
use Rattle.yuv_support.specs.Settings.{sampling_of, order_of}
use Rattle.yuv_support.specs.Blend.{chroma_width, chroma_height, near_row}
use Rattle.yuv_support.specs.Picture.{channels_of}
use Rattle.yuv_support.specs.Questions.{extent, needed, row_questions, chroma_row_questions, finished_row, near_chroma_row}
use Rattle.yuv_support.proofs.Blend.{near_row_lt}
use Rattle.yuv_support.proofs.Picture.{three_or_four_channels}
use Rattle.yuv_support.proofs.Questions.{question_at, each_holds}
use Rattle.yuv_support.proofs.Rows.{row_fits}
use Rattle.images.proofs.Held.{sides_are}
use Rattle.row_readers.specs.declared.Part.{Part}
use Rattle.row_readers.specs.Readers.{extent_of, wanted, row_answer, row_part, row_place, chroma_row_answer, chroma_row_part, chroma_row_place}
use Rattle.row_readers.proofs.Parts.{placed_within, placed_cut, handed_length, accepted_iff_handed}

-- ---- the finished row

pub record RowHeld (order width height size stride row : ℕ) : Type 0 where
  pub width_least : 1 ≤ width
  pub width_most : width ≤ 16384
  pub long : needed stride (width * channels_of (order_of order)) height ≤ size
  pub row_below : row < height

module _ (order width height size stride row : ℕ) (accepted : (row_answer order width height (extent size stride) row).number ≡ 0) where
  pub row_held : RowHeld order width height size stride row
  unfolding row_questions
  row_held =
      let h : (k : ℕ) → (question_at (row_questions order width height (extent size stride) row) k).holds ≡ true
      = each_holds (row_questions order width height (extent size stride) row) refl accepted in
      record {
        width_least = (sides_are width height (h 1) (h 2)).width_least;
        width_most = (sides_are width height (h 1) (h 2)).width_most;
        long = leb-true _ _ (h 3);
        row_below = ltb-true row height (h 5);
      }

  pub row_part_fits : stride * row + width * channels_of (order_of order) ≤ size
  row_part_fits = row_fits stride (width * channels_of (order_of order)) height row size row_held.long row_held.row_below

  row_has_elements : 1 ≤ width * channels_of (order_of order)
  row_has_elements =
      mul-le-mul row_held.width_least
      (let c = (three_or_four_channels (order_of order)).0 in let l : 1 ≤ channels_of (order_of order) = omega arith in l)

module _ {X : Type 0} (order width height : ℕ) (rgb : List X) (stride row : ℕ) where
  fits : (row_answer order width height (extent_of rgb stride) row).number ≡ 0 → stride * row + width * channels_of (order_of order) ≤ length rgb
  fits = row_part_fits order width height (length rgb) stride row

  -- of the row's place p: it is in the destination, and its elements are the part
  pub row_within : (p : Part) → p ≡ row_place order width height (extent_of rgb stride) row → p.start + p.length ≤ length rgb
  unfolding row_place
  row_within p is = rw is (placed_within (row_answer order width height (extent_of rgb stride) row) _ _ rgb fits)

  pub row_cut : (p : Part) → p ≡ row_place order width height (extent_of rgb stride) row
      → take p.length (drop p.start rgb) ≡ row_part order width height rgb stride row
  unfolding row_place row_part finished_row
  row_cut p is = rw is (placed_cut (row_answer order width height (extent_of rgb stride) row) _ _ rgb fits)

  pub row_part_length : (row_answer order width height (extent_of rgb stride) row).number ≡ 0
      → length (row_part order width height rgb stride row) ≡ width * channels_of (order_of order)
  unfolding row_part finished_row
  row_part_length = handed_length (row_answer order width height (extent_of rgb stride) row) (stride * row) _ rgb fits

  pub row_comes_back : ((row_answer order width height (extent_of rgb stride) row).number ≡ 0) ↔ (0 < length (row_part order width height rgb stride row))
  unfolding row_part finished_row
  row_comes_back =
      accepted_iff_handed (row_answer order width height (extent_of rgb stride) row) (stride * row) _ rgb fits
      (row_has_elements order width height (length rgb) stride row)

-- ---- the near chroma row

pub record ChromaRowHeld (sampling width height u_size u_stride v_size v_stride row : ℕ) : Type 0 where
  pub width_least : 1 ≤ width
  pub u_long : needed u_stride (chroma_width width) (chroma_height (sampling_of sampling) height) ≤ u_size
  pub v_long : needed v_stride (chroma_width width) (chroma_height (sampling_of sampling) height) ≤ v_size
  pub row_below : row < height

module _ (sampling plane width height u_size u_stride v_size v_stride row : ℕ)
    (accepted : (chroma_row_answer sampling plane width height (extent u_size u_stride) (extent v_size v_stride) row).number ≡ 0) where
  pub chroma_row_held : ChromaRowHeld sampling width height u_size u_stride v_size v_stride row
  unfolding chroma_row_questions
  chroma_row_held =
      let h : (k : ℕ) → (question_at (chroma_row_questions sampling plane width height (extent u_size u_stride) (extent v_size v_stride) row) k).holds ≡ true
      = each_holds (chroma_row_questions sampling plane width height (extent u_size u_stride) (extent v_size v_stride) row) refl accepted in
      record {
        width_least = (sides_are width height (h 2) (h 3)).width_least;
        u_long = leb-true _ _ (h 5);
        v_long = leb-true _ _ (h 7);
        row_below = ltb-true row height (h 8);
      }

  chroma_row_has_elements : 1 ≤ chroma_width width
  chroma_row_has_elements = let h = chroma_row_held.width_least in omega arith

  -- the near row of a plane that is long enough for its chroma rows is in the plane
  near_row_fits : (stride size : ℕ) → needed stride (chroma_width width) (chroma_height (sampling_of sampling) height) ≤ size
      → stride * near_row (sampling_of sampling) height row + chroma_width width ≤ size
  near_row_fits stride size long =
      row_fits stride (chroma_width width) (chroma_height (sampling_of sampling) height) _ size long
      (near_row_lt (sampling_of sampling) height row chroma_row_held.row_below)

  pub chroma_row_fits : wanted plane u_stride v_stride * near_row (sampling_of sampling) height row + chroma_width width ≤ wanted plane u_size v_size
  chroma_row_fits = by_code (eqb plane 0)
    where
      by_code : (t : Bool) → cond t u_stride v_stride * near_row (sampling_of sampling) height row + chroma_width width ≤ cond t u_size v_size
      by_code true = near_row_fits u_stride u_size chroma_row_held.u_long
      by_code false = near_row_fits v_stride v_size chroma_row_held.v_long

length_of_wanted : {X : Type 0} (plane : ℕ) (u v : List X) → wanted plane (length u) (length v) ≡ length (wanted plane u v)
length_of_wanted plane u v = by_code (eqb plane 0)
  where
    by_code : (t : Bool) → cond t (length u) (length v) ≡ length (cond t u v)
    by_code true = refl
    by_code false = refl

module _ {X : Type 0} (sampling plane width height : ℕ) (u : List X) (u_stride : ℕ) (v : List X) (v_stride row : ℕ) where
  chroma_fits : (chroma_row_answer sampling plane width height (extent_of u u_stride) (extent_of v v_stride) row).number ≡ 0
      → wanted plane u_stride v_stride * near_row (sampling_of sampling) height row + chroma_width width ≤ length (wanted plane u v)
  chroma_fits accepted = rw (length_of_wanted plane u v) at (chroma_row_fits sampling plane width height (length u) u_stride (length v) v_stride row accepted)

  -- of the near row's place p: it is in the plane wanted, and its elements are the part
  module _ (p : Part) (is : p ≡ chroma_row_place sampling plane width height (extent_of u u_stride) (extent_of v v_stride) row) where
    within : p.start + p.length ≤ length (wanted plane u v)
    unfolding chroma_row_place
    within =
        rw is
        (placed_within (chroma_row_answer sampling plane width height (extent_of u u_stride) (extent_of v v_stride) row) _ _
        (wanted plane u v) chroma_fits)

    cut : take p.length (drop p.start (wanted plane u v)) ≡ chroma_row_part sampling plane width height u u_stride v v_stride row
    unfolding chroma_row_place chroma_row_part near_chroma_row
    cut =
        rw is
        (placed_cut (chroma_row_answer sampling plane width height (extent_of u u_stride) (extent_of v v_stride) row) _ _
        (wanted plane u v) chroma_fits)

    pub u_row_within : plane ≡ 0 → p.start + p.length ≤ length u
    u_row_within e = rw (eq-eqb plane 0 e) at within

    pub u_row_cut : plane ≡ 0 → take p.length (drop p.start u) ≡ chroma_row_part sampling plane width height u u_stride v v_stride row
    u_row_cut e = rw (eq-eqb plane 0 e) at cut

    pub v_row_within : (plane ≡ 0 → ⊥) → p.start + p.length ≤ length v
    v_row_within e = rw (ne_eqb plane 0 e) at within

    pub v_row_cut : (plane ≡ 0 → ⊥) → take p.length (drop p.start v) ≡ chroma_row_part sampling plane width height u u_stride v v_stride row
    v_row_cut e = rw (ne_eqb plane 0 e) at cut

  pub chroma_row_part_length : (chroma_row_answer sampling plane width height (extent_of u u_stride) (extent_of v v_stride) row).number ≡ 0
      → length (chroma_row_part sampling plane width height u u_stride v v_stride row) ≡ chroma_width width
  unfolding chroma_row_part near_chroma_row
  chroma_row_part_length =
      handed_length (chroma_row_answer sampling plane width height (extent_of u u_stride) (extent_of v v_stride) row) _ _ (wanted plane u v) chroma_fits

  pub chroma_row_comes_back : ((chroma_row_answer sampling plane width height (extent_of u u_stride) (extent_of v v_stride) row).number ≡ 0)
      ↔ (0 < length (chroma_row_part sampling plane width height u u_stride v v_stride row))
  unfolding chroma_row_part near_chroma_row
  chroma_row_comes_back =
      accepted_iff_handed (chroma_row_answer sampling plane width height (extent_of u u_stride) (extent_of v v_stride) row) _ _ (wanted plane u v) chroma_fits
      (chroma_row_has_elements sampling plane width height (length u) u_stride (length v) v_stride row)
