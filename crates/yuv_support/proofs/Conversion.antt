-- Demand 3 holds of the destination that the definitions give: each pixel of the band stands in it whole and all else is kept (`finished`), and
-- its components are close to the equations (`component_close`). A band's questions are the whole picture's and 19 (`accepted_band`).
-- Assumes nothing.
use mathlib.Core.Path.{◌≡◌, refl}
use mathlib.Core.Logic.{◌⊎◌, inl, inr}
use mathlib.Core.Bool.{Bool, true, false, ◌||◌, and-eq-true_iff}
use mathlib.Core.List.{List, [], ◌∷◌}
use Prim.Native.Nat.{ℕ, ◌+◌, ◌*◌, ◌%◌, ◌≤◌}
use native.Mathlib.Nat.{le_trans}
use native.Mathlib.Omega.{arith}
use borrow.Author.Tests.{eqb-true, leb-true}
use lib.Dec.{T, eqb, leb}
use lib.ListN.{length, get_or}
use Rattle.yuv_support.specs.declared.Codes.{Codes}
use Rattle.yuv_support.specs.declared.Settings.{Settings}
use Rattle.yuv_support.specs.declared.Geometry.{Geometry}
use Rattle.yuv_support.specs.Settings.{among, depths, depths8, depths16, max_of, unpacked}
use Rattle.yuv_support.specs.Blend.{Frame, frame_of}
use Rattle.yuv_support.specs.Picture.{channels_of, band}
use Rattle.yuv_support.specs.Questions.{decoded, needed, first_row_usable, questions_of, conversion_questions}
use Rattle.yuv_support.specs.Distance.{measured, WithinDepth}
use Rattle.yuv_support.specs.Conversion.{request_for, answer_to, answer_to_band, Demand3}
use Rattle.yuv_support.proofs.Depths.{each_among}
use Rattle.yuv_support.proofs.Distance.{component_close}
use Rattle.yuv_support.proofs.Packing.{unpacked_le}
use Rattle.yuv_support.proofs.Rows.{row_fits}
use Rattle.yuv_support.proofs.Picture.{ComponentsClose, pixel_in_lem, band_kept, band_length, faithful_band}
use Rattle.yuv_support.proofs.Questions.{Accepted, accepted_facts, both_accepted, each_holds}

-- the depths of an element's width are known depths
pub depth_of_8 : (d : ℕ) → T (among d depths8) → T (among d depths)
depth_of_8 d t = each_among (λ d. T (among d depths)) depths8 (tt, tt) d t

pub depth_of_16 : (d : ℕ) → T (among d depths16) → T (among d depths)
depth_of_16 d t = each_among (λ d. T (among d depths)) depths16 (tt, (tt, tt)) d t

-- the finished band meets demand 3
finished : {Asked : Settings → Frame → Type 0} (s : Settings) (f : Frame) (stride first count : ℕ) (rgb : List ℕ)
    → f.width * channels_of s.order ≤ stride → needed stride (f.width * channels_of s.order) f.height ≤ length rgb → first + count ≤ f.height
    → (T (measured s) → Asked s f → ComponentsClose s f) → Demand3 Asked s f stride first count rgb (band s f stride first count rgb)
finished s f stride first count rgb fits long below close = record {
  pixels = λ row column lo hi hc.
      pixel_in_lem s f stride first count rgb fits row column lo hi hc
      (row_fits stride (f.width * channels_of s.order) f.height row (length rgb) long (omega arith));
  kept = band_kept s f stride first count rgb;
  same_length = band_length s f stride first count rgb;
  distance = λ m w. faithful_band s f stride rgb (close m w) fits long first count below;
}

-- bytes at depth 8 lie within the depth, whatever they are
pub bytes_within : (s : Settings) (f : Frame) → T (among s.depth depths8)
    → ((i : ℕ) → get_or f.y i 0 ≤ 255) → ((i : ℕ) → get_or f.u i 0 ≤ 255) → ((i : ℕ) → get_or f.v i 0 ≤ 255) → WithinDepth s f
unfolding max_of
bytes_within s f d y u v = record {
  y = λ row column hr hc. byte (y (f.y_stride * row + column));
  u = λ row column hr hc. byte (u (f.u_stride * row + column));
  v = λ row column hr hc. byte (v (f.v_stride * row + column));
}
  where
    byte : {x : ℕ} → x ≤ 255 → unpacked s.packing s.depth x ≤ max_of s.depth
    byte {x} h =
        let max : 255 ≡ max_of s.depth = each_among (λ d. 255 ≡ max_of d) depths8 (refl, tt) s.depth d in
        rw max at (le_trans (unpacked_le s.packing s.depth x) h)

-- ---- a first row that question 19 lets through

pub record FirstRow (first height : ℕ) : Type 0 where
  pub most : first ≤ height
  pub even_or_last : (first % 2 ≡ 0) ⊎ (first ≡ height)

first_row : (first height : ℕ) → (first_row_usable first height).holds ≡ true → FirstRow first height
first_row first height t =
    let h = (and-eq-true_iff (leb first height) _).0 t in
    record { most = leb-true _ _ h.0; even_or_last = by_test (eqb (first % 2) 0) refl h.1 }
  where
    by_test : (t : Bool) → eqb (first % 2) 0 ≡ t → (t || eqb first height) ≡ true → (first % 2 ≡ 0) ⊎ (first ≡ height)
    by_test true e h = inl (eqb-true _ _ e)
    by_test false e h = inr (eqb-true _ _ h)

module _ (known : List ℕ) (within : (d : ℕ) → T (among d known) → T (among d depths)) (codes : Codes) (image : Geometry)
    (y u v : List ℕ) (stride : ℕ) (rgb : List ℕ) where
  pub accepted_call : (answer_to known codes image y u v stride rgb).number ≡ 0 → Accepted known (request_for codes image y u v stride rgb)
  unfolding answer_to
  accepted_call e = accepted_facts known (request_for codes image y u v stride rgb) e

  -- question 19 is asked where the others hold
  pub accepted_band : (first : ℕ) → (answer_to_band known codes image y u v stride rgb first).number ≡ 0
      → ((answer_to known codes image y u v stride rgb).number ≡ 0) × FirstRow first image.height
  unfolding answer_to_band answer_to questions_of
  accepted_band first e =
      let h = both_accepted (conversion_questions known (request_for codes image y u v stride rgb)) (first_row_usable first image.height ∷ []) refl e in
      (h.0, first_row first image.height (each_holds (first_row_usable first image.height ∷ []) refl h.1 0))

  -- `enough`: with what is asked of them the samples lie within the depth
  pub demand3_met : (Asked : Settings → Frame → Type 0)
      → (T (among codes.depth known) → Asked (decoded codes) (frame_of image y u v) → WithinDepth (decoded codes) (frame_of image y u v))
      → (answer_to known codes image y u v stride rgb).number ≡ 0 → (first count : ℕ) → first + count ≤ image.height
      → Demand3 Asked (decoded codes) (frame_of image y u v) stride first count rgb (band (decoded codes) (frame_of image y u v) stride first count rgb)
  demand3_met Asked enough e first count below =
      let a = accepted_call e in
      finished (decoded codes) (frame_of image y u v) stride first count rgb a.rgb_stride a.rgb_length below
      (λ m w c row column hr hc. component_close (decoded codes) (frame_of image y u v) c row column (within codes.depth a.depth) m (enough a.depth w) hr hc)
