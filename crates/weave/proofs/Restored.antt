-- The theorems of slip 8. An accepted call leaves f's element at every place of a row (`painted_at`), so a sample that was woven and taken apart
-- is looked up twice, and found where it was; what stands in no row is kept (`padding_kept`).
-- Assumes nothing.
use mathlib.Core.Path.{◌≡◌, refl, sym, ◌∙◌}
use mathlib.Core.Logic.{◌⊎◌, inl, inr}
use mathlib.Core.Bool.{Bool, true, false}
use Prim.Native.Nat.{ℕ, ◌+◌, ◌*◌, ◌/◌, ◌%◌, ◌≤◌, ◌<◌}
use native.Mathlib.Nat.{add-zero, div-add-mod}
use native.Mathlib.Omega.{arith}
use borrow.Author.Tests.{eqb-true, eqb-false}
use lib.Dec.{eqb}
use lib.ListN.{length, get_or}
use Rattle.std.proofs.lemmas.Bool.{cases_lt}
use Rattle.yuv_support.specs.Picture.{painted}
use Rattle.yuv_support.specs.Questions.{Verdict}
use Rattle.yuv_support.proofs.Rows.{Outside, painted_length, row_fits, cell_at, cell_kept}
use Rattle.planes.specs.Woven.{Plane, lent, element_at, alternating, woven_at, woven, of_u, of_v, unwoven_at, unwoven}
use Rattle.planes.specs.Fits.{RowsFit}
use Rattle.planes.proofs.WovenRows.{u_first, v_second}
use Rattle.weave.specs.Weaving.{weave_answer, after, after_weaving, u_after_unweaving, v_after_unweaving}
use Rattle.weave.specs.Restored.{PaddingKept, UnweavingRestores, WeavingRestores, PaddingUntouched}
use Rattle.weave.proofs.Asked.{planes_fit}

-- ---- what stands where

painted_at : (f : ℕ → ℕ → ℕ) (n height : ℕ) (p : Plane) → RowsFit n height p → (row x : ℕ) → row < height → x < n
    → get_or (painted f p.stride n 0 height p.elements) (p.stride * row + x) 0 ≡ f row x
painted_at f n height p fit row x hr hx =
    let room = row_fits p.stride n height row (length p.elements) fit.long hr in
    cell_at f p.stride n 0 height row x p.elements fit.wide (omega arith) (omega arith) hx (omega arith)

-- after an accepted call
module _ (width height : ℕ) (u v uv : Plane) (accepted : (weave_answer width height u v uv).number ≡ 0) where
  pub woven_at_lem : (row x : ℕ) → row < height → x < 2 * width
      → element_at (lent (after_weaving width height u v uv) uv.stride) row x ≡ woven_at u v row x
  unfolding after_weaving woven
  woven_at_lem row x hr hx = rw accepted (painted_at (woven_at u v) (2 * width) height uv (planes_fit width height u v uv accepted).for_uv row x hr hx)

  pub u_at : (row x : ℕ) → row < height → x < width
      → element_at (lent (u_after_unweaving width height u v uv) u.stride) row x ≡ element_at uv row (2 * x)
  unfolding u_after_unweaving unwoven
  u_at row x hr hx = rw accepted (painted_at (unwoven_at of_u uv) width height u (planes_fit width height u v uv accepted).for_u row x hr hx ∙ rw add-zero)

  pub v_at : (row x : ℕ) → row < height → x < width
      → element_at (lent (v_after_unweaving width height u v uv) v.stride) row x ≡ element_at uv row (2 * x + 1)
  unfolding v_after_unweaving unwoven
  v_at row x hr hx = rw accepted (painted_at (unwoven_at of_v uv) width height v (planes_fit width height u v uv accepted).for_v row x hr hx)

-- ---- restored

pub unweaving_restores : UnweavingRestores
unweaving_restores width height u v uv u' v' first second =
    let w = lent (after_weaving width height u v uv) uv.stride in (
      λ row x hr hx. u_at width height u' v' w second row x hr hx
          ∙ woven_at_lem width height u v uv first row (2 * x) hr (omega arith) ∙ u_first (element_at u row) (element_at v row) x,
      λ row x hr hx. v_at width height u' v' w second row x hr hx
          ∙ woven_at_lem width height u v uv first row (2 * x + 1) hr (omega arith) ∙ v_second (element_at u row) (element_at v row) x,
    )

-- elements of g at even and at odd places, alternating, are g's
alternating_of : (g : ℕ → ℕ) (a b : ℕ → ℕ) (x : ℕ) → a (x / 2) ≡ g (2 * (x / 2)) → b (x / 2) ≡ g (2 * (x / 2) + 1) → alternating a b x ≡ g x
unfolding alternating
alternating_of g a b x ea eb = by_test (eqb (x % 2) 0) refl
  where
    by_test : (t : Bool) → eqb (x % 2) 0 ≡ t → alternating a b x ≡ g x
    by_test true e = let p : 2 * (x / 2) ≡ x = omega (arith, eqb-true (x % 2) 0 e) in rw (e, ea, p)
    by_test false e = let p : 2 * (x / 2) + 1 ≡ x = omega (arith, odd (eqb-false (x % 2) 0 e)) in rw (e, eb, p)
      where
        odd : (x % 2 ≡ 0 → ⊥) → x % 2 ≡ 1
        odd n = omega arith

pub weaving_restores : WeavingRestores
weaving_restores width height uv u v uv' first second row x hr hx =
    let a = lent (u_after_unweaving width height u v uv) u.stride in
    let b = lent (v_after_unweaving width height u v uv) v.stride in
    woven_at_lem width height a b uv' second row x hr hx
    ∙ alternating_of (element_at uv row) (element_at a row) (element_at b row) x
    (u_at width height u v uv first row (x / 2) hr (omega arith)) (v_at width height u v uv first row (x / 2) hr (omega arith))

-- ---- padding

-- what stands in no row is outside of what is painted
in_no_row : (stride n height j : ℕ) → ((row x : ℕ) → row < height → x < n → j ≡ stride * row + x → ⊥) → Outside stride n 0 height j
in_no_row stride n height j none = by_place (cases_lt (j / stride) height) (cases_lt (j % stride) n)
  where
    by_place : (j / stride < height) ⊎ (height ≤ j / stride) → (j % stride < n) ⊎ (n ≤ j % stride) → Outside stride n 0 height j
    by_place (inr past) _ = inr (inl (omega arith))
    by_place (inl r) (inr past) = inr (inr past)
    by_place (inl r) (inl x) = absurd (none (j / stride) (j % stride) r x (sym (div-add-mod j stride)))

padding_kept : (f : ℕ → ℕ → ℕ) (n height : ℕ) (p : Plane) (answer : Verdict)
    → PaddingKept n height p (after answer (painted f p.stride n 0 height p.elements) p.elements)
padding_kept f n height p answer = by_test (eqb answer.number 0) refl
  where
    by_test : (t : Bool) → eqb answer.number 0 ≡ t → PaddingKept n height p (after answer (painted f p.stride n 0 height p.elements) p.elements)
    by_test true e =
        rw e
        (record {
          same_length = painted_length f p.stride n 0 height p.elements;
          kept = λ j none. cell_kept f p.stride n 0 height j p.elements (in_no_row p.stride n height j none);
        })
    by_test false e = rw e (record { same_length = refl; kept = λ j none. refl })

pub padding_untouched : PaddingUntouched
unfolding after_weaving u_after_unweaving v_after_unweaving woven unwoven
padding_untouched width height u v uv =
    let answer = weave_answer width height u v uv in (
      padding_kept (woven_at u v) (2 * width) height uv answer,
      padding_kept (unwoven_at of_u uv) width height u answer,
      padding_kept (unwoven_at of_v uv) width height v answer,
    )
