-- What the questions come to: 22 of a plane holds where 5 and 6 of it are accepted (`usable_is`), their answer is the verdict on the planes'
-- numbers (`answer_is`), where it is `Ok` the rows lie in their planes (`fit_is`), and what is left in a plane goes by it (`after_ok`,
-- `after_err`).
-- Assumes nothing.
use Rattle.std.proofs.Common.{
  ◌≡◌,
  ℕ,
  ◌*◌,
  Bool,
  true,
  false,
  cond,
  refl,
  eqb,
  leb,
  List,
  [],
  ◌∷◌,
  length,
  map,
  Result,
  Ok,
  Err,
  is_ok,
  IfOk,
  sym,
  ap,
  ◌∙◌,
  eqb-true,
}
use mathlib.Core.Bool.{◌&&◌, and-eq-true_iff}
use borrow.Author.Tests.{leb-true}
use Rattle.yuv_support.specs.Questions.{Verdict, Extent, extent, accepted, needed, destination, verdict}
use Rattle.yuv_support.proofs.Questions.{each_holds}
use Rattle.yuv_error.specs.declared.buffers.Buffer.{Buffer}
use Rattle.yuv_error.specs.declared.error.YuvError.{YuvError}
use Rattle.yuv_error.specs.declared.error.YuvError.TheVariants.{UnusablePlane}
use Rattle.yuv_error.specs.Told.{told, answered}
use Rattle.yuv_error.specs.Asked.{asked, giving}
use Rattle.yuv_error.proofs.Asked.{asked_answered}
use Rattle.yuv_error.proofs.Refused.{refused_number}
use Rattle.sample.proofs.Numbers.{numbers_length}
use Rattle.planes.specs.Woven.{Plane, lent}
use Rattle.planes.specs.Fits.{RowsFit, PlanesFit}
use Rattle.weave.specs.Weaving.{plane_usable, weave_questions, extent_of, weave_answer, after}

-- ---- one plane

pub usable_is : (e : Extent) (n height : ℕ) → eqb (verdict (destination e n height)).number 0 ≡ (plane_usable e n height).holds
unfolding verdict
usable_is e n height = by_tests (leb (needed e.stride n height) e.length) (leb n e.stride) _ _ _ _
  where
    by_tests : (a b : Bool) (x x' y y' : ℕ)
        → eqb (cond a (cond b accepted (record { number = 6; expected = x; received = x' }))
        (record { number = 5; expected = y; received = y' })).number 0 ≡ (a && b)
    by_tests true true x x' y y' = refl
    by_tests true false x x' y y' = refl
    by_tests false b x x' y y' = refl

-- r is the answer to 5 and 6, and `says` whether it was accepted
module _ {A : Type 0} (r : Result A YuvError) (says : Bool) (e : Extent) (n height : ℕ) (is : answered r ≡ verdict (destination e n height))
    (s : says ≡ eqb (answered r).number 0) where
  plane_holds : (plane_usable e n height).holds ≡ says
  plane_holds = sym (s ∙ rw is (usable_is e n height))

  pub plane_accepted : says ≡ true → accepted ≡ verdict (plane_usable e n height ∷ [])
  unfolding verdict
  plane_accepted t = let h : (plane_usable e n height).holds ≡ true = plane_holds ∙ t in rw h refl

  pub plane_refused : says ≡ false → told UnusablePlane ≡ verdict (plane_usable e n height ∷ [])
  unfolding verdict
  plane_refused f = let h : (plane_usable e n height).holds ≡ false = plane_holds ∙ f in rw h refl

-- ---- all of them

rows_fit : (p : Plane) (n height : ℕ) → (plane_usable (extent_of p) n height).holds ≡ true → RowsFit n height p
rows_fit p n height h =
    let t = (and-eq-true_iff (leb (needed p.stride n height) (length p.elements)) (leb n p.stride)).0 h in
    record { wide = leb-true _ _ t.1; long = leb-true _ _ t.0 }

pub planes_fit : (width height : ℕ) (u v uv : Plane) → (weave_answer width height u v uv).number ≡ 0 → PlanesFit width height u v uv
unfolding weave_questions
planes_fit width height u v uv e =
    let h = each_holds (weave_questions width height (extent_of u) (extent_of v) (extent_of uv)) refl e in
    record {
      least = leb-true _ _ ((and-eq-true_iff (leb 1 width) _).0 (h 0)).0;
      most = leb-true _ _ ((and-eq-true_iff (leb width 16384) _).0 (h 1)).0;
      for_u = rows_fit u width height (h 2);
      for_v = rows_fit v width height (h 3);
      for_uv = rows_fit uv (2 * width) height (h 4);
    }

-- ---- an answer, and its number

ok_number : (r : Result (Unit {0}) YuvError) → eqb (answered r).number 0 ≡ is_ok r
ok_number (Ok x) = refl
ok_number (Err e) = refused_number e

answered_giving : (r : Result (Unit {0}) YuvError) → answered (giving r (tt {0})) ≡ answered r
answered_giving (Ok x) = refl
answered_giving (Err e) = refl

if_ok : (r : Result (Unit {0}) YuvError) {P : Type 0} → (is_ok r ≡ true → P) → IfOk r (λ x. P)
if_ok (Ok x) h = h refl
if_ok (Err e) h = tt

-- ---- planes of samples, as the questions see them

module _ {X : Type 0} {number : X → ℕ} {numbers : List X → List ℕ} (are : (xs : List X) → numbers xs ≡ map number xs) where
  -- r is what the questions of the buffers came to
  module _ (width height : ℕ) (us vs uvs : List X) (u_stride v_stride uv_stride : ℕ) {r : Result (Unit {0}) YuvError} {u v uv : Buffer}
      (u_is : u ≡ record { length = length us; stride = u_stride }) (v_is : v ≡ record { length = length vs; stride = v_stride })
      (uv_is : uv ≡ record { length = length uvs; stride = uv_stride })
      (is : r ≡ asked (weave_questions width height (extent u.length u.stride) (extent v.length v.stride) (extent uv.length uv.stride))) where
    pub answer_is : answered r ≡ weave_answer width height (lent (numbers us) u_stride) (lent (numbers vs) v_stride) (lent (numbers uvs) uv_stride)
    unfolding weave_questions
    answer_is =
        rw (numbers_length are us, numbers_length are vs, numbers_length are uvs)
        (ap answered (rw (u_is, v_is, uv_is) at is) ∙ sym (answered_giving _) ∙ asked_answered (tt {0}) _ (refl, (refl, (refl, (refl, (refl, tt))))))

    pub fit_is : IfOk r (λ x. PlanesFit width height (lent (numbers us) u_stride) (lent (numbers vs) v_stride) (lent (numbers uvs) uv_stride))
    fit_is = if_ok r (λ t. planes_fit _ _ _ _ _ (eqb-true _ _ (ap (λ (w : Verdict). eqb w.number 0) (sym answer_is) ∙ ok_number r ∙ t)))

-- ---- what is left in a plane, r being the answer and v its verdict

module _ (r : Result (Unit {0}) YuvError) (v : Verdict) (is : answered r ≡ v) where
  number_is : eqb v.number 0 ≡ is_ok r
  number_is = ap (λ (w : Verdict). eqb w.number 0) (sym is) ∙ ok_number r

  pub after_ok : is_ok r ≡ true → (written old : List ℕ) → written ≡ after v written old
  after_ok t written old = rw (number_is ∙ t) refl

  pub after_err : is_ok r ≡ false → (written old : List ℕ) → old ≡ after v written old
  after_err f written old = rw (number_is ∙ f) refl
