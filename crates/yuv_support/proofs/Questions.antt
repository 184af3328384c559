-- Laws of `verdict`: of two lists asked one after the other, and of an accepted call. Numbers of questions are positive, so the number 0
-- says that no question got a "no": each holds (`each_holds`), and those of a conversion become facts of its numbers (`accepted_facts`).
-- Assumes nothing.
use mathlib.Core.Path.{◌≡◌, refl, subst⁻¹}
use mathlib.Core.Bool.{Bool, true, false, cond, ◌&&◌, and-eq-true_iff}
use mathlib.Core.List.{List, [], ◌∷◌, ◌++◌}
use Prim.Native.Nat.{ℕ, zero, suc, ◌*◌, ◌≤◌}
use native.Mathlib.Omega.{arith}
use borrow.Author.Tests.{leb-true, ltb-true, ne_eqb}
use lib.Dec.{T, eqb, leb, ltb}
use lib.ListN.{get_or}
use Rattle.yuv_support.specs.Settings.{sampling_of, order_of, last_packing, among}
use Rattle.yuv_support.specs.Coefficients.{usable}
use Rattle.yuv_support.specs.Blend.{chroma_width, chroma_height}
use Rattle.yuv_support.specs.Picture.{channels_of}
use Rattle.yuv_support.specs.Questions.{Question, Verdict, Request, ask, accepted, verdict, decoded, needed, questions_of, conversion_questions}

-- ---- any list of questions

-- every question has a positive number
abbrev pub numbered : List Question → Bool
numbered [] = true
numbered (q ∷ qs) = ltb 0 q.number && numbered qs

-- where the first question has a positive number and the verdict is 0, the question holds and the rest is accepted
first_holds : (t : Bool) (rest refusal : Verdict) → ltb 0 refusal.number ≡ true → (cond t rest refusal).number ≡ 0 → (t ≡ true) × (rest.number ≡ 0)
first_holds true rest refusal p e = (refl, e)
first_holds false rest refusal p e = absurd (omega (arith, ltb-true 0 refusal.number p))

-- the question at place k of the list, counted from 0; past the end, one that holds
abbrev pub question_at : List Question → ℕ → Question
question_at qs k = get_or qs k (ask 0 true)

pub each_holds : (qs : List Question) → numbered qs ≡ true → (verdict qs).number ≡ 0 → (k : ℕ) → (question_at qs k).holds ≡ true
unfolding verdict
each_holds [] p e k = refl
each_holds (q ∷ qs) p e zero = (first_holds q.holds (verdict qs) _ ((and-eq-true_iff (ltb 0 q.number) (numbered qs)).0 p).0 e).0
each_holds (q ∷ qs) p e (suc k) =
    let n = (and-eq-true_iff (ltb 0 q.number) (numbered qs)).0 p in
    each_holds qs n.1 (first_holds q.holds (verdict qs) _ n.0 e).1 k

pub all_hold_accepted : (qs : List Question) → ((k : ℕ) → (question_at qs k).holds ≡ true) → verdict qs ≡ accepted
unfolding verdict
all_hold_accepted [] h = refl
all_hold_accepted (q ∷ qs) h = rw (h 0) (all_hold_accepted qs (λ k. h (suc k)))

-- of one question
pub one_accepted : (q : Question) → ltb 0 q.number ≡ true → eqb (verdict (q ∷ [])).number 0 ≡ q.holds
unfolding verdict
one_accepted q p = by_answer q.holds
  where
    by_answer : (t : Bool) → eqb (cond t accepted (record { number = q.number; expected = q.expected; received = q.received })).number 0 ≡ t
    by_answer true = refl
    by_answer false = ne_eqb q.number 0 (λ e. absurd (omega (arith, ltb-true 0 q.number p)))

-- the second list is asked where the first is accepted
pub verdict_append_accepted : (a b : List Question) → numbered a ≡ true → (verdict a).number ≡ 0 → verdict (a ++ b) ≡ verdict b
unfolding verdict
verdict_append_accepted [] b p e = refl
verdict_append_accepted (q ∷ qs) b p e =
    let n = (and-eq-true_iff (ltb 0 q.number) (numbered qs)).0 p in
    let h = first_holds q.holds (verdict qs) _ n.0 e in
    rw h.0 (verdict_append_accepted qs b n.1 h.1)

-- where both together are accepted, each is
pub both_accepted : (a b : List Question) → numbered a ≡ true → (verdict (a ++ b)).number ≡ 0 → ((verdict a).number ≡ 0) × ((verdict b).number ≡ 0)
unfolding verdict
both_accepted [] b p e = (refl, e)
both_accepted (q ∷ qs) b p e =
    let n = (and-eq-true_iff (ltb 0 q.number) (numbered qs)).0 p in
    let h = first_holds q.holds (verdict (qs ++ b)) _ n.0 e in
    rw h.0 (both_accepted qs b n.1 h.1)

-- where the first is refused, that is the verdict
pub verdict_append_refused : (a b : List Question) → ((verdict a).number ≡ 0 → ⊥) → verdict (a ++ b) ≡ verdict a
unfolding verdict
verdict_append_refused [] b r = absurd (r refl)
verdict_append_refused (q ∷ qs) b r = go q.holds _ (verdict_append_refused qs b) r
  where
    go : (t : Bool) (refusal : Verdict) → (((verdict qs).number ≡ 0 → ⊥) → verdict (qs ++ b) ≡ verdict qs)
        → ((cond t (verdict qs) refusal).number ≡ 0 → ⊥) → cond t (verdict (qs ++ b)) refusal ≡ cond t (verdict qs) refusal
    go true refusal rest r = rest r
    go false refusal rest r = refl

-- ---- the questions of a conversion

pub record Accepted (known : List ℕ) (q : Request) : Type 0 where
  pub sampling : q.codes.sampling ≤ 1
  pub order : q.codes.order ≤ 3
  pub range : q.codes.range ≤ 1
  pub matrix : q.codes.matrix ≤ 6
  pub packing : q.codes.packing ≤ last_packing q.codes.depth
  pub mode : q.codes.mode ≤ 1
  pub depth : T (among q.codes.depth known)
  pub width_least : 1 ≤ q.image.width
  pub height_least : 1 ≤ q.image.height
  pub width_most : q.image.width ≤ 16384
  pub height_most : q.image.height ≤ 16384
  pub rgb_length : needed q.rgb.stride (q.image.width * channels_of (order_of q.codes.order)) q.image.height ≤ q.rgb.length
  pub rgb_stride : q.image.width * channels_of (order_of q.codes.order) ≤ q.rgb.stride
  pub y_stride : q.image.width ≤ q.image.y_stride
  pub y_length : needed q.image.y_stride q.image.width q.image.height ≤ q.y_length
  pub u_stride : chroma_width q.image.width ≤ q.image.u_stride
  pub u_length : needed q.image.u_stride (chroma_width q.image.width) (chroma_height (sampling_of q.codes.sampling) q.image.height) ≤ q.u_length
  pub v_stride : chroma_width q.image.width ≤ q.image.v_stride
  pub v_length : needed q.image.v_stride (chroma_width q.image.width) (chroma_height (sampling_of q.codes.sampling) q.image.height) ≤ q.v_length
  pub weights : T (usable (decoded q.codes))

-- question k + 1 stands at place k
pub accepted_facts : (known : List ℕ) (q : Request) → (verdict (conversion_questions known q)).number ≡ 0 → Accepted known q
unfolding questions_of
accepted_facts known q e =
    let h : (k : ℕ) → (question_at (conversion_questions known q) k).holds ≡ true = each_holds (conversion_questions known q) refl e in
    let codes = (and-eq-true_iff (leb q.codes.order 3) _).0 (h 1) in
    let codes' = (and-eq-true_iff (leb q.codes.range 1) _).0 codes.1 in
    let codes'' = (and-eq-true_iff (leb q.codes.matrix 6) _).0 codes'.1 in
    let codes''' = (and-eq-true_iff (leb q.codes.packing (last_packing q.codes.depth)) _).0 codes''.1 in
    let codes'''' = (and-eq-true_iff (leb q.codes.mode 1) _).0 codes'''.1 in
    let least = (and-eq-true_iff (leb 1 q.image.width) _).0 (h 2) in
    let most = (and-eq-true_iff (leb q.image.width 16384) _).0 (h 3) in
    record {
      sampling = leb-true _ _ (h 0);
      order = leb-true _ _ codes.0;
      range = leb-true _ _ codes'.0;
      matrix = leb-true _ _ codes''.0;
      packing = leb-true _ _ codes'''.0;
      mode = leb-true _ _ codes''''.0;
      depth = subst⁻¹ T codes''''.1 tt;
      width_least = leb-true _ _ least.0;
      height_least = leb-true _ _ least.1;
      width_most = leb-true _ _ most.0;
      height_most = leb-true _ _ most.1;
      rgb_length = leb-true _ _ (h 4);
      rgb_stride = leb-true _ _ (h 5);
      y_stride = leb-true _ _ (h 6);
      y_length = leb-true _ _ (h 7);
      u_stride = leb-true _ _ (h 8);
      u_length = leb-true _ _ (h 9);
      v_stride = leb-true _ _ (h 10);
      v_length = leb-true _ _ (h 11);
      weights = subst⁻¹ T (h 12) tt;
    }
