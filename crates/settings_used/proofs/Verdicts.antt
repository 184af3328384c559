-- The settings used, by the verdict; and those of an accepted conversion, whose questions are among its own.
-- Assumes nothing.
use mathlib.Core.Path.{◌≡◌, refl, sym, ap, ◌∙◌, subst}
use mathlib.Core.Bool.{true, false}
use Prim.Native.Nat.{ℕ, zero, suc}
use borrow.Author.Tests.{le-leb, eqb-true}
use lib.Dec.{T, eqb}
use Rattle.yuv_support.specs.declared.Codes.{Codes}
use Rattle.yuv_support.specs.Settings.{among, depths}
use Rattle.yuv_support.specs.Questions.{Verdict, verdict, decoded, settings_questions}
use Rattle.yuv_support.proofs.Tests.{passed}
use Rattle.yuv_support.proofs.Questions.{each_holds, question_at, all_hold_accepted}
use Rattle.yuv_support.proofs.Conversion.{accepted_call}
use Rattle.yuv_error.specs.Told.{as_told}
use Rattle.images.proofs.Held.{depth_held}
use Rattle.settings_used.specs.Used.{refusal, numbers_of, settings_used_of, ConvertedHas}

module _ (c : Codes) (v : Verdict) (is : v ≡ verdict (settings_questions (among c.depth depths) c)) where
  pub refused_used : eqb v.number 0 ≡ false → refusal (as_told v) ≡ settings_used_of c
  unfolding settings_used_of
  refused_used f = rw (← is, f)

  pub accepted_used : eqb v.number 0 ≡ true → numbers_of (decoded c) ≡ settings_used_of c
  unfolding settings_used_of
  accepted_used t = rw (← is, t)

  pub depth_known : eqb v.number 0 ≡ true → T (among c.depth depths)
  unfolding settings_questions
  depth_known t =
      let h = each_holds (settings_questions (among c.depth depths) c) refl
      (ap (λ (v : Verdict). v.number) (sym is) ∙ eqb-true v.number 0 t) 1 in
      subst T (sym (depth_held (among c.depth depths) c h)) tt

pub converted_has : ConvertedHas
unfolding settings_used_of settings_questions
converted_has known within codes image y u v stride rgb e = rw (all_hold_accepted (settings_questions (among codes.depth depths) codes) holds)
  where
    holds : (k : ℕ) → (question_at (settings_questions (among codes.depth depths) codes) k).holds ≡ true
    holds zero = le-leb _ _ (accepted_call known within codes image y u v stride rgb e).sampling
    holds (suc zero) =
        let a = accepted_call known within codes image y u v stride rgb e in
        simp (le-leb _ _ a.order, le-leb _ _ a.range, le-leb _ _ a.matrix, le-leb _ _ a.packing, le-leb _ _ a.mode, passed (among codes.depth depths) (within codes.depth a.depth))
    holds (suc (suc zero)) = passed _ (accepted_call known within codes image y u v stride rgb e).weights
    holds (suc (suc (suc k))) = refl
