-- The coefficients of a setting from what the lookup found, and its question 13 from the matrix and the coefficients.
-- Assumes nothing.
use Rattle.std.specs.Prelude.{Option, Some, None, MatchOption}
use mathlib.Core.Path.{◌≡◌, ap, ◌∙◌}
use mathlib.Core.Bool.{Bool, true, false, cond}
use Rattle.yuv_support.specs.declared.CbCrInverseTransform.{CbCrInverseTransform}
use Rattle.yuv_support.specs.declared.Settings.{Settings}
use Rattle.yuv_support.specs.Coefficients.{is_stored, stored_of, computed_of, coefficients_of, usable_with, usable}
use Rattle.built_coefficients.specs.Built.{built_of}

module _ (s : Settings) where
  abbrev found : Option CbCrInverseTransform
  found = built_of s.depth s.range s.matrix s.mode

  abbrev stored : CbCrInverseTransform
  stored = stored_of s.depth s.range s.matrix s.mode

  abbrev computed : CbCrInverseTransform
  computed = computed_of s.depth s.range s.matrix

  -- the row that the lookup found, or the computed coefficients where it found none
  pub row_or : {o : Option CbCrInverseTransform} {k : CbCrInverseTransform} {P : Type 0} → o ≡ found → MatchOption o P (λ row. k ≡ row)
      → (P → k ≡ computed) → k ≡ coefficients_of s
  unfolding built_of coefficients_of
  row_or {o} {k} {P} e m made = by_test (is_stored s.depth s.matrix) (rw e at m)
    where
      by_test : (b : Bool) → MatchOption (cond b (Some stored) None) P (λ row. k ≡ row) → k ≡ cond b stored computed
      by_test true q = q
      by_test false q = made q

  -- b being whether coefficients t that are the setting's are usable for its matrix
  pub usable_from : (t : CbCrInverseTransform) (b : Bool) → t ≡ coefficients_of s → b ≡ usable_with s.matrix t → b ≡ usable s
  unfolding usable
  usable_from t b e u = u ∙ ap (usable_with s.matrix) e
