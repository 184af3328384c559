-- The lookup's second promise follows from its first: a measured setting's row is rounded to nearest, by its matrix's own weights.
-- Assumes nothing.
use Rattle.std.specs.Prelude.{Option, Some, None}
use mathlib.Core.Path.{◌≡◌, subst⁻¹}
use mathlib.Core.Bool.{Bool, true, false, cond}
use Prim.Native.Nat.{ℕ}
use lib.Dec.{T}
use Rattle.yuv_support.specs.declared.YuvRange.{YuvRange}
use Rattle.yuv_support.specs.declared.YuvStandardMatrix.{YuvStandardMatrix}
use Rattle.yuv_support.specs.declared.YuvMode.{YuvMode}
use Rattle.yuv_support.specs.declared.CbCrInverseTransform.{CbCrInverseTransform}
use Rattle.yuv_support.specs.Coefficients.{NearestExact, stored_of, is_stored}
use Rattle.yuv_support.specs.Distance.{measured_at}
use Rattle.yuv_support.proofs.Coefficients.{stored_nearest}
use Rattle.built_coefficients.specs.Built.{built_of, NearestRow}

module _ (d : ℕ) (r : YuvRange) (m : YuvStandardMatrix) (mode : YuvMode) where
  if_stored : (b : Bool) → (T b → T (measured_at d m mode) → NearestExact d r m (stored_of d r m mode))
      → NearestRow d r m mode (cond b (Some (stored_of d r m mode)) None)
  unfolding NearestRow
  if_stored true h = h tt
  if_stored false h = tt

  nearest_row : NearestRow d r m mode (built_of d r m mode)
  unfolding built_of
  nearest_row = if_stored (is_stored d m) (stored_nearest d r m mode)

  pub both : {x : Option CbCrInverseTransform} → x ≡ built_of d r m mode → (x ≡ built_of d r m mode) × NearestRow d r m mode x
  both e = (e, subst⁻¹ (NearestRow d r m mode) e nearest_row)
