-- The row of a setting that the source stores one for, and what its formula asks of weights and ranges.
-- Definitions only.
use Rattle.std.specs.Prelude.{◌≡◌, cond, ℕ, ◌-◌, ◌*◌, ◌≤◌, ◌<◌, T, Option, Some, None}
use Rattle.yuv_support.specs.declared.YuvRange.{YuvRange}
use Rattle.yuv_support.specs.declared.YuvStandardMatrix.{YuvStandardMatrix}
use Rattle.yuv_support.specs.declared.YuvMode.{YuvMode}
use Rattle.yuv_support.specs.declared.CbCrInverseTransform.{CbCrInverseTransform}
use Rattle.yuv_support.specs.Coefficients.{is_stored, stored_of, rule_of, NearestExact}
use Rattle.yuv_support.specs.Distance.{measured_at}
use Rattle.built_coefficients.specs.declared.Weights.{Weights}

-- the row where there is one
unfoldable pub built_of : ℕ → YuvRange → YuvStandardMatrix → YuvMode → Option CbCrInverseTransform
built_of d r m mode = cond (is_stored d m) (Some (stored_of d r m mode)) None

-- what is promised of the row of a measured setting: each coefficient is the whole number nearest the exact one
unfoldable pub NearestRow : ℕ → YuvRange → YuvStandardMatrix → YuvMode → Option CbCrInverseTransform → Type 0
NearestRow d r m mode (Some k) = T (measured_at d m mode) → NearestExact d r m k
NearestRow d r m mode None = Unit {0}

-- the rule for these weights gives the rows of a matrix in a mode
abbrev pub StoredBy : YuvStandardMatrix → YuvMode → Weights → Type 0
StoredBy m mode k = (d : ℕ) (r : YuvRange) → rule_of d r k.kr k.kb (10000 - k.kr - k.kb) ≡ stored_of d r m mode

-- neither weight is above 0.3, so that kg is above both
abbrev pub SmallWeights : Weights → Type 0
SmallWeights k = (k.kr ≤ 3000) × (k.kb ≤ 3000)

-- M is at most twice a range (it is less than 256/219 of it)
abbrev pub AtMostTwo : ℕ → ℕ → Type 0
AtMostTwo m range = (0 < range) × (m ≤ 2 * range)
