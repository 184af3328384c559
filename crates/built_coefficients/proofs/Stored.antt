-- The weights of a matrix are those by which its rows are stored, and the row by them is the setting's.
-- Assumes nothing.
use Rattle.std.specs.Prelude.{Some, None}
use mathlib.Core.Path.{◌≡◌, refl, ap, sym, ◌∙◌}
use mathlib.Core.Bool.{Bool, true, false, not}
use mathlib.Core.List.{List, [], ◌∷◌}
use Prim.Native.Nat.{ℕ}
use native.Mathlib.Omega.{arith}
use lib.Dec.{T}
use borrow.Author.Tests.{not-true, not-false}
use denote.Enum.Declared.{tag_of}
use types.Run.{OneOf, miss}
use Rattle.yuv_support.specs.declared.YuvRange.{YuvRange}
use Rattle.yuv_support.specs.declared.YuvStandardMatrix.{YuvStandardMatrix}
use Rattle.yuv_support.specs.declared.YuvStandardMatrix.TheVariants.{Bt601, Bt709, Bt2020, Smpte240, Bt470_6, Fcc, Custom}
use Rattle.yuv_support.specs.declared.YuvMode.{YuvMode}
use Rattle.yuv_support.specs.declared.YuvMode.TheVariants.{AsSource, Matched}
use Rattle.yuv_support.specs.declared.CbCrInverseTransform.{CbCrInverseTransform}
use Rattle.yuv_support.specs.Settings.{among, depths, weight_r, weight_b, weight_g}
use Rattle.yuv_support.specs.Coefficients.{is_stored, stored_of}
use Rattle.yuv_support.proofs.Coefficients.{stored_known}
use Rattle.yuv_support.specs.contracts.YuvStandardMatrix.{the_type}
use Rattle.built_coefficients.specs.declared.Weights.{Weights}
use Rattle.built_coefficients.specs.Built.{built_of, SmallWeights, StoredBy}

abbrev pub own_weights : YuvStandardMatrix → Weights
own_weights m = record { kr = weight_r m; kb = weight_b m }

-- every matrix but `Smpte240`, by its variant's number
abbrev pub others : List ℕ
others = 0 ∷ 1 ∷ 2 ∷ 4 ∷ 5 ∷ 6 ∷ []

pub own : (m : YuvStandardMatrix) (mode : YuvMode) → OneOf others (tag_of the_type m) → StoredBy m mode (own_weights m) × SmallWeights (own_weights m)
unfolding stored_of weight_r weight_b weight_g
own Bt601 mode h = (λ d r. refl, (omega arith, omega arith))
own Bt709 mode h = (λ d r. refl, (omega arith, omega arith))
own Bt2020 mode h = (λ d r. refl, (omega arith, omega arith))
own Smpte240 mode h = absurd (miss others 3 tt h)
own Bt470_6 mode h = (λ d r. refl, (omega arith, omega arith))
own Fcc mode h = (λ d r. refl, (omega arith, omega arith))
own (Custom kr kb) mode h = (λ d r. refl, (omega arith, omega arith))

abbrev exchanged : Weights → Weights
exchanged k = record { kr = k.kb; kb = k.kr }

pub smpte240_as_source : StoredBy Smpte240 AsSource (exchanged (own_weights Smpte240)) × SmallWeights (exchanged (own_weights Smpte240))
unfolding stored_of weight_r weight_b weight_g
smpte240_as_source = (λ d r. refl, (omega arith, omega arith))

pub smpte240_matched : StoredBy Smpte240 Matched (own_weights Smpte240) × SmallWeights (own_weights Smpte240)
unfolding stored_of weight_r weight_b weight_g
smpte240_matched = (λ d r. refl, (omega arith, omega arith))

-- b is the answer to whether there is a row
module _ (d : ℕ) (r : YuvRange) (m : YuvStandardMatrix) (mode : YuvMode) {b : Bool} (e : b ≡ is_stored d m) where
  pub none : not b ≡ true → None ≡ built_of d r m mode
  unfolding built_of
  none n = rw (sym e ∙ not-true b n)

  pub known : not b ≡ false → T (among d depths)
  known n = stored_known d m (rw (sym e ∙ not-false b n) tt)

  pub row : {k : CbCrInverseTransform} → not b ≡ false → k ≡ stored_of d r m mode → Some k ≡ built_of d r m mode
  unfolding built_of
  row n q = rw (sym e ∙ not-false b n) (ap Some q)
