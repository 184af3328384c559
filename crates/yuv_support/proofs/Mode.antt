-- What the modes have to do with each other: the weights of a pixel that is in no two-row tail are the same in both, and so are the
-- coefficients of every setting but `Smpte240` at depth 8.
-- Assumes nothing.
use mathlib.Core.Path.{◌≡◌, refl}
use Prim.Native.Nat.{ℕ}
use borrow.Author.Tests.{ne_eqb}
use mathlib.Core.Bool.{cond}
use Rattle.yuv_support.specs.declared.YuvRange.{YuvRange}
use Rattle.yuv_support.specs.declared.YuvStandardMatrix.{YuvStandardMatrix}
use Rattle.yuv_support.specs.declared.YuvStandardMatrix.TheVariants.{Bt601, Bt709, Bt2020, Smpte240, Bt470_6, Fcc, Custom}
use Rattle.yuv_support.specs.declared.YuvMode.TheVariants.{AsSource, Matched}
use Rattle.yuv_support.specs.declared.Settings.{Settings}
use Rattle.yuv_support.specs.Coefficients.{stored_of, is_stored, computed_of, coefficients_of}
use Rattle.yuv_support.specs.Blend.{Frame, Chroma, chroma_blue, chroma_red, Rows, one, two, Place, left, right, tail, rows_of, place_of, sixteenths, chroma16}
use Rattle.yuv_support.specs.Component.{quotient_of, quotient_at, component_at}
use Rattle.yuv_support.specs.Mode.{CrAsCb, in_mode, ModesAgree}

pub cr_as_cb : CrAsCb
unfolding sixteenths
cr_as_cb one left a b c e = refl
cr_as_cb one right a b c e = refl
cr_as_cb one tail a b c e = refl
cr_as_cb two left a b c e = refl
cr_as_cb two right a b c e = refl
cr_as_cb two tail a b c e = refl

same_weights : (ch : Chroma) (rows : Rows) (place : Place) (a b c e : ℕ) → (rows ≡ two → place ≡ tail → ⊥)
    → sixteenths Matched ch rows place a b c e ≡ sixteenths AsSource ch rows place a b c e
unfolding sixteenths
same_weights ch one left a b c e n = refl
same_weights ch one right a b c e n = refl
same_weights ch one tail a b c e n = refl
same_weights ch two left a b c e n = refl
same_weights ch two right a b c e n = refl
same_weights ch two tail a b c e n = absurd (n refl refl)

same_row : (d : ℕ) (r : YuvRange) (m : YuvStandardMatrix) → (m ≡ Smpte240 → d ≡ 8 → ⊥)
    → cond (is_stored d m) (stored_of d r m Matched) (computed_of d r m) ≡ cond (is_stored d m) (stored_of d r m AsSource) (computed_of d r m)
unfolding is_stored stored_of
same_row d r Bt601 n = refl
same_row d r Bt709 n = refl
same_row d r Bt2020 n = refl
same_row d r Smpte240 n = rw (ne_eqb d 8 (n refl))
same_row d r Bt470_6 n = refl
same_row d r Fcc n = refl
same_row d r (Custom kr kb) n = refl

module _ (s : Settings) (f : Frame) (row column : ℕ) (n : rows_of s.sampling f.height row ≡ two → place_of f.width column ≡ tail → ⊥) where
  same_chroma : (ch : Chroma) → chroma16 (in_mode Matched s) f ch row column ≡ chroma16 (in_mode AsSource s) f ch row column
  unfolding chroma16
  same_chroma ch = same_weights ch (rows_of s.sampling f.height row) (place_of f.width column) _ _ _ _ n

same_coefficients : (s : Settings) → (s.matrix ≡ Smpte240 → s.depth ≡ 8 → ⊥) → coefficients_of (in_mode Matched s) ≡ coefficients_of (in_mode AsSource s)
unfolding coefficients_of
same_coefficients s n = same_row s.depth s.range s.matrix n

pub modes_agree : ModesAgree
unfolding component_at quotient_at quotient_of
modes_agree s f c row column n k = rw (same_chroma s f row column n chroma_blue, same_chroma s f row column n chroma_red, same_coefficients s k)
