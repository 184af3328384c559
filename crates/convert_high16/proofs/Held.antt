-- Elements divided are the samples of the high bits; and what a held row has after it was unpacked.
-- Assumes nothing.
use mathlib.Core.Path.{◌≡◌, refl, sym, ap, ◌∙◌}
use mathlib.Core.Bool.{Bool, true, false, cond}
use mathlib.Core.List.{List}
use Prim.Native.Nat.{ℕ, ◌-◌, ◌/◌, ◌%◌, ◌^◌}
use native.Mathlib.Nat.{zero-div}
use lib.Dec.{eqb}
use lib.ListN.{length, get_or, take, length-map, get_or-map}
use Rattle.std.specs.Prelude.{Some}
use Rattle.yuv_support.specs.declared.YuvBytesPacking.TheVariants.{MostSignificantBytes}
use Rattle.yuv_support.specs.Settings.{unpacked, samples_of}
use Rattle.yuv_support.specs.Questions.{part_of}
use Rattle.convert_high16.specs.declared.HeldRows.{HeldRows}
use Rattle.convert_high16.specs.Held.{divided_by, place_of, held_row, Held}

pub divided_length : (shift : ℕ) (xs : List ℕ) → length (divided_by shift xs) ≡ length xs
divided_length shift xs = length-map xs (λ x. x / 2 ^ shift)

pub divided_at : (shift : ℕ) (xs : List ℕ) (i : ℕ) → get_or (divided_by shift xs) i 0 ≡ get_or xs i 0 / 2 ^ shift
divided_at shift xs i =
    ap (λ (z : ℕ). get_or (divided_by shift xs) i z) (sym (zero-div (2 ^ shift))) ∙ get_or-map (λ x. x / 2 ^ shift) xs i 0

-- by the bits above the depth they are the samples
pub divided_samples : (d : ℕ) (xs : List ℕ) → divided_by (16 - d) xs ≡ samples_of MostSignificantBytes d xs
unfolding unpacked
divided_samples d xs = refl

-- ---- held rows

-- the row that the place of c names is the one that stands there
pub in_place : {n shift columns stride : ℕ} {plane : List ℕ} {held : HeldRows n} → Held shift columns stride plane held
    → (c : ℕ) → (place_of held c).number ≡ Some c → held_row columns held c ≡ divided_by shift (part_of stride c columns plane)
in_place {n} {shift} {columns} {stride} {plane} {held} h c named = by_parity (eqb (c % 2) 0) named
  where
    by_parity : (even : Bool) → (cond even held.even held.odd).number ≡ Some c
        → take columns (cond even held.even held.odd).samples ≡ divided_by shift (part_of stride c columns plane)
    by_parity true e = h.even c e
    by_parity false e = h.odd c e
