-- What the functions below the readers find is the place that the definitions name (`placed_result`). Of a part as it is handed back: that it
-- lies in the buffer (`placed_within`) and holds the elements of its place (`placed_cut`), how long it is, and that the number is 0 exactly when
-- elements came back.
-- Assumes nothing.
use mathlib.Core.Path.{◌≡◌, refl, ◌∙◌}
use mathlib.Core.Logic.{◌↔◌}
use mathlib.Core.Bool.{Bool, true, false, cond}
use mathlib.Core.List.{List, []}
use Prim.Native.Nat.{ℕ, ◌+◌, ◌≤◌, ◌<◌}
use native.Mathlib.Omega.{arith}
use borrow.Author.Tests.{eqb-true, eq-eqb}
use lib.Dec.{eqb}
use lib.ListN.{length, take, drop}
use Rattle.std.specs.Prelude.{Result, Ok, Err, IfOk}
use Rattle.yuv_support.specs.Questions.{Verdict}
use Rattle.yuv_support.proofs.Rows.{part_length}
use Rattle.yuv_error.specs.declared.error.YuvError.{YuvError}
use Rattle.yuv_error.specs.Told.{answered}
use Rattle.yuv_error.proofs.Refused.{refused_number}
use Rattle.row_readers.specs.declared.Part.{Part}
use Rattle.row_readers.specs.declared.Place.{Place}
use Rattle.row_readers.specs.Places.{placed_by}
use Rattle.row_readers.specs.Readers.{handed, placed}

pub placed_result : (r : Result Place YuvError) (v : Verdict) (start n : ℕ) → answered r ≡ v → IfOk r (λ p. p ≡ record { start = start; length = n })
    → placed_by r ≡ placed v start n
placed_result (Ok p) v start n answer place = rw (← answer, place) refl
placed_result (Err e) v start n answer place = rw (← answer, refused_number e) refl

-- on a "no", start and length are 0 whatever an accepted call would have had
pub refused_place : (p : Part) (v w : Verdict) (start n : ℕ) → p ≡ placed v 0 0 → v ≡ w → eqb v.number 0 ≡ false → p ≡ placed w start n
refused_place p v w start n e same says = e ∙ rw (← same, says)

module _ {X : Type 0} (v : Verdict) (start n : ℕ) (buffer : List X) (fits : v.number ≡ 0 → start + n ≤ length buffer) where
  pub placed_within : (placed v start n).start + (placed v start n).length ≤ length buffer
  placed_within = by_number (eqb v.number 0) refl
    where
      by_number : (t : Bool) → eqb v.number 0 ≡ t → cond t start 0 + cond t n 0 ≤ length buffer
      by_number true e = fits (eqb-true v.number 0 e)
      by_number false e = omega arith

  pub placed_cut : take (placed v start n).length (drop (placed v start n).start buffer) ≡ handed v (take n (drop start buffer))
  placed_cut = by_number (eqb v.number 0)
    where
      by_number : (t : Bool) → take (cond t n 0) (drop (cond t start 0) buffer) ≡ cond t (take n (drop start buffer)) []
      by_number true = refl
      by_number false = refl

  pub handed_length : v.number ≡ 0 → length (handed v (take n (drop start buffer))) ≡ n
  handed_length e =
      let f : start + n ≤ length buffer = fits e in
      rw (eq-eqb v.number 0 e) (part_length start n buffer (omega arith))

  pub accepted_iff_handed : (v.number ≡ 0 → 1 ≤ n) → (v.number ≡ 0) ↔ (0 < length (handed v (take n (drop start buffer))))
  accepted_iff_handed some = (forth, back (eqb v.number 0) refl)
    where
      forth : v.number ≡ 0 → 0 < length (handed v (take n (drop start buffer)))
      forth e = let l = handed_length e in let s = some e in omega arith

      back : (t : Bool) → eqb v.number 0 ≡ t → 0 < length (cond t (take n (drop start buffer)) []) → v.number ≡ 0
      back true e h = eqb-true v.number 0 e
      back false e h = omega arith
