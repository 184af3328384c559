-- A number of digits that is read and capped (`Digits`), and two texts compared (`same_is_eq`).
-- Assumes nothing.
use mathlib.Core.Path.{◌≡◌, refl, ◌∙◌}
use mathlib.Core.Bool.{Bool, true, false, and-false, ◌&&◌}
use mathlib.Core.List.{List, [], ◌∷◌}
use Prim.Native.Nat.{ℕ, suc, ◌+◌, ◌-◌, ◌*◌, ◌≤◌, ◌<◌}
use native.Mathlib.Omega.{arith}
use borrow.Author.Tests.{le-leb}
use Rattle.std.specs.Prelude.{Some, None}
use lib.Dec.{leb, eqb, eqb-zero-suc, eqb-suc-zero, eqb-suc-suc}
use lib.ListN.{length}
use lib.Pointwise.{pointwise}
use Rattle.sheet_numbers.specs.Numbers.{byte_at, is_digit, decimal, all_below}
use Rattle.sheet_numbers.specs.Read.{begins_with}
use Rattle.sheet_numbers.proofs.ManyNumbers.{all_none, all_one, not_all}
use Rattle.sheet_numbers.proofs.Begins.{begins_first}
use Rattle.y4m_lines.specs.Header.{digit_at, is_number, same_text}
use Rattle.y4m_lines.specs.Read.{capped, number_read}

-- the first i bytes of a text are digits, and `value` is the number that they make, capped
pub record Digits (text : List ℕ) (value i : ℕ) : Type 0 where
  pub most : i ≤ length text
  pub digits : all_below (digit_at text) i ≡ true
  pub number : value ≡ capped (decimal text 0 i)

pub digits_none : (text : List ℕ) → Digits text 0 0
unfolding decimal
digits_none text = record { most = omega arith; digits = all_none (digit_at text); number = refl }

pub digits_bound : {text : List ℕ} {value i : ℕ} → Digits text value i → value ≤ 16385
digits_bound d = omega (arith, d.number)

pub digits_one : {text : List ℕ} {value i byte next : ℕ} → Digits text value i → i < length text → byte ≡ byte_at text i → is_digit byte ≡ true
    → next ≡ capped (10 * value + (byte - 48)) → Digits text next (i + 1)
unfolding decimal
digits_one {text} {value} {i} {byte} {next} d h b e c =
    let n : i + 1 ≡ suc i = omega arith in
    let p : 0 + i ≡ i = omega arith in
    record {
      most = omega arith;
      digits = all_one (digit_at text) i d.digits (rw b at e);
      number = c ∙ rw (n, p, d.number, b) (omega arith);
    }

-- what reading a number answers: there is no byte, or one that is no digit, or all are digits
pub no_digits : (text : List ℕ) → length text ≡ 0 → None ≡ number_read text
unfolding is_number
no_digits text e = rw e

pub digits_missed : (text : List ℕ) {i byte : ℕ} → i < length text → byte ≡ byte_at text i → is_digit byte ≡ false → None ≡ number_read text
unfolding is_number
digits_missed text {i} h b e =
    rw (not_all (digit_at text) (length text) h (rw b at e), and-false (leb 1 (length text)))

pub digits_all : {text : List ℕ} {value i : ℕ} → Digits text value i → length text ≤ i → (length text ≡ 0 → ⊥) → Some value ≡ number_read text
unfolding is_number
digits_all {text} {value} {i} d h e =
    let n : i ≡ length text = omega (arith, d.most) in
    let l : 1 ≤ length text = omega arith in
    rw (le-leb 1 (length text) l, ← n, d.digits, d.number)

-- ---- two texts

and_swap : (a b c : Bool) → a && (b && c) ≡ b && (a && c)
and_swap true true c = refl
and_swap true false c = refl
and_swap false true c = refl
and_swap false false c = refl

pub same_is_eq : (a b : List ℕ) → pointwise eqb a b ≡ same_text a b
unfolding all_below
same_is_eq [] [] = refl
same_is_eq [] (y ∷ b) = rw (eqb-zero-suc (length b)) refl
same_is_eq (x ∷ a) [] = rw (eqb-suc-zero (length a)) refl
same_is_eq (x ∷ a) (y ∷ b) =
    rw (same_is_eq a b, eqb-suc-suc (length a) (length b), begins_first x y a b)
    (and_swap (eqb x y) (eqb (length a) (length b)) (begins_with a b))
