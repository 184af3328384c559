-- Laws of one number: a turn of the loop over its digits, and the place after a number that is well formed.
-- Assumes nothing.
use mathlib.Core.Path.{◌≡◌, refl, sym, ◌∙◌}
use mathlib.Core.Bool.{Bool, true, false, cond, and-eq-true_iff, and-false}
use mathlib.Core.List.{List}
use mathlib.Core.Logic.{◌⊎◌, inl, inr}
use Prim.Native.Nat.{ℕ, zero, suc, ◌+◌, ◌-◌, ◌*◌, ◌^◌, ◌≤◌, ◌<◌}
use native.Mathlib.Nat.{pow-suc, pow-le-pow_right}
use native.Mathlib.Omega.{arith}
use borrow.Author.Tests.{leb-true, eqb-true, le-leb, lt-leb, eq-eqb, ne_eqb}
use lib.Dec.{leb, lit<}
use lib.ListN.{length, get_or-eq_default}
use Rattle.std.specs.Prelude.{Some, None}
use Rattle.std.proofs.lemmas.Bool.{cases_lt}
use Rattle.sheet_numbers.specs.Read.{number_read}
use Rattle.sheet_numbers.specs.Numbers.{byte_at, is_digit, digits_within, digits_at, decimal, number_at, past, is_number}

-- after `count` digits, `value` being their number, the byte at `place` and the rest of the five are looked at
pub record Passed (s : List ℕ) (at value count place : ℕ) : Type 0 where
  pub here : place ≡ at + count
  pub most : count ≤ 5
  pub digits : digits_at s at ≡ count + digits_within (5 - count) s (at + count)
  pub number : value ≡ decimal s at count
  pub small : value < 10 ^ count

pub digit_bounds : (byte : ℕ) → is_digit byte ≡ true → (48 ≤ byte) × (byte ≤ 57)
digit_bounds byte e =
    let p = (and-eq-true_iff (leb 48 byte) (leb byte 57)).0 e in
    (leb-true 48 byte p.0, leb-true byte 57 p.1)

-- five digits are below 100,000
pub small_bound : {s : List ℕ} {at value count place : ℕ} → Passed s at value count place → value < 100000
small_bound {s} {at} {value} {count} {place} p =
    let m : 10 ^ count ≤ 10 ^ 5 = pow-le-pow_right (let l : 0 < 10 = lit< tt in l) p.most in
    omega (arith, p.small)

pub passed_none : {s : List ℕ} {at : ℕ} → Passed s at 0 0 at
unfolding decimal
passed_none {s} {at} = record {
  here = omega arith;
  most = omega arith;
  digits = let e : at + 0 ≡ at = omega arith in rw e (omega arith);
  number = refl;
  small = lit< tt;
}

-- the next byte is a digit
pub passed_one : {s : List ℕ} {at value count place byte : ℕ} → Passed s at value count place → place < at + 5 → byte ≡ byte_at s place
    → is_digit byte ≡ true → Passed s at (10 * value + (byte - 48)) (count + 1) (place + 1)
unfolding digits_within decimal
passed_one {s} {at} {value} {count} {place} {byte} p l e d =
    let f : byte ≡ byte_at s (at + count) = rw p.here at e in
    let k : 5 - count ≡ suc (5 - (count + 1)) = omega (arith, p.here) in
    let n : count + 1 ≡ suc count = omega arith in
    let a : at + (count + 1) ≡ at + count + 1 = omega arith in
    let w : 10 ^ (count + 1) ≡ 10 ^ count * 10 = rw (n, pow-suc 10 count) in
    let b = digit_bounds byte d in
    let g : is_digit (byte_at s (at + count)) ≡ true = rw f at d in
    let m : digits_within (5 - count) s (at + count) ≡ 1 + digits_within (5 - (count + 1)) s (at + count + 1) = rw (k, g) in
    record {
      here = omega (arith, p.here);
      most = omega (arith, p.here);
      digits = rw a (omega (arith, p.digits));
      number = rw (n, ← p.number, f);
      small = omega (arith, p.small);
    }

-- a byte that is no digit, or five digits, end the number
passed_end : {s : List ℕ} {at value count place : ℕ} → Passed s at value count place → digits_within (5 - count) s (at + count) ≡ 0
    → (count ≡ digits_at s at) × (value ≡ number_at s at)
unfolding number_at
passed_end {s} {at} {value} {count} {place} p d = let c : digits_at s at ≡ count = omega (arith, p.digits) in (sym c, p.number ∙ rw c)

pub passed_stop : {s : List ℕ} {at value count place byte : ℕ} → Passed s at value count place → place < at + 5 → byte ≡ byte_at s place
    → is_digit byte ≡ false → (count ≡ digits_at s at) × (value ≡ number_at s at)
unfolding digits_within
passed_stop {s} {at} {value} {count} {place} {byte} p l e d =
    let g : is_digit (byte_at s (at + count)) ≡ false = rw (e, p.here) at d in
    let k : 5 - count ≡ suc (5 - (count + 1)) = omega (arith, p.here) in
    passed_end p (rw (k, g))

pub passed_five : {s : List ℕ} {at value count place : ℕ} → Passed s at value count place → at + 5 ≤ place
    → (count ≡ digits_at s at) × (value ≡ number_at s at)
unfolding digits_within
passed_five {s} {at} {value} {count} {place} p h = let k : 5 - count ≡ 0 = omega (arith, p.here) in passed_end p (rw k)

-- a number's digits are at most five
one_or_none : (t : Bool) (n most : ℕ) → n ≤ most → cond t (1 + n) 0 ≤ suc most
one_or_none true n most h = omega arith
one_or_none false n most h = omega arith

within_most : (s : List ℕ) (most at : ℕ) → digits_within most s at ≤ most
unfolding digits_within
within_most s zero at = omega arith
within_most s (suc most) at = one_or_none (is_digit (byte_at s at)) (digits_within most s (at + 1)) most (within_most s most (at + 1))

pub digits_most : (s : List ℕ) (at : ℕ) {count : ℕ} → count ≡ digits_at s at → count ≤ 5
digits_most s at e = rw e (within_most s 5 at)

-- a byte that is not 0 stands inside the list
pub inside : (s : List ℕ) (i : ℕ) → 0 < byte_at s i → i < length s
inside s i h = go (cases_lt i (length s))
  where
    go : (i < length s) ⊎ (length s ≤ i) → i < length s
    go (inl l) = l
    go (inr l) = let z : byte_at s i ≡ 0 = get_or-eq_default s 0 l in absurd (omega arith)

-- so does the byte that ends a number
pub past_within : (s : List ℕ) (at end : ℕ) → 0 < end → is_number s at end ≡ true → past s at ≤ length s
unfolding is_number past
past_within s at end pos e =
    let p = (and-eq-true_iff (leb 1 (digits_at s at)) _).0 e in
    let q = eqb-true (byte_at s (at + digits_at s at)) end p.1 in
    omega (arith, inside s (at + digits_at s at) (omega arith))

-- ---- what reading a number answers, from its digits and the byte after them

module _ (s : List ℕ) (at end : ℕ) {count value : ℕ} (digits : count ≡ digits_at s at) (number : value ≡ number_at s at) where
  pub no_digit : count ≡ 0 → None ≡ number_read s at end
  unfolding is_number
  no_digit h = let l : digits_at s at < 1 = omega (arith, digits, h) in rw (lt-leb 1 (digits_at s at) l)

  pub not_ended : {byte : ℕ} → byte ≡ byte_at s (at + count) → (byte ≡ end → ⊥) → None ≡ number_read s at end
  unfolding is_number
  not_ended e h = rw (← digits, ← e, ne_eqb _ end h, and-false (leb 1 count))

  pub ended : {byte : ℕ} → (count ≡ 0 → ⊥) → byte ≡ byte_at s (at + count) → byte ≡ end
      → Some (record { value = value; next = at + count + 1 }) ≡ number_read s at end
  unfolding is_number past
  ended some e h = let l : 1 ≤ count = omega arith in rw (← digits, ← number, le-leb 1 count l, ← e, eq-eqb _ end h)
