-- A decimal number that is written is read back: its text is one to five digits and nothing else (`decimal_text_digits`), and the number
-- that they make is the one that was written (`decimal_text_value`), shown digit by digit from the left.
-- Assumes nothing.
use mathlib.Core.Path.{◌≡◌, refl, sym, ◌∙◌}
use mathlib.Core.Bool.{Bool, true, false, cond}
use mathlib.Core.List.{List, [], ◌∷◌, ◌++◌, append-nil}
use Prim.Native.Nat.{ℕ, zero, suc, ◌+◌, ◌*◌, ◌/◌, ◌%◌, ◌≤◌, ◌<◌}
use native.Mathlib.Nat.{div-add-mod, div-eq_of_lt, div-div-eq-div-mul}
use native.Mathlib.Omega.{arith}
use borrow.Author.Tests.{le-leb, leb-false}
use lib.Dec.{leb}
use lib.ListN.{length, length-append, get_or-append}
use lib.Seq.{get_or-append_seam}
use Rattle.sheet_writing.specs.Text.{leading_digit, decimal_text}
use Rattle.sheet_numbers.specs.Numbers.{byte_at, is_digit, decimal, all_below}

-- ---- digits and nothing else

abbrev pub Digit : ℕ → Type 0
Digit byte = (48 ≤ byte) × (byte ≤ 57)

pub record Digits (text : List ℕ) : Type 0 where
  pub each : (i : ℕ) → i < length text → Digit (byte_at text i)

digits_then : {a b : List ℕ} → Digits a → Digits b → Digits (a ++ b)
digits_then {a} {b} first second = record { each = go a first.each }
  where
    go : (l : List ℕ) → ((i : ℕ) → i < length l → Digit (byte_at l i)) → (i : ℕ) → i < length (l ++ b) → Digit (byte_at (l ++ b) i)
    go [] f i h = second.each i h
    go (x ∷ l) f zero h = f zero (omega arith)
    go (x ∷ l) f (suc i) h = go l (λ j m. f (suc j) (omega arith)) i (omega arith)

one_digit : (x : ℕ) → x ≤ 9 → Digits ((48 + x) ∷ [])
one_digit x most = record { each = go }
  where
    go : (i : ℕ) → i < 1 → Digit (byte_at ((48 + x) ∷ []) i)
    go zero h = (omega arith, omega arith)
    go (suc i) h = absurd (omega arith)

digit_or_none : (t : Bool) (x : ℕ) → x ≤ 9 → Digits (cond t ((48 + x) ∷ []) [])
digit_or_none true x most = one_digit x most
digit_or_none false x most = record { each = λ i h. absurd (omega arith) }

leading_digits : (power n : ℕ) → Digits (leading_digit power n)
unfolding leading_digit
leading_digits power n = digit_or_none (leb power n) (n / power % 10) (omega arith)

pub decimal_text_digits : (n : ℕ) → Digits (decimal_text n)
unfolding decimal_text
decimal_text_digits n =
    digits_then
    (digits_then (digits_then (digits_then (leading_digits 10000 n) (leading_digits 1000 n)) (leading_digits 100 n)) (leading_digits 10 n))
    (one_digit (n % 10) (omega arith))

pub decimal_text_not_empty : (n : ℕ) → 1 ≤ length (decimal_text n)
unfolding decimal_text
decimal_text_not_empty n = simp length-append (omega arith)

all_hold : (p : ℕ → Bool) (n : ℕ) → ((i : ℕ) → i < n → p i ≡ true) → all_below p n ≡ true
unfolding all_below
all_hold p zero h = refl
all_hold p (suc n) h = rw (all_hold p n (λ i l. h i (omega arith)), h n (omega arith))

pub decimal_text_all_digits : (n : ℕ) → all_below (λ i. is_digit (byte_at (decimal_text n) i)) (length (decimal_text n)) ≡ true
decimal_text_all_digits n = all_hold _ _ digit
  where
    digit : (i : ℕ) → i < length (decimal_text n) → is_digit (byte_at (decimal_text n) i) ≡ true
    digit i h = let d = (decimal_text_digits n).each i h in rw (le-leb 48 _ d.0, le-leb _ 57 d.1)

-- ---- the number that they make

record Makes (text : List ℕ) (n : ℕ) : Type 0 where
  value : decimal text 0 (length text) ≡ n

decimal_front : (a b : List ℕ) (n : ℕ) → n ≤ length a → decimal (a ++ b) 0 n ≡ decimal a 0 n
unfolding decimal
decimal_front a b zero h = refl
decimal_front a b (suc n) h =
    let e : 0 + n ≡ n = omega arith in
    rw (e, get_or-append a b 0 n (omega arith), decimal_front a b n (omega arith))

makes_none : Makes [] 0
unfolding decimal
makes_none = record { value = refl }

makes_one : {a : List ℕ} {m : ℕ} (x : ℕ) → Makes a m → Makes (a ++ (48 + x) ∷ []) (10 * m + x)
unfolding decimal
makes_one {a} {m} x p =
    let l : length (a ++ (48 + x) ∷ []) ≡ suc (length a) = simp length-append (omega arith) in
    let e : 0 + length a ≡ length a = omega arith in
    record {
      value =
          rw (l, e, get_or-append_seam a (48 + x) [] 0, decimal_front a ((48 + x) ∷ []) (length a) (omega arith), p.value) (omega arith);
    }

-- the digit at a power of ten, or none where the number is below it, behind those at the greater powers
makes_leading : {a : List ℕ} {m : ℕ} (power n : ℕ) → Makes a m → m ≡ n / (power * 10) → Makes (a ++ leading_digit power n) (n / power)
unfolding leading_digit
makes_leading {a} {m} power n p v = by_test (leb power n) refl
  where
    by_test : (t : Bool) → leb power n ≡ t → Makes (a ++ cond t ((48 + n / power % 10) ∷ []) []) (n / power)
    by_test true e =
        let d : 10 * m + n / power % 10 ≡ n / power = rw (v, ← div-div-eq-div-mul n power 10) (div-add-mod (n / power) 10) in
        rw d at (makes_one (n / power % 10) p)
    by_test false e =
        let below = leb-false power n e in
        let d : m ≡ n / power = v ∙ div-eq_of_lt (let l : n < power * 10 = omega arith in l) ∙ sym (div-eq_of_lt below) in
        rw (append-nil a, ← d) p

pub decimal_text_value : (n : ℕ) → n ≤ 99999 → decimal (decimal_text n) 0 (length (decimal_text n)) ≡ n
unfolding decimal_text
decimal_text_value n most =
    let none : 0 ≡ n / 100000 = sym (div-eq_of_lt (let l : n < 100000 = omega arith in l)) in
    let first = makes_leading 10000 n makes_none none in
    let front = makes_leading 10 n (makes_leading 100 n (makes_leading 1000 n first refl) refl) refl in
    (makes_one (n % 10) front).value ∙ div-add-mod n 10
