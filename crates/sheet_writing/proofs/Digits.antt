-- The digits of a number at several powers of ten, as the loop over them writes them.
-- Assumes nothing.
use Rattle.std.proofs.Common.{◌≡◌, refl, ◌∙◌, sym, ℕ, zero, suc, ◌+◌, ◌/◌, ◌%◌, ◌<◌, ◌≤◌, List, [], ◌∷◌, ◌++◌, length, get_or, take, append-nil, append_assoc, arith, length-append}
use Rattle.std.proofs.Math.Seq.{take-suc}
use borrow.Author.Tests.{le-leb, lt-leb}
use Rattle.sheet_writing.specs.Text.{leading_digit, decimal_text}
use Rattle.sheet_writing.proofs.Write.{leading_digit_length}

-- those at the given powers, one behind the other
abbrev pub digits_at : List ℕ → ℕ → List ℕ
digits_at [] n = []
digits_at (power ∷ powers) n = leading_digit power n ++ digits_at powers n

digits_append : (first more : List ℕ) (n : ℕ) → digits_at (first ++ more) n ≡ digits_at first n ++ digits_at more n
digits_append [] more n = refl
digits_append (power ∷ first) more n =
    rw (digits_append first more n) (sym (append_assoc (leading_digit power n) (digits_at first n) (digits_at more n)))

digits_one : (powers : List ℕ) (i n : ℕ) → i < length powers
    → digits_at (take (i + 1) powers) n ≡ digits_at (take i powers) n ++ leading_digit (get_or powers i 0) n
digits_one powers i n h =
    let e : i + 1 ≡ suc i = omega arith in
    rw (e, take-suc powers i 0 h, digits_append (take i powers) (get_or powers i 0 ∷ []) n, append-nil (leading_digit (get_or powers i 0) n)) refl

-- the digit at the next power, or none where the number is below it
pub digit_pushed : (powers : List ℕ) (i n : ℕ) {old new : List ℕ} → i < length powers → old ≡ digits_at (take i powers) n
    → get_or powers i 0 ≤ n → new ≡ old ++ (48 + n / get_or powers i 0 % 10) ∷ [] → new ≡ digits_at (take (i + 1) powers) n
unfolding leading_digit
digit_pushed powers i n {old} {new} h e l w = w ∙ rw (digits_one powers i n h, le-leb (get_or powers i 0) n l, e) refl

pub digit_left_out : (powers : List ℕ) (i n : ℕ) {old : List ℕ} → i < length powers → old ≡ digits_at (take i powers) n
    → n < get_or powers i 0 → old ≡ digits_at (take (i + 1) powers) n
unfolding leading_digit
digit_left_out powers i n {old} h e l =
    rw (digits_one powers i n h, lt-leb (get_or powers i 0) n l, append-nil (digits_at (take i powers) n)) e

digits_most : (powers : List ℕ) (i n : ℕ) → length (digits_at (take i powers) n) ≤ i
digits_most [] zero n = omega arith
digits_most [] (suc i) n = omega arith
digits_most (power ∷ powers) zero n = omega arith
digits_most (power ∷ powers) (suc i) n =
    let l = length-append (leading_digit power n) (digits_at (take i powers) n) in
    omega (arith, leading_digit_length power n, digits_most powers i n)

pub digit_room : (powers : List ℕ) (i n : ℕ) {old : List ℕ} → old ≡ digits_at (take i powers) n → i ≤ 4 → length old < 5
digit_room powers i n e h = rw e (omega (arith, digits_most powers i n))

pub all_digits : (n : ℕ) → digits_at (10000 ∷ 1000 ∷ 100 ∷ 10 ∷ []) n ++ (48 + n % 10) ∷ [] ≡ decimal_text n
unfolding decimal_text
all_digits n = simp (append_assoc, append-nil) refl
