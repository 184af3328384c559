-- What a caller knows of lines that were read: where they end (`Lined`), and each of their numbers (`number_read`, `lines_most`).
-- Assumes nothing.
use mathlib.Core.Path.{◌≡◌, sym, ap, ◌∙◌}
use mathlib.Core.Bool.{true, false, and-eq-true_iff}
use mathlib.Core.List.{List, [], ◌∷◌, ◌++◌}
use mathlib.Core.Logic.{◌⊎◌, inl, inr}
use Prim.Native.Nat.{ℕ, zero, suc, ◌+◌, ◌≤◌, ◌<◌}
use native.Mathlib.Omega.{arith}
use borrow.Author.Tests.{leb-true}
use lib.ListN.{length, take, get_or, get_or-append}
use lib.Seq.{sets, sets-eq, take_at, get_or-take, get_or_at}
use Rattle.std.proofs.lemmas.Bool.{cases_lt}
use Rattle.sheet_writing.specs.Text.{joined}
use Rattle.std.specs.Prelude.{Option, Some, None}
use Rattle.sheet_numbers.specs.Numbers.{number_at, is_number, all_below, begin, ending, is_item, are_lines, numbers_from}
use Rattle.sheet_numbers.specs.Read.{lines_read, LinesTaken, Lined}
use Rattle.sheet_numbers.proofs.Optional.{some_met, none_unmet}
use Rattle.sheet_numbers.proofs.OneNumber.{past_within}
use Rattle.sheet_numbers.proofs.ManyNumbers.{all_below_lem, holding_all, numbers_length, ending_positive}

-- ---- where they end

pub lines_malformed : (s : List ℕ) (at width limit n : ℕ) {result : Option ℕ} → result ≡ lines_read s at width limit n → result ≡ None
    → are_lines s at width limit n ≡ false
lines_malformed s at width limit n e m = none_unmet (are_lines s at width limit n) (begin s at n) (sym e ∙ m)

-- well-formed lines end inside the list
lines_within : (s : List ℕ) (at width limit n : ℕ) → at ≤ length s → are_lines s at width limit n ≡ true → begin s at n ≤ length s
unfolding begin all_below is_item
lines_within s at width limit zero h e = h
lines_within s at width limit (suc n) h e =
    let p = (and-eq-true_iff (all_below (is_item s at width limit) n) _).0 e in
    let q = (and-eq-true_iff (is_number s (begin s at n) (ending width n)) _).0 p.1 in
    past_within s (begin s at n) (ending width n) (ending_positive width n) q.0

pub lined : {s : List ℕ} {at width limit n : ℕ} {old xs : List ℕ} {next : ℕ} {result : Option ℕ} → at ≤ length s → n ≤ length old
    → LinesTaken s at width limit n old xs result → result ≡ Some next → Lined s at width limit n xs next
lined {s} {at} {width} {limit} {n} {old} {xs} {next} h room t u =
    let f = some_met (are_lines s at width limit n) (begin s at n) next (sym t.answer ∙ u) in
    let l = numbers_length s at n in
    let e : xs ≡ sets old 0 (numbers_from s at n) = t.numbers ∙ rw (holding_all (is_item s at width limit) n f.0) in
    let k : 0 + length (numbers_from s at n) ≤ length old = omega arith in
    record {
      formed = f.0;
      end = f.1;
      within = let w = lines_within s at width limit n h f.0 in omega (arith, f.1);
      read = ap (take n) (e ∙ sets-eq (numbers_from s at n) old 0 k) ∙ take_at (numbers_from s at n) _ n l;
    }

-- ---- their numbers

-- number i of the list
numbers_step : (f : ℕ → ℕ) (xs : List ℕ) (n i : ℕ) → length xs ≡ n → (i < n → get_or xs i 0 ≡ f i) → (i < n) ⊎ (n ≤ i) → i < suc n
    → get_or (xs ++ (f n ∷ [])) i 0 ≡ f i
numbers_step f xs n i l rest (inl h) b = get_or-append xs (f n ∷ []) 0 i (let k : i < length xs = omega arith in k) ∙ rest h
numbers_step f xs n i l rest (inr h) b = let e : i ≡ n = omega arith in rw e (get_or_at xs (f n) [] 0 n l)

numbers_at : (s : List ℕ) (at n i : ℕ) → i < n → get_or (numbers_from s at n) i 0 ≡ number_at s (begin s at i)
unfolding joined
numbers_at s at zero i h = absurd (omega arith)
numbers_at s at (suc n) i h =
    numbers_step (λ i. number_at s (begin s at i)) (numbers_from s at n) n i (numbers_length s at n) (numbers_at s at n i) (cases_lt i n) h

pub number_read : (s : List ℕ) (at : ℕ) {n i : ℕ} (xs : List ℕ) → take n xs ≡ numbers_from s at n → i < n → get_or xs i 0 ≡ number_at s (begin s at i)
number_read s at {n} {i} xs e h = sym (get_or-take n xs i 0 h) ∙ ap (λ (t : List ℕ). get_or t i 0) e ∙ numbers_at s at n i h

-- each of them is within the limit
pub lines_most : (s : List ℕ) (at width limit : ℕ) {n : ℕ} (xs : List ℕ) → are_lines s at width limit n ≡ true → take n xs ≡ numbers_from s at n
    → (i : ℕ) → i < n → get_or xs i 0 ≤ limit
unfolding is_item
lines_most s at width limit {n} xs formed read i h =
    let p = (and-eq-true_iff (is_number s (begin s at i) (ending width i)) _).0
    (all_below_lem (is_item s at width limit) h formed) in
    rw (number_read s at xs read h) (leb-true _ _ p.1)
