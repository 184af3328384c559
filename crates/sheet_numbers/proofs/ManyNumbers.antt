-- Laws of many numbers: what the loop over them keeps (`Reading`), one number more (`reading_one`), and the numbers that are not well formed
-- because one of them is not.
-- Assumes nothing.
use mathlib.Core.Path.{◌≡◌, refl, sym, ap, ◌∙◌}
use mathlib.Core.Bool.{Bool, true, false, cond, ◌&&◌, and-false}
use mathlib.Core.List.{List, [], ◌∷◌, ◌++◌}
use mathlib.Core.Logic.{◌⊎◌, inl, inr}
use Prim.Native.Nat.{ℕ, zero, suc, ◌+◌, ◌%◌, ◌≤◌, ◌<◌}
use native.Mathlib.Omega.{arith}
use borrow.Author.Tests.{le-leb, lt-leb}
use Rattle.std.specs.Prelude.{Option, Some, None}
use lib.Dec.{eqb, lit<}
use lib.ListN.{length, length-append, set, length-set, take, drop}
use Rattle.std.proofs.lemmas.List.{set-append_left, take-append-drop, length-take-le}
use lib.Seq.{sets}
use Rattle.std.proofs.lemmas.Bool.{cases_lt}
use Rattle.sheet_numbers.specs.declared.Number.{Number}
use Rattle.sheet_writing.specs.Text.{joined}
use Rattle.sheet_numbers.specs.Numbers.{number_at, past, is_number, all_below, begin, ending, is_item, are_lines, numbers_from}
use Rattle.sheet_numbers.specs.Read.{number_read, holding, LinesTaken}
use Rattle.sheet_numbers.proofs.Optional.{some_met, none_unmet}
use Rattle.sheet_numbers.proofs.OneNumber.{past_within}
use Rattle.sheet_writing.proofs.Write.{sets_append, joined_one}

-- ---- of every number below n

pub all_none : (p : ℕ → Bool) → all_below p 0 ≡ true
unfolding all_below
all_none p = refl

pub all_one : (p : ℕ → Bool) (n : ℕ) → all_below p n ≡ true → p n ≡ true → all_below p (n + 1) ≡ true
unfolding all_below
all_one p n a b = let e : n + 1 ≡ suc n = omega arith in rw (e, a, b)

pub not_all : (p : ℕ → Bool) (n : ℕ) {i : ℕ} → i < n → p i ≡ false → all_below p n ≡ false
unfolding all_below
not_all p zero h e = absurd (omega arith)
not_all p (suc n) {i} h e = go (λ l. not_all p n l e) (cases_lt i n)
  where
    go : (i < n → all_below p n ≡ false) → (i < n) ⊎ (n ≤ i) → (all_below p n && p n) ≡ false
    go rest (inl l) = rw (rest l)
    go rest (inr g) = let q : n ≡ i = omega arith in rw (q, e) (and-false (all_below p i))

pub all_below_lem : (p : ℕ → Bool) {n i : ℕ} → i < n → all_below p n ≡ true → p i ≡ true
all_below_lem p {n} {i} h e = go (p i) refl
  where
    go : (t : Bool) → p i ≡ t → p i ≡ true
    go true q = q
    go false q = let z : true ≡ false = sym e ∙ not_all p n h q in q ∙ sym z

-- those before the first that fails
pub holding_all : (p : ℕ → Bool) (n : ℕ) → all_below p n ≡ true → holding p n ≡ n
unfolding holding
holding_all p zero e = refl
holding_all p (suc n) e = rw e

holding_first : (p : ℕ → Bool) (n : ℕ) {i : ℕ} → i < n → all_below p i ≡ true → p i ≡ false → holding p n ≡ i
unfolding holding
holding_first p zero h a e = absurd (omega arith)
holding_first p (suc n) {i} h a e = rw (not_all p (suc n) h e) (go (λ l. holding_first p n l a e) (cases_lt i n))
  where
    go : (i < n → holding p n ≡ i) → (i < n) ⊎ (n ≤ i) → holding p n ≡ i
    go rest (inl l) = rest l
    go rest (inr g) = let q : n ≡ i = omega arith in rw q (holding_all p i a)

-- ---- what reading one number answers

pub ending_positive : (width i : ℕ) → 0 < ending width i
ending_positive width i = go (eqb ((i + 1) % width) 0)
  where
    go : (t : Bool) → 0 < cond t 10 32
    go true = lit< tt
    go false = lit< tt

-- ---- the loop over n numbers

pub numbers_length : (s : List ℕ) (at n : ℕ) → length (numbers_from s at n) ≡ n
unfolding joined
numbers_length s at zero = refl
numbers_length s at (suc n) =
    let l = length-append (numbers_from s at n) (number_at s (begin s at n) ∷ []) in
    let i = numbers_length s at n in
    omega arith

sets_within : (xs rest values : List ℕ) (i : ℕ) → i + length values ≤ length xs → sets (xs ++ rest) i values ≡ sets xs i values ++ rest
sets_within xs rest [] i h = refl
sets_within xs rest (x ∷ values) i h =
    let l = length-set xs i x in
    rw (set-append_left xs rest i x (omega arith)) (sets_within (set xs i x) rest values (suc i) (omega arith))

holding_most : (p : ℕ → Bool) (n : ℕ) → holding p n ≤ n
unfolding holding
holding_most p zero = omega arith
holding_most p (suc n) = go (all_below p (suc n)) (holding_most p n)
  where
    go : (t : Bool) → holding p n ≤ n → cond t (suc n) (holding p n) ≤ suc n
    go true h = omega arith
    go false h = omega arith

-- what is taken into the first n elements of a room
taken_in : {s : List ℕ} {at width limit n : ℕ} (old : List ℕ) {part : List ℕ} {result : Option ℕ} → n ≤ length old
    → LinesTaken s at width limit n (take n old) part result → LinesTaken s at width limit n old (part ++ drop n old) result
taken_in {s} {at} {width} {limit} {n} old {part} {result} h t =
    let values = numbers_from s at (holding (is_item s at width limit) n) in
    let l = numbers_length s at (holding (is_item s at width limit) n) in
    let m = holding_most (is_item s at width limit) n in
    let k = length-take-le n old h in
    let e : sets (take n old ++ drop n old) 0 values ≡ sets (take n old) 0 values ++ drop n old =
    sets_within (take n old) (drop n old) values 0 (omega arith) in
    record { answer = t.answer; numbers = rw (t.numbers, ← e, take-append-drop n old) refl }

pub record Reading (s : List ℕ) (at width limit n : ℕ) (numbers₀ numbers : List ℕ) (place i : ℕ) : Type 0 where
  pub most : i ≤ n
  pub kept : length numbers ≡ length numbers₀
  pub formed : are_lines s at width limit i ≡ true
  pub begins : place ≡ begin s at i
  pub within : place ≤ length s
  pub wrote : numbers ≡ sets numbers₀ 0 (numbers_from s at i)

pub reading_none : {s : List ℕ} {at width limit n : ℕ} {numbers₀ : List ℕ} → at ≤ length s
    → Reading s at width limit n numbers₀ numbers₀ at 0
unfolding begin joined
reading_none {s} {at} {width} {limit} h = record {
  most = omega arith;
  kept = refl;
  formed = all_none (is_item s at width limit);
  begins = refl;
  within = h;
  wrote = refl;
}

-- into any numbers
module _ {s : List ℕ} {at width limit n : ℕ} {numbers₀ : List ℕ} where
  -- the next number, of which `result` is what reading it answers
  module _ {numbers : List ℕ} {place i end : ℕ} {result : Option Number}
      (r : Reading s at width limit n numbers₀ numbers place i) (h : i < n)
      (ends : end ≡ ending width i) (answer : result ≡ number_read s place end) where
    pub reading_one_any : {number : Number} → result ≡ Some number → number.value ≤ limit → n ≤ length numbers₀
        → Reading s at width limit n numbers₀ (set numbers i number.value) number.next (i + 1)
    unfolding begin is_item
    reading_one_any {number} e small room =
        let value = number.value in
        let found_number = some_met (is_number s place end) _ number (sym answer ∙ e) in
        let v₁ : number.value ≡ number_at s place = ap (λ (m : Number). m.value) found_number.1 in
        let n₁ : number.next ≡ past s place = ap (λ (m : Number). m.next) found_number.1 in
        let e₁ : i + 1 ≡ suc i = omega arith in
        let p : begin s at i ≡ place = sym r.begins in
        let v : number_at s (begin s at i) ≡ value = ap (number_at s) p ∙ sym v₁ in
        let item : is_item s at width limit i ≡ true = rw (p, ← ends, found_number.0, ← v₁, le-leb value limit small) in
        record {
          most = omega arith;
          kept = length-set numbers i value ∙ r.kept;
          formed = all_one (is_item s at width limit) i r.formed item;
          begins = rw (e₁, p) n₁;
          within = let w = past_within s place end (rw ends (ending_positive width i)) found_number.0 in omega (arith, n₁);
          wrote =
              let l : 0 + length (numbers_from s at i) ≡ i = omega (arith, numbers_length s at i) in
              let c : sets (sets numbers₀ 0 (numbers_from s at i)) i (value ∷ []) ≡ sets numbers₀ 0 (numbers_from s at i ++ (value ∷ [])) =
              rw l at (sets_append numbers₀ 0 (numbers_from s at i) (value ∷ [])) in
              rw r.wrote (c ∙ rw (← v, ← joined_one (λ i. number_at s (begin s at i) ∷ []) i));
        }

    -- the answer where it is not well formed: it is missed, or above the limit
    refused : is_item s at width limit i ≡ false → LinesTaken s at width limit n numbers₀ numbers None
    refused item =
        let f = holding_first (is_item s at width limit) n h r.formed item in
        record { answer = rw (not_all (is_item s at width limit) n h item); numbers = rw f r.wrote }

    pub reading_missed_any : result ≡ None → LinesTaken s at width limit n numbers₀ numbers None
    unfolding is_item
    reading_missed_any e =
        let p : begin s at i ≡ place = sym r.begins in
        let m = none_unmet (is_number s place end) _ (sym answer ∙ e) in
        refused (rw (p, ← ends, m))

    pub reading_above_any : {number : Number} → result ≡ Some number → limit < number.value
        → LinesTaken s at width limit n numbers₀ numbers None
    unfolding is_item
    reading_above_any {number} e large =
        let p : begin s at i ≡ place = sym r.begins in
        let f = some_met (is_number s place end) _ number (sym answer ∙ e) in
        let v : number_at s place ≡ number.value = sym (ap (λ (m : Number). m.value) f.1) in
        refused (rw (p, ← ends, f.0, v, lt-leb number.value limit large))

  pub reading_done_any : {numbers : List ℕ} {place i : ℕ} → Reading s at width limit n numbers₀ numbers place i → n ≤ i
      → LinesTaken s at width limit n numbers₀ numbers (Some place)
  reading_done_any {numbers} {place} {i} r h =
      let e : n ≡ i = omega (arith, r.most) in
      let all : holding (is_item s at width limit) n ≡ i = rw e (holding_all (is_item s at width limit) i r.formed) in
      record { answer = rw (e, r.formed, r.begins); numbers = rw all r.wrote }

-- into the first n elements of a room
module _ {s : List ℕ} {at width limit n : ℕ} (old : List ℕ) (room : n ≤ length old) where
  -- the next number, of which `result` is what reading it answers
  module _ {numbers : List ℕ} {place i end : ℕ} {result : Option Number}
      (r : Reading s at width limit n (take n old) numbers place i) (h : i < length (take n old))
      (ends : end ≡ ending width i) (answer : result ≡ number_read s place end) where
    below : i < n
    below = omega (arith, length-take-le n old room)

    pub reading_one : {number : Number} → result ≡ Some number → number.value ≤ limit
        → Reading s at width limit n (take n old) (set numbers i number.value) number.next (i + 1)
    reading_one e small = reading_one_any r below ends answer e small (omega (arith, length-take-le n old room))

    -- the answer where it is not well formed: it is missed, or above the limit
    pub reading_missed : result ≡ None → LinesTaken s at width limit n old (numbers ++ drop n old) None
    reading_missed e = taken_in old room (reading_missed_any r below ends answer e)

    pub reading_above : {number : Number} → result ≡ Some number → limit < number.value
        → LinesTaken s at width limit n old (numbers ++ drop n old) None
    reading_above e large = taken_in old room (reading_above_any r below ends answer e large)

  pub reading_done : {numbers : List ℕ} {place i : ℕ} → Reading s at width limit n (take n old) numbers place i → length (take n old) ≤ i
      → LinesTaken s at width limit n old (numbers ++ drop n old) (Some place)
  reading_done r h = taken_in old room (reading_done_any r (omega (arith, length-take-le n old room)))
