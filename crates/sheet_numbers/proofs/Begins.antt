-- The library's `starts_with` answers what `begins_with` says, for a text without a byte 0 (`starts_begins`).
-- Assumes nothing.
use mathlib.Core.Path.{◌≡◌, refl, sym, ap, ◌∙◌}
use mathlib.Core.Bool.{Bool, true, false, ◌&&◌, and_assoc, and-eq-true_iff}
use mathlib.Core.List.{List, [], ◌∷◌}
use Prim.Native.Nat.{ℕ, zero, suc, ◌<◌}
use native.Mathlib.Omega.{arith}
use borrow.Author.Tests.{ltb-true, eqb-true, eqb-false, eq-eqb, ne_eqb}
use lib.Dec.{eqb, ltb}
use lib.ListN.{length, take}
use lib.Pointwise.{pointwise}
use Rattle.sheet_numbers.specs.Numbers.{all_below}
use Rattle.sheet_numbers.specs.Read.{same_byte, begins_with}

abbrev pub has_no_zero : List ℕ → Bool
has_no_zero [] = true
has_no_zero (x ∷ xs) = ltb 0 x && has_no_zero xs

-- the first number apart from the others
pub all_first : (p : ℕ → Bool) (n : ℕ) → all_below p (suc n) ≡ p 0 && all_below (λ i. p (suc i)) n
unfolding all_below
all_first p zero = elim (p 0) as (λ b. true && b ≡ b && true) [ true ↦ refl | false ↦ refl ]
all_first p (suc n) =
    ap (λ b. b && p (suc n)) (all_first p n) ∙ and_assoc (p 0) (all_below (λ i. p (suc i)) n) (p (suc n))

eqb_sym : (a b : ℕ) → eqb a b ≡ eqb b a
eqb_sym a b = go (eqb a b) refl
  where
    go : (t : Bool) → eqb a b ≡ t → t ≡ eqb b a
    go true e = sym (eq-eqb b a (sym (eqb-true a b e)))
    go false e = sym (ne_eqb b a (λ h. eqb-false a b e (sym h)))

pub begins_first : (y x : ℕ) (s text : List ℕ) → begins_with (y ∷ s) (x ∷ text) ≡ eqb y x && begins_with s text
begins_first y x s text = all_first (same_byte (y ∷ s) (x ∷ text)) (length text)

pub starts_begins : (s text : List ℕ) → has_no_zero text ≡ true → pointwise eqb text (take (length text) s) ≡ begins_with s text
unfolding all_below
starts_begins s [] h = refl
starts_begins [] (x ∷ text) h =
    let p = (and-eq-true_iff (ltb 0 x) (has_no_zero text)).0 h in
    let l : 0 < x = ltb-true 0 x p.0 in
    sym (all_first (same_byte [] (x ∷ text)) (length text) ∙ rw (ne_eqb 0 x (λ e. omega (arith, e))) refl)
starts_begins (y ∷ s) (x ∷ text) h =
    let p = (and-eq-true_iff (ltb 0 x) (has_no_zero text)).0 h in
    rw (eqb_sym x y, starts_begins s text p.1) (sym (begins_first y x s text))
