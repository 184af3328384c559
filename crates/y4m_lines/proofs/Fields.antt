-- Laws of `before` and of the fields of a line: the library's `take_while` and `split` give them (`before_count`, `fields_split`), and what is
-- left of them in a loop (`named_left`).
-- Assumes nothing.
use mathlib.Core.Path.{◌≡◌, refl, sym, ap, ◌∙◌}
use mathlib.Core.Bool.{Bool, true, false, cond, not}
use mathlib.Core.List.{List, [], ◌∷◌, ◌++◌, append-nil}
use Prim.Native.Nat.{ℕ, zero, suc, ◌+◌, ◌-◌, ◌≤◌, ◌<◌, min}
use native.Mathlib.Numerals.{add-one}
use native.Mathlib.Omega.{arith}
use lib.Dec.{eqb, leb, eqb-suc-zero}
use lib.ListN.{length, length-append, length-drop, take, drop, get_or}
use lib.Seq.{drop-cons}
use borrow.Author.Tests.{eq-eqb, ne_eqb, le-leb}
use denote.Ref.{Bor}
use Rattle.std.specs.Prelude.{Option, Some, None}
use Rattle.std.specs.Option.{is_some, option_copied, option_to_list}
use Rattle.std.specs.List.{prefix_len, slice_split, onto_first, list_all}
use Rattle.std.proofs.lemmas.List.{at_drop_more, at_drop_all}
use Rattle.y4m_lines.specs.Lines.{before, fields, longer, none_empty}
use Rattle.y4m_lines.specs.Header.{behind, named}

-- ---- the bytes before a byte

pub before_most : (b : ℕ) (xs : List ℕ) → length (before b xs) ≤ length xs
unfolding before
before_most b [] = omega arith
before_most b (x ∷ xs) = go (eqb x b) (before_most b xs)
  where
    go : (t : Bool) → length (before b xs) ≤ length xs → length (cond t [] (x ∷ before b xs)) ≤ suc (length xs)
    go true h = omega arith
    go false h = omega arith

pub before_take : (b : ℕ) (xs : List ℕ) → before b xs ≡ take (length (before b xs)) xs
unfolding before
before_take b [] = refl
before_take b (x ∷ xs) = go (eqb x b) (before_take b xs)
  where
    go : (t : Bool) → before b xs ≡ take (length (before b xs)) xs
        → cond t [] (x ∷ before b xs) ≡ take (length (cond t [] (x ∷ before b xs))) (x ∷ xs)
    go true e = refl
    go false e = ap {B = List ℕ} (λ r. x ∷ r) e

-- the first of the bytes from a place on is b, or is not
module _ (s : List ℕ) (b : ℕ) {k : ℕ} (h : k < length s) where
  pub before_here : get_or s k 0 ≡ b → length (before b (drop k s)) ≡ 0
  unfolding before
  before_here e = rw (drop-cons s k 0 h, eq-eqb (get_or s k 0) b e)

  pub before_on : (get_or s k 0 ≡ b → ⊥) → length (before b (drop k s)) ≡ suc (length (before b (drop (k + 1) s)))
  unfolding before
  before_on e = rw (add-one, drop-cons s k 0 h, ne_eqb (get_or s k 0) b e)

-- among the first n bytes
pub before_within : (b n : ℕ) (xs : List ℕ) → length (before b (take n xs)) ≡ min n (length (before b xs))
unfolding before
before_within b zero xs = omega arith
before_within b (suc n) [] = omega arith
before_within b (suc n) (x ∷ xs) = go (eqb x b) (before_within b n xs)
  where
    go : (t : Bool) → length (before b (take n xs)) ≡ min n (length (before b xs))
        → length (cond t [] (x ∷ before b (take n xs))) ≡ min (suc n) (length (cond t [] (x ∷ before b xs)))
    go true h = omega arith
    go false h = omega arith

pub before_count : (b : ℕ) (xs : List ℕ) → prefix_len (λ x. not (eqb x b)) xs ≡ length (before b xs)
unfolding before
before_count b [] = refl
before_count b (x ∷ xs) = go (eqb x b) (before_count b xs)
  where
    go : (t : Bool) → prefix_len (λ x. not (eqb x b)) xs ≡ length (before b xs)
        → cond (not t) (1 + prefix_len (λ x. not (eqb x b)) xs) 0 ≡ length (cond t [] (x ∷ before b xs))
    go true h = refl
    go false h = omega arith

-- among all bytes from a place on
pub all_found : (s : List ℕ) (at b : ℕ) {end : ℕ} → at ≤ length s → end ≡ at + min (length s - at) (length (before b (drop at s)))
    → end ≡ at + length (before b (drop at s))
all_found s at b h e =
    let d = length-drop at s in
    let m = before_most b (drop at s) in
    omega arith

-- a field that begins in a line ends in it
pub end_within : (line : List ℕ) (at : ℕ) {end : ℕ} → at ≤ length line → end ≡ at + length (before 32 (drop at line)) → end ≤ length line
end_within line at h e = omega (arith, before_most 32 (drop at line), length-drop at line)

-- ---- the fields

-- a line has a first field
begun : (xs : List ℕ) → 1 ≤ length (fields xs)
unfolding fields
begun [] = omega arith
begun (x ∷ xs) = go (eqb x 32) (fields xs) (begun xs)
  where
    go : (t : Bool) (fs : List (List ℕ)) → 1 ≤ length fs → 1 ≤ length (cond t ([] ∷ fs) (longer x fs))
    go true fs h = omega arith
    go false [] h = h
    go false (f ∷ fs) h = omega arith

onto_longer : (x : ℕ) (fs : List (List ℕ)) → 1 ≤ length fs → onto_first x fs ≡ longer x fs
onto_longer x [] h = absurd (omega arith)
onto_longer x (f ∷ fs) h = refl

pub fields_split : (xs : List ℕ) → slice_split (λ b. eqb b 32) xs ≡ fields xs
unfolding fields
fields_split [] = refl
fields_split (x ∷ xs) =
    ap (λ fs. cond (eqb x 32) ([] ∷ fs) (onto_first x fs)) (fields_split xs)
    ∙ ap (λ fs. cond (eqb x 32) ([] ∷ fields xs) fs) (onto_longer x (fields xs) (begun xs))

-- none is empty
pub all_some : (fs : List (List ℕ)) → list_all (λ f. not (eqb (length f) 0)) fs ≡ none_empty fs
unfolding none_empty
all_some [] = refl
all_some (f ∷ fs) = rw (some f, all_some fs) refl
  where
    some : (f : List ℕ) → not (eqb (length f) 0) ≡ leb 1 (length f)
    some [] = refl
    some (x ∷ f) = rw (eqb-suc-zero (length f), le-leb 1 (length (x ∷ f)) (omega arith)) refl

-- ---- those that are left in a loop, after n of them

-- f is field n of the list
abbrev pub FieldAt : List (List ℕ) → ℕ → List ℕ → Type 0
FieldAt fs n f = (n < length fs) × (f ≡ get_or fs n f)

module _ (fs : List (List ℕ)) (n : ℕ) (f : List ℕ) (h : FieldAt fs n f) where
  pub named_left : (letter : ℕ) → named letter (drop n fs) ≡ behind letter f ++ named letter (drop (n + 1) fs)
  unfolding named
  named_left letter =
      at_drop_more (named letter) fs n f h.0 ∙ ap (λ g. behind letter g ++ named letter (drop (n + 1) fs)) (sym h.1)

pub named_end : (letter : ℕ) (fs : List (List ℕ)) (n : ℕ) {told : List (List ℕ)} → named letter fs ≡ told ++ named letter (drop n fs) → n ≡ length fs
    → named letter fs ≡ told
unfolding named
named_end letter fs n {told} e l = e ∙ ap (λ gs. told ++ gs) (at_drop_all (named letter) fs n (omega arith)) ∙ append-nil told

-- ---- those of a letter: `told` are those of the first n fields

module _ (fs : List (List ℕ)) (n : ℕ) (f : List ℕ) (h : FieldAt fs n f) (letter : ℕ)
    (told : List (List ℕ)) (t : named letter fs ≡ told ++ named letter (drop n fs)) where
  -- the field is another's
  pub told_other : behind letter f ≡ [] → named letter fs ≡ told ++ named letter (drop (n + 1) fs)
  told_other b = t ∙ ap (λ gs. told ++ gs) (named_left fs n f h letter ∙ rw b refl)

  -- it is the letter's
  module _ {first : ℕ} {text : List ℕ} (parts : f ≡ first ∷ text) (same : first ≡ letter) where
    here : named letter fs ≡ told ++ text ∷ named letter (drop (n + 1) fs)
    here = t ∙ ap (λ gs. told ++ gs) (named_left fs n f h letter ∙ rw (parts, eq-eqb first letter same) refl)

    pub told_here : told ≡ [] → named letter fs ≡ text ∷ named letter (drop (n + 1) fs)
    told_here e = here ∙ rw e refl

    pub told_twice : 1 ≤ length told → 2 ≤ length (named letter fs)
    told_twice m = rw (here, length-append) (omega arith)

pub behind_empty : (letter : ℕ) (f : List ℕ) → length f ≡ 0 → behind letter f ≡ []
behind_empty letter [] h = refl
behind_empty letter (x ∷ f) h = absurd (omega arith)

pub behind_other : (letter : ℕ) {f : List ℕ} {first : ℕ} {text : List ℕ} → f ≡ first ∷ text → (first ≡ letter → ⊥) → behind letter f ≡ []
behind_other letter {f} {first} {text} parts other = rw (parts, ne_eqb first letter other) refl

pub none_copied : (o : Option (Bor (List ℕ))) → is_some o ≡ false → option_to_list (option_copied o) ≡ []
none_copied None e = refl
none_copied (Some x) e = absurd (cc)

pub some_copied : (o : Option (Bor (List ℕ))) → is_some o ≡ true → 1 ≤ length (option_to_list (option_copied o))
some_copied None e = absurd (cc)
some_copied (Some x) e = omega arith
