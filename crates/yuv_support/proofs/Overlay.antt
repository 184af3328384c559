-- Laws of `overlay`. Its length and its elements go by induction, and a list with the same length and elements is the overlay (`is_overlay`).
-- The rest follows from that, place by place: a part that was lent and came back (`part_back`), and a row that a loop fills from the front,
-- whose first c elements are done (`up_to c g`).
-- Assumes nothing.
use mathlib.Core.Path.{◌≡◌, refl, sym, ap, ◌∙◌}
use mathlib.Core.Logic.{◌⊎◌, inl, inr}
use mathlib.Core.List.{List, [], ◌∷◌, ◌++◌, append_assoc}
use Prim.Native.Nat.{ℕ, zero, suc, ◌+◌, ◌-◌, ◌≤◌, ◌<◌}
use native.Mathlib.Nat.{not-suc-le-zero, le_of_suc-le-suc, add-zero, zero-add, suc-add, add-suc}
use native.Mathlib.Omega.{arith}
use borrow.Author.Tests.{lt-ltb, le-ltb}
use borrow.Rule.Slice.PartMut.{put_mid}
use lib.ListN.{length, get_or, take, drop, length-append, length-drop, get_or-append}
use lib.Seq.{ext_get_or, get_or-take, get_or-drop, get_or-append-add, length-take-le, drop-drop, sets, sets-eq}
use Rattle.std.proofs.lemmas.Bool.{cases_lt}
use Rattle.yuv_support.specs.Picture.{overlay, up_to}

-- ---- length and elements

pub overlay_length : (g : ℕ → ℕ → ℕ) (i : ℕ) (xs : List ℕ) → length (overlay g i xs) ≡ length xs
unfolding overlay
overlay_length g i [] = refl
overlay_length g i (x ∷ xs) = ap suc (overlay_length g (suc i) xs)

overlay_at_from : (g : ℕ → ℕ → ℕ) (xs : List ℕ) (i j : ℕ) → j < length xs
    → get_or (overlay g i xs) j 0 ≡ g (i + j) (get_or xs j 0)
unfolding overlay
overlay_at_from g [] i j h = absurd (not-suc-le-zero h)
overlay_at_from g (x ∷ xs) i zero h = rw add-zero
overlay_at_from g (x ∷ xs) i (suc j) h = overlay_at_from g xs (suc i) j (le_of_suc-le-suc h) ∙ rw (suc-add, add-suc)

pub overlay_at : (g : ℕ → ℕ → ℕ) (xs : List ℕ) (j : ℕ) → j < length xs → get_or (overlay g 0 xs) j 0 ≡ g j (get_or xs j 0)
overlay_at g xs j h = overlay_at_from g xs 0 j h ∙ rw zero-add

-- a list as long as xs whose every element is g of its place and of what was there
pub is_overlay : (g : ℕ → ℕ → ℕ) (xs ys : List ℕ) → length ys ≡ length xs
    → ((j : ℕ) → j < length xs → get_or ys j 0 ≡ g j (get_or xs j 0)) → ys ≡ overlay g 0 xs
is_overlay g xs ys e h =
    ext_get_or 0 ys (overlay g 0 xs) (e ∙ sym (overlay_length g 0 xs))
    (λ j b. let b' : j < length xs = omega arith in h j b' ∙ sym (overlay_at g xs j b'))

pub overlay_twice : (g h : ℕ → ℕ → ℕ) (xs : List ℕ) → overlay g 0 (overlay h 0 xs) ≡ overlay (λ j x. g j (h j x)) 0 xs
overlay_twice g h xs =
    let l : length (overlay h 0 xs) ≡ length xs = overlay_length h 0 xs in
    is_overlay (λ j x. g j (h j x)) xs _ (overlay_length g 0 (overlay h 0 xs) ∙ l)
    (λ j b. overlay_at g (overlay h 0 xs) j (omega arith) ∙ ap (g j) (overlay_at h xs j b))

pub overlay_same : (g h : ℕ → ℕ → ℕ) (xs : List ℕ) → ((j x : ℕ) → g j x ≡ h j x) → overlay g 0 xs ≡ overlay h 0 xs
overlay_same g h xs e = is_overlay h xs _ (overlay_length g 0 xs) (λ j b. overlay_at g xs j b ∙ e j (get_or xs j 0))

-- ---- a part of k elements from place a on that was lent, `&mut s[a..a + k]`, and came back as ys

module _ (xs ys : List ℕ) (a k : ℕ) (fits : a + k ≤ length xs) (same : length ys ≡ k) where
  pub part_length : length (put_mid a k xs ys) ≡ length xs
  part_length =
      let t : length (take a xs) ≡ a = length-take-le a xs (omega arith) in
      simp (length-append, length-drop, t, same) (omega arith)

  from_part : (i : ℕ) → get_or (put_mid a k xs ys) (a + i) 0 ≡ get_or (ys ++ drop k (drop a xs)) i 0
  from_part i =
      let t : length (take a xs) ≡ a = length-take-le a xs (omega arith) in
      ap (λ (n : ℕ). get_or (put_mid a k xs ys) (n + i) 0) (sym t) ∙ get_or-append-add (take a xs) _ i 0

  pub before_part : (j : ℕ) → j < a → get_or (put_mid a k xs ys) j 0 ≡ get_or xs j 0
  before_part j h =
      let t : length (take a xs) ≡ a = length-take-le a xs (omega arith) in
      get_or-append (take a xs) _ 0 j (omega arith) ∙ get_or-take a xs j 0 h

  pub in_part : (i : ℕ) → i < k → get_or (put_mid a k xs ys) (a + i) 0 ≡ get_or ys i 0
  in_part i h = from_part i ∙ get_or-append ys _ 0 i (omega arith)

  pub past_part : (j : ℕ) → a + k ≤ j → get_or (put_mid a k xs ys) j 0 ≡ get_or xs j 0
  past_part j h =
      let e : a + (length ys + (j - a - k)) ≡ j = omega arith in
      rw (← e)
      (from_part (length ys + (j - a - k))
      ∙ get_or-append-add ys _ (j - a - k) 0
      ∙ get_or-drop k (drop a xs) (j - a - k) 0
      ∙ get_or-drop a xs (k + (j - a - k)) 0
      ∙ ap (λ (n : ℕ). get_or xs (a + (n + (j - a - k))) 0) (sym same))

-- what came back makes the overlay h of xs, where h is g outside the part, and ys inside
pub part_back : (g h : ℕ → ℕ → ℕ) (xs ys : List ℕ) (a k : ℕ) → a + k ≤ length xs → length ys ≡ k
    → ((j x : ℕ) → (j < a) ⊎ (a + k ≤ j) → g j x ≡ h j x) → ((i : ℕ) → i < k → get_or ys i 0 ≡ h (a + i) (get_or xs (a + i) 0))
    → put_mid a k (overlay g 0 xs) ys ≡ overlay h 0 xs
part_back g h xs ys a k fits same out inside =
    is_overlay h xs _ (part_length done ys a k fits' same ∙ l) (λ j b. at j b (cases_lt j a) (cases_lt j (a + k)))
  where
    done : List ℕ
    done = overlay g 0 xs

    l : length done ≡ length xs
    l = overlay_length g 0 xs

    fits' : a + k ≤ length done
    fits' = rw l fits

    kept : (j : ℕ) → j < length xs → (j < a) ⊎ (a + k ≤ j) → get_or done j 0 ≡ h j (get_or xs j 0)
    kept j b o = overlay_at g xs j b ∙ out j (get_or xs j 0) o

    at : (j : ℕ) → j < length xs → (j < a) ⊎ (a ≤ j) → (j < a + k) ⊎ (a + k ≤ j) → get_or (put_mid a k done ys) j 0 ≡ h j (get_or xs j 0)
    at j b (inl lo) _ = before_part done ys a k fits' same j lo ∙ kept j b (inl lo)
    at j b (inr hi) (inl lo) =
        let e : a + (j - a) ≡ j = omega arith in
        rw (← e) (in_part done ys a k fits' same (j - a) (omega arith) ∙ inside (j - a) (omega arith))
    at j b (inr hi) (inr past) = past_part done ys a k fits' same j past ∙ kept j b (inr past)

-- ---- a loop that fills a row from the front

pub up_none : (g : ℕ → ℕ) (xs : List ℕ) → xs ≡ overlay (up_to 0 g) 0 xs
up_none g xs = is_overlay (up_to 0 g) xs xs refl (λ j b. rw (le-ltb j 0 (omega arith)))

-- the values of a list that is written out are g 0, g 1, ..
abbrev pub Values : (ℕ → ℕ) → List ℕ → Type 0
Values g [] = Unit {0}
Values g (v ∷ vs) = (v ≡ g 0) × Values (λ k. g (suc k)) vs

pub value_at : (g : ℕ → ℕ) (vs : List ℕ) → Values g vs → (k : ℕ) → k < length vs → get_or vs k 0 ≡ g k
value_at g [] e k h = absurd (not-suc-le-zero h)
value_at g (v ∷ vs) e zero h = e.0
value_at g (v ∷ vs) e (suc k) h = value_at (λ k. g (suc k)) vs e.1 k (le_of_suc-le-suc h)

-- a run of stores at the end of what is done
pub up_sets : (g : ℕ → ℕ) (xs vs : List ℕ) (i : ℕ) → i + length vs ≤ length xs
    → ((k : ℕ) → k < length vs → get_or vs k 0 ≡ g (i + k))
    → sets (overlay (up_to i g) 0 xs) i vs ≡ overlay (up_to (i + length vs) g) 0 xs
up_sets g xs vs i fits e =
    sets-eq vs done i (omega (arith, l))
    ∙ append_assoc (take i done) vs _
    ∙ ap (λ (rest : List ℕ). take i done ++ (vs ++ rest)) (sym (drop-drop (length vs) i done))
    ∙ part_back (up_to i g) (up_to (i + length vs) g) xs vs i (length vs) fits refl outside
    (λ k b. rw (lt-ltb (i + k) (i + length vs) (omega arith)) (e k b))
  where
    done : List ℕ
    done = overlay (up_to i g) 0 xs

    l : length done ≡ length xs
    l = overlay_length (up_to i g) 0 xs

    outside : (j x : ℕ) → (j < i) ⊎ (i + length vs ≤ j) → up_to i g j x ≡ up_to (i + length vs) g j x
    outside j x (inl lo) = rw (lt-ltb j i lo, lt-ltb j (i + length vs) (omega arith))
    outside j x (inr past) = rw (le-ltb j i (omega arith), le-ltb j (i + length vs) past)
