-- Laws of `cell` and `painted`. A band that follows another makes one band with it (`painted_join`), and one row that is lent and comes back
-- is a band of one row (`row_painted`); so a loop over the rows of a band adds them one by one (`row_back`).
-- Then what stands at a place of the buffer: f's value inside the band (`cell_at`), what was there outside (`cell_kept`).
-- Assumes nothing.
use mathlib.Core.Path.{◌≡◌, refl, sym, ap, ◌∙◌}
use mathlib.Core.Logic.{◌⊎◌, inl, inr}
use mathlib.Core.Bool.{and-false}
use mathlib.Core.List.{List}
use Prim.Native.Nat.{ℕ, ◌+◌, ◌-◌, ◌*◌, ◌/◌, ◌%◌, ◌≤◌, ◌<◌}
use native.Mathlib.Nat.{add_assoc, add-zero, add-sub_cancel_left, div-add-mod, mul-add-div, div-eq_of_lt, mul-add-mod_self_left, mod-eq_of_lt, mul-le-mul_left}
use native.Mathlib.Omega.{arith}
use borrow.Author.Tests.{lt-ltb, le-ltb, le-leb, lt-leb}
use borrow.Rule.Slice.PartMut.{put_mid}
use lib.ListN.{length, get_or, take, drop, length-drop, get_or-eq_default}
use lib.Seq.{length-take-le, get_or-take, get_or-drop}
use Rattle.std.proofs.lemmas.Bool.{cases_lt}
use Rattle.yuv_support.specs.Picture.{row_of, cell, painted}
use Rattle.yuv_support.proofs.Overlay.{overlay_length, overlay_at, is_overlay, overlay_same, overlay_twice, part_back}

-- ---- the row and the place in the row of element s·r + x

module _ (s r x : ℕ) (h : x < s) where
  pub place_row : (s * r + x) / s ≡ r
  place_row = let p : 0 < s = omega arith in mul-add-div p r x ∙ rw (div-eq_of_lt h, add-zero)

  pub place_column : (s * r + x) % s ≡ x
  place_column = mul-add-mod_self_left s r x ∙ mod-eq_of_lt h

-- ---- one element

-- element j is outside: above the band, below it, or past the first n of its row
abbrev pub Outside : ℕ → ℕ → ℕ → ℕ → ℕ → Type 0
Outside s n first count j = (j / s < first) ⊎ (first + count ≤ j / s) ⊎ (n ≤ j % s)

cell_outside : (f : ℕ → ℕ → ℕ) (s n first count j old : ℕ) → Outside s n first count j → cell f s n first count j old ≡ old
cell_outside f s n first count j old (inl a) = rw (lt-leb first (j / s) a)
cell_outside f s n first count j old (inr (inl b)) = rw (le-ltb (j / s) (first + count) b, and-false)
cell_outside f s n first count j old (inr (inr c)) = rw (le-ltb (j % s) n c, and-false, and-false)

cell_inside : (f : ℕ → ℕ → ℕ) (s n first count r x old : ℕ) → n ≤ s → first ≤ r → r < first + count → x < n
    → cell f s n first count (s * r + x) old ≡ f r x
cell_inside f s n first count r x old hs lo hi hx =
    let er : (s * r + x) / s ≡ r = place_row s r x (omega arith) in
    let ex : (s * r + x) % s ≡ x = place_column s r x (omega arith) in
    rw (er, ex, le-leb first r lo, lt-ltb r (first + count) hi, lt-ltb x n hx)

-- the rows up to first + a are of the first band, and the others of the second
cell_join : (f : ℕ → ℕ → ℕ) (s n first a b j old : ℕ)
    → cell f s n first (a + b) j old ≡ cell f s n (first + a) b j (cell f s n first a j old)
cell_join f s n first a b j old = by_row (cases_lt (j / s) (first + a))
  where
    by_row : (j / s < first + a) ⊎ (first + a ≤ j / s) → cell f s n first (a + b) j old ≡ cell f s n (first + a) b j (cell f s n first a j old)
    by_row (inl lo) = rw (lt-leb (first + a) (j / s) lo, lt-ltb (j / s) (first + a) lo, lt-ltb (j / s) (first + (a + b)) (omega arith))
    by_row (inr hi) = rw (← add_assoc first a b, le-leb first (j / s) (omega arith), le-leb (first + a) (j / s) hi, le-ltb (j / s) (first + a) hi)

-- ---- the buffer

pub painted_length : (f : ℕ → ℕ → ℕ) (s n first count : ℕ) (xs : List ℕ) → length (painted f s n first count xs) ≡ length xs
painted_length f s n first count xs = overlay_length (cell f s n first count) 0 xs

pub painted_none : (f : ℕ → ℕ → ℕ) (s n first : ℕ) (xs : List ℕ) → xs ≡ painted f s n first 0 xs
painted_none f s n first xs =
    is_overlay (cell f s n first 0) xs xs refl
    (λ j b. sym (cell_outside f s n first 0 j (get_or xs j 0) (outside j (cases_lt (j / s) first))))
  where
    outside : (j : ℕ) → (j / s < first) ⊎ (first ≤ j / s) → Outside s n first 0 j
    outside j (inl above) = inl above
    outside j (inr below) = inr (inl (omega arith))

pub painted_join : (f : ℕ → ℕ → ℕ) (s n first a b : ℕ) (xs : List ℕ)
    → painted f s n first (a + b) xs ≡ painted f s n (first + a) b (painted f s n first a xs)
painted_join f s n first a b xs =
    overlay_same (cell f s n first (a + b)) (λ j x. cell f s n (first + a) b j (cell f s n first a j x)) xs (cell_join f s n first a b)
    ∙ sym (overlay_twice (cell f s n (first + a) b) (cell f s n first a) xs)

-- ---- rows

-- a row below the height lies in a buffer that is long enough for the last one
pub row_fits : (s n height r len : ℕ) → s * (height - 1) + n ≤ len → r < height → s * r + n ≤ len
row_fits s n height r len fits h =
    let m : s * r ≤ s * (height - 1) = mul-le-mul_left s (let l : r ≤ height - 1 = omega arith in l) in
    omega arith

-- a part of a list, k elements from place a on, as a row is of a buffer: how long it is, and its element x
pub part_length : {A : Type 0} (a k : ℕ) (xs : List A) → k ≤ length xs - a → length (take k (drop a xs)) ≡ k
part_length a k xs h = length-take-le k (drop a xs) (rw length-drop h)

pub part_at : (a k : ℕ) (xs : List ℕ) (x : ℕ) → x < k → get_or (take k (drop a xs)) x 0 ≡ get_or xs (a + x) 0
part_at a k xs x h = get_or-take k (drop a xs) x 0 h ∙ get_or-drop a xs x 0

-- its length where it is lent from one place to another
pub row_length : (s n r : ℕ) (d : List ℕ) → s * r + n ≤ length d → length (take (s * r + n - s * r) (drop (s * r) d)) ≡ n
row_length s n r d h = rw (add-sub_cancel_left (s * r) n) (part_length (s * r) n d (omega arith))

-- an element before row r, or past its first n, is outside
beside_row : (s n r j : ℕ) → (j < s * r) ⊎ (s * r + n ≤ j) → Outside s n r 1 j
beside_row s n r j out = by_place (cases_lt (j % s) n) (cases_lt (j / s) r) (cases_lt r (j / s))
  where
    row_r : j / s ≡ r → j ≡ s * r + j % s
    row_r e = sym (div-add-mod j s) ∙ rw e

    in_row : j % s < n → j ≡ s * r + j % s → (j < s * r) ⊎ (s * r + n ≤ j) → ⊥
    in_row c e (inl lo) = omega arith
    in_row c e (inr past) = omega arith

    by_place : (j % s < n) ⊎ (n ≤ j % s) → (j / s < r) ⊎ (r ≤ j / s) → (r < j / s) ⊎ (j / s ≤ r) → Outside s n r 1 j
    by_place (inr c) _ _ = inr (inr c)
    by_place (inl c) (inl a) _ = inl a
    by_place (inl c) (inr b) (inl l) = inr (inl (omega arith))
    by_place (inl c) (inr b) (inr l) = absurd (in_row c (row_r (omega arith)) out)

-- row r, lent and come back as f's, is a band of one row
row_painted : (f : ℕ → ℕ → ℕ) (s n r : ℕ) (xs zs : List ℕ) → n ≤ s → s * r + n ≤ length xs → length zs ≡ n
    → put_mid (s * r) n xs (row_of f r zs) ≡ painted f s n r 1 xs
row_painted f s n r xs zs hs fits same =
    let l : length (row_of f r zs) ≡ n = overlay_length (λ x old. f r x) 0 zs ∙ same in
    ap (λ (l : List ℕ). put_mid (s * r) n l (row_of f r zs)) (is_overlay (λ j x. x) xs xs refl (λ j b. refl))
    ∙ part_back (λ j x. x) (cell f s n r 1) xs (row_of f r zs) (s * r) n fits l
    (λ j x out. sym (cell_outside f s n r 1 j x (beside_row s n r j out)))
    (λ i b. overlay_at (λ x old. f r x) zs i (omega arith) ∙ sym (cell_inside f s n r 1 r i (get_or xs (s * r + i) 0) hs (omega arith) (omega arith) b))

-- the row after a band's last, as the borrow checker states it: `d` is the buffer before row r was lent, and `ys` what was left in the part
pub row_back : (f : ℕ → ℕ → ℕ) (s n first count r : ℕ) (xs d ys : List ℕ) → n ≤ s → s * r + n ≤ length xs → r ≡ first + count
    → d ≡ painted f s n first count xs → ys ≡ row_of f r (take (s * r + n - s * r) (drop (s * r) d))
    → put_mid (s * r) (s * r + n - s * r) d ys ≡ painted f s n first (count + 1) xs
row_back f s n first count r xs d ys hs fits er ed ey =
    let k : s * r + n - s * r ≡ n = omega arith in
    let l : length d ≡ length xs = ap length ed ∙ painted_length f s n first count xs in
    rw (ey, k)
    (row_painted f s n r d (take n (drop (s * r) d)) hs (omega arith) (rw k at (row_length s n r d (omega arith)))
    ∙ rw (er, ed) (sym (painted_join f s n first count 1 xs)))

-- ---- what stands in the buffer

pub cell_at : (f : ℕ → ℕ → ℕ) (s n first count r x : ℕ) (xs : List ℕ) → n ≤ s → first ≤ r → r < first + count → x < n
    → s * r + x < length xs → get_or (painted f s n first count xs) (s * r + x) 0 ≡ f r x
cell_at f s n first count r x xs hs lo hi hx b =
    overlay_at (cell f s n first count) xs (s * r + x) b ∙ cell_inside f s n first count r x (get_or xs (s * r + x) 0) hs lo hi hx

pub cell_kept : (f : ℕ → ℕ → ℕ) (s n first count j : ℕ) (xs : List ℕ) → Outside s n first count j
    → get_or (painted f s n first count xs) j 0 ≡ get_or xs j 0
cell_kept f s n first count j xs out = by_length (cases_lt j (length xs))
  where
    l : length (painted f s n first count xs) ≡ length xs
    l = painted_length f s n first count xs

    by_length : (j < length xs) ⊎ (length xs ≤ j) → get_or (painted f s n first count xs) j 0 ≡ get_or xs j 0
    by_length (inl b) = overlay_at (cell f s n first count) xs j b ∙ cell_outside f s n first count j (get_or xs j 0) out
    by_length (inr past) =
        get_or-eq_default (painted f s n first count xs) 0 (omega (arith, l)) ∙ sym (get_or-eq_default xs 0 past)
