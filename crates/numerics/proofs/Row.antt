-- A row of letters is filled pixel by pixel, or pair by pair, or part by part, for any luma and chroma by columns and any number n of
-- letters to the pixel.
-- Assumes nothing.
use mathlib.Core.Path.{◌≡◌, refl, sym, ap, ◌∙◌}
use mathlib.Core.List.{List, [], ◌∷◌, ◌++◌}
use mathlib.Core.Logic.{◌⊎◌, inl, inr}
use Prim.Native.Nat.{ℕ, suc, ◌+◌, ◌-◌, ◌*◌, ◌/◌, ◌%◌, ◌≤◌, ◌<◌}
use native.Mathlib.Nat.{add-zero, mul-add-div, mul-add-mod_self_left}
use native.Mathlib.Omega.{arith}
use borrow.Author.Count.{below_more}
use borrow.Author.Tests.{lt-ltb, le-ltb}
use borrow.Rule.Slice.PartMut.{put_mid}
use lib.Arith.{digits_div, digits_mod}
use lib.Dec.{lit<}
use lib.ListN.{length, get_or, set, take, drop}
use lib.Seq.{sets, get_or-set_same, get_or-set_other}
use Rattle.std.proofs.lemmas.Bool.{cases_lt}
use Rattle.std.proofs.lemmas.Nat.{div_below}
use Rattle.yuv_support.specs.Blend.{rounded}
use Rattle.yuv_support.specs.Picture.{up_to, row_of}
use Rattle.yuv_support.proofs.Overlay.{overlay_length, overlay_at, is_overlay, up_none, up_sets, value_at, Values, part_back}
use Rattle.yuv_support.proofs.Rows.{part_length}
use Rattle.numerics.specs.declared.Kernel.{Kernel}
use Rattle.numerics.specs.Kernel.{letter_of}
use Rattle.numerics.specs.Row.{row_value, at, column_of, across_at, pair_chroma, three, four, stored, Begun, Filled}

-- ---- the letters of a pixel are the values at its places

module _ (k : Kernel) (n : ℕ) (Y P Q : ℕ → ℕ) where
  letter_at : (column i : ℕ) → i < n → row_value k n Y P Q (n * column + i) ≡ letter_of k (Y column) (P column) (Q column) i
  unfolding row_value
  letter_at column i h =
      let e : n * column + i ≡ column * n + i = omega arith in
      let d : (column * n + i) / n ≡ column = digits_div column h in
      let m : (column * n + i) % n ≡ i = digits_mod column h in
      rw (e, d, m)

module _ (k : Kernel) (Y P Q : ℕ → ℕ) (column : ℕ) where
  values3 : Values (λ i. row_value k 3 Y P Q (3 * column + i)) (three k (Y column) (P column) (Q column))
  unfolding letter_of
  values3 =
      let l = letter_at k 3 Y P Q column in
      (sym (l 0 (lit< tt)), (sym (l 1 (lit< tt)), (sym (l 2 (lit< tt)), tt)))

  values4 : Values (λ i. row_value k 4 Y P Q (4 * column + i)) (four k (Y column) (P column) (Q column))
  unfolding letter_of
  values4 =
      let l = letter_at k 4 Y P Q column in
      (sym (l 0 (lit< tt)), (sym (l 1 (lit< tt)), (sym (l 2 (lit< tt)), (sym (l 3 (lit< tt)), tt))))

-- the same values, of luma and chroma that are elsewhere: what is at column c is at column a + c
module _ (k : Kernel) (n : ℕ) (some : 0 < n) (Y P Q Y' P' Q' : ℕ → ℕ) (a m : ℕ) where
  pub value_shifted : ((c : ℕ) → c < m → Y' c ≡ Y (a + c)) → ((c : ℕ) → c < m → P' c ≡ P (a + c)) → ((c : ℕ) → c < m → Q' c ≡ Q (a + c))
      → (x : ℕ) → x < n * m → row_value k n Y' P' Q' x ≡ row_value k n Y P Q (n * a + x)
  unfolding row_value
  value_shifted ey ep eq x h =
      let c : x / n < m = div_below x n m some (omega arith) in
      rw (mul-add-div some a x, mul-add-mod_self_left n a x, ey (x / n) c, ep (x / n) c, eq (x / n) c)

-- ---- a row that was begun

module _ {g : ℕ → ℕ} {row₀ : List ℕ} where
  pub begun_none : Begun g row₀ row₀ 0
  begun_none = record { done = up_none g row₀ }

  pub begun_length : {row : List ℕ} {c : ℕ} → Begun g row₀ row c → length row ≡ length row₀
  begun_length b = ap length b.done ∙ overlay_length _ 0 row₀

  pub begun_whole : {row : List ℕ} {c : ℕ} → Begun g row₀ row c → length row₀ ≤ c → row ≡ row_of (λ r. g) 0 row₀
  begun_whole {row} {c} b l =
      is_overlay (λ x old. g x) row₀ row (begun_length b)
      (λ x h. rw b.done (overlay_at (up_to c g) row₀ x h ∙ rw (lt-ltb x c (omega arith))))

  -- a run of stores
  begun_sets : {row row' : List ℕ} {c : ℕ} (vs : List ℕ) → Begun g row₀ row c → c + length vs ≤ length row₀ → Values (λ i. g (c + i)) vs → row' ≡ sets row c vs
      → Begun g row₀ row' (c + length vs)
  begun_sets {row} {row'} {c} vs b fits values e =
      record { done = e ∙ rw b.done (up_sets g row₀ vs c fits (value_at (λ i. g (c + i)) vs values)) }

  -- a part from place a to place b was lent, and came back as ys; it may reach back over what was done
  pub begun_part : (h : ℕ → ℕ) (a b : ℕ) {row ys : List ℕ} {c : ℕ} → Begun g row₀ row c → a ≤ c → c ≤ b → b ≤ length row₀
      → ys ≡ row_of (λ r. h) 0 (take (b - a) (drop a row)) → ((x : ℕ) → x < b - a → h x ≡ g (a + x)) → Begun g row₀ (put_mid a (b - a) row ys) b
  begun_part h a b {row} {ys} {c} d ac cb fits ey same =
      record { done = rw d.done (part_back (up_to c g) (up_to b g) row₀ ys a (b - a) (omega arith) long outside inside) }
    where
      part : length (take (b - a) (drop a row)) ≡ b - a
      part = part_length a (b - a) row (omega (arith, begun_length d))

      long : length ys ≡ b - a
      long = ap length ey ∙ overlay_length _ 0 _ ∙ part

      outside : (j x : ℕ) → (j < a) ⊎ (a + (b - a) ≤ j) → up_to c g j x ≡ up_to b g j x
      outside j x (inl lo) = rw (lt-ltb j c (omega arith), lt-ltb j b (omega arith))
      outside j x (inr past) = rw (le-ltb j c (omega arith), le-ltb j b (omega arith))

      inside : (x : ℕ) → x < b - a → get_or ys x 0 ≡ up_to b g (a + x) (get_or row₀ (a + x) 0)
      inside x l = rw (lt-ltb (a + x) b (omega arith), ey) (overlay_at _ _ x (omega (arith, part)) ∙ same x l)

-- ---- one pixel more, and one pair

module _ (k : Kernel) (Y P Q : ℕ → ℕ) (c : ℕ) {row₀ row row' : List ℕ} where
  pixel_more3 : Begun (row_value k 3 Y P Q) row₀ row (3 * c) → 3 * c + 3 ≤ length row₀ → row' ≡ sets row (3 * c) (three k (Y c) (P c) (Q c))
      → Begun (row_value k 3 Y P Q) row₀ row' (3 * (c + 1))
  pixel_more3 b fits e =
      let q : 3 * (c + 1) ≡ 3 * c + 3 = omega arith in
      rw q (begun_sets (three k (Y c) (P c) (Q c)) b fits (values3 k Y P Q c) e)

  pixel_more4 : Begun (row_value k 4 Y P Q) row₀ row (4 * c) → 4 * c + 4 ≤ length row₀ → row' ≡ sets row (4 * c) (four k (Y c) (P c) (Q c))
      → Begun (row_value k 4 Y P Q) row₀ row' (4 * (c + 1))
  pixel_more4 b fits e =
      let q : 4 * (c + 1) ≡ 4 * c + 4 = omega arith in
      rw q (begun_sets (four k (Y c) (P c) (Q c)) b fits (values4 k Y P Q c) e)

pub pixel_more : (k : Kernel) (n : ℕ) (Y P Q : ℕ → ℕ) (c : ℕ) {row₀ row row' : List ℕ} → (n ≡ 3) ⊎ (n ≡ 4) → Begun (row_value k n Y P Q) row₀ row (n * c)
    → n * c + n ≤ length row₀ → row' ≡ sets row (n * c) (stored k n (Y c) (P c) (Q c)) → Begun (row_value k n Y P Q) row₀ row' (n * (c + 1))
pixel_more k n Y P Q c (inl l) b fits e =
    rw l (pixel_more3 k Y P Q c (rw l at b) (rw l at fits) (rw l at e))
pixel_more k n Y P Q c (inr l) b fits e =
    rw l (pixel_more4 k Y P Q c (rw l at b) (rw l at fits) (rw l at e))

-- a pair, stored as one
pub pair_more : (k : Kernel) (n : ℕ) (Y P Q : ℕ → ℕ) (j : ℕ) {row₀ row row' : List ℕ} → (n ≡ 3) ⊎ (n ≡ 4) → Begun (row_value k n Y P Q) row₀ row (n * (2 * j))
    → n * (2 * j) + (n + n) ≤ length row₀
    → row' ≡ sets row (n * (2 * j)) (stored k n (Y (2 * j)) (P (2 * j)) (Q (2 * j)) ++ stored k n (Y (2 * j + 1)) (P (2 * j + 1)) (Q (2 * j + 1)))
    → Begun (row_value k n Y P Q) row₀ row' (n * (2 * (j + 1)))
pair_more k n Y P Q j {row₀} {row} {row'} l b fits e =
    let s : 2 * (j + 1) ≡ 2 * j + 1 + 1 = omega arith in
    let m : n * (2 * j + 1) ≡ n * (2 * j) + n = omega arith in
    rw s (pixel_more k n Y P Q (2 * j + 1) l (pixel_more k n Y P Q (2 * j) l b (omega arith) refl) (rw m (omega arith)) (e ∙ parted ∙ rw m))
  where
    -- as in sheet_writing/proofs/Write, which stands on no crate of ours
    sets_append : (vs ws xs : List ℕ) (i : ℕ) → sets xs i (vs ++ ws) ≡ sets (sets xs i vs) (i + length vs) ws
    sets_append [] ws xs i = rw add-zero
    sets_append (v ∷ vs) ws xs i =
        let q : i + suc (length vs) ≡ suc i + length vs = omega arith in
        rw q (sets_append vs ws (set xs i v) (suc i))

    long : (y p q : ℕ) → (n ≡ 3) ⊎ (n ≡ 4) → length (stored k n y p q) ≡ n
    long y p q (inl h) = rw h
    long y p q (inr h) = rw h

    parted : sets row (n * (2 * j)) (stored k n (Y (2 * j)) (P (2 * j)) (Q (2 * j)) ++ stored k n (Y (2 * j + 1)) (P (2 * j + 1)) (Q (2 * j + 1)))
        ≡ sets (sets row (n * (2 * j)) (stored k n (Y (2 * j)) (P (2 * j)) (Q (2 * j)))) (n * (2 * j) + n) (stored k n (Y (2 * j + 1)) (P (2 * j + 1)) (Q (2 * j + 1)))
    parted =
        sets_append (stored k n (Y (2 * j)) (P (2 * j)) (Q (2 * j))) (stored k n (Y (2 * j + 1)) (P (2 * j + 1)) (Q (2 * j + 1))) row (n * (2 * j))
        ∙ rw (long (Y (2 * j)) (P (2 * j)) (Q (2 * j)) l)

-- ---- arrays

module _ {n : ℕ} {g : ℕ → ℕ} {xs : List ℕ} where
  -- one store more
  pub filled_more : {v : ℕ} → Filled n g xs → n < length xs → v ≡ g n → Filled (n + 1) g (set xs n v)
  filled_more {v} f h e = record { value = below_more _ _ (λ j b. get_or-set_other xs n j v 0 (omega arith) ∙ f.value j b) (get_or-set_same xs n v 0 h ∙ e) }

pub begun_filled : {n : ℕ} {g : ℕ → ℕ} {xs₀ xs : List ℕ} → Begun g xs₀ xs n → n ≤ length xs₀ → Filled n g xs
begun_filled {n} {g} {xs₀} b h = record { value = λ j l. rw b.done (overlay_at (up_to n g) xs₀ j (omega arith) ∙ rw (lt-ltb j n l)) }

-- one store more to what was begun
pub begun_more : {g : ℕ → ℕ} {xs₀ xs : List ℕ} {c v : ℕ} → Begun g xs₀ xs c → c < length xs₀ → v ≡ g c → Begun g xs₀ (set xs c v) (c + 1)
begun_more {g} {xs₀} {xs} {c} {v} b h e = begun_sets (v ∷ []) b (omega arith) (rw add-zero e, tt) refl

-- ---- the same values, said otherwise

pub begun_as : {g : ℕ → ℕ} (h : ℕ → ℕ) {xs₀ xs : List ℕ} {c : ℕ} → ((x : ℕ) → x < c → g x ≡ h x) → Begun g xs₀ xs c → Begun h xs₀ xs c
begun_as {g} h {xs₀} {xs} {c} same b =
    record { done = is_overlay (up_to c h) xs₀ xs (begun_length b) (λ x l. rw b.done (overlay_at (up_to c g) xs₀ x l ∙ by_place x (cases_lt x c))) }
  where
    by_place : (x : ℕ) → (x < c) ⊎ (c ≤ x) → up_to c g x (get_or xs₀ x 0) ≡ up_to c h x (get_or xs₀ x 0)
    by_place x (inl lo) = rw (lt-ltb x c lo) (same x lo)
    by_place x (inr hi) = rw (le-ltb x c hi)

pub row_as : (g h : ℕ → ℕ) (xs : List ℕ) {m : ℕ} → length xs ≡ m → ((x : ℕ) → x < m → g x ≡ h x) → row_of (λ r. g) 0 xs ≡ row_of (λ r. h) 0 xs
row_as g h xs long same = is_overlay (λ x old. h x) xs _ (overlay_length (λ x old. g x) 0 xs) (λ x l. overlay_at (λ x old. g x) xs x l ∙ same x (omega arith))

pub value_as : (k : Kernel) (n m : ℕ) → 0 < n → (Y P Q Y' P' Q' : ℕ → ℕ)
    → ((c : ℕ) → c < m → Y' c ≡ Y c) → ((c : ℕ) → c < m → P' c ≡ P c) → ((c : ℕ) → c < m → Q' c ≡ Q c)
    → (x : ℕ) → x < n * m → row_value k n Y' P' Q' x ≡ row_value k n Y P Q x
unfolding row_value
value_as k n m some Y P Q Y' P' Q' ey ep eq x h =
    let c = div_below x n m some (omega arith) in
    rw (ey (x / n) c, ep (x / n) c, eq (x / n) c)

-- chroma from the sums of the columns is that of the rows
pub across_is : (near far : List ℕ) (n : ℕ) {sums : List ℕ} → Filled (n + 1) (column_of near far) sums → (c : ℕ) → c < 2 * n → across_at sums c ≡ pair_chroma near far c
across_is near far n {sums} f c h =
    let j = c / 2 in
    rw (f.value j (omega arith), f.value (j + 1) (omega arith), left_is (at near j) (at near (j + 1)) (at far j) (at far (j + 1)), right_is (at near j) (at near (j + 1)) (at far j) (at far (j + 1)))
  where
    left_is : (a b c e : ℕ) → rounded (3 * (3 * a + c) + (3 * b + e)) ≡ rounded (9 * a + 3 * b + 3 * c + e)
    left_is a b c e = omega arith

    right_is : (a b c e : ℕ) → rounded (3 * a + c + 3 * (3 * b + e)) ≡ rounded (3 * a + 9 * b + c + 3 * e)
    right_is a b c e = omega arith
