-- Laws of texts and of writing them: one text after the other is their join (`wrote_then`), how long each text is at most, and what a loop
-- keeps that puts texts behind a text (`appended_one`) or writes them (`Joining`).
-- Assumes nothing.
use mathlib.Core.Path.{◌≡◌, refl, sym, ◌∙◌}
use mathlib.Core.Bool.{Bool, true, false, cond}
use mathlib.Core.List.{List, [], ◌∷◌, ◌++◌, append_assoc, append-nil}
use Prim.Native.Nat.{ℕ, zero, suc, ◌+◌, ◌-◌, ◌*◌, ◌/◌, ◌%◌, ◌≤◌, ◌<◌}
use native.Mathlib.Nat.{add-zero, mul-le-mul_left, mul-suc}
use native.Mathlib.Omega.{arith}
use borrow.Rule.Slice.PartMut.{put_mid}
use borrow.Author.Tests.{le-leb, lt-leb}
use lib.Dec.{leb}
use lib.ListN.{length, length-append, set, take, drop}
use lib.Seq.{sets, sets-eq, take_at, drop-drop}
use Rattle.sheet_writing.specs.Text.{joined, leading_digit, decimal_text, number_text, Wrote}

-- ---- one after the other

pub sets_append : (old : List ℕ) (at : ℕ) (a b : List ℕ) → sets (sets old at a) (at + length a) b ≡ sets old at (a ++ b)
sets_append old at [] b = rw (add-zero at)
sets_append old at (x ∷ a) b =
    let e : at + suc (length a) ≡ suc at + length a = omega arith in
    rw e (sets_append (set old at x) (suc at) a b)

-- a text copied to the begin of a list
pub copied_to : (text old : List ℕ) → length text ≤ length old → text ++ drop (length text) old ≡ sets old 0 text
copied_to text old h = let e : 0 + length text ≡ length text = omega arith in sym (sets-eq text old 0 (omega arith) ∙ rw e refl)

-- a text that was written from the begin on stands there
pub text_kept : (text old : List ℕ) {new : List ℕ} {r k : ℕ} → r ≡ length text → new ≡ sets old 0 text → length old ≡ k → r ≤ k → take r new ≡ text
text_kept text old e q l h = rw (q, sets-eq text old 0 (omega (arith, e, l))) (take_at text _ _ (sym e))

pub wrote_nothing : (old : List ℕ) (at : ℕ) → Wrote old at [] old at
wrote_nothing old at = record { place = sym (add-zero at); bytes = refl }

pub wrote_then : {old : List ℕ} {at : ℕ} {a b mid new : List ℕ} {next last : ℕ} → Wrote old at a mid next → Wrote mid next b new last → Wrote old at (a ++ b) new last
wrote_then {old} {at} {a} {b} {mid} {new} {next} {last} first second = record {
  place = let l = length-append a b in omega (arith, first.place, second.place);
  bytes = second.bytes ∙ rw (first.bytes, first.place) (sets_append old at a b);
}

-- a digit, or none where the number is below its power of ten
pub wrote_digit : {power n : ℕ} {old new : List ℕ} {at next : ℕ} → Wrote old at ((48 + n / power % 10) ∷ []) new next → power ≤ n
    → Wrote old at (leading_digit power n) new next
unfolding leading_digit
wrote_digit {power} {n} w h = rw (le-leb power n h) w

pub wrote_no_digit : (power n : ℕ) (old : List ℕ) (at : ℕ) → n < power → Wrote old at (leading_digit power n) old at
unfolding leading_digit
wrote_no_digit power n old at h = rw (lt-leb power n h) (wrote_nothing old at)

-- a text copied to a part of a list
pub wrote_part : (old text : List ℕ) {part : List ℕ} (at : ℕ) → part ≡ text → at + length text ≤ length old
    → Wrote old at text (put_mid at (at + length text - at) old part) (at + length text)
wrote_part old text {part} at e h =
    let n : at + length text - at ≡ length text = omega arith in
    record {
      place = refl;
      bytes = rw (e, n, sets-eq text old at h, drop-drop (length text) at old) (sym (append_assoc (take at old) text _));
    }

-- ---- lengths

digit_length : (t : Bool) (x : ℕ) → length (cond t (x ∷ []) []) ≤ 1
digit_length true x = omega arith
digit_length false x = omega arith

pub leading_digit_length : (power n : ℕ) → length (leading_digit power n) ≤ 1
unfolding leading_digit
leading_digit_length power n = digit_length (leb power n) (48 + n / power % 10)

pub decimal_text_length : (n : ℕ) → length (decimal_text n) ≤ 5
unfolding decimal_text
decimal_text_length n =
    simp length-append
    (omega
    (arith, leading_digit_length 10000 n, leading_digit_length 1000 n, leading_digit_length 100 n, leading_digit_length 10 n))

pub number_text_length : (n byte : ℕ) → length (number_text n byte) ≤ 6
unfolding number_text
number_text_length n byte = simp length-append (omega (arith, decimal_text_length n))

-- where a digit and a number end that are written
pub digit_most : (power n : ℕ) {old new : List ℕ} {at next : ℕ} → Wrote old at (leading_digit power n) new next → next ≤ at + 1
digit_most power n w = omega (arith, w.place, leading_digit_length power n)

pub number_most : (n byte : ℕ) {old new : List ℕ} {at next : ℕ} → Wrote old at (number_text n byte) new next → next ≤ at + 6
number_most n byte w = omega (arith, w.place, number_text_length n byte)

-- n texts of at most k bytes each
pub joined_length : (f : ℕ → List ℕ) (k n : ℕ) → ((i : ℕ) → length (f i) ≤ k) → length (joined f n) ≤ k * n
unfolding joined
joined_length f k zero h = omega arith
joined_length f k (suc n) h =
    let i = joined_length f k n h in
    let a = length-append (joined f n) (f n) in
    let m = mul-suc k n in
    omega (arith, h n)

pub joined_one : (f : ℕ → List ℕ) (n : ℕ) → joined f (n + 1) ≡ joined f n ++ f n
unfolding joined
joined_one f n = let e : n + 1 ≡ suc n = omega arith in rw e

pub joined_same : (f g : ℕ → List ℕ) (n : ℕ) → ((i : ℕ) → i < n → f i ≡ g i) → joined f n ≡ joined g n
unfolding joined
joined_same f g zero h = refl
joined_same f g (suc n) h = rw (joined_same f g n (λ i l. h i (omega arith)), h n (omega arith))

-- ---- what a loop keeps that puts texts behind a text: the first n of them stand there

pub appended_none : (f : ℕ → List ℕ) (old : List ℕ) → old ≡ old ++ joined f 0
unfolding joined
appended_none f old = sym (append-nil old)

pub appended_one : (f : ℕ → List ℕ) (n : ℕ) (old : List ℕ) {mid new : List ℕ} → mid ≡ old ++ joined f n → new ≡ mid ++ f n → new ≡ old ++ joined f (n + 1)
appended_one f n old {mid} {new} e w = w ∙ rw (e, joined_one f n) (append_assoc old (joined f n) (f n))

-- ---- what a loop keeps that writes texts: the first n of `limit` texts are written

pub record Joining (f : ℕ → List ℕ) (limit : ℕ) (old : List ℕ) (at : ℕ) (new : List ℕ) (next n : ℕ) : Type 0 where
  pub most : n ≤ limit
  pub wrote : Wrote old at (joined f n) new next

module _ {f : ℕ → List ℕ} {limit : ℕ} {old : List ℕ} {at : ℕ} where
  pub joining_none : Joining f limit old at old at 0
  unfolding joined
  joining_none = record { most = omega arith; wrote = wrote_nothing old at }

  pub joining_one : {mid new : List ℕ} {next last n : ℕ} → Joining f limit old at mid next n → n < limit → Wrote mid next (f n) new last
      → Joining f limit old at new last (n + 1)
  joining_one {mid} {new} {next} {last} {n} j h w = record { most = omega arith; wrote = rw (joined_one f n) (wrote_then j.wrote w) }

  pub joining_all : {new : List ℕ} {next n : ℕ} → Joining f limit old at new next n → limit ≤ n → Wrote old at (joined f limit) new next
  joining_all {new} {next} {n} j h = let e : limit ≡ n = omega (arith, j.most) in rw e j.wrote

  -- the next text has room where `limit` texts of at most k bytes have
  pub joining_room : {new : List ℕ} {next n : ℕ} (k : ℕ) → Joining f limit old at new next n → n < limit → ((i : ℕ) → length (f i) ≤ k)
      → next + k ≤ at + k * limit
  joining_room {new} {next} {n} k j h l =
      let m : k * suc n ≤ k * limit = mul-le-mul_left k h in
      omega (arith, m, mul-suc k n, joined_length f k n l, j.wrote.place)
