-- Laws of a text that goes on: one text after the other is their join (`grown_then`). How long the texts of a header line are at most, and that
-- the text goes by the sampling that a code stands for.
-- Assumes nothing.
use mathlib.Core.Path.{◌≡◌, refl, sym, ◌∙◌}
use mathlib.Core.Bool.{Bool, true, false, cond}
use mathlib.Core.List.{List, [], ◌∷◌, ◌++◌, append_assoc, append-nil}
use Prim.Native.Nat.{ℕ, zero, suc, ◌+◌, ◌/◌, ◌%◌, ◌≤◌, ◌<◌}
use native.Mathlib.Omega.{arith}
use borrow.Author.Tests.{le-leb, lt-leb}
use lib.Dec.{eqb, lit≤, eqb-suc-zero}
use lib.ListN.{length, length-append}
use Rattle.sheet_writing.proofs.Write.{decimal_text_length}
use Rattle.sheet_writing.specs.Text.{leading_digit}
use Rattle.yuv_support.specs.Settings.{sampling_of}
use Rattle.y4m_text.specs.declared.Text.{Text}
use Rattle.y4m_text.specs.Words.{c420jpeg, c422, c420p10, c422p10, c420p12, c422p12}
use Rattle.y4m_text.specs.Write.{code_of, name_of, header_text, held}

-- ---- one after the other: `next` is the text `t` with a list of bytes behind it

abbrev pub Grown : Text → List ℕ → Text → Type 0
Grown t more next = (held next ≡ held t ++ more) × (next.length ≡ t.length + length more)

grown_nothing : (t : Text) → Grown t [] t
grown_nothing t = (sym (append-nil (held t)), omega arith)

pub grown_then : (t mid next : Text) (a b : List ℕ) → Grown t a mid → Grown mid b next → Grown t (a ++ b) next
grown_then t mid next a b first second =
    (second.0 ∙ rw (first.0, append_assoc (held t) a b), let l = length-append a b in omega (arith, first.1, second.1))

-- a digit, or none where the number is below its power of ten
pub grown_digit : (t next : Text) (power n : ℕ) → Grown t ((48 + n / power % 10) ∷ []) next → power ≤ n → Grown t (leading_digit power n) next
unfolding leading_digit
grown_digit t next power n g h = rw (le-leb power n h) g

pub grown_no_digit : (t : Text) (power n : ℕ) → n < power → Grown t (leading_digit power n) t
unfolding leading_digit
grown_no_digit t power n h = rw (lt-leb power n h) (grown_nothing t)

-- ---- lengths

one_of_two : (k : ℕ) (t : Bool) (a b : List ℕ) → length a ≤ k → length b ≤ k → length (cond t a b) ≤ k
one_of_two k true a b h g = h
one_of_two k false a b h g = g

pub name_length : (sampling depth : ℕ) → length (name_of sampling depth) ≤ 7
unfolding name_of
name_length sampling depth =
    let low = one_of_two 7 (eqb sampling 0) c420jpeg c422 (lit≤ tt) (lit≤ tt) in
    let ten = one_of_two 7 (eqb sampling 0) c420p10 c422p10 (lit≤ tt) (lit≤ tt) in
    let twelve = one_of_two 7 (eqb sampling 0) c420p12 c422p12 (lit≤ tt) (lit≤ tt) in
    one_of_two 7 (eqb depth 8) _ _ low (one_of_two 7 (eqb depth 10) _ _ ten twelve)

pub header_length : (sampling depth width height : ℕ) → length (header_text sampling depth width height) ≤ 33
unfolding header_text
header_length sampling depth width height =
    simp length-append (omega (arith, decimal_text_length width, decimal_text_length height, name_length sampling depth))

-- ---- codes: the name asks of a code only whether it is 0

pub header_of_code : (code depth width height : ℕ)
    → header_text (code_of (sampling_of code)) depth width height ≡ header_text code depth width height
unfolding header_text name_of
header_of_code zero depth width height = refl
header_of_code (suc code) depth width height = rw (eqb-suc-zero code) refl
