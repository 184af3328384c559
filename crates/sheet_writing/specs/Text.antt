-- Document 01, "Sheet program": the text that is written, as bytes.
-- Definitions only.
use Rattle.std.specs.Prelude.{ℕ, zero, suc, ◌+◌, ◌/◌, ◌%◌, ◌≡◌, cond, List, [], ◌∷◌, ◌++◌, leb, length}
use Rattle.std.proofs.lemmas.List.Edits.{sets}

-- f 0, f 1, up to f (n − 1), one after the other
unfoldable pub joined : (ℕ → List ℕ) → ℕ → List ℕ
joined f zero = []
joined f (suc n) = joined f n ++ f n

-- the decimal digit of n at a power of ten that is no leading zero
unfoldable pub leading_digit : ℕ → ℕ → List ℕ
leading_digit power n = cond (leb power n) ((48 + n / power % 10) ∷ []) []

-- n as a decimal number without leading zeros, n having at most five digits
unfoldable pub decimal_text : ℕ → List ℕ
decimal_text n =
    leading_digit 10000 n ++ leading_digit 1000 n ++ leading_digit 100 n ++ leading_digit 10 n ++ (48 + n % 10) ∷ []

-- a number and the byte after it
unfoldable pub number_text : ℕ → ℕ → List ℕ
number_text n byte = decimal_text n ++ byte ∷ []

-- from a place of `old` on a text was written, which makes `new`; all else is kept, and `next` is the place after it
pub record Wrote (old : List ℕ) (at : ℕ) (text : List ℕ) (new : List ℕ) (next : ℕ) : Type 0 where
  pub place : next ≡ at + length text
  pub bytes : new ≡ sets old at text
