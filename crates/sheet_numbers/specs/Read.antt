-- What the reading functions answer, by the definitions of Numbers.
-- Definitions only.
use Rattle.std.specs.Prelude.{◌≡◌, ℕ, zero, suc, ◌≤◌, Bool, true, cond, List, eqb, length, take, Option, Some, None}
use Rattle.std.proofs.lemmas.List.Edits.{sets}
use Rattle.sheet_numbers.specs.declared.Number.{Number}
use Rattle.sheet_numbers.specs.Numbers.{byte_at, all_below, is_number, number_at, past, begin, is_item, are_lines, numbers_from}

-- the list begins with a text, byte by byte
abbrev pub same_byte : List ℕ → List ℕ → ℕ → Bool
same_byte s text i = eqb (byte_at s i) (byte_at text i)

abbrev pub begins_with : List ℕ → List ℕ → Bool
begins_with s text = all_below (same_byte s text) (length text)

-- the number at a place and the place after it
abbrev pub number_read : List ℕ → ℕ → ℕ → Option Number
number_read s at end = cond (is_number s at end) (Some (record { value = number_at s at; next = past s at })) None

-- the place after n numbers
abbrev pub lines_read : List ℕ → ℕ → ℕ → ℕ → ℕ → Option ℕ
lines_read s at width limit n = cond (are_lines s at width limit n) (Some (begin s at n)) None

-- how many of 0, 1, up to n − 1 come before the first of which p does not hold
unfoldable pub holding : (ℕ → Bool) → ℕ → ℕ
holding p zero = 0
holding p (suc n) = cond (all_below p (suc n)) (suc n) (holding p n)

-- what reading n numbers answers and leaves: those before the first that is not well formed are written, all else is kept
pub record LinesTaken (s : List ℕ) (at width limit n : ℕ) (old new : List ℕ) (result : Option ℕ) : Type 0 where
  pub answer : result ≡ lines_read s at width limit n
  pub numbers : new ≡ sets old 0 (numbers_from s at (holding (is_item s at width limit) n))

-- n well-formed numbers from a place on, read into xs; `next` is the place after them
pub record Lined (s : List ℕ) (at width limit n : ℕ) (xs : List ℕ) (next : ℕ) : Type 0 where
  pub formed : are_lines s at width limit n ≡ true
  pub end : next ≡ begin s at n
  pub within : next ≤ length s
  pub read : take n xs ≡ numbers_from s at n
