-- Document 01, "Sheet program": the numbers and the lines that are read, in a list of bytes. Places are counted from 0.
-- Definitions only.
use Rattle.std.specs.Prelude.{ℕ, zero, suc, ◌+◌, ◌-◌, ◌*◌, ◌%◌, Bool, true, cond, ◌&&◌, List, [], ◌∷◌, eqb, leb, get_or}
use Rattle.sheet_writing.specs.Text.{joined}

-- the byte at a place; past the end 0, which is no digit and ends no number
abbrev pub byte_at : List ℕ → ℕ → ℕ
byte_at s at = get_or s at 0

-- '0' to '9'
abbrev pub is_digit : ℕ → Bool
is_digit byte = leb 48 byte && leb byte 57

-- ---- one number

-- how many of the `most` bytes from a place on are digits, up to the first that is none
unfoldable pub digits_within : ℕ → List ℕ → ℕ → ℕ
digits_within zero s at = 0
digits_within (suc most) s at = cond (is_digit (byte_at s at)) (1 + digits_within most s (at + 1)) 0

-- the decimal number that n digits from a place on make
unfoldable pub decimal : List ℕ → ℕ → ℕ → ℕ
decimal s at zero = 0
decimal s at (suc n) = 10 * decimal s at n + (byte_at s (at + n) - 48)

-- the digits of the number at a place: at most five, so that the byte that follows five digits has to end the number
abbrev pub digits_at : List ℕ → ℕ → ℕ
digits_at s at = digits_within 5 s at

unfoldable pub number_at : List ℕ → ℕ → ℕ
number_at s at = decimal s at (digits_at s at)

-- the place after the number at a place and the byte that ends it
unfoldable pub past : List ℕ → ℕ → ℕ
past s at = at + digits_at s at + 1

-- at a place stands a number of one to five digits, ended by the byte `end`
unfoldable pub is_number : List ℕ → ℕ → ℕ → Bool
is_number s at end = leb 1 (digits_at s at) && eqb (byte_at s (at + digits_at s at)) end

-- ---- many numbers

-- p holds of 0, 1, up to n − 1
unfoldable pub all_below : (ℕ → Bool) → ℕ → Bool
all_below p zero = true
all_below p (suc n) = all_below p n && p n

-- where number i begins, number 0 being the one at a place
unfoldable pub begin : List ℕ → ℕ → ℕ → ℕ
begin s at zero = at
begin s at (suc i) = past s (begin s at i)

-- what ends number i, in lines of `width` numbers: a space, and byte 10 at the line's end
abbrev pub ending : ℕ → ℕ → ℕ
ending width i = cond (eqb ((i + 1) % width) 0) 10 32

-- number i is well formed, in lines of `width` numbers, and at most `limit`
unfoldable pub is_item : List ℕ → ℕ → ℕ → ℕ → ℕ → Bool
is_item s at width limit i = is_number s (begin s at i) (ending width i) && leb (number_at s (begin s at i)) limit

-- n numbers from a place on are so
abbrev pub are_lines : List ℕ → ℕ → ℕ → ℕ → ℕ → Bool
are_lines s at width limit n = all_below (is_item s at width limit) n

-- these n numbers
abbrev pub numbers_from : List ℕ → ℕ → ℕ → List ℕ
numbers_from s at n = joined (λ i. number_at s (begin s at i) ∷ []) n
