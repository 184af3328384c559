-- The rows that the source stores, their rule, and how many of their numbers the formula gives.
-- Definitions only.
use Rattle.std.specs.Prelude.{◌≡◌, cond, ℕ, ◌+◌, T, eqb, Option, Some, None}
use Rattle.yuv_support.specs.declared.YuvMode.TheVariants.{AsSource}
use Rattle.yuv_support.specs.declared.CbCrInverseTransform.{CbCrInverseTransform}
use Rattle.yuv_support.specs.Coefficients.{is_stored, stored_of}
use Rattle.built_coefficients.specs.Built.{built_of}
use Rattle.stored_rows.specs.declared.StoredRow.{StoredRow}

-- document 01's rule: each number is the exact coefficient times 8192, rounded to nearest, `Smpte240` with kr and kb exchanged
abbrev pub KeepsRule : StoredRow → Type 0
KeepsRule s = T (is_stored s.depth s.matrix) × (s.row ≡ stored_of s.depth s.range s.matrix AsSource)

-- 1 for two equal numbers, else 0
abbrev pub same : ℕ → ℕ → ℕ
same a b = cond (eqb a b) 1 0

-- how many of the five numbers of two rows are equal
unfoldable pub agreeing : CbCrInverseTransform → CbCrInverseTransform → ℕ
agreeing a b = same a.y b.y + same a.cr b.cr + same a.cb b.cb + same a.g1 b.g1 + same a.g2 b.g2

-- how many of a stored row's numbers are in what its setting has
unfoldable pub found_in : StoredRow → Option CbCrInverseTransform → ℕ
found_in s (Some k) = agreeing s.row k
found_in s None = 0

abbrev pub found_of : StoredRow → ℕ
found_of s = found_in s (built_of s.depth s.range s.matrix AsSource)
