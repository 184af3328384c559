-- Chroma of pairs: an array that is filled two places at a time, and the same chroma by the sums of the columns.
-- Assumes nothing.
use mathlib.Core.Path.{◌≡◌, ap}
use mathlib.Core.List.{List}
use Prim.Native.Nat.{ℕ, ◌+◌, ◌*◌, ◌/◌, ◌%◌, ◌≤◌}
use native.Mathlib.Omega.{arith}
use lib.ListN.{length, set}
use Rattle.yuv_support.specs.Blend.{rounded}
use Rattle.numerics.specs.Row.{at, column_of, across_at, pair_chroma, Begun, Filled}
use Rattle.numerics.proofs.Row.{begun_more, begun_as, across_is}

-- the two places of pair j
pub pair_begun : {g : ℕ → ℕ} {xs₀ xs : List ℕ} (j : ℕ) {l r : ℕ} → Begun g xs₀ xs (2 * j) → 2 * j + 2 ≤ length xs₀ → l ≡ g (2 * j) → r ≡ g (2 * j + 1)
    → Begun g xs₀ (set (set xs (2 * j) l) (2 * j + 1) r) (2 * (j + 1))
pair_begun j b fits el er =
    let q : 2 * (j + 1) ≡ 2 * j + 1 + 1 = omega arith in
    rw q (begun_more (begun_more b (omega arith) el) (omega arith) er)

module _ (j : ℕ) where
  even : 2 * j % 2 ≡ 0
  even = omega arith

  odd : (2 * j + 1) % 2 ≡ 1
  odd = omega arith

  at_even : 2 * j / 2 ≡ j
  at_even = omega arith

  at_odd : (2 * j + 1) / 2 ≡ j
  at_odd = omega arith

  pub across_left : (sums : List ℕ) → across_at sums (2 * j) ≡ rounded (3 * at sums j + at sums (j + 1))
  across_left sums = rw (even, at_even)

  pub across_right : (sums : List ℕ) → across_at sums (2 * j + 1) ≡ rounded (at sums j + 3 * at sums (j + 1))
  across_right sums = rw (odd, at_odd)

  pub pair_left : (near far : List ℕ) → pair_chroma near far (2 * j) ≡ rounded (3 * column_of near far j + column_of near far (j + 1))
  pair_left near far = rw (even, at_even) (ap rounded (omega arith))

  pub pair_right : (near far : List ℕ) → pair_chroma near far (2 * j + 1) ≡ rounded (3 * column_of near far (j + 1) + column_of near far j)
  pair_right near far = rw (odd, at_odd) (ap rounded (omega arith))

pub same_left : (a b : ℕ) → (a + b + 8 + 2 * a) / 16 ≡ rounded (3 * a + b)
same_left a b = omega arith

pub same_right : (a b : ℕ) → (a + b + 8 + 2 * b) / 16 ≡ rounded (a + 3 * b)
same_right a b = omega arith

-- by the sums of the columns
module _ (near far : List ℕ) (n : ℕ) {sums : List ℕ} (f : Filled (n + 1) (column_of near far) sums) where
  pub blended : {xs₀ xs : List ℕ} → Begun (across_at sums) xs₀ xs (2 * n) → Begun (pair_chroma near far) xs₀ xs (2 * n)
  blended = begun_as (pair_chroma near far) (across_is near far n f)
