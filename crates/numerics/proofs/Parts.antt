-- Parts of rows, as they are lent: their elements and their lengths.
-- Assumes nothing.
use mathlib.Core.Path.{◌≡◌}
use mathlib.Core.Logic.{◌⊎◌, inl, inr}
use mathlib.Core.List.{List}
use Prim.Native.Nat.{ℕ, ◌+◌, ◌-◌, ◌*◌, ◌/◌, ◌%◌, ◌≤◌, ◌<◌}
use native.Mathlib.Nat.{mul-le-mul_left}
use native.Mathlib.Omega.{arith}
use borrow.Author.Tests.{lt-ltb, le-ltb}
use lib.ListN.{length, set, take, drop}
use Rattle.std.proofs.lemmas.Bool.{cases_lt}
use Rattle.yuv_support.proofs.Rows.{part_length, part_at}
use Rattle.numerics.specs.Row.{pair_chroma, tailed, Begun, GroupsFit, Reach}
use Rattle.numerics.proofs.Row.{begun_as, begun_more}

-- the elements from place a to place b
abbrev pub cut : ℕ → ℕ → List ℕ → List ℕ
cut a b xs = take (b - a) (drop a xs)

-- chroma of the pairs from pair `from` on, of the parts of the rows that end before sample `to`
module _ (near far : List ℕ) (from to c : ℕ) (h : c / 2 + 1 < to - from) where
  chroma_part : pair_chroma (cut from to near) (cut from to far) c ≡ pair_chroma near far (2 * from + c)
  chroma_part =
      let j = c / 2 in
      let r : (2 * from + c) % 2 ≡ c % 2 = omega arith in
      let d : (2 * from + c) / 2 ≡ from + j = omega arith in
      let s : from + (j + 1) ≡ from + j + 1 = omega arith in
      let l : j < to - from = omega arith in
      rw (r, d, part_at from (to - from) near j l, part_at from (to - from) near (j + 1) h, part_at from (to - from) far j l, part_at from (to - from) far (j + 1) h, s)

-- ---- chroma of pairs of which the last may be the tail

-- of the arrays: n pairs that have a sample after their own, or n - 1 and the tail
module _ (near far : List ℕ) (tail some n samples : ℕ) (e : some + 1 ≡ samples) {xs₀ xs : List ℕ} (b : Begun (pair_chroma near far) xs₀ xs (2 * some)) where
  before_tail : Begun (tailed samples near far tail) xs₀ xs (2 * some)
  unfolding tailed
  before_tail = begun_as (tailed samples near far tail) (λ c h. rw (lt-ltb (c / 2 + 1) samples (let l : c / 2 + 1 < samples = omega arith in l))) b

  pub tailed_pairs : n ≡ some → Begun (tailed samples near far tail) xs₀ xs (2 * n)
  tailed_pairs h = rw h before_tail

  pub tailed_last : n ≡ some + 1 → 2 * n ≤ length xs₀ → Begun (tailed samples near far tail) xs₀ (set (set xs (2 * some) tail) (2 * some + 1) tail) (2 * n)
  unfolding tailed
  tailed_last h fits =
      let d : 2 * n ≡ 2 * some + 1 + 1 = omega arith in
      rw d (begun_more (begun_more before_tail (omega arith) (is_tail (2 * some) (omega arith))) (omega arith) (is_tail (2 * some + 1) (omega arith)))
    where
      is_tail : (c : ℕ) → 2 * some ≤ c → tail ≡ tailed samples near far tail c
      is_tail c l = rw (le-ltb (c / 2 + 1) samples (let m : samples ≤ c / 2 + 1 = omega arith in m))

-- of the parts of the rows, from pair `from` on
module _ (near far : List ℕ) (tail from m samples to : ℕ) (r : Reach (from + m) samples to) (fits : samples ≤ length near) where
  pub tailed_part : (c : ℕ) → c < 2 * m → tailed (length (cut from to near)) (cut from to near) (cut from to far) tail c ≡ tailed samples near far tail (2 * from + c)
  unfolding tailed
  tailed_part c h = rw (part_length from (to - from) near (omega arith)) (by_place (cases_lt (c / 2 + 1) (to - from)))
    where
      past : to - from ≤ c / 2 + 1 → (to ≡ from + m + 1) ⊎ (to ≡ samples) → samples ≤ (2 * from + c) / 2 + 1
      past hi (inl e) = omega arith
      past hi (inr e) = omega arith

      by_place : (c / 2 + 1 < to - from) ⊎ (to - from ≤ c / 2 + 1) → tailed (to - from) (cut from to near) (cut from to far) tail c ≡ tailed samples near far tail (2 * from + c)
      by_place (inl lo) =
          let l : (2 * from + c) / 2 + 1 < samples = omega arith in
          rw (lt-ltb (c / 2 + 1) (to - from) lo, lt-ltb ((2 * from + c) / 2 + 1) samples l) (chroma_part near far from to c lo)
      by_place (inr hi) = rw (le-ltb (c / 2 + 1) (to - from) hi, le-ltb ((2 * from + c) / 2 + 1) samples (past hi r.last))

-- ---- lengths of the parts

module _ (from m samples to : ℕ) (r : Reach (from + m) samples to) where
  pub reach_most : 0 < m → (1 ≤ to - from) × (m ≤ to - from) × (to - from ≤ m + 1)
  reach_most h = (omega arith, omega arith, omega arith)

-- ---- the pairs of a row

-- fewer pairs, and a row that is as long
pub fits_less : {n m pairs samples : ℕ} {row₀ row y pn pf qn qf : List ℕ}
    → GroupsFit n row₀ y pn pf qn qf pairs samples → m ≤ pairs → length row ≡ length row₀
    → GroupsFit n row y pn pf qn qf m samples
fits_less {n} {m} {pairs} f h l =
    let p : n * (2 * m) ≤ n * (2 * pairs) = mul-le-mul_left n (omega arith) in
    record {
      letters = f.letters;
      places = omega (arith, f.places);
      luma = omega (arith, f.luma);
      known = omega (arith, f.known);
      first_near = f.first_near;
      first_far = f.first_far;
      third_near = f.third_near;
      third_far = f.third_far;
    }
