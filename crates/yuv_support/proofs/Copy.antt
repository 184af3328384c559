-- What a loop keeps that copies the first n elements of one list to another, at whatever width: the first i are the same.
-- Assumes nothing.
use mathlib.Core.Path.{◌≡◌, refl, sym, ◌∙◌}
use mathlib.Core.List.{List}
use Prim.Native.Nat.{ℕ, suc, ◌+◌, ◌≤◌, ◌<◌}
use native.Mathlib.Omega.{arith}
use lib.ListN.{length, take, get_or, set, length-set}
use lib.Seq.{take-suc, take-suc-set, take_all}

pub record Copied (from to₀ : List ℕ) (n : ℕ) (to : List ℕ) (i : ℕ) : Type 0 where
  pub most : i ≤ n
  pub kept : length to ≡ length to₀
  pub same : take i to ≡ take i from

module _ {from to₀ : List ℕ} {n : ℕ} where
  pub copied_none : Copied from to₀ n to₀ 0
  copied_none = record { most = omega arith; kept = refl; same = refl }

  pub copied_one : {to : List ℕ} {i : ℕ} → Copied from to₀ n to i → i < n → n ≤ length from → n ≤ length to₀
      → Copied from to₀ n (set to i (get_or from i 0)) (i + 1)
  copied_one {to} {i} c h hf ht =
      let e : i + 1 ≡ suc i = omega arith in
      let l : i < length from = omega arith in
      let k : i < length to = omega (arith, c.kept) in
      record {
        most = omega arith;
        kept = length-set to i (get_or from i 0) ∙ c.kept;
        same = rw (e, take-suc-set to i (get_or from i 0), take-suc from i 0, c.same);
      }

  pub copied_all : {to : List ℕ} {i : ℕ} → Copied from to₀ n to i → n ≤ i → take n to ≡ take n from
  copied_all {to} {i} c h = let e : n ≡ i = omega (arith, c.most) in rw e c.same

-- two lists of n elements whose first n are the same
pub whole_same : (n : ℕ) (a b : List ℕ) → length a ≡ n → length b ≡ n → take n a ≡ take n b → a ≡ b
whole_same n a b la lb e =
    sym (take_all n a (let h : length a ≤ n = omega arith in h)) ∙ e ∙ take_all n b (let h : length b ≤ n = omega arith in h)
