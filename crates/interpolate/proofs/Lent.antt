-- Parts of rows of samples, as they are lent for a group, are as long as `convert` asks.
-- Assumes nothing.
use mathlib.Core.Path.{◌≡◌, sym, ◌∙◌}
use mathlib.Core.List.{List}
use Prim.Native.Nat.{ℕ, ◌+◌, ◌-◌, ◌*◌, ◌≤◌}
use native.Mathlib.Omega.{arith}
use lib.ListN.{length, take, drop}
use Rattle.std.specs.Prelude.{map}
use Rattle.yuv_support.proofs.Rows.{part_length}
use Rattle.sample.proofs.Numbers.{numbers_part}
use Rattle.numerics.specs.Row.{GroupsFit, Reach}
use Rattle.blocks.specs.Parts.{PartsFit}

module _ {X : Type 0} {number : X → ℕ} {numbers : List X → List ℕ} (are : (xs : List X) → numbers xs ≡ map number xs) where
  -- the elements from place a to place b
  abbrev pub lent : ℕ → ℕ → List X → List ℕ
  lent a b xs = numbers (take (b - a) (drop a xs))

  lent_long : (a b : ℕ) (xs : List X) → b ≤ length (numbers xs) → length (lent a b xs) ≡ b - a
  lent_long a b xs h = rw (numbers_part are (b - a) a xs) (part_length a (b - a) (numbers xs) (omega arith))

  pub lent_fit : (from to : ℕ) {n e samples : ℕ} (row y pn pf qn qf : List X)
      → GroupsFit n (numbers row) (numbers y) (numbers pn) (numbers pf) (numbers qn) (numbers qf) (from + 8 * e) samples → e ≤ 32 → Reach (from + 8 * e) samples to
      → PartsFit n e (lent (n * (2 * from)) (n * (2 * (from + 8 * e))) row) (lent (2 * from) (2 * (from + 8 * e)) y) (lent from to pn) (lent from to pf) (lent from to qn) (lent from to qf)
  lent_fit from to {n} {e} {samples} row y pn pf qn qf f few r =
      let lr = lent_long (n * (2 * from)) (n * (2 * (from + 8 * e))) row f.places in
      let ly = lent_long (2 * from) (2 * (from + 8 * e)) y f.luma in
      let l1 = lent_long from to pn (omega (arith, f.first_near, r.inside)) in
      let l2 = lent_long from to pf (omega (arith, f.first_far, r.inside)) in
      let l3 = lent_long from to qn (omega (arith, f.third_near, r.inside)) in
      let l4 = lent_long from to qf (omega (arith, f.third_far, r.inside)) in
      record {
        fits = record {
          letters = f.letters;
          places = omega (arith, lr);
          luma = omega (arith, ly);
          known = omega arith;
          first_near = omega (arith, l1, r.least);
          first_far = omega (arith, l2, r.least);
          third_near = omega (arith, l3, r.least);
          third_far = omega (arith, l4, r.least);
        };
        places = omega (arith, lr);
        luma = omega (arith, ly, few);
        first_near = omega (arith, l1, r.most);
        first_far = l2 ∙ sym l1;
        third_near = l3 ∙ sym l1;
        third_far = l4 ∙ sym l1;
      }
