-- The lowered kernel is quick, and gives the letters and the counts of the kernel it comes from, for samples below 4,096.
-- Assumes nothing.
use mathlib.Core.Path.{◌≡◌}
use Prim.Native.Nat.{ℕ, ◌+◌, ◌-◌, ◌*◌, ◌≤◌}
use native.Mathlib.Nat.{mul-le-mul_left}
use native.Mathlib.Omega.{arith}
use Rattle.numerics.specs.declared.Kernel.{Kernel}
use Rattle.numerics.specs.Kernel.{below_at, above_at, letter_of, middle, Quick, Words, lowered}
use Rattle.numerics.proofs.Sums.{lower_value, lower_below, lower_above}

module _ {k : Kernel} (w : Words k) where
  abbrev low : ℕ
  low = 32766 - k.max

  down : (k.offset - low) * 8192 ≤ 1912610816
  down = omega (arith, w.offset, w.max)

  deep : low ≤ k.offset
  deep = omega (arith, w.offset)

  first_room : (k.offset - low) * 8192 ≤ k.base_first
  first_room = omega (arith, down, w.least_first)

  third_room : (k.offset - low) * 8192 ≤ k.base_third
  third_room = omega (arith, down, w.least_third)

  -- bases of one level are of one level when as much is taken off each
  off_both : (a b c e d : ℕ) → a + b ≡ c + e → d ≤ a → d ≤ c → a - d + b ≡ c - d + e
  off_both a b c e d h k l = omega arith

  off_green : (g a b c d : ℕ) → g ≡ a + b + c → d ≤ a → g - d ≡ a - d + b + c
  off_green g a b c d h l = omega arith

  pub lowered_quick : Quick (lowered k)
  lowered_quick =
      let r = w.roomy in
      record {
        offset = omega (arith, w.max);
        max = w.max;
        half = w.half;
        roomy = record {
          luma = r.luma;
          first = r.first;
          third = r.third;
          green_first = r.green_first;
          green_third = r.green_third;
          base_first = omega (arith, w.offset, w.max, r.base_first);
          base_third = omega (arith, w.offset, w.max, r.base_third);
          base_green = omega (arith, w.offset, w.max, r.base_green);
          green = omega (arith, w.least_green, down);
          level_third = off_both k.base_third (k.third * middle k) k.base_first (k.first * middle k) ((k.offset - low) * 8192) r.level_third third_room first_room;
          level_green = off_green k.base_green k.base_first (k.first * middle k) ((k.green_first + k.green_third) * middle k) ((k.offset - low) * 8192) r.level_green first_room;
        };
      }

  module _ (y p q : ℕ) (hp : p ≤ 4095) (hq : q ≤ 4095) where
    abbrev t : ℕ
    t = k.green_first * p + k.green_third * q

    taken : t + (k.offset - low) * 8192 ≤ k.base_green
    taken = omega (arith, mul-le-mul_left k.green_first hp, mul-le-mul_left k.green_third hq, w.least_green, down)

    -- what is taken off a sum is taken off its base
    off_base : (l base t d : ℕ) → t + d ≤ base → l + (base - d) - t ≡ l + (base - t - d)
    off_base l base t d h = omega arith

    green_lower : k.y * y + (k.base_green - (k.offset - low) * 8192) - t ≡ k.y * y + (k.base_green - t - (k.offset - low) * 8192)
    green_lower = off_base (k.y * y) k.base_green t ((k.offset - low) * 8192) taken

    green_same : k.y * y + k.base_green - t ≡ k.y * y + (k.base_green - t)
    green_same = off_none (k.y * y) k.base_green t (off_least t _ k.base_green taken)
      where
        off_least : (t d base : ℕ) → t + d ≤ base → t ≤ base
        off_least t d base h = omega arith

        off_none : (l base t : ℕ) → t ≤ base → l + base - t ≡ l + (base - t)
        off_none l base t h = omega arith

    rest : (k.offset - low) * 8192 ≤ k.base_green - t
    rest = off_rest t _ k.base_green taken
      where
        off_rest : (t d base : ℕ) → t + d ≤ base → d ≤ base - t
        off_rest t d base h = omega arith

    pub lowered_letter : (j : ℕ) → letter_of (lowered k) y p q j ≡ letter_of k y p q j
    unfolding letter_of
    lowered_letter j =
        let a = lower_value (k.y * y + k.first * p) k.base_first k.offset low k.max first_room deep in
        let b = lower_value (k.y * y) (k.base_green - t) k.offset low k.max rest deep in
        let c = lower_value (k.y * y + k.third * q) k.base_third k.offset low k.max third_room deep in
        rw (green_lower, green_same, a, b, c)

    pub lowered_below : below_at (lowered k) y p q ≡ below_at k y p q
    unfolding below_at
    lowered_below =
        let a = lower_below (k.y * y + k.first * p) k.base_first k.offset low k.max first_room deep in
        let b = lower_below (k.y * y) (k.base_green - t) k.offset low k.max rest deep in
        let c = lower_below (k.y * y + k.third * q) k.base_third k.offset low k.max third_room deep in
        rw (green_lower, green_same, a, b, c)

    pub lowered_above : above_at (lowered k) y p q ≡ above_at k y p q
    unfolding above_at
    lowered_above =
        let a = lower_above (k.y * y + k.first * p) k.base_first k.offset low k.max first_room deep in
        let b = lower_above (k.y * y) (k.base_green - t) k.offset low k.max rest deep in
        let c = lower_above (k.y * y + k.third * q) k.base_third k.offset low k.max third_room deep in
        rw (green_lower, green_same, a, b, c)
