-- f32 values from 0 to a fraction a / c. A product and 1 − k are one rounding of a fraction each, and rounding keeps the order,
-- so such a result is at most the rounding of the largest fraction.
-- Assumes nothing.
use mathlib.Core.Path.{◌≡◌, refl}
use mathlib.Core.Bool.{Bool, true, false, cond, ◌&&◌, ◌||◌}
use Prim.Native.Nat.{ℕ, suc, ◌+◌, ◌-◌, ◌*◌, ◌^◌, ◌≤◌, ◌<◌}
use native.Mathlib.Nat.{le_trans, le_of_eq, le_of_lt, mul-le-mul, mul-mul-mul_comm, mul-pos, min-le_left}
use native.Mathlib.Omega.{arith}
use borrow.Author.Tests.{le-ltb}
use lib.Dec.{T, ltb, eqb, ltb→lt, eqb→eq, lit<}
use lib.IntN.{pos}
use lib.Ieee.{Float, nan, inf, fin, Format, binary32, prec, emax, low, up, down, odd, units, round, sum, neg, add, sub, mul, lt, eq, le}
use lib.Ieee.Exact.{HasValue, odd_sign}
use lib.Ieee.Fits.{down_pos, and_l, and_r}
use lib.Ieee.Nearest.{div_mono}
use lib.Ieee.Order.{round_mono}
use lib.Ieee.Positive.{through}
use Rattle.yuv_support.specs.Coefficients.{nearest, round_away}

abbrev pub AtMost : Float → ℕ → ℕ → Type 0
AtMost nan a c = ⊥
AtMost (inf s) a c = ⊥
AtMost (fin s m e) a c = (s ≡ false) × (m * up e * c ≤ a * down e)

-- ---- a rounded fraction

-- no NaN, and the sign is clear
abbrev Plus : Float → Type 0
Plus nan = ⊥
Plus (inf s) = s ≡ false
Plus (fin s m e) = s ≡ false

plus_value : (x : Float) (a c : ℕ) → HasValue x false a c → Plus x
plus_value nan a c h = absurd h
plus_value (inf s) a c h = absurd h
plus_value (fin s m e) a c h = h.0

plus_units : (f : Format) (q k : ℕ) → Plus (units f false q k)
unfolding units
plus_units f q k = by_test (ltb (q * 2 ^ k) (2 ^ (low f + suc (emax f))))
  where
    by_test : (b : Bool) → Plus (cond b (odd (suc (prec f)) false q k (low f)) (inf false))
    by_test true = plus_value (odd (suc (prec f)) false q k (low f)) (q * 2 ^ k) (2 ^ low f) (odd_sign (suc (prec f)) false q k (low f))
    by_test false = refl

plus_round : (f : Format) (n d : ℕ) → Plus (round f false n d)
unfolding round
plus_round f n d = plus_units f _ _

le_of_tests : (a b : ℕ) (w : Bool) → T (ltb a b || (eqb a b && w)) → a ≤ b
le_of_tests a b w t = go (ltb a b) (eqb a b) (ltb→lt a b) (eqb→eq a b) t
  where
    go : (x y : Bool) → (T x → a < b) → (T y → a ≡ b) → T (x || (y && w)) → a ≤ b
    go true y f g t = le_of_lt (f tt)
    go false true f g t = le_of_eq (g tt)
    go false false f g t = absurd t

le_at_most : (x y : Float) (a c : ℕ) → Plus x → HasValue y false a c → T (le x y) → AtMost x a c
unfolding le lt eq
le_at_most nan y a c p h l = absurd p
le_at_most (inf s) nan a c p h l = absurd h
le_at_most (inf s) (inf t) a c p h l = absurd h
le_at_most (inf s) (fin t n d) a c p h l = let z : T (false || false) = rw p at l in absurd z
le_at_most (fin s m e) nan a c p h l = absurd h
le_at_most (fin s m e) (inf t) a c p h l = absurd h
le_at_most (fin s m e) (fin t n d) a c p h l =
    (p, through (m * up e) (n * up d) a (down e) (down d) c (down_pos d) (le_of_tests (m * up e * down d) (n * up d * down e) _ (rw (p, h.0) at l)) (le_of_eq h.1))

pub round_at_most : (n d b e a c : ℕ) → 0 < d → 0 < e → n * e ≤ b * d → HasValue (round binary32 false b e) false a c
    → AtMost (round binary32 false n d) a c
round_at_most n d b e a c pd pe l h =
    le_at_most (round binary32 false n d) (round binary32 false b e) a c (plus_round binary32 n d) h (round_mono binary32 n d b e pd pe l)

-- ---- a product: at most the rounded product of the two bounds

pub mul_at_most : (x y : Float) (a c b d n e : ℕ) → 0 < c → 0 < d → HasValue (round binary32 false (a * b) (c * d)) false n e
    → AtMost x a c → AtMost y b d → AtMost (mul binary32 x y) n e
unfolding mul
mul_at_most nan y a c b d n e pc pd h p q = absurd p
mul_at_most (inf s) y a c b d n e pc pd h p q = absurd p
mul_at_most (fin s m i) nan a c b d n e pc pd h p q = absurd q
mul_at_most (fin s m i) (inf t) a c b d n e pc pd h p q = absurd q
mul_at_most (fin s m i) (fin t w j) a c b d n e pc pd h p q =
    rw (p.0, q.0)
    (round_at_most (m * up i * (w * up j)) (down i * down j) (a * b) (c * d) n e (mul-pos (down_pos i) (down_pos j)) (mul-pos pc pd)
    (le_trans (le_of_eq (mul-mul-mul_comm (m * up i) (w * up j) c d))
    (le_trans (mul-le-mul p.1 q.1) (le_of_eq (mul-mul-mul_comm a (down i) b (down j)))))
    h)

-- ---- 1 − k for a k from 0 to 1

one_has : HasValue (round binary32 false 1 1) false 1 1
unfolding round
one_has = (refl, refl)

pub one_minus : (k : Float) → T (le (fin false 0 (pos 0)) k && le k (fin false 1 (pos 0))) → AtMost (sub binary32 (fin false 1 (pos 0)) k) 1 1
unfolding le lt eq sub add neg sum
one_minus nan t = absurd t
one_minus (inf true) t = absurd t
one_minus (inf false) t = absurd t
one_minus (fin false m e) t =
    let k = fin false m e in
    let h : m * up e * 1 ≤ 1 * down e = le_of_tests (m * up e * 1) (1 * down e) (true || eqb (m * up e * 1) 0) (and_r (le (fin false 0 (pos 0)) k) (le k (fin false 1 (pos 0))) t) in
    rw (le-ltb (1 * down e) (m * up e * 1) h)
    (round_at_most (1 * down e - m * up e * 1) (1 * down e) 1 1 1 1 (omega (arith, down_pos e)) (lit< tt) (omega arith) one_has)
one_minus (fin true m e) t =
    let k = fin true m e in
    let z : 0 * down e ≡ m * up e * 1 = eqb→eq (0 * down e) (m * up e * 1) (and_l (eqb (0 * down e) (m * up e * 1)) (false || eqb (0 * down e) 0) (and_l (le (fin false 0 (pos 0)) k) (le k (fin false 1 (pos 0))) t)) in
    round_at_most (1 * down e + m * up e * 1) (1 * down e) 1 1 1 1 (omega (arith, down_pos e)) (lit< tt) (omega arith) one_has

-- ---- to the nearest whole number

pub round_away_at_most : (x : Float) (a : ℕ) → AtMost x a 1 → round_away x ≤ a
unfolding round_away
round_away_at_most nan a p = absurd p
round_away_at_most (inf s) a p = absurd p
round_away_at_most (fin s m e) a p =
    rw p.0
    (le_trans (min-le_left (nearest (m * up e) (down e)) 2147483647)
    (le_trans (div_mono (2 * (m * up e) + down e) (2 * down e) (2 * a + 1) 2 (omega (arith, down_pos e)) (lit< tt) (omega (arith, down_pos e))) (omega arith)))
