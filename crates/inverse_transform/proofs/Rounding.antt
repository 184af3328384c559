-- What `round_away` gives for the f32 of a bit pattern. An f32 with the exponent's field x + 1 and the digits' field t is
-- (2^23 + t)·2^x / 2^149. The power that numerator and denominator share goes out, and what is left is a sum within 64 bits.
-- Assumes nothing.
use mathlib.Core.Path.{◌≡◌, refl, sym, ap, ◌∙◌}
use mathlib.Core.Bool.{Bool, true, false, not, ◌&&◌}
use Prim.Native.Nat.{ℕ, zero, suc, ◌+◌, ◌-◌, ◌*◌, ◌/◌, ◌%◌, ◌^◌, ◌≤◌, ◌<◌, min}
use native.Mathlib.Nat.{mul_assoc, mul-le-mul, div-eq_of_lt, mul-pos, mod-eq_of_lt}
use native.Mathlib.Omega.{arith}
use borrow.Author.Tests.{lt-leb, le-leb, ne_eqb, eqb-false}
use lib.Arith.{lt_of_le-ne}
use lib.Dec.{T, eqb, lit<, lit≤}
use lib.Pow.{pow_pos, pow_mono, pow-add}
use lib.Ieee.{Float, nan, inf, fin, binary32, up, down, odd, of_fields, of_bits, nan_bits}
use lib.Ieee.Exact.{HasValue, odd_sign}
use lib.Ieee.Fits.{down_pos}
use lib.Ieee.Nearest.{div_same}
use Rattle.yuv_support.specs.Coefficients.{nearest, round_away}

-- brought to the largest i32
abbrev capped : ℕ → ℕ
capped n = min n 2147483647

-- ---- by value

nearest_same : (a c b d : ℕ) → 0 < c → 0 < d → a * d ≡ b * c → nearest a c ≡ nearest b d
nearest_same a c b d pc pd e = div_same (2 * a + c) (2 * c) (2 * b + d) (2 * d) (omega arith) (omega arith) (omega arith)

pub round_value : (x : Float) (a c : ℕ) → 0 < c → HasValue x false a c → round_away x ≡ capped (nearest a c)
unfolding round_away
round_value nan a c pc h = absurd h
round_value (inf s) a c pc h = absurd h
round_value (fin s m e) a c pc h = rw (h.0, nearest_same (m * up e) (down e) a c (down_pos e) pc h.1)

round_below : (x : Float) (a c : ℕ) → HasValue x true a c → round_away x ≡ 0
unfolding round_away
round_below nan a c h = absurd h
round_below (inf s) a c h = absurd h
round_below (fin s m e) a c h = rw h.0

-- ---- by the fields

-- a number whose exponent's field is x + 1
of_fields_lem : (x t : ℕ) (s : Bool) → suc x < 255 → HasValue (of_fields binary32 s (suc x) t) s ((8388608 + t) * 2 ^ x) (2 ^ 149)
unfolding of_fields
of_fields_lem x t s finite = rw (ne_eqb (suc x) 255 (λ e. omega arith)) (odd_sign 24 s (8388608 + t) x 149)

-- the denominator is a variable: `omega` stops at numerals of more than 38 digits
shrink : (a u v den : ℕ) → den ≡ u * v → 0 < u → 0 < v → nearest (a * u) den ≡ nearest a v
shrink a u v den e pu pv = nearest_same (a * u) den a v (rw e (mul-pos pu pv)) pv (rw e (omega arith))

by_fields : (x t a u v : ℕ) → suc x < 255 → (8388608 + t) * 2 ^ x ≡ a * u → 2 ^ 149 ≡ u * v → 0 < u → 0 < v
    → round_away (of_fields binary32 false (suc x) t) ≡ capped (nearest a v)
by_fields x t a u v f e g pu pv =
    round_value (of_fields binary32 false (suc x) t) ((8388608 + t) * 2 ^ x) (2 ^ 149) (pow_pos 149) (of_fields_lem x t false f)
    ∙ ap (λ (n : ℕ). capped (nearest n (2 ^ 149))) e
    ∙ ap (λ (n : ℕ). capped n) (shrink a u v (2 ^ 149) g pu pv)

-- below a half
under_half : (t d : ℕ) → t < 8388608 → 0 < d → capped (nearest (8388608 + t) (d * 33554432)) ≡ 0
under_half t d h k = ap (λ (n : ℕ). capped n) (div-eq_of_lt (let l : 2 * (8388608 + t) + d * 33554432 < 2 * (d * 33554432) = omega arith in l))

pub small : (x t : ℕ) → x < 126 → t < 8388608 → round_away (of_fields binary32 false x t) ≡ 0
unfolding of_fields
small zero t h k =
    round_value (odd 24 false t 0 149) (t * 1) (2 ^ 149) (pow_pos 149) (odd_sign 24 false t 0 149)
    ∙ ap (λ (n : ℕ). capped n) (tiny (2 ^ 149) (lit≤ tt))
  where
    tiny : (den : ℕ) → 33554432 ≤ den → nearest (t * 1) den ≡ 0
    tiny den g = div-eq_of_lt (let l : 2 * (t * 1) + den < 2 * den = omega arith in l)
small (suc x) t h k =
    let d : ℕ = 124 - x in
    let e : 149 ≡ x + (d + 25) = omega arith in
    by_fields x t (8388608 + t) (2 ^ x) (2 ^ d * 33554432) (omega arith) refl
    (ap (λ (n : ℕ). 2 ^ n) e ∙ pow-add 2 x (d + 25) ∙ ap (λ (n : ℕ). 2 ^ x * n) (pow-add 2 d 25)) (pow_pos x) (mul-pos (pow_pos d) (lit< tt))
    ∙ under_half t (2 ^ d) k (pow_pos d)

-- from a half to 2^31: the exponent's field is k + 126
pub middle_fits : (k t : ℕ) → k < 32 → t < 8388608 → (8388608 + t) * 2 ^ k ≤ 16777215 * 2147483648
middle_fits k t h b =
    let p : 2 ^ k ≤ 2 ^ 31 = pow_mono {j = 31} (let l : k ≤ 31 = omega arith in l) in
    mul-le-mul (let l : 8388608 + t ≤ 16777215 = omega arith in l) p

pub middle : (k t : ℕ) → k < 32 → t < 8388608
    → round_away (of_fields binary32 false (k + 126) t) ≡ ((8388608 + t) * 2 ^ k * 2 + 16777216) / 33554432
middle k t h b =
    let e : k + 126 ≡ suc (k + 125) = omega arith in
    ap (λ (i : ℕ). round_away (of_fields binary32 false i t)) e
    ∙ by_fields (k + 125) t ((8388608 + t) * 2 ^ k) (2 ^ 125) 16777216 (omega arith)
    (ap (λ (n : ℕ). (8388608 + t) * n) (pow-add 2 k 125) ∙ sym (mul_assoc (8388608 + t) (2 ^ k) (2 ^ 125))) refl (pow_pos 125) (lit< tt)
    ∙ within ((8388608 + t) * 2 ^ k) (middle_fits k t h b)
  where
    within : (n : ℕ) → n ≤ 16777215 * 2147483648 → capped (nearest n 16777216) ≡ (n * 2 + 16777216) / 33554432
    within n l = omega arith

-- the shifted digits fit 64 bits
pub whole : (k t : ℕ) → k < 32 → t < 8388608
    → ((8388608 + t) * 2 ^ k * 2 + 16777216) / 33554432 ≡ ((8388608 + t) * 2 ^ k % 18446744073709551616 * 2 + 16777216) / 33554432
whole k t h b =
    ap (λ (n : ℕ). (n * 2 + 16777216) / 33554432)
    (sym (mod-eq_of_lt (let l : (8388608 + t) * 2 ^ k < 18446744073709551616 = omega (arith, middle_fits k t h b) in l)))

-- which fields are a NaN's
abbrev pub nan_fields : ℕ → ℕ → Bool
nan_fields x t = eqb x 255 && not (eqb t 0)

-- 2^31 and above, infinity too
over_cap : (n j : ℕ) → 8388608 ≤ n → 256 ≤ j → capped (nearest (n * j) 1) ≡ 2147483647
over_cap n j h k =
    let m : 8388608 * 256 ≤ n * j = mul-le-mul h k in
    omega arith

pub large : (x t : ℕ) → 158 ≤ x → x < 256 → T (not (nan_fields x t)) → round_away (of_fields binary32 false x t) ≡ 2147483647
unfolding of_fields round_away
large zero t h b n = absurd (let z : 158 ≤ 0 = h in omega arith)
large (suc x) t h b n = by_test (eqb (suc x) 255) refl (eqb t 0) refl
  where
    by_test : (u : Bool) → eqb (suc x) 255 ≡ u → (w : Bool) → eqb t 0 ≡ w → round_away (of_fields binary32 false (suc x) t) ≡ 2147483647
    by_test true e true f = rw (e, f)
    by_test true e false f = let z : T (not (true && not false)) = rw (e, f) at n in absurd z
    by_test false e w f =
        let j : ℕ = x - 149 in
        let q : x ≡ j + 149 = omega arith in
        by_fields x t ((8388608 + t) * 2 ^ j) (2 ^ 149) 1 (lt_of_le-ne (let m : suc x ≤ 255 = omega arith in m) (eqb-false (suc x) 255 e))
        (ap (λ (n : ℕ). (8388608 + t) * 2 ^ n) q ∙ ap (λ (n : ℕ). (8388608 + t) * n) (pow-add 2 j 149) ∙ sym (mul_assoc (8388608 + t) (2 ^ j) (2 ^ 149))) refl (pow_pos 149) (lit< tt)
        ∙ over_cap (8388608 + t) (2 ^ j) (omega arith) (pow_mono {i = 8} (let l : 8 ≤ j = omega arith in l))

-- below zero, minus infinity and a NaN too
negative : (x t : ℕ) → round_away (of_fields binary32 true x t) ≡ 0
unfolding of_fields round_away
negative zero t = round_below (odd 24 true t 0 149) (t * 1) (2 ^ 149) (odd_sign 24 true t 0 149)
negative (suc x) t = by_test (eqb (suc x) 255) refl (eqb t 0) refl
  where
    by_test : (u : Bool) → eqb (suc x) 255 ≡ u → (w : Bool) → eqb t 0 ≡ w → round_away (of_fields binary32 true (suc x) t) ≡ 0
    by_test true e true f = rw (e, f)
    by_test true e false f = rw (e, f)
    by_test false e w f =
        rw e (round_below (odd 24 true (8388608 + t) x 149) ((8388608 + t) * 2 ^ x) (2 ^ 149) (odd_sign 24 true (8388608 + t) x 149))

-- ---- by the bits

pub sign_set : (b : ℕ) → 2147483648 ≤ b → round_away (of_bits binary32 b) ≡ 0
unfolding of_bits
sign_set b h = rw (le-leb 2147483648 b h) (negative (b % 2147483648 / 8388608) (b % 8388608))

pub sign_clear : (b : ℕ) → b < 2147483648 → of_bits binary32 b ≡ of_fields binary32 false (b / 8388608) (b % 8388608)
unfolding of_bits
sign_clear b h = rw (lt-leb 2147483648 b h, mod-eq_of_lt h)

pub fields_of_number : (b : ℕ) → b < 2147483648 → T (not (nan_bits binary32 b)) → T (not (nan_fields (b / 8388608) (b % 8388608)))
unfolding nan_bits
fields_of_number b h n = rw (mod-eq_of_lt h) at n
