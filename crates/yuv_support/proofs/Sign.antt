-- A whole number with a sign as the difference a − b of two natural numbers, so that `omega`, which reads natural numbers only, proves
-- facts about signed sums. The subtraction of natural numbers stops at 0, and is the lower clamp.
-- Assumes nothing.
use mathlib.Core.Path.{◌≡◌, refl, ap, ◌∙◌}
use mathlib.Core.Bool.{Bool, true, false, not, cond}
use Prim.Native.Nat.{ℕ, zero, suc, ◌+◌, ◌-◌, ◌*◌, ◌/◌, ◌≤◌, ◌<◌, min}
use native.Mathlib.Nat.{zero-div}
use native.Mathlib.Omega.{arith}
use lib.Dec.{T, ltb, ltb→lt, nltb→le}
use lib.IntN.{ℤ, pos, negsuc, sub_ℕ, neg_ℤ, ◌+ℤ◌, ◌-ℤ◌, ◌*ℤ◌}
use lib.Signed.{mag, shr_z}
use Rattle.yuv_support.specs.declared.CbCrInverseTransform.{CbCrInverseTransform}
use Rattle.yuv_support.specs.Component.{Component, red, green, blue, step, clamp, sum_of, quotient}
use Rattle.yuv_support.specs.Counts.{is_below, is_above}

-- a − b is z, by the sign of z
abbrev Difference : ℕ → ℕ → ℤ → Type 0
Difference a b (pos c) = a ≡ b + c
Difference a b (negsuc c) = b ≡ a + suc c

-- as a record, so that a, b and z are found from a proof
pub record Is (a b : ℕ) (z : ℤ) : Type 0 where
  is : Difference a b z

-- ---- sums, differences and multiples

same_difference : (a b a' b' : ℕ) (z : ℤ) → a + b' ≡ a' + b → Difference a b z → Difference a' b' z
same_difference a b a' b' (pos c) e h = omega arith
same_difference a b a' b' (negsuc c) e h = omega arith

-- a' − b' is z too, where it is a − b
pub shift_is : {a b : ℕ} {z : ℤ} (a' b' : ℕ) → a + b' ≡ a' + b → Is a b z → Is a' b' z
shift_is {a} {b} {z} a' b' e h = record { is = same_difference a b a' b' z e h.is }

sub_is : (a b : ℕ) → Is a b (sub_ℕ a b)
sub_is a b = record { is = go (ltb a b) (ltb→lt a b) (nltb→le a b) }
  where
    go : (t : Bool) → (T t → a < b) → (T (not t) → b ≤ a) → Difference a b (cond t (negsuc (b - suc a)) (pos (a - b)))
    go true below above = let h = below tt in omega arith
    go false below above = let h = above tt in omega arith

negated : (a b : ℕ) (z : ℤ) → Difference a b z → Difference b a (neg_ℤ z)
negated a b (pos zero) h = omega arith
negated a b (pos (suc c)) h = h
negated a b (negsuc c) h = h

summed : (a b a' b' : ℕ) (z w : ℤ) → Difference a b z → Difference a' b' w → Difference (a + a') (b + b') (z +ℤ w)
summed a b a' b' (pos x) (pos y) h k = omega arith
summed a b a' b' (pos x) (negsuc y) h k = (shift_is (a + a') (b + b') (omega arith) (sub_is x (suc y))).is
summed a b a' b' (negsuc x) (pos y) h k = (shift_is (a + a') (b + b') (omega arith) (sub_is y (suc x))).is
summed a b a' b' (negsuc x) (negsuc y) h k = omega arith

times : (k a b : ℕ) (z : ℤ) → Difference a b z → Difference (k * a) (k * b) (pos k *ℤ z)
times k a b (pos c) h = omega (arith, ap (λ (x : ℕ). k * x) h)
times k a b (negsuc c) h = negated (k * b) (k * a) (pos (k * suc c)) (omega (arith, ap (λ (x : ℕ). k * x) h))

pub nat : (n : ℕ) → Is n 0 (pos n)
nat n = record { is = omega arith }

pub plus : {a b a' b' : ℕ} {z w : ℤ} → Is a b z → Is a' b' w → Is (a + a') (b + b') (z +ℤ w)
plus {a} {b} {a'} {b'} {z} {w} h k = record { is = summed a b a' b' z w h.is k.is }

pub less : {a b a' b' : ℕ} {z w : ℤ} → Is a b z → Is a' b' w → Is (a + b') (b + a') (z -ℤ w)
less {a} {b} {a'} {b'} {z} {w} h k = plus h (record { is = negated a' b' w k.is })

pub step_is : (k x x₀ : ℕ) → Is (k * x) (k * x₀) (step k x x₀)
unfolding step
step_is k x x₀ = record { is = times k x x₀ (pos x -ℤ pos x₀) (shift_is x x₀ (omega arith) (less (nat x) (nat x₀))).is }

-- ---- how large it is

magnitude : (n a b : ℕ) (z : ℤ) → a ≤ n → b ≤ n → Difference a b z → mag z ≤ n
magnitude n a b (pos c) ha hb h = omega arith
magnitude n a b (negsuc c) ha hb h = omega arith

pub mag_is : (n : ℕ) {a b : ℕ} {z : ℤ} → a ≤ n → b ≤ n → Is a b z → mag z ≤ n
mag_is n {a} {b} {z} ha hb h = magnitude n a b z ha hb h.is

-- ---- clamped, and clamped after a division

clamped : (m a b : ℕ) (z : ℤ) → Difference a b z → clamp m z ≡ min (a - b) m
clamped m a b (pos c) h = omega arith
clamped m a b (negsuc c) h = omega arith

pub clamp_is : (m : ℕ) {a b : ℕ} {z : ℤ} → Is a b z → clamp m z ≡ min (a - b) m
clamp_is m {a} {b} {z} h = clamped m a b z h.is

divided : (m k a b : ℕ) (z : ℤ) → Difference a b z → clamp m (shr_z z k) ≡ min ((a - b) / k) m
divided m k a b (pos c) h = let e : a - b ≡ c = omega arith in rw e
divided m k a b (negsuc c) h = let e : a - b ≡ 0 = omega arith in rw (e, zero-div) (omega arith)

pub shifted_is : (m k : ℕ) {a b : ℕ} {z : ℤ} → Is a b z → clamp m (shr_z z k) ≡ min ((a - b) / k) m
shifted_is m k {a} {b} {z} h = divided m k a b z h.is

pub quotient_is : (m : ℕ) {a b : ℕ} {z : ℤ} → Is a b z → clamp m (quotient z) ≡ min ((a + 4096 - b) / 8192) m
quotient_is m {a} {b} h = shifted_is m 8192 (shift_is (a + 4096) b (omega arith) (plus h (nat 4096)))

-- ---- below 0 and above m after a division, where `sum` is o·8,192 above a − b

below_by : (o sum a b : ℕ) (z : ℤ) → sum + b ≡ a + o * 8192 → Difference a b z → is_below (shr_z z 8192) ≡ min (o - sum / 8192) 1
below_by o sum a b (pos c) e h = omega arith
below_by o sum a b (negsuc c) e h = omega arith

more_than : (m n : ℕ) → cond (ltb m n) 1 0 ≡ min (n - m) 1
more_than m n = go (ltb m n) (ltb→lt m n) (nltb→le m n)
  where
    go : (t : Bool) → (T t → m < n) → (T (not t) → n ≤ m) → cond t 1 0 ≡ min (n - m) 1
    go true below above = let h = below tt in omega arith
    go false below above = let h = above tt in omega arith

above_by : (o m sum a b : ℕ) (z : ℤ) → sum + b ≡ a + o * 8192 → Difference a b z → is_above m (shr_z z 8192) ≡ min (sum / 8192 - (o + m)) 1
above_by o m sum a b (pos c) e h = more_than m (c / 8192) ∙ ap (λ (x : ℕ). min x 1) (let d : c / 8192 - m ≡ sum / 8192 - (o + m) = omega arith in d)
above_by o m sum a b (negsuc c) e h = omega arith

-- where a is o·8,192 above z
pub shifted_below : (o : ℕ) {a : ℕ} {z : ℤ} → Is a (o * 8192) z → is_below (shr_z z 8192) ≡ min (o - a / 8192) 1
shifted_below o {a} {z} h = below_by o a a (o * 8192) z refl h.is

pub shifted_above : (o m : ℕ) {a : ℕ} {z : ℤ} → Is a (o * 8192) z → is_above m (shr_z z 8192) ≡ min (a / 8192 - (o + m)) 1
shifted_above o m {a} {z} h = above_by o m a a (o * 8192) z refl h.is

-- the same of a quotient, which adds 4,096
module _ (o sum : ℕ) {a b : ℕ} {z : ℤ} (e : sum + b ≡ a + o * 8192 + 4096) (h : Is a b z) where
  with_half : Is (a + 4096) b (z +ℤ pos 4096)
  with_half = shift_is (a + 4096) b (omega arith) (plus h (nat 4096))

  pub quotient_below : is_below (quotient z) ≡ min (o - sum / 8192) 1
  quotient_below = below_by o sum (a + 4096) b (z +ℤ pos 4096) (omega arith) with_half.is

  pub quotient_above : (m : ℕ) → is_above m (quotient z) ≡ min (sum / 8192 - (o + m)) 1
  quotient_above m = above_by o m sum (a + 4096) b (z +ℤ pos 4096) (omega arith) with_half.is

-- ---- a component's sum

-- what the sum adds, and what it takes away
abbrev pub added : CbCrInverseTransform → ℕ → Component → ℕ → ℕ → ℕ → ℕ
added k bc red y cb cr = k.y * y + k.cr * cr
added k bc green y cb cr = k.y * y + k.g1 * bc + k.g2 * bc
added k bc blue y cb cr = k.y * y + k.cb * cb

abbrev pub taken : CbCrInverseTransform → ℕ → ℕ → Component → ℕ → ℕ → ℕ
taken k by bc red cb cr = k.y * by + k.cr * bc
taken k by bc green cb cr = k.y * by + k.g1 * cr + k.g2 * cb
taken k by bc blue cb cr = k.y * by + k.cb * bc

pub sum_is : (k : CbCrInverseTransform) (by bc : ℕ) (c : Component) (y cb cr : ℕ) → Is (added k bc c y cb cr) (taken k by bc c cb cr) (sum_of k by bc c y cb cr)
unfolding sum_of
sum_is k by bc red y cb cr = plus (step_is k.y y by) (step_is k.cr cr bc)
sum_is k by bc green y cb cr = less (less (step_is k.y y by) (step_is k.g1 cr bc)) (step_is k.g2 cb bc)
sum_is k by bc blue y cb cr = plus (step_is k.y y by) (step_is k.cb cb bc)

-- the component in natural numbers
pub component_sum : (k : CbCrInverseTransform) (by bc : ℕ) (c : Component) (y cb cr m : ℕ)
    → clamp m (quotient (sum_of k by bc c y cb cr)) ≡ min ((added k bc c y cb cr + 4096 - taken k by bc c cb cr) / 8192) m
component_sum k by bc c y cb cr m = quotient_is m (sum_is k by bc c y cb cr)

pub red_sum : (k : CbCrInverseTransform) (by bc y cb cr m : ℕ)
    → clamp m (quotient (sum_of k by bc red y cb cr)) ≡ min ((k.y * y + k.cr * cr + 4096 - (k.y * by + k.cr * bc)) / 8192) m
red_sum k by bc y cb cr m = component_sum k by bc red y cb cr m

pub green_sum_lem : (k : CbCrInverseTransform) (by bc y cb cr m : ℕ)
    → clamp m (quotient (sum_of k by bc green y cb cr))
    ≡ min ((k.y * y + k.g1 * bc + k.g2 * bc + 4096 - (k.y * by + k.g1 * cr + k.g2 * cb)) / 8192) m
green_sum_lem k by bc y cb cr m = component_sum k by bc green y cb cr m

pub blue_sum : (k : CbCrInverseTransform) (by bc y cb cr m : ℕ)
    → clamp m (quotient (sum_of k by bc blue y cb cr)) ≡ min ((k.y * y + k.cb * cb + 4096 - (k.y * by + k.cb * bc)) / 8192) m
blue_sum k by bc y cb cr m = component_sum k by bc blue y cb cr m
