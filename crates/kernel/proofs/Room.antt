-- The sums of a kernel have room: shown at each depth and range, where the biases and the offset are numbers.
-- Assumes nothing.
use mathlib.Core.Path.{◌≡◌, refl}
use Prim.Native.Nat.{ℕ, ◌+◌, ◌-◌, ◌*◌, ◌/◌, ◌≤◌}
use native.Mathlib.Omega.{arith}
use lib.Dec.{T}
use Rattle.yuv_support.specs.declared.YuvRange.{YuvRange}
use Rattle.yuv_support.specs.declared.CbCrInverseTransform.{CbCrInverseTransform}
use Rattle.yuv_support.specs.declared.YuvRange.TheVariants.{Limited, Full}
use Rattle.yuv_support.specs.Settings.{among, depths, depths16, max_of, bias_y, bias_c}
use Rattle.yuv_support.proofs.Depths.{each_among, by_depth}
use Rattle.inverse_transform.specs.Narrow.{Narrow}
use Rattle.numerics.specs.declared.Kernel.{Kernel}
use Rattle.numerics.specs.Kernel.{Roomy}
use Rattle.kernel.specs.Kernels.{offset_of, most_of, lettered}

-- by and bc are the biases, most the largest sample
pub record Room (by bc offset most ky kp gp gq kq : ℕ) : Type 0 where
  pub top : offset ≤ 262144
  pub first : ky * by + kp * bc ≤ offset * 8192 + 4096
  pub third : ky * by + kq * bc ≤ offset * 8192 + 4096
  pub green_bias : (gp + gq) * bc ≤ 67106816
  pub green : (gp + gq) * most ≤ offset * 8192 + 4096 + (gp + gq) * bc - ky * by

-- the bases of u16 letters stand high enough to be lowered
pub record High (k : Kernel) : Type 0 where
  pub first : 2076180480 ≤ k.base_first
  pub third : 2076180480 ≤ k.base_third
  pub green : (k.green_first + k.green_third) * 4095 + 1912610816 ≤ k.base_green

-- the bias of chroma, from the largest sample
middle_is : (d : ℕ) → T (among d depths) → max_of d / 2 + 1 ≡ bias_c d
unfolding max_of bias_c
middle_is d t = by_depth (λ d. max_of d / 2 + 1 ≡ bias_c d) refl refl refl d t

-- with the biases of chroma put back, the bases are o less luma's bias a
same_level : (o a b c : ℕ) → a + b ≤ o → a + c ≤ o → o - (a + b) + b ≡ o - (a + c) + c
same_level o a b c h k = omega arith

green_level : (o a b g : ℕ) → a + b ≤ o → o + g - a ≡ o - (a + b) + b + g
green_level o a b g h = omega arith

module _ (ky kp gp gq kq : ℕ) (n : Narrow (record { y = ky; cr = kp; cb = kq; g1 = gp; g2 = gq })) where
  abbrev RoomAt : YuvRange → ℕ → Type 0
  RoomAt r d = Room (bias_y d r) (bias_c d) (offset_of d) (most_of d) ky kp gp gq kq

  pub room : (d : ℕ) (r : YuvRange) → T (among d depths) → Room (bias_y d r) (bias_c d) (offset_of d) (most_of d) ky kp gp gq kq
  unfolding bias_y bias_c offset_of most_of
  room d Limited t =
      let y = n.y in
      let p = n.cr in
      let q = n.cb in
      let g = n.green in
      by_depth (RoomAt Limited)
      (record { top = omega arith; first = omega arith; third = omega arith; green_bias = omega arith; green = omega arith })
      (record { top = omega arith; first = omega arith; third = omega arith; green_bias = omega arith; green = omega arith })
      (record { top = omega arith; first = omega arith; third = omega arith; green_bias = omega arith; green = omega arith })
      d t
  room d Full t =
      let y = n.y in
      let p = n.cr in
      let q = n.cb in
      let g = n.green in
      by_depth (RoomAt Full)
      (record { top = omega arith; first = omega arith; third = omega arith; green_bias = omega arith; green = omega arith })
      (record { top = omega arith; first = omega arith; third = omega arith; green_bias = omega arith; green = omega arith })
      (record { top = omega arith; first = omega arith; third = omega arith; green_bias = omega arith; green = omega arith })
      d t

  abbrev HighAt : YuvRange → ℕ → Type 0
  HighAt r d = High (lettered d r ky kp gp gq kq)

  pub lettered_high : (d : ℕ) (r : YuvRange) → T (among d depths16) → High (lettered d r ky kp gp gq kq)
  unfolding bias_y bias_c offset_of
  lettered_high d Limited t =
      let y = n.y in
      let p = n.cr in
      let q = n.cb in
      let g = n.green in
      each_among (HighAt Limited) depths16
      (record { first = omega arith; third = omega arith; green = omega arith }, (record { first = omega arith; third = omega arith; green = omega arith }, tt))
      d t
  lettered_high d Full t =
      let y = n.y in
      let p = n.cr in
      let q = n.cb in
      let g = n.green in
      each_among (HighAt Full) depths16
      (record { first = omega arith; third = omega arith; green = omega arith }, (record { first = omega arith; third = omega arith; green = omega arith }, tt))
      d t

  pub lettered_roomy : (d : ℕ) (r : YuvRange) → T (among d depths) → Roomy (most_of d) (lettered d r ky kp gp gq kq)
  lettered_roomy d r t =
      let m = room d r t in
      let y = n.y in
      let p = n.cr in
      let q = n.cb in
      let b = m.green_bias in
      record {
        luma = omega arith;
        first = omega arith;
        third = omega arith;
        green_first = omega (arith, n.green);
        green_third = omega (arith, n.green);
        base_first = omega arith;
        base_third = omega arith;
        base_green = omega arith;
        green = m.green;
        level_third = rw (middle_is d t) (same_level (offset_of d * 8192 + 4096) (ky * bias_y d r) (kq * bias_c d) (kp * bias_c d) m.third m.first);
        level_green = rw (middle_is d t) (green_level (offset_of d * 8192 + 4096) (ky * bias_y d r) (kp * bias_c d) ((gp + gq) * bias_c d) m.first);
      }

-- the sums of the code are no larger than a u32, and what it takes away is no larger than what it is taken from
abbrev pub Sums : CbCrInverseTransform → ℕ → YuvRange → Type 0
Sums t d r =
    let zero = offset_of d * 8192 + 4096 in
    (t.y * bias_y d r + t.cr * bias_c d ≤ zero) × (t.y * bias_y d r + t.cb * bias_c d ≤ zero)
    × (zero + (t.g1 + t.g2) * bias_c d ≤ 4294967295)

pub sums : (t : CbCrInverseTransform) (d : ℕ) (r : YuvRange) → Narrow t → T (among d depths) → Sums t d r
sums t d r n known = let m = room t.y t.cr t.g1 t.g2 t.cb n d r known in (m.first, m.third, omega (arith, m.top, m.green_bias))
