-- The kernel of settings of depth 8 makes bytes, and that of depth 10 or 12 u16 letters.
-- Assumes nothing.
use mathlib.Core.Path.{◌≡◌, refl, ◌∙◌, subst}
use mathlib.Core.Bool.{Bool, true, false}
use Prim.Native.Nat.{ℕ, ◌≤◌}
use native.Mathlib.Omega.{arith}
use lib.Dec.{T}
use Rattle.yuv_support.specs.declared.YuvRange.{YuvRange}
use Rattle.yuv_support.specs.declared.CbCrInverseTransform.{CbCrInverseTransform}
use Rattle.yuv_support.specs.declared.Settings.{Settings}
use Rattle.yuv_support.specs.Settings.{among, depths, depths8, depths16, max_of}
use Rattle.yuv_support.specs.Coefficients.{coefficients_of, usable}
use Rattle.yuv_support.proofs.Depths.{each_among}
use Rattle.yuv_support.proofs.Conversion.{depth_of_8, depth_of_16}
use Rattle.inverse_transform.specs.Narrow.{Narrow}
use Rattle.inverse_transform.proofs.Narrow.{narrow}
use Rattle.numerics.specs.Kernel.{Roomy, Bytes, Words}
use Rattle.kernel.specs.Kernels.{red_first, offset_of, most_of, arranged, kernel_of}
use Rattle.kernel.proofs.Room.{High, lettered_high, lettered_roomy}

module _ (d : ℕ) (r : YuvRange) (t : CbCrInverseTransform) (known : T (among d depths)) (n : Narrow t) where
  turned : Narrow (record { y = t.y; cr = t.cb; cb = t.cr; g1 = t.g2; g2 = t.g1 })
  turned = record { y = n.y; cr = n.cb; cb = n.cr; green = omega (arith, n.green) }

  arranged_roomy : (b : Bool) → Roomy (most_of d) (arranged d r b t)
  arranged_roomy true = lettered_roomy t.y t.cr t.g1 t.g2 t.cb n d r known
  arranged_roomy false = lettered_roomy t.y t.cb t.g2 t.g1 t.cr turned d r known

  arranged_high : T (among d depths16) → (b : Bool) → High (arranged d r b t)
  arranged_high k true = lettered_high t.y t.cr t.g1 t.g2 t.cb n d r k
  arranged_high k false = lettered_high t.y t.cb t.g2 t.g1 t.cr turned d r k

  arranged_offset : (b : Bool) → (arranged d r b t).offset ≡ offset_of d
  arranged_offset true = refl
  arranged_offset false = refl

  arranged_max : (b : Bool) → (arranged d r b t).max ≡ max_of d
  arranged_max true = refl
  arranged_max false = refl

  arranged_half : (b : Bool) → (arranged d r b t).half ≡ 8
  arranged_half true = refl
  arranged_half false = refl

module _ (s : Settings) (u : T (usable s)) where
  abbrev transform : CbCrInverseTransform
  transform = coefficients_of s

  roomy : T (among s.depth depths) → Roomy (most_of s.depth) (kernel_of s)
  unfolding kernel_of
  roomy k = arranged_roomy s.depth s.range transform k (narrow s k u) (red_first s.order)

  high : T (among s.depth depths) → T (among s.depth depths16) → High (kernel_of s)
  unfolding kernel_of
  high k b = arranged_high s.depth s.range transform k (narrow s k u) b (red_first s.order)

  offset_is : T (among s.depth depths) → (kernel_of s).offset ≡ offset_of s.depth
  unfolding kernel_of
  offset_is k = arranged_offset s.depth s.range transform k (narrow s k u) (red_first s.order)

  max_is : T (among s.depth depths) → (kernel_of s).max ≡ max_of s.depth
  unfolding kernel_of
  max_is k = arranged_max s.depth s.range transform k (narrow s k u) (red_first s.order)

  half_is : T (among s.depth depths) → (kernel_of s).half ≡ 8
  unfolding kernel_of
  half_is k = arranged_half s.depth s.range transform k (narrow s k u) (red_first s.order)

  pub kernel_bytes : T (among s.depth depths8) → Bytes (kernel_of s)
  unfolding offset_of most_of max_of
  kernel_bytes b =
      let k = depth_of_8 s.depth b in
      record {
        offset = offset_is k ∙ each_among (λ d. offset_of d ≡ 32511) depths8 (refl, tt) s.depth b;
        max = max_is k ∙ each_among (λ d. max_of d ≡ 255) depths8 (refl, tt) s.depth b;
        half = half_is k;
        roomy = subst (λ (m : ℕ). Roomy m (kernel_of s)) (each_among (λ d. most_of d ≡ 4095) depths8 (refl, tt) s.depth b) (roomy k);
      }

  pub kernel_words : T (among s.depth depths16) → Words (kernel_of s)
  unfolding offset_of most_of max_of
  kernel_words b =
      let k = depth_of_16 s.depth b in
      record {
        offset = offset_is k ∙ each_among (λ d. offset_of d ≡ 262144) depths16 (refl, (refl, tt)) s.depth b;
        max = rw (max_is k) (each_among (λ d. max_of d ≤ 4095) depths16 (omega arith, (omega arith, tt)) s.depth b);
        half = half_is k;
        least_first = (high k b).first;
        least_third = (high k b).third;
        least_green = (high k b).green;
        roomy = subst (λ (m : ℕ). Roomy m (kernel_of s)) (each_among (λ d. most_of d ≡ 65535) depths16 (refl, (refl, tt)) s.depth b) (roomy k);
      }
