-- A kernel of a width has room for the samples of that width.
use Prim.Native.Nat.{◌≤◌}
use native.Mathlib.Omega.{arith}
use lib.Dec.{T}
use Rattle.yuv_support.specs.declared.Settings.{Settings}
use Rattle.yuv_support.specs.Settings.{among, depths8, depths16}
use Rattle.yuv_support.proofs.Depths.{each_among}
use Rattle.kernel.specs.Kernels.{most_of}

pub most_of_bytes : (s : Settings) → T (among s.depth depths8) → 255 ≤ most_of s.depth
unfolding most_of
most_of_bytes s = each_among (λ d. 255 ≤ most_of d) depths8 (omega arith, tt) s.depth

pub most_of_words : (s : Settings) → T (among s.depth depths16) → 65535 ≤ most_of s.depth
unfolding most_of
most_of_words s = each_among (λ d. 65535 ≤ most_of d) depths16 (omega arith, (omega arith, tt)) s.depth
