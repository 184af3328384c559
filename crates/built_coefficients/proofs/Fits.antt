-- How large the formula's numbers get: a numerator is at most four times its denominator, and M at most twice a range.
-- Assumes nothing.
use Prim.Native.Nat.{ℕ, ◌-◌, ◌*◌, ◌≤◌}
use native.Mathlib.Nat.{mul-le-mul}
use native.Mathlib.Omega.{arith}
use lib.Dec.{T}
use mathlib.Core.Path.{◌≡◌}
use Rattle.yuv_support.specs.declared.YuvChromaRange.{YuvChromaRange}
use Rattle.yuv_support.specs.declared.YuvRange.{YuvRange}
use Rattle.yuv_support.specs.declared.YuvRange.TheVariants.{Limited, Full}
use Rattle.yuv_support.specs.Settings.{among, depths, max_of, range_y, range_c, chroma_range_of}
use Rattle.yuv_support.proofs.Depths.{by_depth}
use Rattle.built_coefficients.specs.Built.{AtMostTwo}

inner_part : (k kg : ℕ) → k ≤ kg → 2 * (10000 - k) * k ≤ 20000 * kg
inner_part k kg l = mul-le-mul (omega arith) l

pub inner_fits : (k kg m range : ℕ) → k ≤ kg → m ≤ 2 * range → 2 * (10000 - k) * k * m ≤ 4 * (10000 * kg * range)
inner_fits k kg m range l h =
    let q : 2 * (10000 - k) * k * m ≤ 20000 * kg * (2 * range) = mul-le-mul (inner_part k kg l) h in
    omega (arith, q)

pub inner_below : (kg range : ℕ) → kg ≤ 10000 → range ≤ 65535 → 10000 * kg * range ≤ 6553500000000
inner_below kg range h w =
    let p : 10000 * kg ≤ 100000000 = omega arith in
    mul-le-mul p w

abbrev RangesFit : YuvRange → ℕ → Type 0
RangesFit r d = AtMostTwo (max_of d) (range_y d r) × AtMostTwo (max_of d) (range_c d r)

ranges_fit : (d : ℕ) (r : YuvRange) → T (among d depths) → RangesFit r d
unfolding max_of range_y range_c
ranges_fit d Limited t = by_depth (RangesFit Limited) (search arith) (search arith) (search arith) d t
ranges_fit d Full t = by_depth (RangesFit Full) (search arith) (search arith) (search arith) d t

-- of what the code finds of a depth and a range
pub ranges : {m : ℕ} {found : YuvChromaRange} (d : ℕ) (r : YuvRange) → T (among d depths) → m ≡ max_of d → found ≡ chroma_range_of d r
    → AtMostTwo m found.range_y × AtMostTwo m found.range_uv
ranges d r t e f = rw (e, f) (ranges_fit d r t)
