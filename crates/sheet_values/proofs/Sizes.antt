-- Bounds of the values that pass question 15 (`small_sides`): each plane has at most 4,096 samples.
-- Assumes nothing.
use mathlib.Core.Path.{◌≡◌}
use mathlib.Core.Bool.{true, ◌&&◌, and-eq-true_iff}
use Prim.Native.Nat.{ℕ, ◌≤◌}
use native.Mathlib.Nat.{mul-le-mul}
use native.Mathlib.Omega.{arith}
use borrow.Author.Tests.{leb-true}
use lib.Dec.{leb}
use Rattle.yuv_support.specs.declared.YuvChromaSubsampling.{YuvChromaSubsampling}
use Rattle.yuv_support.specs.declared.YuvChromaSubsampling.TheVariants.{Yuv420, Yuv422}
use Rattle.yuv_support.specs.Settings.{sampling_of}
use Rattle.yuv_support.specs.Blend.{chroma_width, chroma_height}
use Rattle.sheet_values.specs.declared.Values.{Values}
use Rattle.sheet_values.specs.Values.{luma_count, chroma_count, is_small}

pub small_sides : (v : Values) → is_small v ≡ true → (1 ≤ v.width) × (v.width ≤ 64) × (1 ≤ v.height) × (v.height ≤ 64) × (v.matrix ≤ 5)
small_sides v e =
    let a = (and-eq-true_iff (leb 1 v.width && leb v.width 64 && leb 1 v.height && leb v.height 64) _).0 e in
    let b = (and-eq-true_iff (leb 1 v.width && leb v.width 64 && leb 1 v.height) _).0 a.0 in
    let c = (and-eq-true_iff (leb 1 v.width && leb v.width 64) _).0 b.0 in
    let d = (and-eq-true_iff (leb 1 v.width) _).0 c.0 in
    (leb-true _ _ d.0, leb-true _ _ d.1, leb-true _ _ c.1, leb-true _ _ b.1, leb-true _ _ a.1)

-- chroma has no more rows than luma
chroma_height_most : (s : YuvChromaSubsampling) (h : ℕ) → chroma_height s h ≤ h
unfolding chroma_height
chroma_height_most Yuv420 h = omega arith
chroma_height_most Yuv422 h = omega arith

-- the samples of a plane
pub luma_count_most : (v : Values) → v.width ≤ 64 → v.height ≤ 64 → luma_count v ≤ 4096
luma_count_most v hw hh = mul-le-mul hw hh

pub chroma_count_most : (v : Values) → v.width ≤ 64 → v.height ≤ 64 → chroma_count v ≤ 4096
chroma_count_most v hw hh =
    let w : chroma_width v.width ≤ 64 = omega arith in
    let m = chroma_height_most (sampling_of v.sampling) v.height in
    let h : chroma_height (sampling_of v.sampling) v.height ≤ 64 = omega arith in
    mul-le-mul w h
