-- What unpacking makes of the elements of a plane: in the low bits nothing, in the high bits samples within the depth.
-- Assumes nothing.
use mathlib.Core.Path.{◌≡◌, refl, sym, ap, ◌∙◌}
use mathlib.Core.List.{List, map-id}
use Prim.Native.Nat.{ℕ, ◌+◌, ◌*◌, ◌≤◌}
use native.Mathlib.Nat.{div-le_self, le_refl}
use native.Mathlib.Omega.{arith}
use lib.Dec.{T}
use lib.ListN.{length, get_or, length-map, get_or-map}
use Rattle.yuv_support.specs.declared.YuvBytesPacking.{YuvBytesPacking}
use Rattle.yuv_support.specs.declared.YuvBytesPacking.TheVariants.{LeastSignificantBytes, MostSignificantBytes}
use Rattle.yuv_support.specs.declared.Settings.{Settings}
use Rattle.yuv_support.specs.Settings.{packing_of, last_packing, among, depths8, depths16, max_of, unpacked, samples_of}
use Rattle.yuv_support.specs.Blend.{Frame}
use Rattle.yuv_support.specs.Distance.{WithinDepth, WithinIfLow, HighWithin}
use Rattle.yuv_support.proofs.Depths.{each_among}

pub unpacked_le : (p : YuvBytesPacking) (d x : ℕ) → unpacked p d x ≤ x
unfolding unpacked
unpacked_le LeastSignificantBytes d x = le_refl x
unpacked_le MostSignificantBytes d x = div-le_self x _

-- a packing that is known at depth 8 is that of the low bits
pub low_at_8 : (d p : ℕ) → T (among d depths8) → p ≤ last_packing d → packing_of p ≡ LeastSignificantBytes
low_at_8 d p t h =
    let none : (d : ℕ) → T (among d depths8) → p ≤ last_packing d → p ≡ 0 = each_among (λ d. p ≤ last_packing d → p ≡ 0) depths8 ((λ h. omega arith), tt) in
    rw (none d t h)

-- ---- the samples of some elements

pub samples_length : (p : YuvBytesPacking) (d : ℕ) (xs : List ℕ) → length (samples_of p d xs) ≡ length xs
samples_length p d xs = length-map xs (unpacked p d)

pub samples_at : (p : YuvBytesPacking) (d : ℕ) (xs : List ℕ) (i : ℕ) → get_or (samples_of p d xs) i 0 ≡ unpacked p d (get_or xs i 0)
samples_at p d xs i =
    let none : unpacked p d 0 ≡ 0 = omega (arith, unpacked_le p d 0) in
    ap (λ (z : ℕ). get_or (samples_of p d xs) i z) (sym none) ∙ get_or-map (unpacked p d) xs i 0

pub low_samples : (d : ℕ) (xs : List ℕ) → xs ≡ samples_of LeastSignificantBytes d xs
unfolding unpacked
low_samples d xs = sym (map-id xs)

-- ---- samples within the depth

pub depth_room : (d : ℕ) → T (among d depths16) → (10 ≤ d) × (d ≤ 12)
depth_room d t = each_among (λ d. (10 ≤ d) × (d ≤ 12)) depths16 ((omega arith, omega arith), ((omega arith, omega arith), tt)) d t

high_most : (d x : ℕ) → T (among d depths16) → x ≤ 65535 → unpacked MostSignificantBytes d x ≤ max_of d
unfolding unpacked max_of
high_most d x t h = each_among (λ d. unpacked MostSignificantBytes d x ≤ max_of d) depths16 (omega arith, (omega arith, tt)) d t

pub high_within : HighWithin
high_within s f p d y u v = record {
  y = λ row column hr hc. rw p (high_most s.depth _ d (y (f.y_stride * row + column)));
  u = λ row column hr hc. rw p (high_most s.depth _ d (u (f.u_stride * row + column)));
  v = λ row column hr hc. rw p (high_most s.depth _ d (v (f.v_stride * row + column)));
}

-- what demand 3 asks of u16 samples is enough in either packing
pub words_within : (s : Settings) (f : Frame) → T (among s.depth depths16)
    → ((i : ℕ) → get_or f.y i 0 ≤ 65535) → ((i : ℕ) → get_or f.u i 0 ≤ 65535) → ((i : ℕ) → get_or f.v i 0 ≤ 65535)
    → WithinIfLow s f → WithinDepth s f
words_within s f d y u v asked = by_packing s.packing refl
  where
    by_packing : (p : YuvBytesPacking) → s.packing ≡ p → WithinDepth s f
    by_packing LeastSignificantBytes e = asked e
    by_packing MostSignificantBytes e = high_within s f e d y u v
