-- What the questions say of the numbers where they held: 3 and 4 of the sides, 2 of the depth.
-- Assumes nothing.
use mathlib.Core.Path.{◌≡◌, refl}
use mathlib.Core.Bool.{Bool, true, ◌&&◌, and-eq-true_iff}
use mathlib.Core.List.{[], ◌∷◌}
use Prim.Native.Nat.{ℕ, ◌≤◌}
use borrow.Author.Tests.{leb-true}
use lib.Dec.{leb}
use Rattle.yuv_support.specs.declared.Codes.{Codes}
use Rattle.yuv_support.specs.Settings.{last_packing}
use Rattle.yuv_support.specs.Questions.{verdict, sides, codes_known}
use Rattle.yuv_support.proofs.Questions.{each_holds}

pub record Sides (width height : ℕ) : Type 0 where
  pub width_least : 1 ≤ width
  pub height_least : 1 ≤ height
  pub width_most : width ≤ 16384
  pub height_most : height ≤ 16384

-- by the two questions, wherever they stand
pub sides_are : (width height : ℕ) → (leb 1 width && leb 1 height) ≡ true
    → (leb width 16384 && leb height 16384) ≡ true → Sides width height
sides_are width height a b =
    let least = (and-eq-true_iff (leb 1 width) _).0 a in
    let most = (and-eq-true_iff (leb width 16384) _).0 b in
    record {
      width_least = leb-true _ _ least.0;
      height_least = leb-true _ _ least.1;
      width_most = leb-true _ _ most.0;
      height_most = leb-true _ _ most.1;
    }

pub sides_held : (width height : ℕ) → (verdict (sides width height)).number ≡ 0 → Sides width height
sides_held width height e =
    let h = each_holds (sides width height) refl e in
    sides_are width height (h 0) (h 1)

pub depth_held : (depth_known : Bool) (c : Codes) → (codes_known depth_known c).holds ≡ true → depth_known ≡ true
depth_held depth_known c h =
    let known = (and-eq-true_iff (leb c.order 3) _).0 h in
    let known' = (and-eq-true_iff (leb c.range 1) _).0 known.1 in
    let known'' = (and-eq-true_iff (leb c.matrix 6) _).0 known'.1 in
    let known''' = (and-eq-true_iff (leb c.packing (last_packing c.depth)) _).0 known''.1 in
    ((and-eq-true_iff (leb c.mode 1) depth_known).0 known'''.1).1

-- the same where question 2 alone was asked
pub depth_accepted : (depth_known : Bool) (c : Codes) → (verdict (codes_known depth_known c ∷ [])).number ≡ 0 → depth_known ≡ true
depth_accepted depth_known c e = depth_held depth_known c (each_holds (codes_known depth_known c ∷ []) refl e 0)
