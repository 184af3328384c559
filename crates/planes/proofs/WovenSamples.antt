-- The turns of the loops that weave, by the numbers of the samples: what was read, stored, lent and came back (`Numbers` of sample), and then
-- one pair or one row more (`WovenRows`, `WovenPlanes`).
-- Assumes nothing.
use Rattle.std.proofs.Common.{◌≡◌, ℕ, ◌+◌, ◌-◌, ◌*◌, ◌<◌, List, map, length, take, drop, set, get_or, arith, refl, ap, ◌∙◌}
use borrow.Rule.Slice.PartMut.{put_mid}
use Rattle.yuv_support.specs.Picture.{row_of}
use Rattle.numerics.specs.Row.{at}
use Rattle.sample.proofs.Numbers.{numbers_length, numbers_at, numbers_set, numbers_part, numbers_put}
use Rattle.planes.specs.Woven.{lent, alternating, of_u, of_v}
use Rattle.planes.proofs.WovenRows.{RowWoven, weave_more, RowUnwoven, unweave_more}
use Rattle.planes.proofs.WovenPlanes.{PlaneWoven, weave_next, PlaneUnwoven, unweave_next}

module _ {X : Type 0} {number : X → ℕ} {numbers : List X → List ℕ} (are : (xs : List X) → numbers xs ≡ map number xs) where
  -- a pair more
  pub pair_woven : {u v row₀ row : List X} {i : ℕ} (x y : X) → RowWoven (numbers u) (numbers v) (numbers row₀) (numbers row) i
      → i < length u → i < length v → x ≡ get_or u i x → y ≡ get_or v i y
      → RowWoven (numbers u) (numbers v) (numbers row₀) (numbers (set (set row (2 * i) x) (2 * i + 1) y)) (i + 1)
  pair_woven {u} {v} {row₀} {row} {i} x y w hu hv ex ey =
      rw (numbers_set are (set row (2 * i) x) (2 * i + 1) (numbers_at are v i y hv ey), numbers_set are row (2 * i) (numbers_at are u i x hu ex))
      (weave_more w (omega (arith, numbers_length are u)))

  pub pair_unwoven : {row u₀ v₀ u v : List X} {i : ℕ} (x y : X) → RowUnwoven (numbers row) (numbers u₀) (numbers v₀) (numbers u) (numbers v) i
      → i < length u₀ → i < length v₀ → number x ≡ get_or (numbers row) (2 * i) 0 → number y ≡ get_or (numbers row) (2 * i + 1) 0
      → RowUnwoven (numbers row) (numbers u₀) (numbers v₀) (numbers (set u i x)) (numbers (set v i y)) (i + 1)
  pair_unwoven {row} {u₀} {v₀} {u} {v} {i} x y w hu hv ex ey =
      rw (numbers_set are u i ex, numbers_set are v i ey)
      (unweave_more w (omega (arith, numbers_length are u₀)) (omega (arith, numbers_length are v₀)) refl refl)

  -- a row more
  pub rows_woven : {us vs uv₀ uv u_row v_row row : List X} {u_stride v_stride uv_stride width height r : ℕ}
      → PlaneWoven width height (lent (numbers us) u_stride) (lent (numbers vs) v_stride) (lent (numbers uv₀) uv_stride) (numbers uv) r → r < height
      → u_row ≡ take width (drop (u_stride * r) us) → v_row ≡ take width (drop (v_stride * r) vs)
      → numbers row ≡ row_of (λ q. alternating (at (numbers u_row)) (at (numbers v_row))) 0 (numbers (take (uv_stride * r + 2 * width - uv_stride * r) (drop (uv_stride * r) uv)))
      → PlaneWoven width height (lent (numbers us) u_stride) (lent (numbers vs) v_stride) (lent (numbers uv₀) uv_stride)
      (numbers (put_mid (uv_stride * r) (uv_stride * r + 2 * width - uv_stride * r) uv row)) (r + 1)
  rows_woven {us} {vs} {uv = uv} {u_row} {v_row} {row} {u_stride} {v_stride} {uv_stride} {width} {r = r} w t eu ev is =
      rw (numbers_put are (uv_stride * r) (uv_stride * r + 2 * width - uv_stride * r) uv row)
      (weave_next w t (ap numbers eu ∙ numbers_part are width _ us) (ap numbers ev ∙ numbers_part are width _ vs)
      (is ∙ ap (row_of (λ q. alternating (at (numbers u_row)) (at (numbers v_row))) 0) (numbers_part are _ _ uv)))

  pub rows_unwoven : {uv us₀ vs₀ us vs row u_row v_row : List X} {uv_stride u_stride v_stride width height zero r : ℕ}
      → PlaneUnwoven width height (lent (numbers uv) uv_stride) (lent (numbers us₀) u_stride) (lent (numbers vs₀) v_stride) zero (numbers us) (numbers vs) r → r < height
      → row ≡ take (2 * width) (drop (uv_stride * r) uv)
      → numbers u_row ≡ row_of (λ q x. at (numbers row) (2 * x + of_u)) 0 (numbers (take (u_stride * r + width - u_stride * r) (drop (u_stride * r) us)))
      → numbers v_row ≡ row_of (λ q x. at (numbers row) (2 * x + of_v)) 0 (numbers (take (v_stride * r + width - v_stride * r) (drop (v_stride * r) vs)))
      → PlaneUnwoven width height (lent (numbers uv) uv_stride) (lent (numbers us₀) u_stride) (lent (numbers vs₀) v_stride) zero
      (numbers (put_mid (u_stride * r) (u_stride * r + width - u_stride * r) us u_row))
      (numbers (put_mid (v_stride * r) (v_stride * r + width - v_stride * r) vs v_row)) (r + 1)
  rows_unwoven {uv} {us = us} {vs = vs} {row} {u_row} {v_row} {uv_stride} {u_stride} {v_stride} {width} {r = r} w t e eu ev =
      rw (numbers_put are (u_stride * r) (u_stride * r + width - u_stride * r) us u_row, numbers_put are (v_stride * r) (v_stride * r + width - v_stride * r) vs v_row)
      (unweave_next w t (ap numbers e ∙ numbers_part are (2 * width) _ uv)
      (eu ∙ ap (row_of (λ q x. at (numbers row) (2 * x + of_u)) 0) (numbers_part are _ _ us))
      (ev ∙ ap (row_of (λ q x. at (numbers row) (2 * x + of_v)) 0) (numbers_part are _ _ vs)))
