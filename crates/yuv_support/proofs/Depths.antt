-- What is shown at 8, 10 and 12 holds at every known depth.
-- Assumes nothing.
use mathlib.Core.Path.{◌≡◌, refl, ap, ◌∙◌, subst⁻¹}
use mathlib.Core.Bool.{Bool, true, false, ◌||◌}
use mathlib.Core.List.{List, [], ◌∷◌}
use Prim.Native.Nat.{ℕ, ◌-◌, ◌*◌, ◌^◌}
use lib.Dec.{T, eqb, eqb→eq}
use lib.Lanes.{Each1}
use Rattle.yuv_support.specs.declared.YuvRange.TheVariants.{Limited, Full}
use Rattle.yuv_support.specs.declared.YuvChromaRange.{YuvChromaRange}
use Rattle.yuv_support.specs.Settings.{among, depths, max_of, bias_y, bias_c, range_y, range_c, chroma_range_of}

pub each_among : (P : ℕ → Type 0) (ys : List ℕ) → Each1 P ys → (x : ℕ) → T (among x ys) → P x
each_among P [] e x t = absurd t
each_among P (y ∷ ys) e x t = go (eqb x y) (eqb→eq x y) (each_among P ys e.1 x) t
  where
    go : (b : Bool) → (T b → x ≡ y) → (T (among x ys) → P x) → T (b || among x ys) → P x
    go true f rest t = subst⁻¹ P (f tt) e.0
    go false f rest t = rest t

pub by_depth : (P : ℕ → Type 0) → P 8 → P 10 → P 12 → (d : ℕ) → T (among d depths) → P d
by_depth P a b c d t = each_among P depths (a, (b, (c, tt))) d t

-- the numbers of a range are multiples of k, the codes of an 8-bit step
abbrev limited_by : ℕ → YuvChromaRange
limited_by k = record { bias_y = 16 * k; bias_uv = 128 * k; range_y = 219 * k; range_uv = 224 * k }

pub limited : (d k : ℕ) → T (among d depths) → k ≡ 2 ^ (d - 8) → limited_by k ≡ chroma_range_of d Limited
unfolding bias_y bias_c range_y range_c
limited d k t e = ap limited_by e ∙ by_depth (λ d. limited_by (2 ^ (d - 8)) ≡ chroma_range_of d Limited) refl refl refl d t

abbrev full_by : ℕ → YuvChromaRange
full_by k = record { bias_y = 0; bias_uv = 128 * k; range_y = 256 * k - 1; range_uv = 256 * k - 1 }

pub full : (d k : ℕ) → T (among d depths) → k ≡ 2 ^ (d - 8) → full_by k ≡ chroma_range_of d Full
unfolding max_of bias_y bias_c range_y range_c
full d k t e = ap full_by e ∙ by_depth (λ d. full_by (2 ^ (d - 8)) ≡ chroma_range_of d Full) refl refl refl d t
