-- Document 02, slip 8: "Unweaving a woven pair restores the two planes' samples, weaving an unwoven plane restores its samples, and padding is
-- untouched", by the definitions that the entries' promises cite.
-- Definitions only.
use Rattle.std.specs.Prelude.{◌≡◌, List, ℕ, ◌+◌, ◌*◌, ◌<◌, length, get_or}
use Rattle.planes.specs.Woven.{Plane, lent, element_at}
use Rattle.weave.specs.Weaving.{weave_answer, after_weaving, u_after_unweaving, v_after_unweaving}

-- two planes have the same samples: the first n elements of each of `height` rows, each plane by its own stride
abbrev pub SameSamples : ℕ → ℕ → Plane → Plane → Type 0
SameSamples n height p q = (row x : ℕ) → row < height → x < n → element_at p row x ≡ element_at q row x

-- what stands in no such row is kept
pub record PaddingKept (n height : ℕ) (p : Plane) (now : List ℕ) : Type 0 where
  pub same_length : length now ≡ length p.elements
  pub kept : (j : ℕ) → ((row x : ℕ) → row < height → x < n → j ≡ p.stride * row + x → ⊥) → get_or now j 0 ≡ get_or p.elements j 0

-- u and v are woven into uv, and what is there then is taken apart into u' and v', which may be any planes
abbrev pub UnweavingRestores : Type 0
UnweavingRestores =
    (width height : ℕ) (u v uv u' v' : Plane) → let w = lent (after_weaving width height u v uv) uv.stride in
    (weave_answer width height u v uv).number ≡ 0
    → (weave_answer width height u' v' w).number ≡ 0
    → SameSamples width height (lent (u_after_unweaving width height u' v' w) u'.stride) u
    × SameSamples width height (lent (v_after_unweaving width height u' v' w) v'.stride) v

-- uv is taken apart into u and v, and what is there then is woven into uv', which may be any plane
abbrev pub WeavingRestores : Type 0
WeavingRestores =
    (width height : ℕ) (uv u v uv' : Plane) →
    let a = lent (u_after_unweaving width height u v uv) u.stride in
    let b = lent (v_after_unweaving width height u v uv) v.stride in
    (weave_answer width height u v uv).number ≡ 0
    → (weave_answer width height a b uv').number ≡ 0
    → SameSamples (2 * width) height (lent (after_weaving width height a b uv') uv'.stride) uv

-- of any call, accepted or refused
abbrev pub PaddingUntouched : Type 0
PaddingUntouched =
    (width height : ℕ) (u v uv : Plane)
    → PaddingKept (2 * width) height uv (after_weaving width height u v uv)
    × PaddingKept width height u (u_after_unweaving width height u v uv)
    × PaddingKept width height v (v_after_unweaving width height u v uv)
