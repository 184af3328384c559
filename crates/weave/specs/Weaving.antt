-- Document 02, slip 8: what a call that weaves or undoes it is asked, and what it leaves in the planes.
-- Definitions only.
use Rattle.std.specs.Prelude.{ℕ, ◌*◌, cond, ◌&&◌, List, [], ◌∷◌, ◌++◌, eqb, leb, length}
use Rattle.yuv_support.specs.Questions.{Question, Verdict, Extent, extent, ask, needed, sides, verdict}
use Rattle.planes.specs.Woven.{Plane, woven, of_u, of_v, unwoven}

-- 22: a plane is long enough by the form of 5, n being its own row, and its stride is at least its row
abbrev pub plane_usable : Extent → ℕ → ℕ → Question
plane_usable e n height = ask 22 (leb (needed e.stride n height) e.length && leb n e.stride)

-- 3 and 4 of the chroma plane's sides, then 22 of every plane, whichever way the samples go
unfoldable pub weave_questions : ℕ → ℕ → Extent → Extent → Extent → List Question
weave_questions width height u v uv =
    sides width height
    ++ plane_usable u width height
    ∷ plane_usable v width height
    ∷ plane_usable uv (2 * width) height
    ∷ []

abbrev pub extent_of : Plane → Extent
extent_of p = extent (length p.elements) p.stride

abbrev pub weave_answer : ℕ → ℕ → Plane → Plane → Plane → Verdict
weave_answer width height u v uv = verdict (weave_questions width height (extent_of u) (extent_of v) (extent_of uv))

-- a destination after the call: what is written where it is accepted, and else what was there
abbrev pub after : Verdict → List ℕ → List ℕ → List ℕ
after answer written old = cond (eqb answer.number 0) written old

-- weaving
unfoldable pub after_weaving : ℕ → ℕ → Plane → Plane → Plane → List ℕ
after_weaving width height u v uv = after (weave_answer width height u v uv) (woven width height u v uv) uv.elements

-- its undoing
unfoldable pub u_after_unweaving : ℕ → ℕ → Plane → Plane → Plane → List ℕ
u_after_unweaving width height u v uv = after (weave_answer width height u v uv) (unwoven of_u width height uv u) u.elements

unfoldable pub v_after_unweaving : ℕ → ℕ → Plane → Plane → Plane → List ℕ
v_after_unweaving width height u v uv = after (weave_answer width height u v uv) (unwoven of_v width height uv v) v.elements
