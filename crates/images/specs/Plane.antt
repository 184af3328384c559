-- The chroma plane of a code. Definitions only.
use Rattle.std.specs.Prelude.{ℕ, cond, eqb}
use Rattle.images.specs.declared.planes.ChromaPlane.{ChromaPlane}
use Rattle.images.specs.declared.planes.ChromaPlane.TheVariants.{U, V}

-- 0 is U, 1 is V
abbrev pub plane_of : ℕ → ChromaPlane
plane_of code = cond (eqb code 0) U V
