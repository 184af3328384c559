-- A plane as it is lent, by the numbers of its samples.
-- Definitions only.
use Rattle.std.specs.Prelude.{ℕ, List}
use Rattle.sample.specs.declared.plane.Plane.{Plane}
use Rattle.sample.specs.declared.plane.PlaneMut.{PlaneMut}
use Rattle.planes.specs.Woven.{lent}
use Rattle.planes.specs.Woven as woven

abbrev pub plane_of : {X : Type 0} → (List X → List ℕ) → Plane X → woven.Plane
plane_of numbers p = lent (numbers p.elements.now) p.stride

-- one to be written: what is in it at first
abbrev pub plane_mut_of : {X : Type 0} → (List X → List ℕ) → PlaneMut X → woven.Plane
plane_mut_of numbers p = lent (numbers p.elements.now) p.stride
