use Rattle.planes.specs.Woven.{lent}
use Rattle.planes.specs.Lent.{plane_of}
use Rattle.planes.proofs.WovenPlanes.{PlaneWoven}
use Rattle.planes.proofs.weave.weave_plane.Given as goal

abbrev pub invariant-loop-r : goal.invariant-loop-r
invariant-loop-r g l =
    let n = g.S.Sample.numbers in
    PlaneWoven l.size.width l.size.height (plane_of n l.u) (plane_of n l.v) (lent (n l.initial.elements) l.stride) (n l.elements) l.r
