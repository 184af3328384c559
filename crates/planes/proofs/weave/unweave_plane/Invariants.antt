use Rattle.planes.specs.Woven.{lent}
use Rattle.planes.specs.Lent.{plane_of}
use Rattle.planes.proofs.WovenPlanes.{PlaneUnwoven}
use Rattle.planes.proofs.weave.unweave_plane.Given as goal

abbrev pub invariant-loop-r : goal.invariant-loop-r
invariant-loop-r g l =
    let n = g.S.Sample.numbers in
    PlaneUnwoven l.size.width l.size.height (plane_of n l.uv) (lent (n l.initial.us) l.u_stride) (lent (n l.initial.vs) l.v_stride) l.zero (n l.us) (n l.vs) l.r
