use Rattle.std.proofs.Common.{◌∙◌, ap, is_ok}
use Rattle.weave.specs.Weaving.{u_after_unweaving, v_after_unweaving}
use Rattle.weave.proofs.Asked.{after_ok, after_err}
use Rattle.weave.proofs.unweave.Goals as goal

pub returns-in_err-check_planes-clause-u_plane : goal.returns-in_err-check_planes-clause-u_plane
unfolding u_after_unweaving
returns-in_err-check_planes-clause-u_plane g c = after_err c.check_planes.result _ c.check_planes.ensures.answer (ap is_ok c.in_err-check_planes.was) _ _

pub returns-in_err-check_planes-clause-v_plane : goal.returns-in_err-check_planes-clause-v_plane
unfolding v_after_unweaving
returns-in_err-check_planes-clause-v_plane g c = after_err c.check_planes.result _ c.check_planes.ensures.answer (ap is_ok c.in_err-check_planes.was) _ _

pub returns-clause-u_plane : goal.returns-clause-u_plane
unfolding u_after_unweaving
returns-clause-u_plane g c =
    c.unweave_plane.ensures.u_plane ∙ after_ok c.check_planes.result _ c.check_planes.ensures.answer (ap is_ok c.in_ok-check_planes.was) _ _

pub returns-clause-v_plane : goal.returns-clause-v_plane
unfolding v_after_unweaving
returns-clause-v_plane g c =
    c.unweave_plane.ensures.v_plane ∙ after_ok c.check_planes.result _ c.check_planes.ensures.answer (ap is_ok c.in_ok-check_planes.was) _ _
