use Rattle.std.proofs.Common.{◌∙◌, ap, is_ok}
use Rattle.weave.specs.Weaving.{after_weaving}
use Rattle.weave.proofs.Asked.{after_ok, after_err}
use Rattle.weave.proofs.weave.Goals as goal

pub returns-in_err-check_planes-clause-woven : goal.returns-in_err-check_planes-clause-woven
unfolding after_weaving
returns-in_err-check_planes-clause-woven g c = after_err c.check_planes.result _ c.check_planes.ensures.answer (ap is_ok c.in_err-check_planes.was) _ _

pub returns-clause-woven : goal.returns-clause-woven
unfolding after_weaving
returns-clause-woven g c = c.weave_plane.ensures ∙ after_ok c.check_planes.result _ c.check_planes.ensures.answer (ap is_ok c.in_ok-check_planes.was) _ _
