use Rattle.weave.proofs.Asked.{answer_is, fit_is}
use Rattle.weave.proofs.check_planes.Goals as goal

pub returns-clause-answer : goal.returns-clause-answer
returns-clause-answer g c =
    answer_is g.met.S.Sample.numbers_are _ _ _ _ _ _ _ _ c.from.ensures c.from-2.ensures c.from-3.ensures c.check_buffers.ensures

pub returns-clause-fit : goal.returns-clause-fit
returns-clause-fit g c =
    fit_is g.met.S.Sample.numbers_are _ _ _ _ _ _ _ _ c.from.ensures c.from-2.ensures c.from-3.ensures c.check_buffers.ensures
