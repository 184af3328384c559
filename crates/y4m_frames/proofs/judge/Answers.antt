use mathlib.Core.Path.{sym, ◌∙◌}
use Rattle.y4m_frames.proofs.Headers.{found_known, found_said}
use Rattle.y4m_frames.proofs.judge.Goals as goal

pub check_frame-requires-clause-known : goal.check_frame-requires-clause-known
check_frame-requires-clause-known g c =
    let read = sym c.read_header.ensures ∙ c.in-Some.is in
    found_known c.args.s.now g.S.Sample.SIZE read g.met.S.Sample.depths_are c.check_known-known.ensures.known

pub returns-clause-header : goal.returns-clause-header
returns-clause-header g c =
    let read = sym c.read_header.ensures ∙ c.in-Some.is in
    c.ok.ensures.value ∙ found_said c.args.s.now g.S.Sample.SIZE read g.met.S.Sample.depths_are c.check_known-known.ensures.known
