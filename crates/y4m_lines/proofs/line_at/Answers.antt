use Rattle.y4m_lines.proofs.OneLine.{line_found, line_missed}
use Rattle.y4m_lines.proofs.line_at.Goals as goal

pub returns-then-end-most : goal.returns-then-end-most
returns-then-end-most c = line_found _ _ c.min-most.ensures c.find-end.ensures c.if-end-most.true

pub returns : goal.returns
returns c = line_missed _ _ c.min-most.ensures c.find-end.ensures c.if-end-most.false
