use Rattle.std.proofs.Common.{◌∙◌, arith}
use Rattle.y4m_lines.proofs.OneLine.{lined, line_none, frame_none, frame_other, frame_longer, frame_empty, frame_formed}
use Rattle.y4m_lines.proofs.read_frame_line.Goals as goal

pub returns-in_err-end : goal.returns-in_err-end
returns-in_err-end c = c.from_residual.ensures ∙ frame_none _ _ (line_none _ _ c.line_at.ensures c.in_err-end.was)

pub slice_bounds-line-end : goal.slice_bounds-line-end
slice_bounds-line-end c = omega (arith, (lined _ _ c.line_at.ensures c.in_ok-end.was).within)

pub returns-then-not-starts_with : goal.returns-then-not-starts_with
returns-then-not-starts_with c = frame_other _ _ c.line_at.ensures c.in_ok-end.was c.starts_with.ensures.value c.if-not-starts_with.true

pub returns-then-find-ne5 : goal.returns-then-find-ne5
returns-then-find-ne5 c =
    frame_longer _ _ c.line_at.ensures c.in_ok-end.was c.starts_with.ensures.value c.if-not-starts_with.false c.find.ensures c.if-find-ne5.true

pub returns-then-none_empty : goal.returns-then-none_empty
returns-then-none_empty c =
    frame_formed _ _ c.line_at.ensures c.in_ok-end.was c.starts_with.ensures.value c.if-not-starts_with.false
    c.find.ensures c.if-find-ne5.false c.none_empty.ensures c.if-none_empty.true

pub returns : goal.returns
returns c =
    frame_empty _ _ c.line_at.ensures c.in_ok-end.was c.starts_with.ensures.value c.if-not-starts_with.false c.none_empty.ensures c.if-none_empty.false
