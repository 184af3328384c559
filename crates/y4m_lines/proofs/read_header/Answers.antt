use Rattle.std.proofs.Common.{◌∙◌, sym, arith}
use lib.Seq.{length-take-le}
use native.Mathlib.Nat.{le_of_lt}
use Rattle.y4m_lines.proofs.OneLine.{lined, line_none}
use Rattle.y4m_lines.proofs.HeaderLaws.{Begun, worded, no_line, no_word, one_empty, no_width, no_height, two_colours, whole_header}
use Rattle.y4m_lines.proofs.read_header.Goals.{Else-not-none_empty}
use Rattle.y4m_lines.proofs.read_header.Goals as goal

begun : (c : Else-not-none_empty) → Begun c.args.s.now c.in_ok-end.end
begun c = record {
  line = lined _ 0 c.line_at.ensures c.in_ok-end.was;
  word = worded _ c.starts_with.ensures.value c.if-not-starts_with.false;
  full = sym c.none_empty.ensures ∙ c.if-not-none_empty.false;
}

pub returns-in_err-end : goal.returns-in_err-end
returns-in_err-end c = c.from_residual.ensures ∙ no_line c.args.s.now (line_none _ 0 c.line_at.ensures c.in_err-end.was)

pub slice_bounds-line-end : goal.slice_bounds-line-end
slice_bounds-line-end c = sym (length-take-le _ _ (le_of_lt (lined c.args.s.now 0 c.line_at.ensures c.in_ok-end.was).within))

pub returns-then-not-starts_with : goal.returns-then-not-starts_with
returns-then-not-starts_with c = no_word (lined _ 0 c.line_at.ensures c.in_ok-end.was) (worded _ c.starts_with.ensures.value c.if-not-starts_with.true)

pub returns-then-not-none_empty : goal.returns-then-not-none_empty
returns-then-not-none_empty c =
    one_empty (lined _ 0 c.line_at.ensures c.in_ok-end.was) (worded _ c.starts_with.ensures.value c.if-not-starts_with.false) (sym c.none_empty.ensures ∙ c.if-not-none_empty.true)

pub returns-in_err-width : goal.returns-in_err-width
returns-in_err-width c =
    c.from_residual-in_err-width.ensures
    ∙ no_width (begun (goal.at.returns-in_err-width c).Else-not-none_empty) c.read_side.ensures c.in_err-width.was

pub returns-in_err-height : goal.returns-in_err-height
returns-in_err-height c =
    c.from_residual-in_err-height.ensures
    ∙ no_height (begun (goal.at.returns-in_err-height c).Else-not-none_empty) c.read_side.ensures c.in_ok-width.was c.read_side-2.ensures c.in_err-height.was

pub returns-in_err-format : goal.returns-in_err-format
returns-in_err-format c =
    c.from_residual-in_err-format.ensures
    ∙ two_colours (begun (goal.at.returns-in_err-format c).Else-not-none_empty) c.read_side.ensures c.in_ok-width.was c.read_side-2.ensures c.in_ok-height.was
    c.read_colour.ensures (sym c.ok.ensures.value ∙ c.in_err-format.was)

pub overflow_add-result : goal.overflow_add-result
overflow_add-result c = omega (arith, (begun (goal.at.overflow_add-result c).Else-not-none_empty).line.within)

pub returns : goal.returns
returns c =
    whole_header (begun (goal.at.returns c).Else-not-none_empty) c.read_side.ensures c.in_ok-width.was c.read_side-2.ensures c.in_ok-height.was
    c.read_colour.ensures (sym c.ok.ensures.value ∙ c.in_ok-format.was)
