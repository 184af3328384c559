use Rattle.std.proofs.Common.{sym, ◌∙◌}
use Rattle.y4m_lines.proofs.HeaderLaws.{side_of_several, side_of_none, side_of_one}
use Rattle.y4m_lines.proofs.read_side.Goals as goal

pub returns-in_err-ok : goal.returns-in_err-ok
returns-in_err-ok c = c.from_residual.ensures ∙ side_of_several _ c.find_field.result c.find_field.ensures (sym c.ok.ensures.value ∙ c.in_err-ok.was)

pub returns-in_err-branch : goal.returns-in_err-branch
returns-in_err-branch c =
    c.from_residual-in_err-branch.ensures ∙ side_of_none _ c.find_field.result c.find_field.ensures (sym c.ok.ensures.value ∙ c.in_ok-ok.was) c.in_err-branch.was

pub returns : goal.returns
returns c = c.read_number.ensures ∙ side_of_one _ c.find_field.result c.find_field.ensures (sym c.ok.ensures.value ∙ c.in_ok-ok.was) c.in_ok-branch.was
