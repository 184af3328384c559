use Rattle.std.proofs.Common.{ap, ◌∙◌, Ok}
use Rattle.y4m_lines.proofs.HeaderLaws.{colour_absent, colour_single, colour_several}
use Rattle.y4m_lines.proofs.read_colour.Goals as goal

pub returns-in_err-name : goal.returns-in_err-name
returns-in_err-name c = colour_several _ _ c.from_residual.ensures.0 c.in_err-name.ensures

pub returns-in-Some : goal.returns-in-Some
returns-in-Some c = ap Ok c.format_of.ensures ∙ colour_single (rw c.in-Some.is at c.in_ok-name.ensures)

pub returns-in-None : goal.returns-in-None
returns-in-None c = colour_absent (rw c.in-None.is at c.in_ok-name.ensures)
