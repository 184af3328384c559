use mathlib.Core.Path.{◌∙◌}
use Rattle.stored_rows.proofs.Rule.{all_found}
use Rattle.stored_rows.proofs.put_line.Goals as goal

pub returns : goal.returns
returns g c = c.found-n.ensures ∙ all_found _ c.line-s.ensures
