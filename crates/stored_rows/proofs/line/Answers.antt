use Rattle.stored_rows.proofs.Rule.{line_keeps_lem}
use Rattle.stored_rows.proofs.line.Goals as goal

pub returns : goal.returns
returns c = rw (c.range_of-range.ensures, c.matrix_of-matrix.ensures) (line_keeps_lem _ _ c.args.k c.requires)
