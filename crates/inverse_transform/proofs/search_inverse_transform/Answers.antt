use Rattle.std.proofs.Common.{rules}
use Rattle.inverse_transform.proofs.Coefficients.{row_or}
use Rattle.inverse_transform.proofs.search_inverse_transform.Goals as goal

pub returns : goal.returns
returns c = row_or c.args.s c.get_built_inverse_transform-row.ensures.built c.unwrap_or_else.ensures (λ p. search rules)
