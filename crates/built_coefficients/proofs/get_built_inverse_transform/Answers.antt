use mathlib.Core.Path.{◌∙◌}
use Rattle.built_coefficients.proofs.Nearest.{both}
use Rattle.built_coefficients.proofs.Stored.{none, known, row}
use mathlib.Core.Path.{ap}
use mathlib.Core.Bool.{not}
use Rattle.built_coefficients.proofs.get_built_inverse_transform.Goals as goal

pub returns-then-not-is_stored : goal.returns-then-not-is_stored
returns-then-not-is_stored c =
    let a = c.args in
    let whole = both a.depth a.range a.matrix a.mode (none a.depth a.range a.matrix a.mode c.is_stored.ensures (ap not c.if-not-is_stored.true)) in
    record { built = whole.0; nearest = whole.1 }

pub rule-requires : goal.rule-requires
rule-requires c =
    let a = c.args in
    (known a.depth a.range a.matrix a.mode c.is_stored.ensures (ap not c.if-not-is_stored.false), c.stored_weights-k.ensures.1)

pub returns : goal.returns
returns c =
    let a = c.args in
    let whole = both a.depth a.range a.matrix a.mode
    (row a.depth a.range a.matrix a.mode c.is_stored.ensures (ap not c.if-not-is_stored.false)
    (c.rule.ensures ∙ c.stored_weights-k.ensures.0 a.depth a.range)) in
    record { built = whole.0; nearest = whole.1 }
