use Rattle.built_coefficients.proofs.Stored.{own, smpte240_as_source, smpte240_matched}
use borrow.Enum.Refused.{opened}
use Rattle.built_coefficients.proofs.stored_weights.Goals as goal

pub returns-in-AsSource : goal.returns-in-AsSource
returns-in-AsSource c =
    rw (c.own_weights-k.ensures, c.in-Smpte240.is, c.in-AsSource.is) smpte240_as_source

pub returns-in-Matched : goal.returns-in-Matched
returns-in-Matched c =
    rw (c.own_weights-k.ensures, c.in-Smpte240.is, c.in-Matched.is) smpte240_matched

pub returns-in_default : goal.returns-in_default
returns-in_default c = rw c.own_weights-k.ensures (own c.args.matrix c.args.mode (opened c.in_default.in_default-own.keys2))
