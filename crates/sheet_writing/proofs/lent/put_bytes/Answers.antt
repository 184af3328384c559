use Rattle.std.proofs.Common.{arith}
use Rattle.sheet_writing.proofs.Write.{wrote_part}
use Rattle.sheet_writing.proofs.lent.put_bytes.Goals as goal

pub returns : goal.returns
returns c = wrote_part _ _ c.args.at c.copy_from_slice.ensures.after (omega (arith, c.requires, c.fits-out))
