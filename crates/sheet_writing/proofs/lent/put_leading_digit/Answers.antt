use Rattle.sheet_writing.proofs.Write.{wrote_digit, wrote_no_digit}
use Rattle.sheet_writing.proofs.lent.put_leading_digit.Goals as goal

pub returns-then-n-power : goal.returns-then-n-power
returns-then-n-power c = let args = c.args in wrote_no_digit args.power args.n args.out.now args.at c.if-n-power.true

pub returns : goal.returns
returns c = wrote_digit c.put_byte.ensures c.if-n-power.false
