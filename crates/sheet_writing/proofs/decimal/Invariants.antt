use Rattle.std.proofs.Common.{◌≡◌, take}
use Rattle.sheet_writing.proofs.Digits.{digits_at}
use Rattle.sheet_writing.proofs.decimal.Given as goal

abbrev pub invariant-loop-power : goal.invariant-loop-power
invariant-loop-power l = l.digits.items ≡ digits_at (take l.power-index l.power-items) l.n
