use Rattle.sheet_numbers.proofs.OneNumber.{Passed}
use Rattle.sheet_numbers.proofs.read_digits.Given as goal

abbrev pub invariant-loop-place : goal.invariant-loop-place
invariant-loop-place l = Passed l.s l.at l.digits.value l.digits.count l.place
