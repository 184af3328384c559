use Rattle.sheet_numbers.proofs.ManyNumbers.{Reading}
use Rattle.sheet_numbers.proofs.read_lines.Given as goal

abbrev pub invariant-loop-i : goal.invariant-loop-i
invariant-loop-i l = Reading l.s l.at l.lines.width l.lines.limit l.lines.count l.initial.slot-items l.slot-items l.place l.i
