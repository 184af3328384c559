use Rattle.y4m_lines.proofs.Numbers.{Digits}
use Rattle.y4m_lines.proofs.read_number.Given as goal

abbrev pub invariant-loop-byte : goal.invariant-loop-byte
invariant-loop-byte l = Digits l.text l.value l.byte-index
