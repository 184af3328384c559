use lib.ListN.{length}
use Rattle.yuv_support.proofs.Copy.{Copied}
use Rattle.convert_high16.specs.Held.{divided_by}
use Rattle.convert_high16.proofs.unpack.Given as goal

abbrev pub invariant-loop-i : goal.invariant-loop-i
invariant-loop-i l = Copied (divided_by l.shift l.part) l.initial.samples (length l.part) l.samples l.i
