use Rattle.yuv_support.proofs.Copy.{Copied}
use Rattle.sheet_picture.proofs.narrow.Given as goal

abbrev pub invariant-loop-i : goal.invariant-loop-i
invariant-loop-i g l = Copied l.numbers (g.S.Sample.numbers l.initial.plane) l.n (g.S.Sample.numbers l.plane) l.i
