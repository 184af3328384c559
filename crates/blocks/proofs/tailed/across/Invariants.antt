use mathlib.Core.Path.{◌≡◌}
use Prim.Native.Nat.{◌*◌}
use lib.ListN.{length}
use Rattle.numerics.specs.Row.{across_at, Begun}
use Rattle.blocks.proofs.tailed.across.Given as goal

abbrev pub invariant-loop-j : goal.invariant-loop-j
invariant-loop-j g l =
    Begun (across_at l.sums) (g.S.Sample.numbers l.initial.d) (g.S.Sample.numbers l.d) (2 * l.j) × (length (g.S.Sample.numbers l.d) ≡ length (g.S.Sample.numbers l.initial.d))
