use mathlib.Core.Path.{◌≡◌}
use Prim.Native.Nat.{◌*◌}
use lib.ListN.{length}
use Rattle.numerics.specs.Row.{pair_chroma, Begun}
use Rattle.blocks.proofs.chroma.blend_any.Given as goal

abbrev pub invariant-loop-j : goal.invariant-loop-j
invariant-loop-j g l =
    Begun (pair_chroma (g.S.Sample.numbers l.rows.near.now) (g.S.Sample.numbers l.rows.far.now)) (g.S.Sample.numbers l.initial.d) (g.S.Sample.numbers l.d) (2 * l.j) × (length (g.S.Sample.numbers l.d) ≡ length (g.S.Sample.numbers l.initial.d))
