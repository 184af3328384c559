use mathlib.Core.Path.{◌≡◌}
use Prim.Native.Nat.{◌*◌}
use lib.ListN.{length}
use Rattle.numerics.specs.Row.{row_value, at, clipped_over, Begun}
use Rattle.interpolate.proofs.singles.singles.Given as goal

abbrev pub invariant-loop-c : goal.invariant-loop-c
invariant-loop-c g l =
    let N = g.S.Sample.numbers in
    Begun (row_value l.pixels.k l.pixels.letters (at (N l.y)) (at (N l.p)) (at (N l.q))) (N l.initial.row) (N l.row) (l.pixels.letters * l.c) × (l.clipped ≡ clipped_over l.pixels.k (at (N l.y)) (at (N l.p)) (at (N l.q)) l.c) × (length (N l.row) ≡ length (N l.initial.row))
