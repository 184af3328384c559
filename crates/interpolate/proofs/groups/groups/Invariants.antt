use mathlib.Core.Path.{◌≡◌}
use Prim.Native.Nat.{◌-◌, ◌*◌, ◌≤◌, ◌<◌}
use Rattle.numerics.specs.Row.{Begun}
use Rattle.blocks.specs.Source.{value_of, clipped_of}
use Rattle.interpolate.proofs.groups.groups.Given as goal

abbrev pub invariant-loop-done : goal.invariant-loop-done
invariant-loop-done g l =
    let N = g.S.Sample.numbers in
    let one = g.S.Sample.number in
    (l.done ≤ l.pairs) × (l.done < 8 → l.done ≡ 0)
    × Begun (value_of N one l.pixels l.samples l.source) (N l.initial.row) (N l.row) (l.pixels.letters * (2 * l.done))
    × (l.clipped ≡ clipped_of N one l.pixels.k l.samples l.source (2 * l.done))

abbrev pub decreases-loop-done : goal.decreases-loop-done
decreases-loop-done g l = l.pairs - l.done
