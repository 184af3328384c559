use mathlib.Core.Path.{◌≡◌}
use Prim.Native.Nat.{◌*◌, ◌≤◌}
use Rattle.numerics.specs.Row.{Small}
use Rattle.blocks.proofs.words.beyond.Given as goal

abbrev pub invariant-loop-sample : goal.invariant-loop-sample
invariant-loop-sample l = (l.sum ≤ 15 * l.sample-index) × (l.sum ≡ 0 → Small l.sample-index l.samples)
