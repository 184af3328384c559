use mathlib.Core.Path.{◌≡◌}
use Prim.Native.Nat.{◌*◌, ◌/◌, ◌%◌, ◌≤◌}
use Rattle.yuv_support.specs.Counts.{total}
use Rattle.numerics.specs.Row.{at}
use Rattle.numerics.proofs.counted.Given as goal

abbrev pub invariant-loop-word : goal.invariant-loop-word
invariant-loop-word l =
    (l.below ≡ total (λ i. at l.words i % 256) l.word-index) × (l.above ≡ total (λ i. at l.words i / 256) l.word-index) × (l.below ≤ 6 * l.word-index) × (l.above ≤ 6 * l.word-index)
