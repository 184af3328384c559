use mathlib.Core.Path.{◌≡◌}
use Prim.Native.Nat.{ℕ, ◌*◌, ◌≤◌, ◌<◌}
use lib.ListN.{length}
use Rattle.numerics.specs.Row.{at, column_of, Filled}
use Rattle.blocks.proofs.tailed.columns.Given as goal

abbrev pub invariant-loop-j : goal.invariant-loop-j
invariant-loop-j g l =
    Filled l.j (column_of (g.S.Sample.numbers l.rows.near.now) (g.S.Sample.numbers l.rows.far.now)) l.sum-items × (length l.sum-items ≡ length l.initial.sum-items) × ((i : ℕ) → i < l.j → at l.sum-items i ≤ 4 * g.S.Sample.most)
