use mathlib.Core.Path.{◌≡◌}
use Prim.Native.Nat.{◌*◌}
use lib.ListN.{length}
use Rattle.numerics.specs.Row.{row_value, at, pair_word, Filled, Begun}
use Rattle.blocks.proofs.bytes.pairs.Given as goal

abbrev pub invariant-loop-i : goal.invariant-loop-i
invariant-loop-i g l =
    Begun (row_value l.k g.row.LETTERS (at l.y) (at l.p) (at l.q)) l.initial.row l.row (g.row.LETTERS * (2 * l.i)) × (length l.word-items ≡ length l.initial.word-items) × Filled l.i (pair_word l.k (at l.y) (at l.p) (at l.q)) l.word-items
