use mathlib.Core.Path.{◌≡◌}
use Prim.Native.Nat.{◌*◌}
use lib.ListN.{length}
use Rattle.numerics.specs.Row.{row_value, at, word_at, Begun, Filled}
use Rattle.blocks.proofs.words.put_all.Given as goal

abbrev pub invariant-loop-i : goal.invariant-loop-i
invariant-loop-i g l =
    Begun (row_value l.k g.row.LETTERS (at l.y) (at l.p) (at l.q)) l.initial.row l.row (g.row.LETTERS * l.i) × Filled l.i (λ c. word_at l.k (at l.y c) (at l.p c) (at l.q c)) l.word-items × (length l.word-items ≡ length l.initial.word-items)
