use mathlib.Core.Path.{sym, ap, ◌∙◌}
use Prim.Native.Nat.{ℕ, ◌+◌, ◌/◌, ◌%◌}
use native.Mathlib.Omega.{arith}
use Rattle.yuv_support.proofs.Counts.{total_none, total_more}
use Rattle.numerics.specs.Row.{at}
use Rattle.numerics.proofs.counted.Goals as goal

pub loop-word-init : goal.loop-word-init
loop-word-init c = (sym (total_none _), sym (total_none _), omega arith, omega arith)

pub loop-word-preserved : goal.loop-word-preserved
loop-word-preserved c =
    let l = c.loop-word in
    let i = l.invariant in
    let w = c.args.words.now in
    let b = c.requires.1 l.word-index (omega arith) in (
      ap (λ (x : ℕ). x + at w l.word-index % 256) i.0 ∙ sym (total_more _ l.word-index),
      ap (λ (x : ℕ). x + at w l.word-index / 256) i.1 ∙ sym (total_more _ l.word-index),
      omega (arith, i.2, b.0),
      omega (arith, i.3, b.1),
    )
