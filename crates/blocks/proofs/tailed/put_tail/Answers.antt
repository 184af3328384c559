use mathlib.Core.Path.{◌≡◌}
use Prim.Native.Nat.{◌+◌}
use native.Mathlib.Omega.{arith}
use Rattle.numerics.proofs.Row.{begun_length}
use Rattle.numerics.proofs.Parts.{tailed_pairs, tailed_last}
use Rattle.blocks.proofs.tailed.put_tail.Goals as goal

pub returns-then-some-n : goal.returns-then-some-n
returns-then-some-n g c =
    let a = c.args in
    let l : a.n ≡ a.some + 1 = omega arith in
    let e = c.to_u16-code.ensures.value in
    λ near far d₀ samples s b. rw (c.write_pair.ensures, e) (tailed_last near far (g.S.Sample.number a.tail) a.some a.n samples s b l (omega (arith, begun_length b, c.requires.2)))

pub returns-else-some-n : goal.returns-else-some-n
returns-else-some-n g c =
    let a = c.args in
    let l : a.n ≡ a.some = omega arith in
    λ near far d₀ samples e b. tailed_pairs near far (g.S.Sample.number a.tail) a.some a.n samples e b l
