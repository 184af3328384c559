use native.Mathlib.Omega.{arith}
use Rattle.numerics.proofs.Clips.{below_three, above_three}
use Rattle.blocks.proofs.bytes.pixel.Goals as goal

pub returns : goal.returns
returns c =
    let a = c.args in
    let e = c.pixel.ensures in
    let m = c.requires.0.max in
    record {
      letters = e;
      fit = (rw e (omega (arith, m)), rw e (omega (arith, m)), rw e (omega (arith, m)));
      few = (rw e (below_three a.k a.y a.p a.q), rw e (above_three a.k a.y a.p a.q));
    }
