use mathlib.Core.Path.{◌∙◌}
use Rattle.std.proofs.Common.{arith}
use lib.Seq.{length-take-le}
use Rattle.sample.proofs.Numbers.{numbers_take}
use Rattle.yuv_support.proofs.Copy.{copied_all}
use Rattle.sheet_picture.proofs.narrow.Goals as goal

pub returns : goal.returns
returns g c =
    let long = length-take-le c.args.n c.args.numbers.now c.requires.samples.long in
    numbers_take g.met.S.Sample.numbers_are c.args.n c.loop-i.plane ∙ copied_all c.loop-i.invariant (omega (arith, long))
