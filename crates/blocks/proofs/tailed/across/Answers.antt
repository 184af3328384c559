use mathlib.Core.Path.{◌≡◌, refl, sym, ◌∙◌}
use native.Mathlib.Omega.{arith}
use lib.ListN.{length-set}
use Rattle.sample.proofs.Numbers.{numbers_length}
use Rattle.numerics.proofs.Row.{begun_none}
use Rattle.blocks.proofs.Blends.{pair_begun, across_left, across_right, same_left, same_right}
use Rattle.blocks.proofs.tailed.across.Goals as goal

pub loop-j-init : goal.loop-j-init
loop-j-init g c = (begun_none, refl)

pub loop-j-preserved : goal.loop-j-preserved
loop-j-preserved g c =
    let l = c.loop-j in
    let sums = c.args.sums.now in
    let w = c.write_pair.ensures in (
      rw w (pair_begun l.j l.invariant.0 (omega (arith, c.requires.some, numbers_length g.met.S.Sample.numbers_are c.args.d.now, c.told-d)) (same_left _ _ ∙ sym (across_left l.j sums)) (same_right _ _ ∙ sym (across_right l.j sums))),
      rw w (simp length-set l.invariant.1),
    )

pub returns : goal.returns
returns g c =
    let l = c.loop-j in
    let e : l.j ≡ c.args.n = omega (arith, c.requires.some) in
    rw e at l.invariant.0
