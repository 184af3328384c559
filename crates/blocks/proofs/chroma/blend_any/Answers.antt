use mathlib.Core.Path.{refl, sym, ◌∙◌}
use native.Mathlib.Omega.{arith}
use lib.ListN.{length-set}
use Rattle.numerics.proofs.Row.{begun_none}
use Rattle.blocks.proofs.Blends.{pair_begun, pair_left, pair_right}
use Rattle.blocks.proofs.chroma.blend_any.Goals as goal

pub loop-j-init : goal.loop-j-init
loop-j-init g c = (begun_none, refl)

pub loop-j-preserved : goal.loop-j-preserved
loop-j-preserved g c =
    let l = c.loop-j in
    let near = g.S.Sample.numbers c.args.rows.now.near.now in
    let far = g.S.Sample.numbers c.args.rows.now.far.now in
    let a = c.column16-a.ensures in
    let b = c.column16-b.ensures in
    let n0 = c.read.ensures.value in
    let f0 = c.read-in-loop-j.ensures.value in
    let n1 = c.read-in-loop-j-2.ensures.value in
    let f1 = c.read-in-loop-j-3.ensures.value in
    let w = c.write_pair.ensures in (
      rw w (pair_begun l.j l.invariant.0 (omega (arith, c.requires.room))
          (c.chroma16-l.ensures ∙ rw (a, b, n0, f0, n1, f1) (sym (pair_left l.j near far)))
          (c.chroma16-r.ensures ∙ rw (a, b, n0, f0, n1, f1) (sym (pair_right l.j near far)))),
      rw w (simp length-set l.invariant.1),
    )
