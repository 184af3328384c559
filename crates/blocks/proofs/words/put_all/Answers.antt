use mathlib.Core.Path.{◌≡◌, refl, ap}
use Prim.Native.Nat.{ℕ, ◌+◌, ◌*◌, ◌≤◌}
use native.Mathlib.Nat.{mul-zero, mul-le-mul_left}
use native.Mathlib.Omega.{arith}
use lib.ListN.{length-set}
use lib.Seq.{length-take-le}
use Rattle.numerics.specs.Row.{at}
use Rattle.numerics.proofs.Row.{begun_none, begun_whole, pixel_more, filled_more}
use Rattle.blocks.proofs.Columns.{filled_in}
use Rattle.blocks.proofs.words.put_all.Goals as goal

pub loop-i-init : goal.loop-i-init
loop-i-init g c = (rw (mul-zero g.row.LETTERS) begun_none, record { value = λ j h. omega arith }, refl)

pub loop-i-preserved : goal.loop-i-preserved
loop-i-preserved g c =
    let a = c.args in
    let l = c.loop-i in
    let f = c.requires.fits in
    let t : l.i + 1 ≤ 8 * a.eights = omega (arith, length-take-le (8 * a.eights) a.words.now f.room) in (
      pixel_more a.k g.row.LETTERS (at a.y.now) (at a.p.now) (at a.q.now) l.i f.letters l.invariant.0
          (omega (arith, f.places, mul-le-mul_left g.row.LETTERS t)) c.put.ensures.row,
      filled_more l.invariant.1 (omega (arith, l.invariant.2)) c.put.ensures.counts,
      simp length-set l.invariant.2,
    )

pub returns : goal.returns
returns g c =
    let l = c.loop-i in
    let f = c.requires.fits in
    let part = length-take-le (8 * c.args.eights) c.args.words.now f.room in
    let e : 8 * c.args.eights ≡ l.i = omega (arith, part, l.invariant.2) in
    record { row = begun_whole l.invariant.0 (omega (arith, f.places, ap (λ (z : ℕ). g.row.LETTERS * z) e)); counts = filled_in {part = l.word-items} _ (rw e l.invariant.1) (omega (arith, part, l.invariant.2)) }
