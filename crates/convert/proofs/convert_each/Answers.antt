use mathlib.Core.Path.{refl, ◌∙◌}
use Prim.Native.Nat.{ℕ, ◌+◌, ◌-◌, ◌*◌, ◌<◌}
use native.Mathlib.Omega.{arith}
use Rattle.sample.proofs.Numbers.{numbers_part, numbers_put}
use Rattle.yuv_support.specs.Picture.{band}
use Rattle.kernel.proofs.Loops.{rows_begin, rows_next, rows_end, counted_begin, counted_room, counted_next}
use Rattle.convert.proofs.convert_each.Goals as goal

pub loop-r-init : goal.loop-r-init
loop-r-init g c =
    let fit = c.requires.fit in
    (rows_begin _ c.requires.length (omega arith) fit.wide fit.room fit.exist, counted_begin, refl, refl, c.requires.ready)

pub both-clipped-requires : goal.both-clipped-requires
both-clipped-requires g c =
    let inv = c.loop-r.invariant in
    let small = g.met.C.RowConverter.small _ c.requires.ready in
    counted_room inv.1 inv.0.started (rw (inv.2, inv.3) at c.convert_row-x.ensures.counts) small.0 (omega (arith, c.requires.fit.exist, small.1))

pub loop-r-preserved : goal.loop-r-preserved
loop-r-preserved g c =
    let are = g.met.S.Sample.numbers_are in
    let l = c.loop-r in
    let n = c.args.n in
    let at : ℕ = c.args.stride * l.r in
    let t : l.r < c.args.rows.first + c.args.rows.count = omega arith in
    let row = c.convert_row-x.ensures in
    let e = rw (l.invariant.2, l.invariant.3) at row.row in
    let counts = rw (l.invariant.2, l.invariant.3) at row.counts in
    let part = numbers_part are (at + n - at) at l.rgb in (
      rw (numbers_put are at (at + n - at) l.rgb c.convert_row-x.new.row) (rows_next l.invariant.0 t (rw part at e)),
      counted_next l.invariant.1 l.invariant.0.started counts c.both-clipped.ensures,
      row.settings ∙ l.invariant.2,
      row.picture ∙ l.invariant.3,
      row.ready,
    )

pub returns-clause-destination : goal.returns-clause-destination
unfolding band
returns-clause-destination g c =
    rows_end c.args.rows.count c.requires.length refl c.loop-r.invariant.0 (omega arith)
