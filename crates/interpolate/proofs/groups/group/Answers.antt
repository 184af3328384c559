use native.Mathlib.Omega.{arith}
use Rattle.blocks.proofs.Room.{scratch_fits}
use Rattle.interpolate.proofs.Lent.{lent_fit}
use Rattle.interpolate.proofs.Grouped.{grouped_row, grouped_counts}
use Rattle.interpolate.proofs.groups.group.Goals as goal

pub convert-requires : goal.convert-requires
convert-requires g c =
    let a = c.args in
    let s = a.source.now in
    let span = c.requires.in_span in
    let parts = lent_fit g.met.S.Sample.numbers_are a.span.from c.reach-to.result a.row.now s.y.now s.first.near.now s.first.far.now s.third.near.now s.third.far.now c.requires.fits span.2 c.reach-to.ensures in
    (scratch_fits _ _ g.met.S.Sample.aligned g.met.S.Sample.small, (c.requires.kernel, (parts, (span.2, omega (arith, span.0, span.1)))))

pub returns-clause-row : goal.returns-clause-row
returns-clause-row g c =
    grouped_row g.met.S.Sample.numbers_are c.args.pixels c.args.source.now c.args.span.from c.args.span.eights c.requires.fits c.reach-to.ensures c.requires.in_span.0 c.requires.in_span.1 c.convert.ensures.row

pub returns-clause-counts : goal.returns-clause-counts
returns-clause-counts g c =
    grouped_counts g.met.S.Sample.numbers_are c.args.pixels c.args.source.now c.args.span.from c.args.span.eights c.requires.fits c.reach-to.ensures c.requires.in_span.0 c.requires.in_span.1 c.convert.ensures.counts
