use Rattle.interpolate.proofs.Narrow.{narrow_row, narrow_counts}
use Rattle.interpolate.proofs.whole.narrow.Goals as goal

pub returns-clause-row : goal.returns-clause-row
returns-clause-row g c =
    narrow_row g.met.S.Sample.numbers_are c.args.pixels c.args.source.now c.requires.fits c.div_ceil-pairs.ensures c.requires.few c.blend_any.ensures c.blend_any-2.ensures c.singles.ensures.row

pub returns-clause-counts : goal.returns-clause-counts
returns-clause-counts g c =
    narrow_counts g.met.S.Sample.numbers_are c.args.pixels c.args.source.now c.requires.fits c.div_ceil-pairs.ensures c.requires.few c.blend_any.ensures c.blend_any-2.ensures c.singles.ensures.counts
