use Rattle.interpolate.proofs.Left.{left_row, left_room, left_counts}
use Rattle.interpolate.proofs.whole.interpolate.Goals as goal

pub both-requires : goal.both-requires
both-requires g c =
    let all = c.grouped-all.ensures in
    left_room g.met.S.Sample.numbers_are c.args.pixels c.args.source.now c.requires.fits c.div_ceil-samples.ensures all.0 all.1 c.groups-before.ensures.counts c.singles-after.ensures.counts

pub returns-clause-row : goal.returns-clause-row
returns-clause-row g c =
    let all = c.grouped-all.ensures in
    left_row g.met.S.Sample.numbers_are c.args.pixels c.args.source.now c.requires.fits c.div_ceil-samples.ensures all.0 all.1 c.groups-before.ensures.row c.singles-after.ensures.row

pub returns-clause-counts : goal.returns-clause-counts
returns-clause-counts g c =
    let all = c.grouped-all.ensures in
    left_counts g.met.S.Sample.numbers_are c.args.pixels c.args.source.now c.requires.fits c.div_ceil-samples.ensures all.0 all.1 c.groups-before.ensures.counts c.singles-after.ensures.counts c.both.ensures
