use mathlib.Core.Path.{sym}
use Rattle.convert.proofs.Samples.{source_fits, source_done}
use Rattle.convert.proofs.interpolate_row_alone.Goals as goal

pub interpolate_alone-requires : goal.interpolate_alone-requires
interpolate_alone-requires g c =
    let e = c.arranged-source.ensures in
    let fits = source_fits g.S.Sample.numbers g.S.Sample.number c.args.s _ c.args.samples.now c.arranged-source.result _ _ e.luma e.chroma (sym c.get_channels_count-letters.ensures) c.requires.fits in
    record { kernel = c.requires.kernel; fits = fits }

pub returns : goal.returns
returns g c =
    let e = c.arranged-source.ensures in
    let done = source_done g.S.Sample.numbers g.S.Sample.number c.args.s c.args.width c.args.samples.now c.arranged-source.result _ _ e.luma e.chroma (sym c.get_channels_count-letters.ensures)
    c.div_ceil-last.ensures c.tail_at.ensures c.cr_tail_at.ensures _ c.args.row.now c.interpolate_alone.ensures.row c.interpolate_alone.ensures.counts in
    record { row = done.0; counts = done.1 }
