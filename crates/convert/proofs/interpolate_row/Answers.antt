use Rattle.blocks.proofs.Room.{scratch_fits}
use Rattle.convert.proofs.Samples.{three, four, source_fits, source_done}
use Rattle.convert.proofs.interpolate_row.Goals as goal

pub interpolate-requires : goal.interpolate-requires
interpolate-requires g c =
    let e = c.arranged-source.ensures in
    let fits = source_fits g.S.Sample.numbers g.S.Sample.number c.args.s _ c.args.samples.now c.arranged-source.result _ _ e.luma e.chroma (three c.in-Rgb.is) c.requires.fits in
    (scratch_fits _ _ g.met.S.Sample.aligned g.met.S.Sample.small, (c.requires.kernel, fits))

pub interpolate-requires-in-Rgba : goal.interpolate-requires-in-Rgba
interpolate-requires-in-Rgba g c =
    let e = c.arranged-source.ensures in
    let fits = source_fits g.S.Sample.numbers g.S.Sample.number c.args.s _ c.args.samples.now c.arranged-source.result _ _ e.luma e.chroma (four c.in-Rgba.is) c.requires.fits in
    (scratch_fits _ _ g.met.S.Sample.aligned g.met.S.Sample.small, (c.requires.kernel, fits))

pub returns-in-Rgb : goal.returns-in-Rgb
returns-in-Rgb g c =
    let e = c.arranged-source.ensures in
    let done = source_done g.S.Sample.numbers g.S.Sample.number c.args.s c.args.width c.args.samples.now c.arranged-source.result _ _ e.luma e.chroma (three c.in-Rgb.is)
    c.div_ceil-last.ensures c.tail_at.ensures c.cr_tail_at.ensures _ c.args.row.now c.interpolate.ensures.row c.interpolate.ensures.counts in
    record { row = done.0; counts = done.1 }

pub returns-in-Rgba : goal.returns-in-Rgba
returns-in-Rgba g c =
    let e = c.arranged-source.ensures in
    let done = source_done g.S.Sample.numbers g.S.Sample.number c.args.s c.args.width c.args.samples.now c.arranged-source.result _ _ e.luma e.chroma (four c.in-Rgba.is)
    c.div_ceil-last.ensures c.tail_at.ensures c.cr_tail_at.ensures _ c.args.row.now c.interpolate-in-Rgba.ensures.row c.interpolate-in-Rgba.ensures.counts in
    record { row = done.0; counts = done.1 }
