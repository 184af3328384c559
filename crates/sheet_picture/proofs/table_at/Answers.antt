use mathlib.Core.Path.{◌∙◌, ap}
use Rattle.yuv_support.specs.declared.Settings.{Settings}
use Rattle.sheet_picture.proofs.Converted.{picture_written}
use Rattle.sheet_picture.proofs.table_at.Goals as goal

pub returns : goal.returns
returns g c =
    let order = ap (λ (s : Settings). s.order) c.args.known.answered in
    let made = c.picture_at-clipped.ensures in
    let planes = c.args.planes.now in
    let rgb = g.S.Sample.numbers c.picture_at-clipped.new.rgb in
    c.table_of.ensures ∙ picture_written c.args.known.values planes.y planes.u planes.v rgb order made.shows made.counts
