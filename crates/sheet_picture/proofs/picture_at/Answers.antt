use mathlib.Core.Path.{◌∙◌, ap}
use Rattle.std.proofs.Common.{rules}
use Rattle.yuv_support.specs.declared.Settings.{Settings}
use Rattle.sample.proofs.Numbers.{numbers_length}
use Rattle.sheet_values.proofs.Sizes.{chroma_count_most}
use Rattle.sheet_picture.specs.Samples.{Most}
use Rattle.sheet_picture.proofs.Converted.{planes_shown, planes_clipped}
use Rattle.sheet_picture.proofs.picture_at.Goals as goal

pub narrow-blue-requires : goal.narrow-blue-requires
narrow-blue-requires g c =
    let count = c.chroma_count-chroma in
    let fit = c.requires.fit in
    let cb : Most g.S.Sample.most count.result c.args.u.now = rw count.ensures c.requires.samples.cb in
    let cr : Most g.S.Sample.most count.result c.args.w.now = rw count.ensures c.requires.samples.cr in
    (search rules, (rw count.ensures (chroma_count_most c.args.known.values fit.width fit.height), (search rules, c.requires.wide)))

pub narrow-red-requires : goal.narrow-red-requires
narrow-red-requires g c =
    let count = c.chroma_count-chroma in
    let fit = c.requires.fit in
    let cb : Most g.S.Sample.most count.result c.args.u.now = rw count.ensures c.requires.samples.cb in
    let cr : Most g.S.Sample.most count.result c.args.w.now = rw count.ensures c.requires.samples.cr in
    (search rules, (rw count.ensures (chroma_count_most c.args.known.values fit.width fit.height), (search rules, c.requires.wide)))

pub returns-clause-shows : goal.returns-clause-shows
returns-clause-shows g c =
    let lent = c.with_planes-picture.ensures in
    let order = ap (λ (s : Settings). s.order) c.args.known.answered in
    planes_shown c.requires.fit c.requires.samples _ c.from-2.ensures (lent.sides ∙ c.from.ensures) order c.row_length-stride.ensures
    c.luma_count.ensures c.chroma_count-chroma.ensures (ap g.S.Sample.numbers lent.y_plane ∙ c.narrow-luma.ensures) (ap g.S.Sample.numbers lent.u_plane ∙ c.narrow-blue.ensures)
    (ap g.S.Sample.numbers lent.v_plane ∙ c.narrow-red.ensures)
    (numbers_length g.met.S.Sample.numbers_are c.args.rgb.now ∙ c.requires.long) c.convert.ensures.destination

pub returns-clause-counts : goal.returns-clause-counts
returns-clause-counts g c =
    let lent = c.with_planes-picture.ensures in
    let order = ap (λ (s : Settings). s.order) c.args.known.answered in
    planes_clipped c.requires.fit c.requires.samples _ c.from-2.ensures (lent.sides ∙ c.from.ensures) order c.row_length-stride.ensures
    c.luma_count.ensures c.chroma_count-chroma.ensures (ap g.S.Sample.numbers lent.y_plane ∙ c.narrow-luma.ensures) (ap g.S.Sample.numbers lent.u_plane ∙ c.narrow-blue.ensures)
    (ap g.S.Sample.numbers lent.v_plane ∙ c.narrow-red.ensures)
    (numbers_length g.met.S.Sample.numbers_are c.args.rgb.now ∙ c.requires.long) c.convert.ensures.counts
