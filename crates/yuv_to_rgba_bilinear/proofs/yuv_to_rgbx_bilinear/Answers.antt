use Rattle.yuv_to_rgba_bilinear.proofs.Lent.{whole_faithful}
use Rattle.yuv_to_rgba_bilinear.proofs.yuv_to_rgbx_bilinear.Goals as goal

pub returns-clause-faithful : goal.returns-clause-faithful
returns-clause-faithful g c =
    let a = c.args in
    whole_faithful g.S.Sample.numbers g.S.Depths.known a.codes a.image.now a.rgb_stride a.rgb.now g.S.Element.asked c.in_ok-band.ensures.faithful
