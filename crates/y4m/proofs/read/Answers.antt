use Rattle.std.proofs.Common.{◌∙◌}
use Rattle.y4m.proofs.Reading.{flattened, planes_fit, told_read, y_read, u_read, v_read}
use Rattle.y4m.proofs.read.Goals as goal

pub read_planes-requires : goal.read_planes-requires
read_planes-requires g c = planes_fit _ _ _ _ _ (flattened _ _ _ _ _ c.judge-judged.ensures.frame c.ok.ensures.value c.flatten.ensures c.in-Some.is)

pub returns : goal.returns
returns g c =
    let some = flattened _ _ _ _ _ c.judge-judged.ensures.frame c.ok.ensures.value c.flatten.ensures c.in-Some.is in
    record {
      answer = c.framed-2.ensures ∙ rw (c.told_of-told.ensures, c.judge-judged.ensures.header, c.judge-judged.ensures.frame) (told_read _ _ _ _ _ some);
      y_plane = c.read_planes.ensures.y_plane ∙ y_read _ _ _ _ _ some _;
      u_plane = c.read_planes.ensures.u_plane ∙ u_read _ _ _ _ _ some _;
      v_plane = c.read_planes.ensures.v_plane ∙ v_read _ _ _ _ _ some _;
    }
