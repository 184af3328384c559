use Rattle.std.proofs.Common.{ap, length, ◌∙◌}
use Rattle.yuv_support.specs.Settings.{sampling_of}
use Rattle.images.specs.Lent.{geometry, lengths_with}
use Rattle.y4m.specs.Writing.{frame_text, frame_length, frame_written, after_frame}
use Rattle.y4m.specs.Inner.{written_by, output_by}
use Rattle.y4m.proofs.Asked.{written_result, output_result, frame_answered}
use Rattle.y4m.proofs.write_frame.Goals as goal

pub returns-clause-answer : goal.returns-clause-answer
unfolding frame_written
returns-clause-answer g c =
    let a = c.args in
    let i = a.image.now in
    let n = frame_length g.S.Sample.SIZE (sampling_of a.sampling) (geometry i) in
    c.told_written.ensures
    ∙ ap written_by c.put_frame.ensures.count
    ∙ written_result _ n _
    (frame_answered g.S.Depths.known g.S.Sample.SIZE a.sampling a.depth (geometry i) (lengths_with i 0) (length a.out.now) n g.met.S.Sample.depths_are)

pub returns-clause-output : goal.returns-clause-output
unfolding after_frame
returns-clause-output g c =
    let a = c.args in
    let i = a.image.now in
    let numbers = g.S.Sample.numbers in
    let n = frame_length g.S.Sample.SIZE (sampling_of a.sampling) (geometry i) in
    let text = frame_text g.S.Sample.SIZE (sampling_of a.sampling) (geometry i) (numbers i.y_plane.now) (numbers i.u_plane.now) (numbers i.v_plane.now) in
    c.put_frame.ensures.output
    ∙ ap (λ r. output_by r text a.out.now) c.put_frame.ensures.count
    ∙ output_result _ n _
    (frame_answered g.S.Depths.known g.S.Sample.SIZE a.sampling a.depth (geometry i) (lengths_with i 0) (length a.out.now) n g.met.S.Sample.depths_are) text a.out.now
