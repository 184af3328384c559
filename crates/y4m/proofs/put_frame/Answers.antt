use Rattle.std.proofs.Common.{rules, ◌≡◌, sym, length, ◌∙◌}
use Rattle.yuv_support.specs.Settings.{sampling_of}
use Rattle.yuv_error.specs.Asked.{asked, giving}
use Rattle.images.specs.Lent.{geometry, lengths_with}
use Rattle.y4m.specs.Writing.{frame_asked}
use Rattle.y4m.proofs.Asked.{given_err, given_ok, frame_fits}
use Rattle.y4m.proofs.put_frame.Given.{Over}
use Rattle.y4m.proofs.put_frame.Goals.{After-check_frame}
use Rattle.y4m.proofs.put_frame.Goals as goal

-- what the questions answer of the image that is written
answer : (g : Over) (c : After-check_frame g)
    → c.check_frame.result
    ≡ giving (asked (frame_asked g.S.Depths.known g.S.Sample.SIZE c.args.sampling c.args.depth
    (geometry c.args.image.now) (lengths_with c.args.image.now 0) (length c.args.out.now)))
    (sampling_of c.args.sampling)
answer g c = rw (c.geometry.ensures, c.lengths.ensures) at c.check_frame.ensures

pub returns-in_err-sampling-clause-count : goal.returns-in_err-sampling-clause-count
returns-in_err-sampling-clause-count g c =
    let is = answer g (goal.at.returns-in_err-sampling-clause-count g c).After-check_frame in
    let refused = given_err _ (sampling_of c.args.sampling) (sym is ∙ c.in_err-sampling.was) in
    rw refused (search rules)

pub put_planes-requires : goal.put_planes-requires
put_planes-requires g c =
    let is = answer g (goal.at.put_planes-requires g c).After-check_frame in
    let given = given_ok _ (sym is ∙ c.in_ok-sampling.was) in
    rw given.1
    (frame_fits _ _ c.args.sampling c.args.depth _ _ _ g.met.S.Sample.depths_are given.0)

pub returns-clause-count : goal.returns-clause-count
returns-clause-count g c =
    let is = answer g (goal.at.returns-clause-count g c).After-check_frame in
    let given = given_ok _ (sym is ∙ c.in_ok-sampling.was) in
    rw (c.put_planes.ensures.count, given.1, given.0)
