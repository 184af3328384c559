use Rattle.kernel.proofs.Widths.{kernel_words}
use Rattle.convert_high16.proofs.Parts.{none_held}
use Rattle.convert_high16.proofs.convert_within.Goals as goal

pub convert_each-requires-clause-ready : goal.convert_each-requires-clause-ready
convert_each-requires-clause-ready g c =
    let r = c.requires in
    let new = c.new.ensures in
    rw c.settings_kernel.ensures
    (kernel_words c.args.s r.ready.weights r.depth, r.ready, r.high, r.wide.0, r.wide.1, none_held _ _ _ _ new.u.0 new.u.1 new.v.0 new.v.1)
