use mathlib.Core.Path.{◌≡◌}
use Rattle.yuv_support.specs.Picture.{element_of}
use Rattle.kernel.proofs.Loops.{RowsDone, RowsCounted}
use Rattle.convert.proofs.convert_each.Given as goal

abbrev pub invariant-loop-r : goal.invariant-loop-r
invariant-loop-r g l =
    let N = g.S.Sample.numbers in
    let C = g.C.RowConverter in
    let s = C.settings l.initial.converter in
    let f = C.picture l.initial.converter in
    RowsDone (element_of s f) l.stride l.n l.fn.rows.first l.end (N l.initial.rgb) (N l.rgb) l.r
    × RowsCounted s f l.fn.rows.first l.clipped l.r
    × (C.settings l.converter ≡ s)
    × (C.picture l.converter ≡ f)
    × C.is_ready l.converter
