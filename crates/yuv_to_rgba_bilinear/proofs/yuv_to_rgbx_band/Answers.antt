use mathlib.Core.Path.{ap}
use Prim.Native.Nat.{ℕ, ◌+◌, ◌≤◌}
use native.Mathlib.Omega.{arith}
use Rattle.std.proofs.Common.{◌∙◌, T, rules}
use Rattle.yuv_support.specs.Settings.{among}
use Rattle.yuv_support.specs.Picture.{band_rows}
use Rattle.yuv_support.specs.Distance.{WithinDepth}
use Rattle.yuv_support.specs.Questions.{decoded}
use Rattle.kernel.specs.Lent.{frame}
use Rattle.yuv_to_rgba_bilinear.proofs.Lent.{band_told, band_gives, band_finishes, band_refused}
use Rattle.yuv_to_rgba_bilinear.proofs.yuv_to_rgbx_band.Goals as goal

pub band_rows-requires : goal.band_rows-requires
band_rows-requires g c =
    let a = c.args in
    (band_gives g.met.S.Sample.numbers_are g.S.Depths.known a.codes a.image.now a.rgb_stride a.rgb.now a.first g.met.S.Element.among_depths c.in_ok-s.ensures.answer).first_row.most

pub overflow_add-next : goal.overflow_add-next
overflow_add-next g c =
    let a = c.args in
    let given = band_gives g.met.S.Sample.numbers_are g.S.Depths.known a.codes a.image.now a.rgb_stride a.rgb.now a.first g.met.S.Element.among_depths c.in_ok-s.ensures.answer in
    let exist : a.first + band_rows a.image.now.height a.first a.limit ≤ a.image.now.height = (given.fit a.limit).exist in
    let most : a.image.now.height ≤ 16384 = given.ready.height_most in
    rw c.band_rows.ensures (omega (arith, exist, most))

pub convert_rows_of-clipped-requires : goal.convert_rows_of-clipped-requires
convert_rows_of-clipped-requires g c =
    let a = c.args in
    let given = band_gives g.met.S.Sample.numbers_are g.S.Depths.known a.codes a.image.now a.rgb_stride a.rgb.now a.first g.met.S.Element.among_depths c.in_ok-s.ensures.answer in
    rw (c.in_ok-s.ensures.settings, c.band_rows.ensures) record { depth = given.depth; ready = given.ready; packing = given.packing; fit = given.fit a.limit }

pub returns : goal.returns
returns g c =
    let a = c.args in
    let within = g.met.S.Element.within (decoded a.codes) (frame g.S.Sample.numbers a.image.now) in
    let enough : T (among a.codes.depth g.S.Depths.known) → g.S.Element.asked (decoded a.codes) (frame g.S.Sample.numbers a.image.now) → WithinDepth (decoded a.codes) (frame g.S.Sample.numbers a.image.now) = λ d asked. within d c.samples_fit.ensures c.samples_fit-2.ensures c.samples_fit-3.ensures asked in
    let told = band_told g.met.S.Sample.numbers_are g.S.Depths.known a.codes a.image.now a.rgb_stride a.rgb.now a.first in
    let done = band_finishes g.met.S.Sample.numbers_are g.S.Depths.known a.codes a.image.now a.rgb_stride a.rgb.now a.first g.met.S.Element.among_depths c.in_ok-s.ensures.answer g.S.Element.asked enough a.limit in
    let converted = rw (c.in_ok-s.ensures.settings, c.band_rows.ensures) at c.convert_rows_of-clipped.ensures in
    record {
      answer = c.in_ok-s.ensures.answer ∙ told;
      rows = c.band_rows.ensures ∙ done.rows;
      next = ap (λ (n : ℕ). a.first + n) (c.band_rows.ensures ∙ done.rows);
      counts = converted.counts ∙ done.counts;
      destination = converted.destination ∙ done.destination;
      faithful = rw (converted.destination ∙ done.destination) done.faithful;
    }

pub returns-in_err-s : goal.returns-in_err-s
returns-in_err-s g c =
    let a = c.args in
    let refused = band_refused g.met.S.Sample.numbers_are g.S.Depths.known a.codes a.image.now a.rgb_stride a.rgb.now a.first _ c.in_err-s.ensures.answer a.limit in
    record {
      answer = search (rules, refused.answer);
      rows = search (rules, refused.rows);
      next = search (rules, refused.rows);
      counts = search (rules, refused.counts);
      destination = refused.destination;
      faithful = refused.faithful g.S.Element.asked;
    }
