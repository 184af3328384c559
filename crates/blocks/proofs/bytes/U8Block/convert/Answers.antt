use mathlib.Core.Path.{refl, ◌∙◌}
use Prim.Native.Nat.{ℕ, ◌-◌, ◌*◌, ◌≤◌}
use native.Mathlib.Omega.{arith}
use lib.ListN.{length}
use Rattle.yuv_support.proofs.Rows.{part_length}
use Rattle.numerics.specs.Row.{at}
use Rattle.numerics.proofs.Row.{begun_filled, begun_length}
use Rattle.numerics.proofs.Clips.{pairs_few, pairs_counted}
use Rattle.numerics.proofs.Choice.{some_letters}
use Rattle.blocks.specs.Source.{word_chroma}
use Rattle.blocks.proofs.Columns.{any_row, array_counted}
use Rattle.blocks.proofs.bytes.U8Block.convert.Goals as goal

pub block-requires-clause-fits : goal.block-requires-clause-fits
block-requires-clause-fits c =
    let f = c.requires.fit in
    record {
      letters = f.fits.letters;
      places = omega (arith, f.places);
      luma = omega (arith, f.fits.luma);
      first = omega (arith, begun_length c.blend_tailed.ensures, c.requires.eights);
      third = omega (arith, begun_length c.blend_tailed-2.ensures, c.requires.eights);
      room = omega (arith, c.requires.eights);
    }

pub counted-requires : goal.counted-requires
counted-requires c =
    let a = c.args in
    let m = 8 * a.eights in
    let words = c.block.new.words in
    let fits : m ≤ length words = omega (arith, c.requires.eights) in
    let short : m - a.done ≤ 512 = omega (arith, c.requires.eights) in
    (rw (part_length a.done (m - a.done) words (omega arith)) short, pairs_few a.pixels.k (at a.source.now.y.now) (at c.blend_tailed.new.d) (at c.blend_tailed-2.new.d) words a.done m fits c.block.ensures.counts)

pub returns-clause-row : goal.returns-clause-row
returns-clause-row c =
    let a = c.args in
    let f = c.requires.fit in
    let m = 2 * (8 * a.eights) in
    let P : ℕ → ℕ = word_chroma a.source.now.first in
    let Q : ℕ → ℕ = word_chroma a.source.now.third in
    let fp = begun_filled c.blend_tailed.ensures (omega (arith, c.requires.eights)) in
    let fq = begun_filled c.blend_tailed-2.ensures (omega (arith, c.requires.eights)) in
    any_row a.pixels.k a.pixels.letters m (some_letters f.fits.letters) a.source.now.y.now P Q _ _ fp fq a.row.now f.places c.block.ensures.row

pub returns-clause-counts : goal.returns-clause-counts
returns-clause-counts c =
    let a = c.args in
    let f = c.requires.fit in
    let m = 2 * (8 * a.eights) in
    let words = c.block.new.words in
    let P : ℕ → ℕ = word_chroma a.source.now.first in
    let Q : ℕ → ℕ = word_chroma a.source.now.third in
    let fp = begun_filled c.blend_tailed.ensures (omega (arith, c.requires.eights)) in
    let fq = begun_filled c.blend_tailed-2.ensures (omega (arith, c.requires.eights)) in
    let fits : 8 * a.eights ≤ length words = omega (arith, c.requires.eights) in
    c.counted.ensures
    ∙ pairs_counted a.pixels.k (at a.source.now.y.now) (at c.blend_tailed.new.d) (at c.blend_tailed-2.new.d) words a.done (8 * a.eights) fits c.block.ensures.counts
    ∙ array_counted a.pixels.k a.pixels.letters m (some_letters f.fits.letters) a.source.now.y.now P Q _ _ fp fq (8 * a.eights) a.done refl
