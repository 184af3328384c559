use native.Mathlib.Omega.{arith}
use Rattle.numerics.proofs.Row.{begun_length}
use Rattle.numerics.proofs.Lowered.{lowered_quick}
use Rattle.blocks.proofs.Columns.{block_fits}
use Rattle.blocks.proofs.WordParts.{any_letters, any_counts, small_parts, low_letters, low_counts}
use Rattle.blocks.proofs.words.letters_of_parts.Goals as goal

pub block-requires-clause-fits : goal.block-requires-clause-fits
block-requires-clause-fits c =
    let a = c.args in
    let f = c.requires.parts_fit in
    let e = c.requires.eights in
    block_fits a.eights f.fits f.places e (omega (arith, begun_length c.blend_tailed.ensures)) (omega (arith, begun_length c.blend_tailed-then-is_small.ensures)) (omega arith)

pub block-requires-clause-kernel : goal.block-requires-clause-kernel
block-requires-clause-kernel c =
    let a = c.args in
    let e = c.requires.eights in
    let m = c.is_small.ensures c.if-is_small.true in (
      rw c.lower.ensures (lowered_quick c.requires.kernel),
      small_parts c.requires.kernel a.pixels.letters a.eights a.source.now c.requires.parts_fit c.blend_tailed.ensures c.blend_tailed-then-is_small.ensures
          (omega (arith, e)) (omega (arith, e)) m.0 m.1 m.2,
    )

pub returns-then-is_small-clause-row : goal.returns-then-is_small-clause-row
returns-then-is_small-clause-row c =
    let a = c.args in
    let e = c.requires.eights in
    let m = c.is_small.ensures c.if-is_small.true in
    low_letters c.requires.kernel a.pixels.letters a.eights a.source.now c.requires.parts_fit c.blend_tailed.ensures c.blend_tailed-then-is_small.ensures
    (omega (arith, e)) (omega (arith, e)) m.0 m.1 m.2 c.lower.ensures c.block.ensures.row

pub returns-then-is_small-clause-counts : goal.returns-then-is_small-clause-counts
returns-then-is_small-clause-counts c =
    let a = c.args in
    let e = c.requires.eights in
    let m = c.is_small.ensures c.if-is_small.true in
    low_counts c.requires.kernel a.pixels.letters a.eights a.source.now c.requires.parts_fit c.blend_tailed.ensures c.blend_tailed-then-is_small.ensures
    (omega (arith, e)) (omega (arith, e)) m.0 m.1 m.2 c.lower.ensures c.block.ensures.counts

pub returns-else-is_small-clause-row : goal.returns-else-is_small-clause-row
returns-else-is_small-clause-row c =
    let a = c.args in
    let e = c.requires.eights in
    any_letters c.requires.kernel a.pixels.letters a.eights a.source.now c.requires.parts_fit c.any_tailed.ensures c.any_tailed-else-is_small.ensures
    (omega (arith, e)) (omega (arith, e)) c.block-else-is_small.ensures.row

pub returns-else-is_small-clause-counts : goal.returns-else-is_small-clause-counts
returns-else-is_small-clause-counts c =
    let a = c.args in
    let e = c.requires.eights in
    any_counts c.requires.kernel a.pixels.letters a.eights a.source.now c.requires.parts_fit c.any_tailed.ensures c.any_tailed-else-is_small.ensures
    (omega (arith, e)) (omega (arith, e)) c.block-else-is_small.ensures.counts
