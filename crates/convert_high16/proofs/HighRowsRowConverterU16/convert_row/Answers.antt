use native.Mathlib.Omega.{arith}
use Rattle.std.proofs.Common.{rules}
use Rattle.yuv_support.proofs.Packing.{depth_room}
use Rattle.kernel.proofs.Frames.{columns_are, parts_in, words_depth}
use Rattle.convert_high16.proofs.Parts.{neighbours, high_row, high_counts}
use Rattle.convert_high16.proofs.HighRowsRowConverterU16.convert_row.Goals as goal

pub hold_chroma-requires : goal.hold_chroma-requires
hold_chroma-requires g c =
    let given = c.requires.ready in
    let ready = given.1 in
    let r = c.args.r in
    let below = c.requires.row_exists in
    let is = rw c.size.ensures at c.chroma_rows-p.ensures in
    let depth = depth_room c.args.self.now.s.depth (words_depth ready given.0) in
    let inside = parts_in ready r below is in (
      search rules,
      (
        (omega (arith, depth.0, depth.1), omega (arith, columns_are ready r below is, given.3, given.4), neighbours ready r below is),
        ((inside.u_near, inside.u_other), (inside.v_near, inside.v_other)),
      ),
    )

pub unpack_luma-requires : goal.unpack_luma-requires
unpack_luma-requires g c =
    let given = c.requires.ready in
    let depth = depth_room c.args.self.now.s.depth (words_depth given.1 given.0) in
    let is = rw c.size.ensures at c.chroma_rows-p.ensures in
    (search rules, ((omega (arith, depth.0, depth.1), given.3), (parts_in given.1 c.args.r c.requires.row_exists is).y))

pub returns-clause-row : goal.returns-clause-row
returns-clause-row g c =
    let given = c.requires.ready in
    let samples = c.samples-samples.ensures in
    let is = rw c.size.ensures at c.chroma_rows-p.ensures in
    high_row given.1 c.args.r c.requires.row_exists is given.0 given.2 _ given.5 c.hold_chroma.ensures.u c.hold_chroma.ensures.v c.unpack_luma.ensures.chroma c.unpack_luma.ensures.luma samples.y samples.u samples.v c.samples_fit.ensures c.samples_fit-2.ensures c.args.row.now c.requires.places c.interpolate_row.ensures.row

pub returns-clause-counts : goal.returns-clause-counts
returns-clause-counts g c =
    let given = c.requires.ready in
    let samples = c.samples-samples.ensures in
    let is = rw c.size.ensures at c.chroma_rows-p.ensures in
    high_counts given.1 c.args.r c.requires.row_exists is given.0 given.2 _ given.5 c.hold_chroma.ensures.u c.hold_chroma.ensures.v c.unpack_luma.ensures.chroma c.unpack_luma.ensures.luma samples.y samples.u samples.v c.samples_fit.ensures c.samples_fit-2.ensures c.interpolate_row.ensures.counts

pub returns-then-width-le16-clause-row : goal.returns-then-width-le16-clause-row
returns-then-width-le16-clause-row g c =
    let given = c.requires.ready in
    let samples = c.samples-samples.ensures in
    let is = rw c.size.ensures at c.chroma_rows-p.ensures in
    high_row given.1 c.args.r c.requires.row_exists is given.0 given.2 _ given.5 c.hold_chroma.ensures.u c.hold_chroma.ensures.v c.unpack_luma.ensures.chroma c.unpack_luma.ensures.luma samples.y samples.u samples.v c.samples_fit.ensures c.samples_fit-2.ensures c.args.row.now c.requires.places c.interpolate_row_alone.ensures.row

pub returns-then-width-le16-clause-counts : goal.returns-then-width-le16-clause-counts
returns-then-width-le16-clause-counts g c =
    let given = c.requires.ready in
    let samples = c.samples-samples.ensures in
    let is = rw c.size.ensures at c.chroma_rows-p.ensures in
    high_counts given.1 c.args.r c.requires.row_exists is given.0 given.2 _ given.5 c.hold_chroma.ensures.u c.hold_chroma.ensures.v c.unpack_luma.ensures.chroma c.unpack_luma.ensures.luma samples.y samples.u samples.v c.samples_fit.ensures c.samples_fit-2.ensures c.interpolate_row_alone.ensures.counts
