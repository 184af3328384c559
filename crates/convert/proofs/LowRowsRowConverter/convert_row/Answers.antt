use mathlib.Core.Path.{◌∙◌}
use Rattle.blocks.proofs.Room.{scratch_fits}
use Rattle.convert.proofs.Parts.{RowsInside, rows_inside, RowLent, row_lent}
use Rattle.convert.proofs.LowRowsRowConverter.convert_row.Given.{Over}
use Rattle.convert.proofs.LowRowsRowConverter.convert_row.Goals.{After-chroma_rows-p, After-row-vf}
use Rattle.convert.proofs.LowRowsRowConverter.convert_row.Goals as goal

inside : (g : Over) (c : After-chroma_rows-p g) → RowsInside c.args.self.now.image.now c.chroma_rows-p.result
inside g c =
    let me = c.args.self.now in
    let is = rw c.size.ensures at c.chroma_rows-p.ensures in
    rows_inside g.met.S.Sample.numbers_are me.s me.image.now c.requires.ready.1 c.args.r c.requires.row_exists is

lent : (g : Over) (c : After-row-vf g) → let me = c.args.self.now in
    RowLent g.S.Sample.numbers me.s me.image.now me.k c.args.r c.row-y.result.now c.row-un.result.now c.row-uf.result.now c.row-vn.result.now c.row-vf.result.now
lent g c =
    let me = c.args.self.now in
    let is = rw c.size.ensures at c.chroma_rows-p.ensures in
    let most = g.met.S.Convert.most_is me.s c.requires.ready.0 in
    row_lent g.met.S.Sample.numbers_are me.s me.image.now c.requires.ready.1 c.args.r c.requires.row_exists is c.requires.ready.2
    c.row-y.ensures c.row-un.ensures c.row-uf.ensures c.row-vn.ensures c.row-vf.ensures most c.samples_fit.ensures c.samples_fit-2.ensures

pub row-un-requires : goal.row-un-requires
row-un-requires g c = (inside g (goal.at.row-un-requires g c).After-chroma_rows-p).u_near

pub row-uf-requires : goal.row-uf-requires
row-uf-requires g c = (inside g (goal.at.row-uf-requires g c).After-chroma_rows-p).u_other

pub row-vn-requires : goal.row-vn-requires
row-vn-requires g c = (inside g (goal.at.row-vn-requires g c).After-chroma_rows-p).v_near

pub row-vf-requires : goal.row-vf-requires
row-vf-requires g c = (inside g (goal.at.row-vf-requires g c).After-chroma_rows-p).v_other

pub interpolate_row-requires : goal.interpolate_row-requires
interpolate_row-requires g c =
    let given = c.requires.ready in
    let fits = (lent g (goal.at.interpolate_row-requires g c).After-row-vf).fits _ c.requires.places in
    (scratch_fits _ _ g.met.S.Sample.aligned g.met.S.Sample.small, (rw given.1.kernel (g.met.S.Convert.kernel_is c.args.self.now.s given.1.weights given.0), fits))

pub returns-clause-row : goal.returns-clause-row
returns-clause-row g c = c.interpolate_row.ensures.row ∙ (lent g (goal.at.returns-clause-row g c).After-row-vf).row _ c.requires.places

pub returns-clause-counts : goal.returns-clause-counts
returns-clause-counts g c = c.interpolate_row.ensures.counts ∙ (lent g (goal.at.returns-clause-counts g c).After-row-vf).counts

pub interpolate_row_alone-requires : goal.interpolate_row_alone-requires
interpolate_row_alone-requires g c =
    let given = c.requires.ready in
    let fits = (lent g (goal.at.interpolate_row_alone-requires g c).After-row-vf).fits _ c.requires.places in
    record { kernel = rw given.1.kernel (g.met.S.Convert.kernel_is c.args.self.now.s given.1.weights given.0); fits = fits }

pub returns-then-width-le16-clause-row : goal.returns-then-width-le16-clause-row
returns-then-width-le16-clause-row g c = c.interpolate_row_alone.ensures.row ∙ (lent g (goal.at.returns-then-width-le16-clause-row g c).After-row-vf).row _ c.requires.places

pub returns-then-width-le16-clause-counts : goal.returns-then-width-le16-clause-counts
returns-then-width-le16-clause-counts g c = c.interpolate_row_alone.ensures.counts ∙ (lent g (goal.at.returns-then-width-le16-clause-counts g c).After-row-vf).counts
