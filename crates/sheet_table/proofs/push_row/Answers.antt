use Rattle.std.proofs.Common.{arith}
use Rattle.sheet_writing.proofs.Write.{appended_none, appended_one}
use Rattle.sheet_table.proofs.push_row.Goals as goal

pub loop-column-init : goal.loop-column-init
loop-column-init g c = (appended_none _ c.args.out.now.items, omega arith)

pub loop-column-preserved : goal.loop-column-preserved
loop-column-preserved g c =
    let p = c.pixel_at.ensures in (
      appended_one _ _ _ c.loop-column.invariant.0 (rw (p.row, p.column, p.red, p.green, p.blue) at c.push_pixel.ensures.text),
      omega arith,
    )
