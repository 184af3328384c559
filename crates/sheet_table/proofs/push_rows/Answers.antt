use Rattle.std.proofs.Common.{arith}
use Rattle.sheet_writing.proofs.Write.{appended_none, appended_one}
use Rattle.sheet_table.proofs.push_rows.Goals as goal

pub loop-row-init : goal.loop-row-init
loop-row-init g c = (appended_none _ c.args.out.now.items, omega arith)

pub loop-row-preserved : goal.loop-row-preserved
loop-row-preserved g c = (appended_one _ _ _ c.loop-row.invariant.0 c.push_row.ensures.text, omega arith)
