use Rattle.std.proofs.Common.{arith, rules}
use Rattle.sheet_writing.proofs.Write.{joining_none, joining_one, joining_room}
use Rattle.sheet_table.proofs.Placed.{row_length}
use Rattle.sheet_table.proofs.lent.put_rows.Goals as goal

pub loop-row-init : goal.loop-row-init
loop-row-init g c = joining_none

pub put_row-place-requires : goal.put_row-place-requires
put_row-place-requires g c =
    let taken = c.loop-row-test.true in
    let room = joining_room 1920 c.loop-row.invariant taken (λ row. row_length _ row c.requires.small) in
    (search rules, (omega (arith, c.requires.room), (c.requires.small, taken)))

pub loop-row-preserved : goal.loop-row-preserved
loop-row-preserved g c = joining_one c.loop-row.invariant c.loop-row-test.true c.put_row-place.ensures
