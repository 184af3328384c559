use Rattle.std.proofs.Common.{arith, rules}
use Rattle.sheet_writing.proofs.Write.{joining_none, joining_one, joining_room}
use Rattle.sheet_table.proofs.Placed.{pixel_text_length}
use Rattle.sheet_table.proofs.lent.put_row.Goals as goal

pub loop-column-init : goal.loop-column-init
loop-column-init g c = joining_none

pub put_pixel-place-requires : goal.put_pixel-place-requires
put_pixel-place-requires g c =
    let taken = c.loop-column-test.true in
    let room = joining_room 30 c.loop-column.invariant taken (λ column. pixel_text_length _ column _ _ _) in
    (search rules, (omega (arith, c.requires.room), (c.requires.small, (c.requires.row, taken))))

pub loop-column-preserved : goal.loop-column-preserved
loop-column-preserved g c = joining_one c.loop-column.invariant c.loop-column-test.true c.put_pixel-place.ensures
