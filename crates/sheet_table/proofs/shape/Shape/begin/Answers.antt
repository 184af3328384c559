use Rattle.std.proofs.Common.{arith}
use Rattle.sheet_table.proofs.Room.{row_room, pixel_room}
use Rattle.sheet_table.proofs.shape.Shape.begin.Goals as goal

pub overflow_mul-stride : goal.overflow_mul-stride
overflow_mul-stride c = rw c.get_channels_count-channels.ensures (omega (arith, row_room c.args.self.order c.args.self.narrow))

pub overflow_mul-result-2 : goal.overflow_mul-result-2
overflow_mul-result-2 c =
    let p = c.args.self in
    rw c.get_channels_count-channels.ensures
    (omega (arith, pixel_room p.order p.width c.args.row c.args.column p.narrow (omega arith) c.requires.column))
