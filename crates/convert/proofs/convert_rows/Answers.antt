use Rattle.blocks.proofs.Room.{scratch_fits}
use Rattle.convert.proofs.Room.{rows_fit}
use Rattle.convert.proofs.convert_rows.Goals as goal

pub new-requires : goal.new-requires
new-requires g c = scratch_fits _ _ g.met.S.Sample.aligned g.met.S.Sample.small

pub convert_each-requires-room-C-RowConverter : goal.convert_each-requires-room-C-RowConverter
convert_each-requires-room-C-RowConverter g c κs within = rows_fit _ _ g.met.S.Sample.aligned g.met.S.Sample.small
