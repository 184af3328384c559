use Rattle.std.proofs.Common.{arith}
use Rattle.sample.proofs.Numbers.{numbers_length}
use Rattle.planes.proofs.StreamRows.{read_all}
use Rattle.planes.proofs.StreamSamples.{sample_read}
use Rattle.planes.proofs.stream.read_row.Goals as goal

pub loop-i-preserved : goal.loop-i-preserved
loop-i-preserved g c =
    sample_read g.met.S.Sample.numbers_are _ c.loop-i.invariant (omega arith) (rw c.SIZE.ensures at c.from_bytes.ensures)

pub returns : goal.returns
returns g c = read_all c.loop-i.invariant (omega (arith, numbers_length g.met.S.Sample.numbers_are c.loop-i.row))
