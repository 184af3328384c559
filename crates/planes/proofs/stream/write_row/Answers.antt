use Rattle.std.proofs.Common.{arith}
use Rattle.sample.proofs.Numbers.{numbers_length}
use Rattle.planes.proofs.StreamRows.{write_none, write_all}
use Rattle.planes.proofs.StreamSamples.{sample_written}
use Rattle.planes.proofs.stream.write_row.Goals as goal

pub loop-i-init : goal.loop-i-init
loop-i-init g c = write_none _ _ (rw (numbers_length g.met.S.Sample.numbers_are c.args.row.now) c.requires)

pub loop-i-preserved : goal.loop-i-preserved
loop-i-preserved g c =
    sample_written g.met.S.Sample.numbers_are _ c.loop-i.invariant c.loop-i-test.true c.index-row-i.is (rw c.SIZE.ensures at c.put_bytes.ensures)

pub returns : goal.returns
returns g c = write_all c.loop-i.invariant (omega (arith, numbers_length g.met.S.Sample.numbers_are c.args.row.now))
