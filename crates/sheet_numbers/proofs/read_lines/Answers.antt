use Rattle.std.proofs.lemmas.List.{set-get_or}
use Rattle.sheet_numbers.proofs.ManyNumbers.{reading_none, reading_one, reading_missed, reading_above, reading_done}
use Rattle.sheet_numbers.proofs.read_lines.Goals as goal

pub loop-i-init : goal.loop-i-init
loop-i-init c = reading_none c.requires.place

pub returns-in_err-number : goal.returns-in_err-number
returns-in_err-number c =
    rw (c.from_residual.ensures, set-get_or c.loop-i.slot-items c.loop-i.i 0)
    (reading_missed _ c.requires.room c.loop-i.invariant c.loop-i-test.true c.ending_of.ensures c.read_number.ensures c.in_err-number.was)

pub returns-then-lines-number : goal.returns-then-lines-number
returns-then-lines-number c =
    rw (set-get_or c.loop-i.slot-items c.loop-i.i 0)
    (reading_above _ c.requires.room c.loop-i.invariant c.loop-i-test.true c.ending_of.ensures c.read_number.ensures c.in_ok-number.was c.if-lines-number.true)

pub loop-i-preserved : goal.loop-i-preserved
loop-i-preserved c =
    reading_one _ c.requires.room c.loop-i.invariant c.loop-i-test.true c.ending_of.ensures c.read_number.ensures c.in_ok-number.was c.if-lines-number.false

pub returns : goal.returns
returns c = reading_done _ c.requires.room c.loop-i.invariant c.loop-i-test.false
