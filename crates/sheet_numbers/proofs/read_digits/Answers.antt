use Rattle.std.proofs.Common.{sym, ◌∙◌}
use Rattle.sheet_numbers.proofs.OneNumber.{passed_none, passed_one, passed_stop, passed_five}
use Rattle.sheet_numbers.proofs.read_digits.Goals as goal

pub loop-place-init : goal.loop-place-init
loop-place-init c = passed_none

pub returns-then-not-is_ascii_digit-clause-count : goal.returns-then-not-is_ascii_digit-clause-count
returns-then-not-is_ascii_digit-clause-count c =
    (passed_stop c.loop-place.invariant c.loop-place-test.true c.byte_at-byte.ensures (sym c.is_ascii_digit.ensures.value ∙ c.if-not-is_ascii_digit.true)).0

pub returns-then-not-is_ascii_digit-clause-value : goal.returns-then-not-is_ascii_digit-clause-value
returns-then-not-is_ascii_digit-clause-value c =
    (passed_stop c.loop-place.invariant c.loop-place-test.true c.byte_at-byte.ensures (sym c.is_ascii_digit.ensures.value ∙ c.if-not-is_ascii_digit.true)).1

pub loop-place-preserved : goal.loop-place-preserved
loop-place-preserved c =
    passed_one c.loop-place.invariant c.loop-place-test.true c.byte_at-byte.ensures (sym c.is_ascii_digit.ensures.value ∙ c.if-not-is_ascii_digit.false)

pub returns-clause-count : goal.returns-clause-count
returns-clause-count c = (passed_five c.loop-place.invariant c.loop-place-test.false).0

pub returns-clause-value : goal.returns-clause-value
returns-clause-value c = (passed_five c.loop-place.invariant c.loop-place-test.false).1
