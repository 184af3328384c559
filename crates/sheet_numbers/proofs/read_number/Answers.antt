use Rattle.sheet_numbers.proofs.OneNumber.{no_digit, not_ended, ended}
use Rattle.sheet_numbers.proofs.read_number.Goals as goal

pub returns-then-digits-eq0 : goal.returns-then-digits-eq0
returns-then-digits-eq0 c = let d = c.read_digits-digits.ensures in no_digit _ _ _ d.count d.value c.if-digits-eq0.true

pub returns-then-byte_at-end : goal.returns-then-byte_at-end
returns-then-byte_at-end c =
    let d = c.read_digits-digits.ensures in
    ended _ _ _ d.count d.value c.if-digits-eq0.false c.byte_at.ensures c.if-byte_at-end.true

pub returns : goal.returns
returns c = let d = c.read_digits-digits.ensures in not_ended _ _ _ d.count d.value c.byte_at.ensures c.if-byte_at-end.false
