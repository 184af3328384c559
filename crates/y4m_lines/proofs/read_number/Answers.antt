use Rattle.std.proofs.Common.{◌∙◌, sym, refl}
use borrow.Author.Tests.{eqb-true, eqb-false}
use Rattle.y4m_lines.proofs.Numbers.{digits_none, digits_one, digits_missed, digits_all, no_digits}
use Rattle.y4m_lines.proofs.read_number.Goals as goal

pub returns-then-is_empty : goal.returns-then-is_empty
returns-then-is_empty c = no_digits _ (eqb-true _ 0 (sym c.is_empty.ensures ∙ c.if-is_empty.true))

pub loop-byte-init : goal.loop-byte-init
loop-byte-init c = digits_none _

pub returns-then-not-is_ascii_digit : goal.returns-then-not-is_ascii_digit
returns-then-not-is_ascii_digit c =
    digits_missed _ c.loop-byte-test.true refl (sym c.is_ascii_digit.ensures.value ∙ c.if-not-is_ascii_digit.true)

pub loop-byte-preserved : goal.loop-byte-preserved
loop-byte-preserved c =
    digits_one c.loop-byte.invariant c.loop-byte-test.true refl (sym c.is_ascii_digit.ensures.value ∙ c.if-not-is_ascii_digit.false)
    c.cap-value.ensures

pub returns : goal.returns
returns c = digits_all c.loop-byte.invariant c.loop-byte-test.false (eqb-false _ 0 (sym c.is_empty.ensures ∙ c.if-is_empty.false))
