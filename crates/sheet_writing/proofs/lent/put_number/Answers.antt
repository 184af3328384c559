use Rattle.sheet_writing.proofs.Write.{digit_most, wrote_then}
use Rattle.sheet_writing.specs.Text.{decimal_text, number_text}
use native.Mathlib.Omega.{arith}
use Rattle.sheet_writing.proofs.lent.put_number.Goals as goal

pub put_leading_digit-b-requires : goal.put_leading_digit-b-requires
put_leading_digit-b-requires c = omega (arith, digit_most _ _ c.put_leading_digit-a.ensures, c.requires)

pub put_leading_digit-c-requires : goal.put_leading_digit-c-requires
put_leading_digit-c-requires c = omega (arith, digit_most _ _ c.put_leading_digit-b.ensures, digit_most _ _ c.put_leading_digit-a.ensures, c.requires)

pub put_leading_digit-d-requires : goal.put_leading_digit-d-requires
put_leading_digit-d-requires c = omega (arith, digit_most _ _ c.put_leading_digit-c.ensures, digit_most _ _ c.put_leading_digit-b.ensures, digit_most _ _ c.put_leading_digit-a.ensures, c.requires)

pub put_byte-e-requires : goal.put_byte-e-requires
put_byte-e-requires c = omega (arith, digit_most _ _ c.put_leading_digit-d.ensures, digit_most _ _ c.put_leading_digit-c.ensures, digit_most _ _ c.put_leading_digit-b.ensures, digit_most _ _ c.put_leading_digit-a.ensures, c.requires)

pub put_byte-requires : goal.put_byte-requires
put_byte-requires c = omega (arith, c.put_byte-e.ensures.place, digit_most _ _ c.put_leading_digit-d.ensures, digit_most _ _ c.put_leading_digit-c.ensures, digit_most _ _ c.put_leading_digit-b.ensures, digit_most _ _ c.put_leading_digit-a.ensures, c.requires)

pub returns : goal.returns
unfolding decimal_text number_text
returns c = wrote_then (wrote_then (wrote_then (wrote_then (wrote_then c.put_leading_digit-a.ensures c.put_leading_digit-b.ensures) c.put_leading_digit-c.ensures) c.put_leading_digit-d.ensures) c.put_byte-e.ensures) c.put_byte.ensures
