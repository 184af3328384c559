use Rattle.sheet_writing.proofs.Write.{number_most, wrote_then}
use Rattle.sheet_table.specs.Table.{pixel_text}
use native.Mathlib.Omega.{arith}
use Rattle.sheet_table.proofs.lent.put_line.Goals as goal

pub put_number-after_column-requires : goal.put_number-after_column-requires
put_number-after_column-requires c = omega (arith, number_most _ _ c.put_number-after_row.ensures, c.requires)

pub put_number-after_red-requires : goal.put_number-after_red-requires
put_number-after_red-requires c = omega (arith, number_most _ _ c.put_number-after_column.ensures, number_most _ _ c.put_number-after_row.ensures, c.requires)

pub put_number-after_green-requires : goal.put_number-after_green-requires
put_number-after_green-requires c = omega (arith, number_most _ _ c.put_number-after_red.ensures, number_most _ _ c.put_number-after_column.ensures, number_most _ _ c.put_number-after_row.ensures, c.requires)

pub put_number-requires : goal.put_number-requires
put_number-requires c = omega (arith, number_most _ _ c.put_number-after_green.ensures, number_most _ _ c.put_number-after_red.ensures, number_most _ _ c.put_number-after_column.ensures, number_most _ _ c.put_number-after_row.ensures, c.requires)

pub returns : goal.returns
unfolding pixel_text
returns c = wrote_then (wrote_then (wrote_then (wrote_then c.put_number-after_row.ensures c.put_number-after_column.ensures) c.put_number-after_red.ensures) c.put_number-after_green.ensures) c.put_number.ensures
