use Rattle.sheet_writing.proofs.Write.{number_most, wrote_then}
use Rattle.sheet_table.specs.Table.{clipped_text}
use native.Mathlib.Omega.{arith}
use Rattle.sheet_table.proofs.lent.put_clipped.Goals as goal

pub put_number-requires : goal.put_number-requires
put_number-requires c = omega (arith, number_most _ _ c.put_number-after_below.ensures, c.put_bytes-after_word.ensures.place, c.requires)

pub returns : goal.returns
unfolding clipped_text
returns c = wrote_then (wrote_then c.put_bytes-after_word.ensures c.put_number-after_below.ensures) c.put_number.ensures
