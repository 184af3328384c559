use Rattle.std.proofs.Common.{append_assoc}
use Rattle.sheet_table.specs.Table.{pixel_text}
use Rattle.sheet_table.proofs.push_pixel.Goals as goal

pub returns-clause-text : goal.returns-clause-text
unfolding pixel_text
returns-clause-text c =
    rw (c.push_field-5.ensures.text, c.push_field-4.ensures.text, c.push_field-3.ensures.text, c.push_field-2.ensures.text, c.push_field.ensures.text)
    (simp append_assoc)
