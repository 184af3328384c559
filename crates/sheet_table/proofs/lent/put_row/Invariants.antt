use Rattle.sheet_writing.proofs.Write.{Joining}
use Rattle.sheet_table.specs.Placed.{shown_pixel}
use Rattle.sheet_table.proofs.lent.put_row.Given as goal

abbrev pub invariant-loop-column : goal.invariant-loop-column
invariant-loop-column g l =
    Joining (shown_pixel (g.S.Sample.numbers l.rgb) l.p l.row) l.p.width l.initial.out l.at l.out l.place l.column
