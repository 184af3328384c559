use Rattle.sheet_writing.proofs.Write.{Joining}
use Rattle.sheet_table.specs.Placed.{shown_row}
use Rattle.sheet_table.proofs.lent.put_rows.Given as goal

abbrev pub invariant-loop-row : goal.invariant-loop-row
invariant-loop-row g l =
    Joining (λ row. shown_row (g.S.Sample.numbers l.rgb) l.p row l.p.width) l.p.height l.initial.out l.at l.out l.place l.row
