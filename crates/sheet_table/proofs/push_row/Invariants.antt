use Rattle.std.proofs.Common.{◌≡◌, ◌++◌, ◌+◌, ◌*◌, ◌≤◌, length}
use Rattle.sheet_table.specs.Shown.{shown_row}
use Rattle.sheet_table.proofs.push_row.Given as goal

abbrev pub invariant-loop-column : goal.invariant-loop-column
invariant-loop-column g l =
    (l.out.items ≡ l.initial.out.items ++ shown_row l.shape.order l.shape.width (g.S.Sample.numbers l.rgb) l.row l.column)
    × (length l.out.items ≤ length l.initial.out.items + 30 * l.column)
