use Rattle.std.proofs.Common.{◌≡◌, ◌++◌, ◌+◌, ◌*◌, ◌≤◌, length}
use Rattle.sheet_table.specs.Shown.{shown_rows}
use Rattle.sheet_table.proofs.push_rows.Given as goal

abbrev pub invariant-loop-row : goal.invariant-loop-row
invariant-loop-row g l =
    (l.out.items ≡ l.initial.out.items ++ shown_rows l.shape.order l.shape.width (g.S.Sample.numbers l.rgb) l.row)
    × (length l.out.items ≤ length l.initial.out.items + 1920 * l.row)
