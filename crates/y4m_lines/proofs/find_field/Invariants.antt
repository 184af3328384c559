use Rattle.std.proofs.Common.{◌≡◌, ◌++◌, length, drop}
use Rattle.std.specs.Option.{option_copied, option_to_list}
use Rattle.y4m_lines.specs.Lines.{fields}
use Rattle.y4m_lines.specs.Header.{named}
use Rattle.y4m_lines.proofs.find_field.Given as goal

abbrev pub invariant-loop-field : goal.invariant-loop-field
invariant-loop-field l =
    (goal.iterator-loop-field).can_next l.field-iterator
    × (goal.iterator-loop-field).is_finite l.field-iterator
    × (named l.letter (fields l.line) ≡ option_to_list (option_copied l.found) ++ named l.letter (drop (length l.yielded) (fields l.line)))
