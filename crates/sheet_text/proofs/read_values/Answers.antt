use mathlib.Core.Path.{sym, ap, ◌∙◌}
use lib.Dec.{lit≤}
use Rattle.std.proofs.Common.{rules}
use Rattle.std.specs.Result.{result_ok}
use Rattle.sheet_numbers.proofs.Lined.{lines_malformed}
use Rattle.sheet_text.specs.Sheet.{has_values}
use Rattle.sheet_text.proofs.Answers.{names_asked, numbers_lined, values_read, names_none, values_none, values_some}
use Rattle.sheet_text.proofs.read_values.Goals as goal

pub returns-then-not-starts_with-clause-answer : goal.returns-then-not-starts_with-clause-answer
returns-then-not-starts_with-clause-answer c =
    names_none c.args.s.now
    (names_asked c.args.s.now c.starts_with.ensures.value c.if-not-starts_with.true)

pub returns-in_err-at-clause-answer : goal.returns-in_err-at-clause-answer
unfolding has_values
returns-in_err-at-clause-answer c =
    let named = names_asked c.args.s.now c.starts_with.ensures.value c.if-not-starts_with.false in
    let missed = c.ok_or.ensures.ok_part ∙ ap result_ok c.in_err-at.was in
    let e = values_none c.args.s.now named (lines_malformed c.args.s.now 47 7 99999 7 c.read_lines.ensures.answer missed) in
    let value = rw missed at c.ok_or.ensures.value in
    let why = sym value ∙ c.in_err-at.was in
    search rules

pub returns-clause-answer : goal.returns-clause-answer
unfolding has_values
returns-clause-answer c =
    let named = names_asked c.args.s.now c.starts_with.ensures.value c.if-not-starts_with.false in
    let l =
    numbers_lined named (lit≤ tt) c.read_lines.ensures c.ok_or.ensures.ok_part c.in_ok-at.was in
    values_some c.args.s.now named l.formed (c.from.ensures ∙ values_read l) l.end

pub returns-clause-within : goal.returns-clause-within
returns-clause-within c =
    let named = names_asked c.args.s.now c.starts_with.ensures.value c.if-not-starts_with.false in
    (numbers_lined named (lit≤ tt) c.read_lines.ensures c.ok_or.ensures.ok_part
    c.in_ok-at.was).within
