use mathlib.Core.Path.{◌≡◌, sym, ap, ◌∙◌}
use Rattle.std.proofs.Common.{rules}
use Rattle.std.specs.Prelude.{is_some}
use Rattle.std.specs.Result.{result_ok}
use Rattle.sheet_text.specs.Sheet.{sheet_of}
use Rattle.sheet_text.specs.Answer.{rest_text}
use Rattle.sheet_text.proofs.Answers.{started, rest_left, not_started, settings_refused, not_small, planes_missed, planes_table}
use Rattle.sheet_text.proofs.read_sheet.Goals.{In_ok-settings}
use Rattle.sheet_text.proofs.read_sheet.Goals as goal

left : (c : In_ok-settings) → sheet_of c.args.s.now ≡ rest_text c.args.s.now c.in_ok-start.start.values
left c = rest_left c.args.s.now (sym c.read_values.ensures.answer ∙ c.in_ok-start.was) (sym c.settings.ensures ∙ c.in_ok-settings.was)

pub returns-in_err-start : goal.returns-in_err-start
returns-in_err-start c = let e = not_started c.args.s.now (sym c.read_values.ensures.answer ∙ c.in_err-start.was) in search rules

pub returns-in_err-settings : goal.returns-in_err-settings
returns-in_err-settings c =
    let first = started c.args.s.now (sym c.read_values.ensures.answer ∙ c.in_ok-start.was) in
    let e = settings_refused c.args.s.now c.in_ok-start.start.values (sym c.settings.ensures ∙ c.in_err-settings.was) ∙ sym first.0 in
    search rules

pub returns-then-not-is_small : goal.returns-then-not-is_small
returns-then-not-is_small c =
    sym (left (goal.at.returns-then-not-is_small c).In_ok-settings ∙ not_small _ _ (sym c.is_small.ensures ∙ c.if-not-is_small.true))

pub returns-in_err-planes : goal.returns-in_err-planes
returns-in_err-planes c =
    let missed = planes_missed _ _ (sym c.is_small.ensures ∙ c.if-not-is_small.false) in
    let none = c.ok_or.ensures.ok_part ∙ ap result_ok c.in_err-planes.was in
    let e = sym (left (goal.at.returns-in_err-planes c).In_ok-settings ∙ missed (sym c.read_planes.ensures.answer ∙ ap is_some none)) in
    let value = rw none at c.ok_or.ensures.value in
    let why = sym value ∙ c.in_err-planes.was in
    search rules

pub returns : goal.returns
returns c =
    let small = sym c.is_small.ensures ∙ c.if-not-is_small.false in
    let some = c.ok_or.ensures.ok_part ∙ ap result_ok c.in_ok-planes.was in
    sym
    (left (goal.at.returns c).In_ok-settings
    ∙ planes_table _ _ small (sym c.read_planes.ensures.answer ∙ ap is_some some) (rw some at c.read_planes.ensures.planes))
