use Rattle.std.proofs.Common.{◌≡◌, ap, ◌∙◌, ◌≤◌, arith, rules}
use Rattle.sheet_writing.proofs.Digits.{digit_pushed, digit_left_out, digit_room, all_digits}
use Rattle.sheet_writing.proofs.decimal.Goals.{then-power-n, else-power-n}
use Rattle.sheet_writing.proofs.decimal.Goals as goal

pub push-requires : goal.push-requires
push-requires c =
    let within : c.loop-power.power-index ≤ 4 = omega arith in
    (search rules, digit_room _ c.loop-power.power-index c.args.n c.loop-power.invariant within)

pub loop-power-preserved : goal.loop-power-preserved
loop-power-preserved c =
    let loop = c.loop-power in
    elim c.if-power-n.branch [
      | then-power-n w ↦ ap (λ v. v.items) w.digits-is ∙ digit_pushed _ loop.power-index c.args.n c.loop-power-test.true loop.invariant w.if-power-n.true w.push.ensures.items
      | else-power-n w ↦ ap (λ v. v.items) w.digits-is ∙ digit_left_out _ loop.power-index c.args.n c.loop-power-test.true loop.invariant w.if-power-n.false
    ]

pub push-requires-2 : goal.push-requires-2
push-requires-2 c =
    (search rules, digit_room _ c.loop-power.power-index c.args.n c.loop-power.invariant c.loop-power.auto.power-index-end)

pub returns : goal.returns
returns c =
    let all : c.loop-power.power-index ≡ 4 = omega arith in
    c.push-2.ensures.items ∙ rw (c.loop-power.invariant, all) (all_digits c.args.n)
