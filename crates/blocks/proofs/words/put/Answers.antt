use Rattle.std.proofs.Common.{rules, ◌≤◌}
use Rattle.blocks.proofs.Pixels.{few}
use Rattle.blocks.proofs.words.put.Goals as goal

pub overflow_mul-result : goal.overflow_mul-result
overflow_mul-result g c =
    let f = few c.args.k c.args.y c.args.p c.args.q c.pixel-a.ensures in
    let above : c.pixel-a.result.above ≤ 3 = f.1 in
    search rules

pub overflow_add-result : goal.overflow_add-result
overflow_add-result g c =
    let f = few c.args.k c.args.y c.args.p c.args.q c.pixel-a.ensures in
    let below : c.pixel-a.result.below ≤ 3 = f.0 in
    let above : c.pixel-a.result.above ≤ 3 = f.1 in
    search rules
