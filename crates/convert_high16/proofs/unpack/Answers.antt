use mathlib.Core.List.{List}
use Prim.Native.Nat.{ℕ, ◌≤◌}
use native.Mathlib.Omega.{arith}
use lib.ListN.{length}
use Rattle.yuv_support.proofs.Copy.{copied_one}
use Rattle.convert_high16.specs.Held.{divided_by}
use Rattle.convert_high16.proofs.Held.{divided_length, divided_at}
use Rattle.convert_high16.proofs.unpack.Goals as goal

pub loop-i-preserved : goal.loop-i-preserved
loop-i-preserved c =
    let part : List ℕ = c.args.part.now in
    let long : length part ≤ length (divided_by c.args.shift part) = omega (arith, divided_length c.args.shift part) in
    rw (c.divided.ensures, ← divided_at c.args.shift part c.loop-i.i)
    (copied_one c.loop-i.invariant c.loop-i-test.true long (omega (arith, c.requires.1)))
