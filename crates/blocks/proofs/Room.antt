-- The arrays of a `Scratch` fit in memory: what a call of generic code with one owes.
-- Assumes nothing.
use Prim.Native.Nat.{ℕ, ◌+◌, ◌*◌, ◌≤◌, ◌<◌, ◌%◌, ◌-◌, max}
use native.Mathlib.Omega.{arith}
use prog.Memory.{up}
use Rattle.std.proofs.Math.Nat.{mod-le}

pub up_most : (k e : ℕ) → up k e ≤ e + k
up_most k e = omega (arith, mod-le (k - e % k) k)

-- of samples of s bytes, aligned by a
pub scratch_fits : (a s : ℕ) → a ≤ 2 → s ≤ 2
    → up (max a (max a 2)) (up 2 (up 2 (up a (up a 0 + 512 * s) + 512 * s) + 1024) + 514) < 9223372036854775808
scratch_fits a s ha hs =
    let e = up a 0 + 512 * s in
    let f = up a e + 512 * s in
    let h = up 2 f + 1024 in
    let i = up 2 h + 514 in
    omega (arith, up_most a 0, up_most a e, up_most 2 f, up_most 2 h, up_most (max a (max a 2)) i)
