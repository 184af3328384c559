-- What converts rows and holds a `Scratch` fits in memory.
-- Assumes nothing.
use Prim.Native.Nat.{ℕ, ◌+◌, ◌*◌, ◌≤◌, ◌<◌, max}
use native.Mathlib.Omega.{arith}
use prog.Memory.{up}
use Rattle.blocks.proofs.Room.{up_most}

-- of samples of s bytes, aligned by a: the scratch after 64 bytes of other fields
pub rows_fit : (a s : ℕ) → a ≤ 2 → s ≤ 2
    → up (max 8 (max 4 (max 4 (max (max a (max a 2)) 1))))
    (up (max a (max a 2)) 64 + up (max a (max a 2)) (up 2 (up 2 (up a (up a 0 + 512 * s) + 512 * s) + 1024) + 514)) < 9223372036854775808
rows_fit a s ha hs =
    let e = up a 0 + 512 * s in
    let f = up a e + 512 * s in
    let h = up 2 f + 1024 in
    let i = up 2 h + 514 in
    let m = max a (max a 2) in
    let j = up m 64 + up m i in
    omega (arith, up_most a 0, up_most a e, up_most 2 f, up_most 2 h, up_most m i, up_most m 64, up_most (max 8 (max 4 (max 4 (max m 1)))) j)
