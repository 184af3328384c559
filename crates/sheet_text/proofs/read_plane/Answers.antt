use lib.ListN.{length-replicate}
use Prim.Native.Nat.{ℕ}
use native.Mathlib.Omega.{arith}
use Rattle.sheet_numbers.proofs.Lined.{lined}
use Rattle.sheet_text.proofs.read_plane.Goals as goal

pub returns-clause-lined : goal.returns-clause-lined
returns-clause-lined c =
    let zeros = length-replicate {A = ℕ} 4096 0 in
    lined c.requires.place (omega (arith, zeros, c.requires.room)) c.read_lines.ensures c.in_ok-next.was
