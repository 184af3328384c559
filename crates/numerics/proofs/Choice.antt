-- Three letters to the pixel, or four.
-- Assumes nothing.
use mathlib.Core.Path.{◌≡◌}
use mathlib.Core.Logic.{◌⊎◌, inl, inr}
use Prim.Native.Nat.{ℕ, ◌<◌}
use native.Mathlib.Omega.{arith}

pub some_letters : {n : ℕ} → (n ≡ 3) ⊎ (n ≡ 4) → 0 < n
some_letters (inl e) = omega arith
some_letters (inr e) = omega arith
