-- A code that is known is the code of the sampling that it names.
-- Assumes nothing.
use mathlib.Core.Path.{◌≡◌, refl}
use Prim.Native.Nat.{ℕ, zero, suc, ◌≤◌}
use native.Mathlib.Omega.{arith}
use Rattle.yuv_support.specs.Settings.{sampling_of}
use Rattle.y4m_text.specs.Write.{code_of}

pub code_back : (code : ℕ) → code ≤ 1 → code_of (sampling_of code) ≡ code
code_back zero h = refl
code_back (suc zero) h = refl
code_back (suc (suc n)) h = absurd (omega arith)
