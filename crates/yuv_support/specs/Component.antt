-- Document 01, "Blending", last paragraph: a component of a pixel.
-- Definitions only.
use Rattle.std.specs.Prelude.{ℕ, min, ℤ, pos, negsuc, ◌+ℤ◌, ◌-ℤ◌, ◌*ℤ◌}
use Rattle.std.specs.Int.Signed.{shr_z}
use Rattle.yuv_support.specs.declared.CbCrInverseTransform.{CbCrInverseTransform}
use Rattle.yuv_support.specs.declared.Settings.{Settings}
use Rattle.yuv_support.specs.Settings.{max_of, bias_y, bias_c}
use Rattle.yuv_support.specs.Coefficients.{coefficients_of}
use Rattle.yuv_support.specs.Blend.{Frame, chroma_blue, chroma_red, luma_at, chroma16, rounded}

pub data Component : Type 0 where
  red green blue : Component

-- k·(x − x₀)
unfoldable pub step : ℕ → ℕ → ℕ → ℤ
step k x x₀ = pos k *ℤ (pos x -ℤ pos x₀)

-- z clamped to 0..m
abbrev pub clamp : ℕ → ℤ → ℕ
clamp m (pos n) = min n m
clamp m (negsuc n) = 0

-- the sum with whole-number coefficients k, of luma y and whole chroma cb and cr, by and bc being the biases
unfoldable pub sum_of : CbCrInverseTransform → ℕ → ℕ → Component → ℕ → ℕ → ℕ → ℤ
sum_of k by bc red y cb cr = step k.y y by +ℤ step k.cr cr bc
sum_of k by bc green y cb cr = step k.y y by -ℤ step k.g1 cr bc -ℤ step k.g2 cb bc
sum_of k by bc blue y cb cr = step k.y y by +ℤ step k.cb cb bc

-- the sum plus 4,096, divided by 8,192 rounding towards minus infinity; not yet clamped
abbrev pub quotient : ℤ → ℤ
quotient z = shr_z (z +ℤ pos 4096) 8192

unfoldable pub quotient_of : Settings → Component → ℕ → ℕ → ℕ → ℤ
quotient_of s c y cb cr =
    quotient (sum_of (coefficients_of s) (bias_y s.depth s.range) (bias_c s.depth) c y cb cr)

-- the component: the quotient clamped to 0..M
unfoldable pub component_of : Settings → Component → ℕ → ℕ → ℕ → ℕ
component_of s c y cb cr = clamp (max_of s.depth) (quotient_of s c y cb cr)

-- the same of the pixel at a row and a column
unfoldable pub quotient_at : Settings → Frame → Component → ℕ → ℕ → ℤ
quotient_at s f c row column =
    quotient_of s c (luma_at s f row column) (rounded (chroma16 s f chroma_blue row column)) (rounded (chroma16 s f chroma_red row column))

unfoldable pub component_at : Settings → Frame → Component → ℕ → ℕ → ℕ
component_at s f c row column = clamp (max_of s.depth) (quotient_at s f c row column)
