-- The kernel of a setting: its coefficients in the order of the letters, with the biases folded in.
-- Definitions only.
use Rattle.std.specs.Prelude.{ℕ, ◌+◌, ◌-◌, ◌*◌, Bool, true, false, cond, eqb}
use Rattle.yuv_support.specs.declared.YuvRange.{YuvRange}
use Rattle.yuv_support.specs.declared.YuvSourceChannels.{YuvSourceChannels}
use Rattle.yuv_support.specs.declared.YuvSourceChannels.TheVariants.{Rgb, Rgba, Bgra, Bgr}
use Rattle.yuv_support.specs.declared.CbCrInverseTransform.{CbCrInverseTransform}
use Rattle.yuv_support.specs.declared.Settings.{Settings}
use Rattle.yuv_support.specs.Settings.{max_of, bias_y, bias_c}
use Rattle.yuv_support.specs.Coefficients.{coefficients_of}
use Rattle.yuv_support.specs.Blend.{Chroma, chroma_blue, chroma_red}
use Rattle.numerics.specs.declared.Kernel.{Kernel}

-- whether red is the first letter; else blue is
unfoldable pub red_first : YuvSourceChannels → Bool
red_first Rgb = true
red_first Rgba = true
red_first Bgra = false
red_first Bgr = false

-- how far a sum is kept above its value, over 8,192: bytes have depth 8
unfoldable pub offset_of : ℕ → ℕ
offset_of d = cond (eqb d 8) 32511 262144

-- the largest sample that a kernel has room for
unfoldable pub most_of : ℕ → ℕ
most_of d = cond (eqb d 8) 4095 65535

-- the kernel of coefficients t, whose first letter's are kp and gp and whose third letter's are kq and gq
abbrev pub lettered : ℕ → YuvRange → ℕ → ℕ → ℕ → ℕ → ℕ → Kernel
lettered d r ky kp gp gq kq = record {
  offset = offset_of d;
  max = max_of d;
  y = ky;
  first = kp;
  green_first = gp;
  green_third = gq;
  third = kq;
  base_first = offset_of d * 8192 + 4096 - (ky * bias_y d r + kp * bias_c d);
  base_green = offset_of d * 8192 + 4096 + (gp + gq) * bias_c d - ky * bias_y d r;
  base_third = offset_of d * 8192 + 4096 - (ky * bias_y d r + kq * bias_c d);
  half = 8;
}

abbrev pub arranged : ℕ → YuvRange → Bool → CbCrInverseTransform → Kernel
arranged d r true t = lettered d r t.y t.cr t.g1 t.g2 t.cb
arranged d r false t = lettered d r t.y t.cb t.g2 t.g1 t.cr

unfoldable pub kernel_of : Settings → Kernel
kernel_of s = arranged s.depth s.range (red_first s.order) (coefficients_of s)

-- the chroma that the first and the third letter take
abbrev pub first_chroma : Bool → Chroma
first_chroma true = chroma_red
first_chroma false = chroma_blue

abbrev pub third_chroma : Bool → Chroma
third_chroma true = chroma_blue
third_chroma false = chroma_red
