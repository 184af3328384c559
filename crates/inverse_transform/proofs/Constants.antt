-- The bit patterns of the literals in the code are the f32 values that the definitions name: antt computes both sides.
-- Assumes nothing.
use mathlib.Core.Path.{◌≡◌, refl}
use lib.Ieee.{binary32, of_bits, of_int, round}
use Rattle.yuv_support.specs.declared.YuvStandardMatrix.{YuvStandardMatrix}
use Rattle.yuv_support.specs.declared.YuvBias.{YuvBias}
use Rattle.yuv_support.specs.Settings.{weights_of, weight_r, weight_b}
use Rattle.yuv_support.specs.Coefficients.{f32}

-- the literals 0.0, 1.0, 2.0 and 8192.0
pub zero_is : of_bits binary32 0 ≡ f32 0
unfolding of_bits of_int round
zero_is = refl

pub one_is : of_bits binary32 0x3f80_0000 ≡ f32 1
unfolding of_bits of_int round
one_is = refl

pub two_is : of_bits binary32 0x4000_0000 ≡ f32 2
unfolding of_bits of_int round
two_is = refl

pub scale_is : of_bits binary32 0x4600_0000 ≡ f32 8192
unfolding of_bits of_int round
scale_is = refl

-- the weights, opened with all that they are computed by
unfoldable pub weights : YuvStandardMatrix → YuvBias
unfolding weights_of weight_r weight_b of_bits round
weights m = weights_of m
