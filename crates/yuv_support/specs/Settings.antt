-- Document 01, "Settings", and document 02, slips 1 and 4: what each code means, the numbers of a depth and a range, how samples are packed,
-- and the weights of a matrix.
-- Definitions only.
use Rattle.std.specs.Prelude.{ℕ, ◌-◌, ◌*◌, ◌/◌, ◌^◌, Bool, false, cond, ◌||◌, List, [], ◌∷◌, map, eqb, Float}
use Rattle.std.specs.Float.{binary32}
use Rattle.std.specs.Float.Ieee.{round}
use Rattle.yuv_support.specs.declared.YuvRange.{YuvRange}
use Rattle.yuv_support.specs.declared.YuvRange.TheVariants.{Limited, Full}
use Rattle.yuv_support.specs.declared.YuvStandardMatrix.{YuvStandardMatrix}
use Rattle.yuv_support.specs.declared.YuvStandardMatrix.TheVariants.{Bt601, Bt709, Bt2020, Smpte240, Bt470_6, Fcc, Custom}
use Rattle.yuv_support.specs.declared.YuvChromaSubsampling.{YuvChromaSubsampling}
use Rattle.yuv_support.specs.declared.YuvChromaSubsampling.TheVariants.{Yuv420, Yuv422}
use Rattle.yuv_support.specs.declared.YuvSourceChannels.{YuvSourceChannels}
use Rattle.yuv_support.specs.declared.YuvSourceChannels.TheVariants.{Rgb, Rgba, Bgra, Bgr}
use Rattle.yuv_support.specs.declared.YuvBytesPacking.{YuvBytesPacking}
use Rattle.yuv_support.specs.declared.YuvBytesPacking.TheVariants.{LeastSignificantBytes, MostSignificantBytes}
use Rattle.yuv_support.specs.declared.YuvMode.{YuvMode}
use Rattle.yuv_support.specs.declared.YuvMode.TheVariants.{AsSource, Matched}
use Rattle.yuv_support.specs.declared.YuvBias.{YuvBias}
use Rattle.yuv_support.specs.declared.YuvChromaRange.{YuvChromaRange}

-- ---- codes. Question 2 (question 1 for the sampling) refuses a code above the last one, so what such a code decodes to is never used.

-- sampling: 0 is 4:2:0, 1 is 4:2:2
abbrev pub sampling_of : ℕ → YuvChromaSubsampling
sampling_of code = cond (eqb code 0) Yuv420 Yuv422

-- channel order: 0 RGB, 1 RGBA, 2 BGRA, 3 BGR
abbrev pub order_of : ℕ → YuvSourceChannels
order_of code = cond (eqb code 0) Rgb (cond (eqb code 1) Rgba (cond (eqb code 2) Bgra Bgr))

-- range: 0 limited, 1 full
abbrev pub range_of : ℕ → YuvRange
range_of code = cond (eqb code 0) Limited Full

-- matrix: 0 to 5 by name; 6 is Custom, which carries its two weights
abbrev pub matrix_of : ℕ → Float → Float → YuvStandardMatrix
matrix_of code kr kb =
    cond (eqb code 0) Bt601
    (cond (eqb code 1) Bt709
    (cond (eqb code 2) Bt2020
    (cond (eqb code 3) Smpte240
    (cond (eqb code 4) Bt470_6
    (cond (eqb code 5) Fcc (Custom kr kb))))))

-- packing: 0 low bits, 1 high bits
abbrev pub packing_of : ℕ → YuvBytesPacking
packing_of code = cond (eqb code 0) LeastSignificantBytes MostSignificantBytes

-- the last packing that is known at a depth: depth 8 has packing 0 only
abbrev pub last_packing : ℕ → ℕ
last_packing d = cond (eqb d 8) 0 1

-- mode: 0 as in the source, 1 matched
abbrev pub mode_of : ℕ → YuvMode
mode_of code = cond (eqb code 0) AsSource Matched

-- x is one of the list's numbers
abbrev pub among : ℕ → List ℕ → Bool
among x [] = false
among x (y ∷ ys) = eqb x y || among x ys

-- the depths that are known with byte planes, with u16 planes, and with either
abbrev pub depths8 : List ℕ
depths8 = 8 ∷ []

abbrev pub depths16 : List ℕ
depths16 = 10 ∷ 12 ∷ []

abbrev pub depths : List ℕ
depths = 8 ∷ 10 ∷ 12 ∷ []

-- ---- the numbers of depth d and range r

-- M, the largest sample
unfoldable pub max_of : ℕ → ℕ
max_of d = 2 ^ d - 1

-- bY, RY and RC
unfoldable pub bias_y : ℕ → YuvRange → ℕ
bias_y d Limited = 16 * 2 ^ (d - 8)
bias_y d Full = 0

unfoldable pub range_y : ℕ → YuvRange → ℕ
range_y d Limited = 219 * 2 ^ (d - 8)
range_y d Full = max_of d

unfoldable pub range_c : ℕ → YuvRange → ℕ
range_c d Limited = 224 * 2 ^ (d - 8)
range_c d Full = max_of d

-- bC
unfoldable pub bias_c : ℕ → ℕ
bias_c d = 2 ^ (d - 1)

-- all but M, as one record
abbrev pub chroma_range_of : ℕ → YuvRange → YuvChromaRange
chroma_range_of d r = record { bias_y = bias_y d r; bias_uv = bias_c d; range_y = range_y d r; range_uv = range_c d r }

-- the sample of depth d that an element of a plane holds: in the high bits the element is first divided by 2^(16 − d), rounding down
unfoldable pub unpacked : YuvBytesPacking → ℕ → ℕ → ℕ
unpacked LeastSignificantBytes d x = x
unpacked MostSignificantBytes d x = x / 2 ^ (16 - d)

-- the samples of some elements
abbrev pub samples_of : YuvBytesPacking → ℕ → List ℕ → List ℕ
samples_of p d elements = map (unpacked p d) elements

-- ---- the weights of a named matrix, in ten-thousandths. Custom has none here: its weights are any f32.

-- kr, kb, and kg = 1 − kr − kb
unfoldable pub weight_r : YuvStandardMatrix → ℕ
weight_r Bt601 = 2990
weight_r Bt709 = 2126
weight_r Bt2020 = 2627
weight_r Smpte240 = 2120
weight_r Bt470_6 = 2220
weight_r Fcc = 3000
weight_r (Custom kr kb) = 0

unfoldable pub weight_b : YuvStandardMatrix → ℕ
weight_b Bt601 = 1140
weight_b Bt709 = 722
weight_b Bt2020 = 593
weight_b Smpte240 = 870
weight_b Bt470_6 = 713
weight_b Fcc = 1100
weight_b (Custom kr kb) = 0

unfoldable pub weight_g : YuvStandardMatrix → ℕ
weight_g m = 10000 - weight_r m - weight_b m

-- the f32 nearest to n ten-thousandths
abbrev pub ten_thousandths : ℕ → Float
ten_thousandths n = round binary32 false n 10000

abbrev pub decimals : YuvStandardMatrix → YuvBias
decimals m = record { kr = ten_thousandths (weight_r m); kb = ten_thousandths (weight_b m) }

-- the weights as a pair of f32
unfoldable pub weights_of : YuvStandardMatrix → YuvBias
weights_of Bt601 = decimals Bt601
weights_of Bt709 = decimals Bt709
weights_of Bt2020 = decimals Bt2020
weights_of Smpte240 = decimals Smpte240
weights_of Bt470_6 = decimals Bt470_6
weights_of Fcc = decimals Fcc
weights_of (Custom kr kb) = record { kr = kr; kb = kb }
