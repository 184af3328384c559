-- The pixels of a small picture lie in the buffer.
-- Assumes nothing.
use Prim.Native.Nat.{ℕ, suc, ◌+◌, ◌*◌, ◌≤◌, ◌<◌}
use native.Mathlib.Nat.{mul-le-mul, mul-le-mul_left, mul-suc, mul_comm}
use native.Mathlib.Omega.{arith}
use Rattle.yuv_support.specs.declared.YuvSourceChannels.{YuvSourceChannels}
use Rattle.yuv_support.specs.Picture.{channels_of}
use Rattle.yuv_support.proofs.Picture.{three_or_four_channels}

-- a row's elements
pub row_room : (o : YuvSourceChannels) {width : ℕ} → width ≤ 64 → width * channels_of o ≤ 256
row_room o h = mul-le-mul h (three_or_four_channels o).1

-- the first three letters of a pixel
pub pixel_room : (o : YuvSourceChannels) (width row column : ℕ) → width ≤ 64 → row < 64 → column < width
    → width * channels_of o * row + channels_of o * column + 3 ≤ 16384
pixel_room o width row column hw hr hc =
    let c = channels_of o in
    let least = (three_or_four_channels o).0 in
    let rows : width * c * suc row ≤ 256 * 64 = mul-le-mul (row_room o hw) (let l : suc row ≤ 64 = omega arith in l) in
    let columns : c * suc column ≤ c * width = mul-le-mul_left c hc in
    omega (arith, mul-suc (width * c) row, mul-suc c column, mul_comm c width)
