-- Document 01, "Blending", and document 02, slip 4: which samples a pixel takes, and chroma at a pixel, unrounded, in sixteenths.
-- Definitions only.
use Rattle.std.specs.Prelude.{ℕ, ◌+◌, ◌-◌, ◌*◌, ◌/◌, ◌%◌, min, cond, List, eqb, ltb, get_or}
use Rattle.yuv_support.specs.declared.YuvChromaSubsampling.{YuvChromaSubsampling}
use Rattle.yuv_support.specs.declared.YuvChromaSubsampling.TheVariants.{Yuv420, Yuv422}
use Rattle.yuv_support.specs.declared.YuvMode.{YuvMode}
use Rattle.yuv_support.specs.declared.YuvMode.TheVariants.{AsSource, Matched}
use Rattle.yuv_support.specs.declared.Settings.{Settings}
use Rattle.yuv_support.specs.declared.Geometry.{Geometry}
use Rattle.yuv_support.specs.Settings.{unpacked}

-- the sides of a picture, and its planes with their strides
pub record Frame : Type 0 where
  pub width : ℕ
  pub height : ℕ
  pub y : List ℕ
  pub y_stride : ℕ
  pub u : List ℕ
  pub u_stride : ℕ
  pub v : List ℕ
  pub v_stride : ℕ

abbrev pub frame_of : Geometry → List ℕ → List ℕ → List ℕ → Frame
frame_of i y u v = record {
  width = i.width;
  height = i.height;
  y = y;
  y_stride = i.y_stride;
  u = u;
  u_stride = i.u_stride;
  v = v;
  v_stride = i.v_stride;
}

-- Cb is read from U and Cr from V
pub data Chroma : Type 0 where
  chroma_blue chroma_red : Chroma

abbrev pub plane_of : Chroma → Frame → List ℕ
plane_of chroma_blue f = f.u
plane_of chroma_red f = f.v

abbrev pub stride_of : Chroma → Frame → ℕ
stride_of chroma_blue f = f.u_stride
stride_of chroma_red f = f.v_stride

-- the sample at a row and a column of a plane. Every sample is read here; the settings say how it is packed.
abbrev pub sample : Settings → List ℕ → ℕ → ℕ → ℕ → ℕ
sample s plane stride row column = unpacked s.packing s.depth (get_or plane (stride * row + column) 0)

-- chroma width and chroma height
abbrev pub chroma_width : ℕ → ℕ
chroma_width width = (width + 1) / 2

unfoldable pub chroma_height : YuvChromaSubsampling → ℕ → ℕ
chroma_height Yuv420 height = (height + 1) / 2
chroma_height Yuv422 height = height

-- ---- a pixel's kind of blending

-- one or two chroma rows
pub data Rows : Type 0 where
  one two : Rows

-- the left or the right pixel of a luma pair that has a chroma sample after its own, or a pixel of the tail
pub data Place : Type 0 where
  left right tail : Place

-- 4:2:2, and an odd last row of 4:2:0, use one chroma row
unfoldable pub rows_of : YuvChromaSubsampling → ℕ → ℕ → Rows
rows_of Yuv420 height row = cond (ltb (row / 2) (height / 2)) two one
rows_of Yuv422 height row = one

abbrev pub pair_place : ℕ → Place
pair_place column = cond (eqb (column % 2) 0) left right

unfoldable pub place_of : ℕ → ℕ → Place
place_of width column = cond (ltb (column / 2 + 1) (chroma_width width)) (pair_place column) tail

-- of the chroma rows k and min(k + 1, last) of rows 2k and 2k + 1, the near one and the far one
abbrev pub next_row : ℕ → ℕ → ℕ
next_row height row = min (row / 2 + 1) ((height + 1) / 2 - 1)

unfoldable pub near_row : YuvChromaSubsampling → ℕ → ℕ → ℕ
near_row Yuv420 height row = cond (eqb (row % 2) 0) (row / 2) (next_row height row)
near_row Yuv422 height row = row

unfoldable pub far_row : YuvChromaSubsampling → ℕ → ℕ → ℕ
far_row Yuv420 height row = cond (eqb (row % 2) 0) (next_row height row) (row / 2)
far_row Yuv422 height row = row

-- ---- the weights, in sixteenths

-- the two-row tail: as in the source Cr takes more of the far row; matched, it has Cb's weights
abbrev pub tail_of : YuvMode → Chroma → ℕ → ℕ → ℕ
tail_of mode chroma_blue near far = 12 * near + 4 * far
tail_of AsSource chroma_red near far = 4 * near + 12 * far
tail_of Matched chroma_red near far = 12 * near + 4 * far

-- a and b are the near row's samples k and k + 1, c and e the far row's
unfoldable pub sixteenths : YuvMode → Chroma → Rows → Place → ℕ → ℕ → ℕ → ℕ → ℕ
sixteenths mode ch one left a b c e = 12 * a + 4 * b
sixteenths mode ch one right a b c e = 4 * a + 12 * b
sixteenths mode ch one tail a b c e = 16 * a
sixteenths mode ch two left a b c e = 9 * a + 3 * b + 3 * c + e
sixteenths mode ch two right a b c e = 3 * a + 9 * b + c + 3 * e
sixteenths mode ch two tail a b c e = tail_of mode ch a c

-- luma at a pixel, and unrounded chroma in sixteenths
abbrev pub luma_at : Settings → Frame → ℕ → ℕ → ℕ
luma_at s f row column = sample s f.y f.y_stride row column

abbrev pub chroma_sample : Settings → Frame → Chroma → ℕ → ℕ → ℕ
chroma_sample s f ch row column = sample s (plane_of ch f) (stride_of ch f) row column

unfoldable pub chroma16 : Settings → Frame → Chroma → ℕ → ℕ → ℕ
chroma16 s f ch row column =
    let near = near_row s.sampling f.height row in
    let far = far_row s.sampling f.height row in
    sixteenths s.mode ch (rows_of s.sampling f.height row) (place_of f.width column)
    (chroma_sample s f ch near (column / 2))
    (chroma_sample s f ch near (column / 2 + 1))
    (chroma_sample s f ch far (column / 2))
    (chroma_sample s f ch far (column / 2 + 1))

-- the whole chroma sample that n sixteenths make: document 01's (3a+b+2)/4, (9a+3b+3c+e+8)/16 and tails (proofs/Blend.antt proves each)
abbrev pub rounded : ℕ → ℕ
rounded n = (n + 8) / 16
