-- Chroma at a pixel: document 01's formulas are the sixteenths rounded, and weights that sum to 16 keep a blend below 16 times a bound of
-- its samples, in either mode. One line for each kind of blending; rows and columns give the kind.
-- Assumes nothing.
use mathlib.Core.Path.{◌≡◌}
use mathlib.Core.Bool.{Bool, true, false, cond}
use Prim.Native.Nat.{ℕ, ◌+◌, ◌-◌, ◌*◌, ◌/◌, ◌%◌, ◌≤◌, ◌<◌, min}
use native.Mathlib.Omega.{arith}
use borrow.Author.Tests.{lt-ltb, le-ltb}
use lib.Dec.{T, eqb, ltb, ltb→lt}
use Rattle.yuv_support.specs.declared.YuvChromaSubsampling.{YuvChromaSubsampling}
use Rattle.yuv_support.specs.declared.YuvChromaSubsampling.TheVariants.{Yuv420, Yuv422}
use Rattle.yuv_support.specs.declared.YuvMode.{YuvMode}
use Rattle.yuv_support.specs.declared.YuvMode.TheVariants.{AsSource, Matched}
use Rattle.yuv_support.specs.declared.Settings.{Settings}
use Rattle.yuv_support.specs.Settings.{max_of}
use Rattle.yuv_support.specs.Blend.{Frame, Chroma, chroma_blue, chroma_red, plane_of, stride_of, chroma_width, chroma_height, Rows, one, two, Place, left, right, tail, rows_of, pair_place, place_of, next_row, near_row, far_row, tail_of, sixteenths, chroma16, rounded}
use Rattle.yuv_support.specs.Distance.{PlaneWithin, WithinDepth}

-- ---- document 01's formulas

pub one_row_left : (mode : YuvMode) (ch : Chroma) (a b c e : ℕ) → (3 * a + b + 2) / 4 ≡ rounded (sixteenths mode ch one left a b c e)
unfolding sixteenths
one_row_left mode ch a b c e = omega arith

pub one_row_right : (mode : YuvMode) (ch : Chroma) (a b c e : ℕ) → (a + 3 * b + 2) / 4 ≡ rounded (sixteenths mode ch one right a b c e)
unfolding sixteenths
one_row_right mode ch a b c e = omega arith

pub one_row_tail : (mode : YuvMode) (ch : Chroma) (a b c e : ℕ) → a ≡ rounded (sixteenths mode ch one tail a b c e)
unfolding sixteenths
one_row_tail mode ch a b c e = omega arith

pub two_rows_left : (mode : YuvMode) (ch : Chroma) (a b c e : ℕ) → (9 * a + 3 * b + 3 * c + e + 8) / 16 ≡ rounded (sixteenths mode ch two left a b c e)
unfolding sixteenths
two_rows_left mode ch a b c e = omega arith

pub two_rows_right : (mode : YuvMode) (ch : Chroma) (a b c e : ℕ) → (3 * a + 9 * b + c + 3 * e + 8) / 16 ≡ rounded (sixteenths mode ch two right a b c e)
unfolding sixteenths
two_rows_right mode ch a b c e = omega arith

pub two_rows_tail_cb : (mode : YuvMode) (near b far e : ℕ) → (3 * near + far + 2) / 4 ≡ rounded (sixteenths mode chroma_blue two tail near b far e)
unfolding sixteenths
two_rows_tail_cb mode near b far e = omega arith

pub two_rows_tail_cr : (near b far e : ℕ) → (near + 3 * far + 2) / 4 ≡ rounded (sixteenths AsSource chroma_red two tail near b far e)
unfolding sixteenths
two_rows_tail_cr near b far e = omega arith

-- ---- bounds of a blend

-- the two-row tail takes one sample of each row
tail_le : (mode : YuvMode) (ch : Chroma) (near far bound : ℕ) → near ≤ bound → far ≤ bound → tail_of mode ch near far ≤ 16 * bound
tail_le mode chroma_blue near far bound hn hf = omega arith
tail_le AsSource chroma_red near far bound hn hf = omega arith
tail_le Matched chroma_red near far bound hn hf = omega arith

pub sixteenths_le : (mode : YuvMode) (ch : Chroma) (rows : Rows) (place : Place) (a b c e bound : ℕ) → a ≤ bound → b ≤ bound → c ≤ bound → e ≤ bound
    → sixteenths mode ch rows place a b c e ≤ 16 * bound
unfolding sixteenths
sixteenths_le mode ch one left a b c e bound ha hb hc he = omega arith
sixteenths_le mode ch one right a b c e bound ha hb hc he = omega arith
sixteenths_le mode ch one tail a b c e bound ha hb hc he = omega arith
sixteenths_le mode ch two left a b c e bound ha hb hc he = omega arith
sixteenths_le mode ch two right a b c e bound ha hb hc he = omega arith
sixteenths_le mode ch two tail a b c e bound ha hb hc he = tail_le mode ch a c bound ha hc

-- the tail takes the last sample of a row only
pub sixteenths_tail_le : (mode : YuvMode) (ch : Chroma) (rows : Rows) (a b c e bound : ℕ) → a ≤ bound → c ≤ bound
    → sixteenths mode ch rows tail a b c e ≤ 16 * bound
unfolding sixteenths
sixteenths_tail_le mode ch one a b c e bound ha hc = omega arith
sixteenths_tail_le mode ch two a b c e bound ha hc = tail_le mode ch a c bound ha hc

pub rounded_le : (n bound : ℕ) → n ≤ 16 * bound → rounded n ≤ bound
rounded_le n bound h = omega arith

pub blend_le : (mode : YuvMode) (ch : Chroma) (rows : Rows) (place : Place) (a b c e bound : ℕ) → a ≤ bound → b ≤ bound → c ≤ bound → e ≤ bound
    → rounded (sixteenths mode ch rows place a b c e) ≤ bound
blend_le mode ch rows place a b c e bound ha hb hc he = rounded_le (sixteenths mode ch rows place a b c e) bound (sixteenths_le mode ch rows place a b c e bound ha hb hc he)

-- at a column, where the samples k + 1 are needed only if there are such
pub placed_le : (mode : YuvMode) (ch : Chroma) (rows : Rows) (width column a b c e bound : ℕ) → a ≤ bound → c ≤ bound
    → (column / 2 + 1 < chroma_width width → b ≤ bound) → (column / 2 + 1 < chroma_width width → e ≤ bound)
    → sixteenths mode ch rows (place_of width column) a b c e ≤ 16 * bound
unfolding place_of
placed_le mode ch rows width column a b c e bound ha hc hb he = go (ltb (column / 2 + 1) (chroma_width width)) (ltb→lt (column / 2 + 1) (chroma_width width))
  where
    go : (t : Bool) → (T t → column / 2 + 1 < chroma_width width) → sixteenths mode ch rows (cond t (pair_place column) tail) a b c e ≤ 16 * bound
    go true after = sixteenths_le mode ch rows (pair_place column) a b c e bound ha (hb (after tt)) hc (he (after tt))
    go false after = sixteenths_tail_le mode ch rows a b c e bound ha hc

-- ---- the kind of blending of a pixel, by pairs of rows and of columns

-- rows 2k and 2k + 1 use chroma rows k and min(k + 1, last); the near one is the first for row 2k, the second for row 2k + 1
pub near_of_first : (height k : ℕ) → near_row Yuv420 height (2 * k) ≡ k
unfolding near_row
near_of_first height k = let e : 2 * k % 2 ≡ 0 = omega arith in rw e (omega arith)

pub near_of_second : (height k : ℕ) → near_row Yuv420 height (2 * k + 1) ≡ min (k + 1) ((height + 1) / 2 - 1)
unfolding near_row
near_of_second height k = let e : (2 * k + 1) % 2 ≡ 1 = omega arith in rw e (omega arith)

pub far_of_first : (height k : ℕ) → far_row Yuv420 height (2 * k) ≡ min (k + 1) ((height + 1) / 2 - 1)
unfolding far_row
far_of_first height k = let e : 2 * k % 2 ≡ 0 = omega arith in rw e (omega arith)

pub far_of_second : (height k : ℕ) → far_row Yuv420 height (2 * k + 1) ≡ k
unfolding far_row
far_of_second height k = let e : (2 * k + 1) % 2 ≡ 1 = omega arith in rw e (omega arith)

-- a row of a whole pair has two chroma rows; an odd last row has one
pub pair_has_two : (height row : ℕ) → row / 2 < height / 2 → rows_of Yuv420 height row ≡ two
unfolding rows_of
pair_has_two height row h = rw (lt-ltb (row / 2) (height / 2) h)

pub last_has_one : (height row : ℕ) → height / 2 ≤ row / 2 → rows_of Yuv420 height row ≡ one
unfolding rows_of
last_has_one height row h = rw (le-ltb (row / 2) (height / 2) h)

-- of luma pair k with a chroma sample k + 1; the remaining pixels are the tail
pub place_left : (width k : ℕ) → k + 1 < chroma_width width → place_of width (2 * k) ≡ left
unfolding place_of
place_left width k h =
    let e : 2 * k % 2 ≡ 0 = omega arith in
    let i : 2 * k / 2 + 1 < chroma_width width = omega arith in
    rw (lt-ltb (2 * k / 2 + 1) (chroma_width width) i, e)

pub place_right : (width k : ℕ) → k + 1 < chroma_width width → place_of width (2 * k + 1) ≡ right
unfolding place_of
place_right width k h =
    let e : (2 * k + 1) % 2 ≡ 1 = omega arith in
    let i : (2 * k + 1) / 2 + 1 < chroma_width width = omega arith in
    rw (lt-ltb ((2 * k + 1) / 2 + 1) (chroma_width width) i, e)

pub place_tail : (width column : ℕ) → chroma_width width ≤ column / 2 + 1 → place_of width column ≡ tail
unfolding place_of
place_tail width column h = rw (le-ltb (column / 2 + 1) (chroma_width width) h)

-- ---- the near and the far row of a row below the height are chroma rows

-- of two numbers that a test picks from, each below a bound
picked_lt : (t : Bool) (a b bound : ℕ) → a < bound → b < bound → cond t a b < bound
picked_lt true a b bound ha hb = ha
picked_lt false a b bound ha hb = hb

pub near_row_lt : (sampling : YuvChromaSubsampling) (height row : ℕ) → row < height → near_row sampling height row < chroma_height sampling height
unfolding near_row chroma_height
near_row_lt Yuv420 height row h = picked_lt (eqb (row % 2) 0) (row / 2) (next_row height row) ((height + 1) / 2) (omega arith) (omega arith)
near_row_lt Yuv422 height row h = h

pub far_row_lt : (sampling : YuvChromaSubsampling) (height row : ℕ) → row < height → far_row sampling height row < chroma_height sampling height
unfolding far_row chroma_height
far_row_lt Yuv420 height row h = picked_lt (eqb (row % 2) 0) (next_row height row) (row / 2) ((height + 1) / 2) (omega arith) (omega arith)
far_row_lt Yuv422 height row h = h

-- ---- the unrounded chroma of a pixel, where the plane's samples are within the depth

pub chroma16_le : (s : Settings) (f : Frame) (ch : Chroma) (row column : ℕ)
    → PlaneWithin s (plane_of ch f) (stride_of ch f) (chroma_width f.width) (chroma_height s.sampling f.height)
    → row < f.height → column < f.width → chroma16 s f ch row column ≤ 16 * max_of s.depth
unfolding chroma16
chroma16_le s f ch row column within hr hc =
    let near = near_row_lt s.sampling f.height row hr in
    let far = far_row_lt s.sampling f.height row hr in
    placed_le s.mode ch (rows_of s.sampling f.height row) f.width column _ _ _ _ (max_of s.depth)
    (within _ (column / 2) near (omega arith))
    (within _ (column / 2) far (omega arith))
    (λ k. within _ (column / 2 + 1) near k)
    (λ k. within _ (column / 2 + 1) far k)

pub chroma_within : (s : Settings) (f : Frame) (ch : Chroma) (row column : ℕ) → WithinDepth s f → row < f.height → column < f.width
    → chroma16 s f ch row column ≤ 16 * max_of s.depth
chroma_within s f chroma_blue row column w hr hc = chroma16_le s f chroma_blue row column w.u hr hc
chroma_within s f chroma_red row column w hr hc = chroma16_le s f chroma_red row column w.v hr hc
