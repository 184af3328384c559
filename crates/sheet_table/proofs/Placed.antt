-- Laws of a picture that is written into a lent output: its pixels lie in the buffer, its lines have room in the output, and a buffer that shows
-- each component is written as the definition's table (`wrote_shown`), which no picture of small sides makes longer than the output
-- (`table_length`).
-- Assumes nothing.
use mathlib.Core.Path.{◌≡◌, refl}
use mathlib.Core.List.{List, ◌++◌}
use Prim.Native.Nat.{ℕ, suc, ◌+◌, ◌*◌, ◌≤◌, ◌<◌}
use native.Mathlib.Nat.{mul-le-mul, mul-le-mul_left, mul-suc, mul_comm}
use native.Mathlib.Omega.{arith}
use lib.ListN.{length, length-append}
use Rattle.yuv_support.specs.declared.YuvSourceChannels.{YuvSourceChannels}
use Rattle.yuv_support.specs.declared.YuvSourceChannels.TheVariants.{Rgb, Rgba, Bgra, Bgr}
use Rattle.yuv_support.specs.declared.Settings.{Settings}
use Rattle.yuv_support.specs.declared.Clipped.{Clipped}
use Rattle.yuv_support.specs.Blend.{Frame}
use Rattle.yuv_support.specs.Component.{red}
use Rattle.yuv_support.specs.Picture.{place_in, channels_of}
use Rattle.yuv_support.specs.Counts.{clipped_in}
use Rattle.yuv_support.proofs.Picture.{three_or_four_channels}
use Rattle.sheet_writing.specs.Text.{Wrote}
use Rattle.sheet_writing.proofs.Write.{wrote_then, number_text_length, joined_length}
use Rattle.sheet_table.specs.declared.lent.Places.{Places}
use Rattle.sheet_table.specs.Table.{heading, pixel_text, pixel_line, row_text, rows_text, clipped_text, table}
use Rattle.sheet_table.specs.Shown.{stride_of, Shows}
use Rattle.sheet_table.specs.Shown as close
use Rattle.sheet_table.specs.Placed.{places_of, shown_pixel, shown_row, shown_rows, Small}
use Rattle.sheet_table.proofs.Room.{row_room}
use Rattle.sheet_table.proofs.Shown.{shown_table}

-- ---- room

pub pixel_room : (p : Places) (row column : ℕ) → Small p → row < p.height → column < p.width
    → (p.stride * row + p.channels * column + 3 ≤ 16384) × (p.red ≤ 2)
pixel_room p row column small hr hc =
    let m : p.channels * suc column ≤ p.channels * p.width = mul-le-mul_left p.channels hc in
    let e = mul-suc p.channels column in
    (omega (arith, small.room row hr, small.letters), small.red)

pub pixel_text_length : (row column r g b : ℕ) → length (pixel_text row column r g b) ≤ 30
unfolding pixel_text
pixel_text_length row column r g b =
    simp length-append
    (omega (
      arith,
      number_text_length row 32,
      number_text_length column 32,
      number_text_length r 32,
      number_text_length g 32,
      number_text_length b 10,
    ))

pub clipped_text_length : (c : Clipped) → length (clipped_text c) ≤ 20
unfolding clipped_text
clipped_text_length c = simp length-append (omega (arith, number_text_length c.below 32, number_text_length c.above 10))

pub row_length : (rgb : List ℕ) {p : Places} (row : ℕ) → Small p → length (shown_row rgb p row p.width) ≤ 1920
row_length rgb {p} row small =
    let l = joined_length (shown_pixel rgb p row) 30 p.width (λ column. pixel_text_length row column _ _ _) in
    omega (arith, small.width)

-- where `put_table` ends, the last line has room
pub room_after : (rgb : List ℕ) {p : Places} {old new : List ℕ} {next : ℕ} → Small p → Wrote old 0 (heading ++ shown_rows rgb p p.height) new next
    → next + 20 ≤ 131072
room_after rgb {p} small w =
    let l = joined_length (λ row. shown_row rgb p row p.width) 1920 p.height (λ row. row_length rgb row small) in
    let a = length-append heading (shown_rows rgb p p.height) in
    omega (arith, small.height, w.place)

-- ---- the table's length

pub table_length : (s : Settings) (f : Frame) → f.width ≤ 64 → f.height ≤ 64 → length (table s f) ≤ 131072
unfolding table
table_length s f hw hh =
    let row : (r : ℕ) → length (row_text s f r f.width) ≤ 1920 =
    λ r. let l = joined_length (pixel_line s f r) 30 f.width (λ c. pixel_text_length r c _ _ _) in omega arith in
    let rows = joined_length (λ r. row_text s f r f.width) 1920 f.height row in
    let l = length-append heading (rows_text s f f.height) in
    let last = clipped_text_length (clipped_in s f 0 f.height) in
    let m = length-append (heading ++ rows_text s f f.height) (clipped_text (clipped_in s f 0 f.height)) in
    omega arith

-- ---- a picture whose rows follow each other closely

-- red is one of the first three letters
red_early : (o : YuvSourceChannels) → place_in o red ≤ 2
unfolding place_in
red_early Rgb = omega arith
red_early Rgba = omega arith
red_early Bgra = omega arith
red_early Bgr = omega arith

pub places_small : (o : YuvSourceChannels) {width height : ℕ} → width ≤ 64 → height ≤ 64 → Small (places_of o width height)
places_small o {width} {height} hw hh = record {
  width = hw;
  height = hh;
  letters = (three_or_four_channels o).0;
  red = red_early o;
  room =
      λ row h.
      let m : stride_of o width * suc row ≤ 256 * 64 = mul-le-mul (row_room o hw) (let l : suc row ≤ 64 = omega arith in l) in
      omega (arith, mul-suc (stride_of o width) row, mul_comm (channels_of o) width);
}

-- its lines are those of its order and its width
close_rows : (o : YuvSourceChannels) (width height : ℕ) (rgb : List ℕ) (n : ℕ)
    → shown_rows rgb (places_of o width height) n ≡ close.shown_rows o width rgb n
unfolding place_in
close_rows Rgb width height rgb n = refl
close_rows Rgba width height rgb n = refl
close_rows Bgra width height rgb n = refl
close_rows Bgr width height rgb n = refl

-- what `put_table` and, after it, `put_clipped` write of a picture that is shown and of what was clipped in it
pub wrote_shown : (s : Settings) (f : Frame) {p : Places} {c : Clipped} {old mid new : List ℕ} {next last : ℕ} (rgb : List ℕ)
    → p ≡ places_of s.order f.width f.height → Shows s f rgb → c ≡ clipped_in s f 0 f.height
    → Wrote old 0 (heading ++ shown_rows rgb p p.height) mid next → Wrote mid next (clipped_text c) new last → Wrote old 0 (table s f) new last
wrote_shown s f {p} {c} rgb e shows k first second =
    rw (← shown_table s f rgb shows k, ← close_rows s.order f.width f.height rgb f.height) (wrote_then (rw e at first) second)
