-- The lines that a picture is written as into a lent output: its rows may lie apart by any stride, and red may be at any of the first three
-- letters.
-- Definitions only.
use Rattle.std.specs.Prelude.{List, ℕ, ◌+◌, ◌-◌, ◌*◌, ◌≤◌, ◌<◌, get_or}
use Rattle.yuv_support.specs.declared.YuvSourceChannels.{YuvSourceChannels}
use Rattle.yuv_support.specs.Component.{red}
use Rattle.yuv_support.specs.Picture.{channels_of, place_in}
use Rattle.sheet_writing.specs.Text.{joined}
use Rattle.sheet_table.specs.declared.lent.Places.{Places}
use Rattle.sheet_table.specs.Table.{pixel_text}
use Rattle.sheet_table.specs.Shown.{stride_of}

abbrev pub places_of : YuvSourceChannels → ℕ → ℕ → Places
places_of order width height = record {
  width = width;
  height = height;
  stride = stride_of order width;
  channels = channels_of order;
  red = place_in order red;
}

-- what the buffer holds of the pixel at a row and a column, k elements after its first
abbrev pub element_at : List ℕ → Places → ℕ → ℕ → ℕ → ℕ
element_at rgb p row column k = get_or rgb (p.stride * row + p.channels * column + k) 0

-- green is the second letter of every order, and blue the third or the first where red is the first or the third
abbrev pub shown_pixel : List ℕ → Places → ℕ → ℕ → List ℕ
shown_pixel rgb p row column =
    pixel_text row column (element_at rgb p row column p.red) (element_at rgb p row column 1) (element_at rgb p row column (2 - p.red))

abbrev pub shown_row : List ℕ → Places → ℕ → ℕ → List ℕ
shown_row rgb p row n = joined (shown_pixel rgb p row) n

abbrev pub shown_rows : List ℕ → Places → ℕ → List ℕ
shown_rows rgb p n = joined (λ row. shown_row rgb p row p.width) n

-- a picture small enough for the buffers
pub record Small (p : Places) : Type 0 where
  pub width : p.width ≤ 64
  pub height : p.height ≤ 64
  pub letters : 3 ≤ p.channels
  pub red : p.red ≤ 2
  pub room : (row : ℕ) → row < p.height → p.stride * row + p.channels * p.width ≤ 16384
