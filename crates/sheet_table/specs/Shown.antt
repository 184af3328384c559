-- The lines that a picture is written as, from the picture's buffer.
-- Definitions only.
use Rattle.std.specs.Prelude.{◌≡◌, List, ℕ, ◌+◌, ◌*◌, ◌<◌, get_or}
use Rattle.yuv_support.specs.declared.YuvSourceChannels.{YuvSourceChannels}
use Rattle.yuv_support.specs.declared.Settings.{Settings}
use Rattle.yuv_support.specs.Blend.{Frame}
use Rattle.yuv_support.specs.Component.{Component, red, green, blue, component_at}
use Rattle.yuv_support.specs.Picture.{channels_of, place_in}
use Rattle.yuv_support.specs.Distance.{component_in}
use Rattle.sheet_writing.specs.Text.{joined}
use Rattle.sheet_table.specs.Table.{pixel_text}

-- the destination's rows follow each other closely
abbrev pub stride_of : YuvSourceChannels → ℕ → ℕ
stride_of order width = width * channels_of order

-- what the buffer of a picture of so many columns holds of a component of the pixel at a row and a column
abbrev pub element_at : YuvSourceChannels → ℕ → List ℕ → Component → ℕ → ℕ → ℕ
element_at order width rgb c row column =
    get_or rgb (stride_of order width * row + channels_of order * column + place_in order c) 0

abbrev pub shown_pixel : YuvSourceChannels → ℕ → List ℕ → ℕ → ℕ → List ℕ
shown_pixel order width rgb row column =
    pixel_text row column
    (element_at order width rgb red row column)
    (element_at order width rgb green row column)
    (element_at order width rgb blue row column)

-- the lines of n pixels of a row, and of n rows
abbrev pub shown_row : YuvSourceChannels → ℕ → List ℕ → ℕ → ℕ → List ℕ
shown_row order width rgb row n = joined (shown_pixel order width rgb row) n

abbrev pub shown_rows : YuvSourceChannels → ℕ → List ℕ → ℕ → List ℕ
shown_rows order width rgb n = joined (λ row. shown_row order width rgb row width) n

-- the buffer holds each component of each pixel
abbrev pub Shows : Settings → Frame → List ℕ → Type 0
Shows s f rgb =
    (c : Component) (row column : ℕ) → row < f.height → column < f.width
    → component_in s rgb (stride_of s.order f.width) c row column ≡ component_at s f c row column
