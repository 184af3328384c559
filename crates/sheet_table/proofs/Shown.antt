-- A buffer that shows each component is written as the definition's table (`shown_table`). The counts of its last line have at most five digits.
-- Assumes nothing.
use mathlib.Core.Path.{◌≡◌, ap}
use mathlib.Core.List.{List, ◌++◌}
use Prim.Native.Nat.{ℕ, ◌<◌}
use native.Mathlib.Nat.{le_trans}
use Rattle.yuv_support.specs.declared.Settings.{Settings}
use Rattle.yuv_support.specs.declared.Clipped.{Clipped}
use Rattle.yuv_support.specs.Blend.{Frame}
use Rattle.yuv_support.specs.Component.{red, green, blue}
use Rattle.yuv_support.specs.Counts.{clipped_in}
use Rattle.yuv_support.proofs.Counts.{band_most, sides_most}
use Rattle.sheet_writing.proofs.Write.{joined_same}
use Rattle.sheet_table.specs.Table.{heading, pixel_line, row_text, clipped_text, table, FiveDigits}
use Rattle.sheet_table.specs.Shown.{shown_pixel, shown_row, shown_rows, Shows}

-- ---- what the buffer shows

module _ (s : Settings) (f : Frame) (rgb : List ℕ) (shows : Shows s f rgb) where
  shown_pixel_lem : (row column : ℕ) → row < f.height → column < f.width
      → shown_pixel s.order f.width rgb row column ≡ pixel_line s f row column
  shown_pixel_lem row column hr hc =
      rw (shows red row column hr hc, shows green row column hr hc, shows blue row column hr hc)

  -- the lines read from the buffer, with what was clipped, are the table
  pub shown_table : {c : Clipped} → c ≡ clipped_in s f 0 f.height
      → heading ++ shown_rows s.order f.width rgb f.height ++ clipped_text c ≡ table s f
  unfolding table
  shown_table {c} e =
      rw e
      (ap (λ (t : List ℕ). heading ++ t ++ clipped_text (clipped_in s f 0 f.height))
      (joined_same (λ row. shown_row s.order f.width rgb row f.width) (λ row. row_text s f row f.width) f.height
      (λ row hr. joined_same (shown_pixel s.order f.width rgb row) (pixel_line s f row) f.width (λ column hc. shown_pixel_lem row column hr hc))))

-- ---- the digits of the last line

pub five_digits : FiveDigits
five_digits s f hw hh =
    let b = band_most s f 0 f.height in
    let m = sides_most 64 f.width f.height hw hh in
    (le_trans b.0 m, le_trans b.1 m)
