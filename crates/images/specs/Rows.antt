-- The chroma rows that a luma row blends.
-- Definitions only.
use Rattle.std.specs.Prelude.{ℕ}
use Rattle.yuv_support.specs.declared.YuvChromaSubsampling.{YuvChromaSubsampling}
use Rattle.yuv_support.specs.Blend.{Rows, one, two, rows_of, near_row, far_row, chroma_width}
use Rattle.images.specs.declared.ChromaRows.{ChromaRows}

abbrev pub second_of : Rows → ℕ → ℕ → ℕ
second_of one near far = near
second_of two near far = far

-- the far row; where the luma row blends one chroma row only, the near row again
unfoldable pub other_row : YuvChromaSubsampling → ℕ → ℕ → ℕ
other_row s height row = second_of (rows_of s height row) (near_row s height row) (far_row s height row)

abbrev pub chroma_rows : YuvChromaSubsampling → ℕ → ℕ → ℕ → ChromaRows
chroma_rows s width height row = record { near = near_row s height row; other = other_row s height row; columns = chroma_width width }
