-- Document 02, slip 4: what the modes have to do with each other.
-- Definitions only.
use Rattle.std.specs.Prelude.{◌≡◌, ℕ}
use Rattle.yuv_support.specs.declared.YuvStandardMatrix.TheVariants.{Smpte240}
use Rattle.yuv_support.specs.declared.YuvMode.{YuvMode}
use Rattle.yuv_support.specs.declared.YuvMode.TheVariants.{AsSource, Matched}
use Rattle.yuv_support.specs.declared.Settings.{Settings}
use Rattle.yuv_support.specs.Blend.{Frame, chroma_blue, chroma_red, Rows, two, Place, tail, rows_of, place_of, sixteenths}
use Rattle.yuv_support.specs.Component.{Component, component_at}

-- matched, Cr has Cb's weights, at every kind of pixel
abbrev pub CrAsCb : Type 0
CrAsCb = (rows : Rows) (place : Place) (a b c e : ℕ) → sixteenths Matched chroma_red rows place a b c e ≡ sixteenths Matched chroma_blue rows place a b c e

-- settings with a mode in the place of their own
abbrev pub in_mode : YuvMode → Settings → Settings
in_mode mode s = record {
  depth = s.depth;
  sampling = s.sampling;
  order = s.order;
  range = s.range;
  matrix = s.matrix;
  packing = s.packing;
  mode = mode;
}

-- outside the two-row tails, and but for `Smpte240` at depth 8, every component is the source's
abbrev pub ModesAgree : Type 0
ModesAgree =
    (s : Settings) (f : Frame) (c : Component) (row column : ℕ)
    → (rows_of s.sampling f.height row ≡ two → place_of f.width column ≡ tail → ⊥)
    → (s.matrix ≡ Smpte240 → s.depth ≡ 8 → ⊥)
    → component_at (in_mode Matched s) f c row column ≡ component_at (in_mode AsSource s) f c row column
