-- Document 02, slip 5: bands of one picture and its whole conversion, by the definitions that the entries' promises cite.
-- Definitions only.
use Rattle.std.specs.Prelude.{◌≡◌, List, [], ◌∷◌, ℕ, ◌+◌, ◌/◌, ◌≤◌, length}
use Rattle.yuv_support.specs.declared.Clipped.{Clipped}
use Rattle.yuv_support.specs.declared.Codes.{Codes}
use Rattle.yuv_support.specs.declared.Geometry.{Geometry}
use Rattle.yuv_support.specs.Counts.{unclipped, together}
use Rattle.yuv_support.specs.Conversion.{answer_to, destination_after, clipped_after, answer_to_band, rows_after, destination_after_band, clipped_after_band}

-- where calls that follow each other stand: the destination, the next first row, and what all of them clipped
pub record Progress : Type 0 where
  pub rgb : List ℕ
  pub next : ℕ
  pub clipped : Clipped

-- before the first call
abbrev pub begun : List ℕ → Progress
begun rgb = record { rgb = rgb; next = 0; clipped = unclipped }

-- every limit is 2 or more
abbrev pub TwoOrMore : List ℕ → Type 0
TwoOrMore [] = Unit {0}
TwoOrMore (limit ∷ limits) = (2 ≤ limit) × TwoOrMore limits

-- one picture with its settings and its destination's stride
module _ (known : List ℕ) (codes : Codes) (image : Geometry) (y u v : List ℕ) (stride : ℕ) where
  -- one call more, at the next first row; nothing else writes
  abbrev pub further : Progress → ℕ → Progress
  further p limit = record {
    rgb = destination_after_band known codes image y u v stride p.rgb p.next limit;
    next = p.next + rows_after known codes image y u v stride p.rgb p.next limit;
    clipped = together p.clipped (clipped_after_band known codes image y u v stride p.rgb p.next limit);
  }

  -- a call for each limit
  unfoldable pub after_calls : Progress → List ℕ → Progress
  after_calls p [] = p
  after_calls p (limit ∷ limits) = after_calls (further p limit) limits

  -- the band from row 0 with the height as limit gives what the whole conversion gives
  pub record SameAsWhole (rgb : List ℕ) : Type 0 where
    pub answer : answer_to_band known codes image y u v stride rgb 0 ≡ answer_to known codes image y u v stride rgb
    pub destination : destination_after_band known codes image y u v stride rgb 0 image.height ≡ destination_after known codes image y u v stride rgb
    pub clipped : clipped_after_band known codes image y u v stride rgb 0 image.height ≡ clipped_after known codes image y u v stride rgb

  -- calls from row 0 on, on a destination that held `rgb`
  pub record BandsFinish (rgb : List ℕ) : Type 0 where
    -- after any calls, one more is accepted
    pub accepted : (limits : List ℕ) → let p = after_calls (begun rgb) limits in
        (answer_to_band known codes image y u v stride p.rgb p.next).number ≡ 0
    -- ⌈height/2⌉ calls with limits of 2 or more reach the height
    pub reached : (limits : List ℕ) → TwoOrMore limits → (image.height + 1) / 2 ≤ length limits
        → (after_calls (begun rgb) limits).next ≡ image.height
    -- where the height is reached, the destination is that of one whole conversion, and the counts of all calls add up to its counts
    pub whole : (limits : List ℕ) → let p = after_calls (begun rgb) limits in p.next ≡ image.height
        → (p.rgb ≡ destination_after known codes image y u v stride rgb) × (p.clipped ≡ clipped_after known codes image y u v stride rgb)

  -- a refused call keeps the destination and counts nothing; its next first row is its own
  pub record RefusedBand (rgb : List ℕ) (first limit : ℕ) : Type 0 where
    pub rows : rows_after known codes image y u v stride rgb first limit ≡ 0
    pub destination : destination_after_band known codes image y u v stride rgb first limit ≡ rgb
    pub clipped : clipped_after_band known codes image y u v stride rgb first limit ≡ unclipped

-- the theorems: of every call, of every accepted picture, and of every refused call
abbrev pub WholeAsBand : Type 0
WholeAsBand =
    (known : List ℕ) (codes : Codes) (image : Geometry) (y u v : List ℕ) (stride : ℕ) (rgb : List ℕ)
    → SameAsWhole known codes image y u v stride rgb

abbrev pub BandsTogether : Type 0
BandsTogether =
    (known : List ℕ) (codes : Codes) (image : Geometry) (y u v : List ℕ) (stride : ℕ) (rgb : List ℕ)
    → (answer_to known codes image y u v stride rgb).number ≡ 0 → BandsFinish known codes image y u v stride rgb

abbrev pub RefusedKeeps : Type 0
RefusedKeeps =
    (known : List ℕ) (codes : Codes) (image : Geometry) (y u v : List ℕ) (stride : ℕ) (rgb : List ℕ) (first limit : ℕ)
    → ((answer_to_band known codes image y u v stride rgb first).number ≡ 0 → ⊥) → RefusedBand known codes image y u v stride rgb first limit
