-- Chroma rows held unpacked: of two neighbours the even one has one place, the odd one the other.
-- Definitions only.
use Rattle.std.specs.Prelude.{◌≡◌, List, map, ℕ, ◌-◌, ◌/◌, ◌%◌, ◌^◌, cond, eqb, take, Some}
use Rattle.yuv_support.specs.declared.Settings.{Settings}
use Rattle.yuv_support.specs.Blend.{Frame, chroma_width}
use Rattle.yuv_support.specs.Questions.{part_of}
use Rattle.images.specs.declared.ChromaRows.{ChromaRows}
use Rattle.images.specs.declared.picture.YuvPlanarImage.{YuvPlanarImage}
use Rattle.kernel.specs.Lent.{frame as of_samples}
use Rattle.convert_high16.specs.declared.HeldRow.{HeldRow}
use Rattle.convert_high16.specs.declared.HeldRows.{HeldRows}

-- a lent picture as the definitions see it
abbrev pub frame : YuvPlanarImage ℕ → Frame
frame i = of_samples (λ xs. xs) i

-- elements divided by 2^shift, rounding down
abbrev pub divided_by : ℕ → List ℕ → List ℕ
divided_by shift elements = map (λ x. x / 2 ^ shift) elements

-- the row of a plane that `held` names, if it names one, stands there unpacked
abbrev pub Unpacked : {n : ℕ} → ℕ → ℕ → ℕ → List ℕ → HeldRow n → Type 0
Unpacked shift columns stride plane held =
    (c : ℕ) → held.number ≡ Some c → take columns held.samples ≡ divided_by shift (part_of stride c columns plane)

-- the place of row c
abbrev pub place_of : {n : ℕ} → HeldRows n → ℕ → HeldRow n
place_of held c = cond (eqb (c % 2) 0) held.even held.odd

-- both places hold what they name
pub record Held {n : ℕ} (shift columns stride : ℕ) (plane : List ℕ) (held : HeldRows n) : Type 0 where
  pub even : Unpacked shift columns stride plane held.even
  pub odd : Unpacked shift columns stride plane held.odd

-- the chroma rows p of a luma row, of one plane, are held
pub record BothHeld {n : ℕ} (shift : ℕ) (p : ChromaRows) (stride : ℕ) (plane : List ℕ) (held : HeldRows n) : Type 0 where
  pub rows_held : Held shift p.columns stride plane held
  pub near : (place_of held p.near).number ≡ Some p.near
  pub other : (place_of held p.other).number ≡ Some p.other

-- the rows held of U and of V are those of a picture
pub record ChromaHeld {n : ℕ} (s : Settings) (f : Frame) (u v : HeldRows n) : Type 0 where
  pub of_u : Held (16 - s.depth) (chroma_width f.width) f.u_stride f.u u
  pub of_v : Held (16 - s.depth) (chroma_width f.width) f.v_stride f.v v

-- the samples in the place of row c
abbrev pub held_row : {n : ℕ} → ℕ → HeldRows n → ℕ → List ℕ
held_row columns held c = take columns (place_of held c).samples
