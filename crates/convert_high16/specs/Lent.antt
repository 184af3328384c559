-- The planes of a lent picture, rows of them, and rows of them that are held.
-- Definitions only.
use Rattle.std.specs.Prelude.{◌≡◌, List, ℕ, ◌+◌, ◌*◌, ◌%◌, ◌≤◌, length, take, drop}
use Rattle.sample.specs.declared.plane.Plane.{Plane}
use Rattle.images.specs.declared.ChromaRows.{ChromaRows}
use Rattle.images.specs.declared.picture.YuvPlanarImage.{YuvPlanarImage}
use Rattle.convert_high16.specs.declared.HeldRow.{HeldRow}
use Rattle.convert_high16.specs.declared.HeldRows.{HeldRows}
use Rattle.convert_high16.specs.Held.{Unpacked, Held, BothHeld}

abbrev pub y_of : YuvPlanarImage ℕ → Plane ℕ
y_of i = record { elements = i.y_plane; stride = i.y_stride }

abbrev pub u_of : YuvPlanarImage ℕ → Plane ℕ
u_of i = record { elements = i.u_plane; stride = i.u_stride }

abbrev pub v_of : YuvPlanarImage ℕ → Plane ℕ
v_of i = record { elements = i.v_plane; stride = i.v_stride }

-- row c of a plane, of n elements; and that the plane has it
abbrev pub row_in : Plane ℕ → ℕ → ℕ → List ℕ
row_in p c n = take n (drop (p.stride * c) p.elements.now)

abbrev pub RowIn : Plane ℕ → ℕ → ℕ → Type 0
RowIn p c n = p.stride * c + n ≤ length p.elements.now

-- that it has both chroma rows of a luma row, which are neighbours or the same
abbrev pub BothIn : Plane ℕ → ChromaRows → Type 0
BothIn p rows = RowIn p rows.near rows.columns × RowIn p rows.other rows.columns

abbrev pub Neighbours : ChromaRows → Type 0
Neighbours rows = rows.near % 2 ≡ rows.other % 2 → rows.near ≡ rows.other

-- rows of a plane that are held unpacked
abbrev pub UnpackedOf : {n : ℕ} → ℕ → ℕ → Plane ℕ → HeldRow n → Type 0
UnpackedOf shift columns p held = Unpacked shift columns p.stride p.elements.now held

abbrev pub HeldOf : {n : ℕ} → ℕ → ℕ → Plane ℕ → HeldRows n → Type 0
HeldOf shift columns p held = Held shift columns p.stride p.elements.now held

abbrev pub BothHeldOf : {n : ℕ} → ℕ → ChromaRows → Plane ℕ → HeldRows n → Type 0
BothHeldOf shift rows p held = BothHeld shift rows p.stride p.elements.now held
