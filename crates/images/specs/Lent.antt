-- What the questions read of a lent picture.
-- Definitions only.
use Rattle.std.specs.Prelude.{ℕ, length}
use Rattle.yuv_support.specs.declared.Geometry.{Geometry}
use Rattle.images.specs.declared.Lengths.{Lengths}
use Rattle.images.specs.declared.picture.YuvPlanarImage.{YuvPlanarImage}

-- the sides and the strides
abbrev pub geometry : {X : Type 0} → YuvPlanarImage X → Geometry
geometry i = record {
  width = i.width;
  height = i.height;
  y_stride = i.y_stride;
  u_stride = i.u_stride;
  v_stride = i.v_stride;
}

-- the lengths of the planes, and of a destination
abbrev pub lengths_with : {X : Type 0} → YuvPlanarImage X → ℕ → Lengths
lengths_with i rgb = record { y = length i.y_plane.now; u = length i.u_plane.now; v = length i.v_plane.now; rgb = rgb }
