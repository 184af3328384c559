-- A lent picture as the definitions see it; and a destination that has room for rows of it.
-- Definitions only.
use Rattle.std.specs.Prelude.{List, ℕ, ◌+◌, ◌*◌, ◌≤◌, length}
use Rattle.yuv_support.specs.declared.Settings.{Settings}
use Rattle.yuv_support.specs.Blend.{Frame, frame_of}
use Rattle.yuv_support.specs.Picture.{channels_of}
use Rattle.yuv_support.specs.Questions.{needed}
use Rattle.images.specs.declared.picture.YuvPlanarImage.{YuvPlanarImage}
use Rattle.images.specs.Lent.{geometry}

-- the frame of a picture whose samples are these numbers
abbrev pub frame : {X : Type 0} → (List X → List ℕ) → YuvPlanarImage X → Frame
frame numbers i = frame_of (geometry i) (numbers i.y_plane.now) (numbers i.u_plane.now) (numbers i.v_plane.now)

-- the frame has `count` rows from row `first` on, and a destination of this stride has room for every row of it
pub record RowsFit (s : Settings) (f : Frame) (stride first count : ℕ) (rgb : List ℕ) : Type 0 where
  pub exist : first + count ≤ f.height
  pub wide : f.width * channels_of s.order ≤ stride
  pub room : needed stride (f.width * channels_of s.order) f.height ≤ length rgb
