-- A row in a channel order, from its luma row and the near and far rows of U and V, and what is clipped in it; and what converting rows
-- of a frame asks.
-- Definitions only.
use Rattle.std.specs.Prelude.{◌≡◌, List, ℕ, ◌-◌, ◌*◌, ◌≤◌, T, length}
use Rattle.yuv_support.specs.declared.YuvSourceChannels.{YuvSourceChannels}
use Rattle.yuv_support.specs.declared.YuvMode.{YuvMode}
use Rattle.yuv_support.specs.declared.Clipped.{Clipped}
use Rattle.yuv_support.specs.declared.Settings.{Settings}
use Rattle.yuv_support.specs.Settings.{among, depths}
use Rattle.yuv_support.specs.Coefficients.{usable}
use Rattle.yuv_support.specs.Blend.{Frame, Chroma, chroma_blue, chroma_red, chroma_width, chroma_height, tail_of, rounded}
use Rattle.yuv_support.specs.Picture.{channels_of}
use Rattle.yuv_support.specs.Questions.{needed}
use Rattle.numerics.specs.declared.Kernel.{Kernel}
use Rattle.numerics.specs.Row.{at, whole_value, whole_clipped}
use Rattle.kernel.specs.Kernels.{red_first, first_chroma, third_chroma, kernel_of}

-- the row of U for Cb, of V for Cr
abbrev pub pick : Chroma → List ℕ → List ℕ → List ℕ
pick chroma_blue u v = u
pick chroma_red u v = v

-- chroma of the tail, from the last samples of the near and the far row
abbrev pub last_of : YuvMode → ℕ → Chroma → List ℕ → List ℕ → ℕ
last_of mode width ch near far = rounded (tail_of mode ch (at near (chroma_width width - 1)) (at far (chroma_width width - 1)))

-- element x of the row
abbrev pub ordered_by : Kernel → ℕ → YuvMode → ℕ → Chroma → Chroma → List ℕ → List ℕ → List ℕ → List ℕ → List ℕ → ℕ → ℕ
ordered_by k n mode width p q y un uf vn vf =
    whole_value k n width y (pick p un vn) (pick p uf vf) (pick q un vn) (pick q uf vf)
    (last_of mode width p (pick p un vn) (pick p uf vf)) (last_of mode width q (pick q un vn) (pick q uf vf))

unfoldable pub ordered_value : Kernel → YuvSourceChannels → YuvMode → ℕ → List ℕ → List ℕ → List ℕ → List ℕ → List ℕ → ℕ → ℕ
ordered_value k o mode width = ordered_by k (channels_of o) mode width (first_chroma (red_first o)) (third_chroma (red_first o))

-- what is clipped in the row
abbrev pub clipped_by : Kernel → YuvMode → ℕ → Chroma → Chroma → List ℕ → List ℕ → List ℕ → List ℕ → List ℕ → Clipped
clipped_by k mode width p q y un uf vn vf =
    whole_clipped k width y (pick p un vn) (pick p uf vf) (pick q un vn) (pick q uf vf)
    (last_of mode width p (pick p un vn) (pick p uf vf)) (last_of mode width q (pick q un vn) (pick q uf vf))

unfoldable pub ordered_clipped : Kernel → YuvSourceChannels → YuvMode → ℕ → List ℕ → List ℕ → List ℕ → List ℕ → List ℕ → Clipped
ordered_clipped k o mode width = clipped_by k mode width (first_chroma (red_first o)) (third_chroma (red_first o))

-- the samples and the places of a row are there
pub record OrderedFits (o : YuvSourceChannels) (row y un uf vn vf : List ℕ) (width : ℕ) : Type 0 where
  pub some : 1 ≤ width
  pub wide : width ≤ 16384
  pub places : length row ≡ width * channels_of o
  pub luma : width ≤ length y
  pub u_near : chroma_width width ≤ length un
  pub u_far : chroma_width width ≤ length uf
  pub v_near : chroma_width width ≤ length vn
  pub v_far : chroma_width width ≤ length vf

-- settings that no question refuses, their kernel, and planes that hold the frame's samples
pub record Ready (s : Settings) (f : Frame) (k : Kernel) : Type 0 where
  pub known : T (among s.depth depths)
  pub weights : T (usable s)
  pub kernel : k ≡ kernel_of s
  pub width_least : 1 ≤ f.width
  pub width_most : f.width ≤ 16384
  pub height_most : f.height ≤ 16384
  pub y_length : needed f.y_stride f.width f.height ≤ length f.y
  pub u_length : needed f.u_stride (chroma_width f.width) (chroma_height s.sampling f.height) ≤ length f.u
  pub v_length : needed f.v_stride (chroma_width f.width) (chroma_height s.sampling f.height) ≤ length f.v
