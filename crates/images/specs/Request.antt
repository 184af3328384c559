-- What a conversion is asked with, from the structs of the code, and questions 7 to 12 of it.
-- Definitions only.
use Rattle.std.specs.Prelude.{ℕ, List, ◌++◌}
use Rattle.yuv_support.specs.declared.YuvChromaSubsampling.{YuvChromaSubsampling}
use Rattle.yuv_support.specs.declared.Codes.{Codes}
use Rattle.yuv_support.specs.declared.Geometry.{Geometry}
use Rattle.yuv_support.specs.Questions.{Question, Request, extent, plane, chroma_planes}
use Rattle.images.specs.declared.Lengths.{Lengths}

abbrev pub request_of : Codes → Geometry → Lengths → ℕ → Request
request_of codes image lengths rgb_stride = record {
  codes = codes;
  image = image;
  y_length = lengths.y;
  u_length = lengths.u;
  v_length = lengths.v;
  rgb = extent lengths.rgb rgb_stride;
}

-- 7 and 8 of luma, 9 and 10 of U, 11 and 12 of V
abbrev pub constraints : YuvChromaSubsampling → Geometry → Lengths → List Question
constraints s i l =
    plane 7 (extent l.y i.y_stride) i.width i.height
    ++ chroma_planes s i.width i.height (extent l.u i.u_stride) (extent l.v i.v_stride)
