-- Document 01, "Sheet program": what the seven values of the second line stand for.
-- Definitions only.
use Rattle.std.specs.Prelude.{ℕ, ◌*◌, Bool, cond, ◌&&◌, List, eqb, leb, Float, get_or}
use Rattle.std.specs.Float.{binary32}
use Rattle.std.specs.Float.Ieee.{of_bits}
use Rattle.yuv_support.specs.declared.Codes.{Codes}
use Rattle.yuv_support.specs.declared.Geometry.{Geometry}
use Rattle.yuv_support.specs.Settings.{sampling_of}
use Rattle.yuv_support.specs.Blend.{chroma_width, chroma_height}
use Rattle.sheet_values.specs.declared.Values.{Values}

-- the codes that the values are: samples in the low bits, the mode of the source, and no weights, for no value is Custom's
abbrev pub no_weight : Float
no_weight = of_bits binary32 0

abbrev pub codes_of : Values → Codes
codes_of v = record {
  depth = v.depth;
  sampling = v.sampling;
  order = v.order;
  range = v.range;
  matrix = v.matrix;
  packing = 0;
  mode = 0;
  kr = no_weight;
  kb = no_weight;
}

-- rows follow each other closely, so the strides are the widths
abbrev pub image_of : Values → Geometry
image_of v = record {
  width = v.width;
  height = v.height;
  y_stride = v.width;
  u_stride = chroma_width v.width;
  v_stride = chroma_width v.width;
}

-- the samples of luma, and of one chroma plane
abbrev pub luma_count : Values → ℕ
luma_count v = v.width * v.height

abbrev pub chroma_count : Values → ℕ
chroma_count v = chroma_width v.width * chroma_height (sampling_of v.sampling) v.height

-- the largest sample of the element's width: a byte at depth 8, else a u16
abbrev pub widest : Values → ℕ
widest v = cond (eqb v.depth 8) 255 65535

-- sides 1 to 64, matrix at most 5
abbrev pub is_small : Values → Bool
is_small v = leb 1 v.width && leb v.width 64 && leb 1 v.height && leb v.height 64 && leb v.matrix 5

-- seven numbers as the values
abbrev pub values_in : List ℕ → Values
values_in numbers = record {
  depth = get_or numbers 0 0;
  sampling = get_or numbers 1 0;
  order = get_or numbers 2 0;
  range = get_or numbers 3 0;
  matrix = get_or numbers 4 0;
  width = get_or numbers 5 0;
  height = get_or numbers 6 0;
}
