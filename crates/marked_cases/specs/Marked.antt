-- Document 01, "Marked cases": one field a case, in document 01's order, then document 02's, by the definitions that the entries' promises cite.
-- Definitions only.
use Rattle.std.specs.Prelude.{ℕ, ◌*◌, ◌≡◌, false, List, [], ◌∷◌, ◌++◌, Float, length, replicate}
use Rattle.std.specs.Float.{binary32}
use Rattle.std.specs.Float.Ieee.{round}
use Rattle.yuv_support.specs.declared.YuvRange.{YuvRange}
use Rattle.yuv_support.specs.declared.YuvRange.TheVariants.{Limited, Full}
use Rattle.yuv_support.specs.declared.YuvStandardMatrix.{YuvStandardMatrix}
use Rattle.yuv_support.specs.declared.YuvStandardMatrix.TheVariants.{Bt601, Bt709, Smpte240, Fcc, Custom}
use Rattle.yuv_support.specs.declared.YuvChromaSubsampling.TheVariants.{Yuv420}
use Rattle.yuv_support.specs.declared.YuvSourceChannels.TheVariants.{Rgb}
use Rattle.yuv_support.specs.declared.YuvBytesPacking.TheVariants.{LeastSignificantBytes}
use Rattle.yuv_support.specs.declared.YuvMode.{YuvMode}
use Rattle.yuv_support.specs.declared.YuvMode.TheVariants.{AsSource, Matched}
use Rattle.yuv_support.specs.declared.CbCrInverseTransform.{CbCrInverseTransform}
use Rattle.yuv_support.specs.declared.Clipped.{Clipped}
use Rattle.yuv_support.specs.declared.Codes.{Codes}
use Rattle.yuv_support.specs.declared.Settings.{Settings}
use Rattle.yuv_support.specs.declared.Geometry.{Geometry}
use Rattle.yuv_support.specs.Settings.{depths8, bias_c}
use Rattle.yuv_support.specs.Coefficients.{coefficients_of}
use Rattle.yuv_support.specs.Blend.{Chroma, chroma_blue, chroma_red, one, two, left, right, tail, sixteenths, rounded, chroma_width, chroma_height}
use Rattle.yuv_support.specs.Component.{red, green, blue, component_of}
use Rattle.yuv_support.specs.Picture.{band_rows}
use Rattle.yuv_support.specs.Questions.{Verdict, accepted, refused, verdict, Request, Extent, extent, conversion_questions, band_questions}
use Rattle.yuv_support.specs.Conversion.{clipped_after, destination_after_band}
use Rattle.yuv_error.specs.Told.{as_told}
use Rattle.sheet_text.specs.Sheet.{sheet_of}
use Rattle.settings_used.specs.Used.{refusal, settings_used_of}
use Rattle.y4m_text.specs.Write.{header_text}
use Rattle.y4m_frames.specs.Questions.{lengths_of, strides}
use Rattle.y4m.specs.declared.Y4mFrame.{Y4mFrame}
use Rattle.y4m.specs.declared.Written.{Written}
use Rattle.y4m.specs.Reading.{header_told, frame_told, y_after, u_after, v_after}
use Rattle.y4m.specs.Writing.{header_written, after_header, frame_written, after_frame}
use Rattle.planes.specs.Woven.{lent as lent_plane}
use Rattle.weave.specs.Weaving.{weave_questions, after_weaving, u_after_unweaving, v_after_unweaving}
use Rattle.marked_cases.specs.Sheet.{marked_input, marked_output}
use Rattle.marked_cases.specs.Streams.{word, w0, w2, w16384, w16385, h1, h2, c420, c420jpeg, c422, c422p10, passed_over, ended, header2x2, header1x1, frame_word, samples_short, samples, frame2x2, frame1x1}

-- the settings of a mode, a depth, a range and a matrix; sampling, order and packing have no part in a component of samples that are given
abbrev pub setting_in : YuvMode → ℕ → YuvRange → YuvStandardMatrix → Settings
setting_in mode d r m = record {
  depth = d;
  sampling = Yuv420;
  order = Rgb;
  range = r;
  matrix = m;
  packing = LeastSignificantBytes;
  mode = mode;
}

-- as in the source
abbrev pub setting : ℕ → YuvRange → YuvStandardMatrix → Settings
setting d r m = setting_in AsSource d r m

-- R, G and B from Y, U and V
abbrev pub pixel : Settings → ℕ → ℕ → ℕ → List ℕ
pixel s y u v = component_of s red y u v ∷ component_of s green y u v ∷ component_of s blue y u v ∷ []

-- the same of neutral chroma
abbrev pub neutral : Settings → ℕ → List ℕ
neutral s y = pixel s y (bias_c s.depth) (bias_c s.depth)

-- R, G and B alike
abbrev pub grey : ℕ → List ℕ
grey n = n ∷ n ∷ n ∷ []

-- y, cr, cb, g1, g2
abbrev pub five : ℕ → ℕ → ℕ → ℕ → ℕ → CbCrInverseTransform
five y cr cb g1 g2 = record { y = y; cr = cr; cb = cb; g1 = g1; g2 = g2 }

-- ---- Custom

-- the f32 nearest to n tenths
abbrev pub tenths : ℕ → Float
tenths n = round binary32 false n 10

-- P holds at every known depth
abbrev pub AtEachDepth : (ℕ → Type 0) → Type 0
AtEachDepth P = P 8 × P 10 × P 12

-- ---- a conversion

-- 4:2:0 to RGB, samples in the low bits, by mode, depth, range and matrix, both weights being k
abbrev pub codes_in : ℕ → ℕ → ℕ → ℕ → Float → Codes
codes_in mode depth range matrix k = record {
  depth = depth;
  sampling = 0;
  order = 0;
  range = range;
  matrix = matrix;
  packing = 0;
  mode = mode;
  kr = k;
  kb = k;
}

abbrev pub codes : ℕ → ℕ → ℕ → Float → Codes
codes depth range matrix k = codes_in 0 depth range matrix k

-- Custom with both weights k gets number 13 at depth d, in either range
abbrev pub Number13 : Float → ℕ → Type 0
Number13 k d =
    (settings_used_of (codes d 0 6 k) ≡ refusal (as_told (refused 13)))
    × (settings_used_of (codes d 1 6 k) ≡ refusal (as_told (refused 13)))

-- strides and buffers just large enough for the sides
abbrev pub image : ℕ → ℕ → Geometry
image width height = record {
  width = width;
  height = height;
  y_stride = width;
  u_stride = chroma_width width;
  v_stride = chroma_width width;
}

abbrev pub request : Codes → ℕ → ℕ → Request
request c width height = record {
  codes = c;
  image = image width height;
  y_length = width * height;
  u_length = chroma_width width * chroma_height Yuv420 height;
  v_length = chroma_width width * chroma_height Yuv420 height;
  rgb = extent (width * 3 * height) (width * 3);
}

abbrev pub verdict_on : Codes → ℕ → ℕ → Verdict
verdict_on c width height = verdict (conversion_questions depths8 (request c width height))

-- of a band from a first row on
abbrev pub band_on : Codes → ℕ → ℕ → ℕ → Verdict
band_on c width height first = verdict (band_questions (conversion_questions depths8 (request c width height)) first height)

-- below and above
abbrev pub counts : ℕ → ℕ → Clipped
counts below above = record { below = below; above = above }

-- what was clipped in a row of luma y and chroma u and v, the destination having n elements
abbrev pub clipped_on : Codes → List ℕ → List ℕ → List ℕ → ℕ → Clipped
clipped_on c y u v n = clipped_after depths8 c (image (length y) 1) y u v (length y * 3) (replicate n 0)

-- ---- a stream

-- the number, next and found, then what the header says: width, height, sampling, depth
abbrev pub answer : ℕ → ℕ → ℕ → ℕ → ℕ → ℕ → ℕ → Y4mFrame
answer number next found width height sampling depth = record {
  number = number;
  expected = 0;
  received = 0;
  next = next;
  width = width;
  height = height;
  sampling = sampling;
  depth = depth;
  found = found;
}

-- the same of a header that meets 16 or 17
abbrev pub nothing : ℕ → ℕ → Y4mFrame
nothing number next = answer number next 0 0 0 0 0

-- each of the three planes that are lent for a frame, with the strides 3, 2 and 2
abbrev pub lent : List ℕ
lent = replicate 5 7

-- planes whose samples have e bytes
abbrev pub read_on : ℕ → List ℕ → ℕ → Y4mFrame
read_on e s place = frame_told e s place (strides 3 2 2) (lengths_of lent lent lent)

-- Y, U and V after the call
abbrev pub planes_after : ℕ → List ℕ → ℕ → List (List ℕ)
planes_after e s place =
    y_after e s place (strides 3 2 2) (lengths_of lent lent lent) lent
    ∷ u_after e s place (strides 3 2 2) (lengths_of lent lent lent) lent
    ∷ v_after e s place (strides 3 2 2) (lengths_of lent lent lent) lent ∷ []

abbrev pub kept : List (List ℕ)
kept = lent ∷ lent ∷ lent ∷ []

abbrev pub written : ℕ → ℕ → ℕ → ℕ → Written
written number expected received bytes = record { number = number; expected = expected; received = received; written = bytes }

-- ---- the table

-- the verdict on planes of U, of V and the woven one
abbrev pub weave_on : ℕ → ℕ → Extent → Extent → Extent → Verdict
weave_on width height u v uv = verdict (weave_questions width height u v uv)

pub record Marked : Type 0 where
  -- "the sheet above": the whole output of the whole input, byte by byte
  pub sheet : sheet_of marked_input ≡ marked_output
  -- "the sheet above": 8 bits, full, BT.601, U 128, V 228; Y 100: 240 29 100; Y 50: 190 0 50
  pub sheet_pixels :
      (pixel (setting 8 Full Bt601) 100 128 228 ≡ 240 ∷ 29 ∷ 100 ∷ [])
      × (pixel (setting 8 Full Bt601) 50 128 228 ≡ 190 ∷ 0 ∷ 50 ∷ [])
  -- "a,b = 10,20: left 13, right 18"
  pub one_row : (ch : Chroma) (c e : ℕ) →
      (rounded (sixteenths AsSource ch one left 10 20 c e) ≡ 13)
      × (rounded (sixteenths AsSource ch one right 10 20 c e) ≡ 18)
  -- "Far row 30,40 besides: 18, 23"
  pub two_rows : (ch : Chroma) →
      (rounded (sixteenths AsSource ch two left 10 20 30 40) ≡ 18)
      × (rounded (sixteenths AsSource ch two right 10 20 30 40) ≡ 23)
  -- "Tail near 10, far 30: Cb 15, Cr 25"
  pub two_row_tail : (b e : ℕ) →
      (rounded (sixteenths AsSource chroma_blue two tail 10 b 30 e) ≡ 15)
      × (rounded (sixteenths AsSource chroma_red two tail 10 b 30 e) ≡ 25)
  -- "Limited BT.709, neutral, Y 0, 16, 235, 255: 0, 0, 255, 255"
  pub limited_bt709 :
      (neutral (setting 8 Limited Bt709) 0 ≡ grey 0)
      × (neutral (setting 8 Limited Bt709) 16 ≡ grey 0)
      × (neutral (setting 8 Limited Bt709) 235 ≡ grey 255)
      × (neutral (setting 8 Limited Bt709) 255 ≡ grey 255)
  -- "10 bits limited BT.601, neutral, Y 940: 1023"
  pub limited_bt601_10_bits : neutral (setting 10 Limited Bt601) 940 ≡ grey 1023
  -- "`Smpte240` 8 full, Y 100, V 178, U 128: R 191, G 89"
  pub smpte240 :
      (component_of (setting 8 Full Smpte240) red 100 128 178 ≡ 191)
      × (component_of (setting 8 Full Smpte240) green 100 128 178 ≡ 89)
  -- "`Fcc` 8 full: 8192, 11469, 14582, 5832, 2719 (y, cr, cb, g1, g2)"
  pub fcc : coefficients_of (setting 8 Full Fcc) ≡ five 8192 11469 14582 5832 2719
  -- "Custom 0,0 full: 8192, 16384, 16384, 0, 0; 0.4,0.4 and 0.5,0.5: number 13"
  pub custom_weights :
      AtEachDepth (λ d. coefficients_of (setting d Full (Custom (tenths 0) (tenths 0))) ≡ five 8192 16384 16384 0 0)
      × AtEachDepth (Number13 (tenths 4))
      × AtEachDepth (Number13 (tenths 5))
      × (verdict_on (codes 8 1 6 (tenths 4)) 2 2 ≡ refused 13)
      × (verdict_on (codes 8 1 6 (tenths 5)) 2 2 ≡ refused 13)
  -- "Sides 16,384 pass question 4; 16,385 do not"
  pub largest_sides :
      (verdict_on (codes 8 1 0 (tenths 0)) 16384 16384 ≡ accepted)
      × (verdict_on (codes 8 1 0 (tenths 0)) 16385 16384 ≡ refused 4)
      × (verdict_on (codes 8 1 0 (tenths 0)) 16384 16385 ≡ refused 4)
  -- document 02, slip 2: "W, H and C in this order, C always given, no leading zeros"
  pub written_header :
      (header_text 0 8 2 2 ≡ word ++ w2 ++ h2 ++ c420jpeg ++ ended)
      × (header_text 1 10 16384 1 ≡ word ++ w16384 ++ h1 ++ c422p10 ++ ended)
  -- "Each tells the bytes written, 0 on a refusal"; all else in the output is kept
  pub header_output :
      (header_written 0 8 2 2 26 ≡ written 0 0 0 25)
      × (after_header 0 8 2 2 (replicate 26 7) ≡ word ++ w2 ++ h2 ++ c420jpeg ++ ended ++ 7 ∷ [])
      × (header_written 0 8 2 2 24 ≡ written 5 25 24 0)
      × (after_header 0 8 2 2 (replicate 24 7) ≡ replicate 24 7)
  -- "C .. is 420jpeg if absent"; else it is told by its name
  pub header_formats :
      (header_told header2x2 ≡ answer 0 16 0 2 2 0 8)
      × (header_told (word ++ w16384 ++ h1 ++ c422p10 ++ ended) ≡ answer 0 28 0 16384 1 1 10)
  -- "W and H are needed"; "A W, H or C repeated in the header, or an empty field in either line, is malformed"
  pub header_malformed :
      (header_told (word ++ w2 ++ ended) ≡ nothing 16 0)
      × (header_told (word ++ w2 ++ h2 ++ c422 ++ c422 ++ ended) ≡ nothing 16 0)
      × (header_told (word ++ w2 ++ h2 ++ passed_over 0 ++ ended) ≡ nothing 16 0)
  -- "hold at most 256 bytes with it; a line not so ended is malformed"
  pub longest_line :
      (header_told (word ++ w2 ++ h2 ++ passed_over 239 ++ ended) ≡ answer 0 256 0 2 2 0 8)
      × (header_told (word ++ w2 ++ h2 ++ passed_over 240 ++ ended) ≡ nothing 16 0)
      × (header_told (word ++ w2 ++ h2) ≡ nothing 16 0)
  -- "then 17 for another C, a C of another element width than the lent planes or a side outside 1 to 16,384"
  pub header_unknown :
      (header_told (word ++ w2 ++ h2 ++ c420 ++ ended) ≡ nothing 17 0)
      × (header_told (word ++ w0 ++ h2 ++ ended) ≡ nothing 17 0)
      × (header_told (word ++ w16385 ++ h2 ++ ended) ≡ nothing 17 0)
      × (read_on 2 (header2x2 ++ frame2x2) 0 ≡ nothing 17 0)
  -- "Planes follow unpadded, Y, U, V"; "all else that was lent is kept"
  pub frame_read :
      (read_on 1 (header2x2 ++ frame2x2) 0 ≡ answer 0 28 1 2 2 0 8)
      × (planes_after 1 (header2x2 ++ frame2x2) 16
      ≡ (1 ∷ 2 ∷ 7 ∷ 3 ∷ 4 ∷ []) ∷ (5 ∷ 7 ∷ 7 ∷ 7 ∷ 7 ∷ []) ∷ (6 ∷ 7 ∷ 7 ∷ 7 ∷ 7 ∷ []) ∷ [])
  -- "u16 samples low byte first"
  pub low_byte_first :
      (read_on 2 (header1x1 ++ frame1x1) 0 ≡ answer 0 36 1 1 1 0 10)
      × (planes_after 2 (header1x1 ++ frame1x1) 0
      ≡ (513 ∷ 7 ∷ 7 ∷ 7 ∷ 7 ∷ []) ∷ (3 ∷ 7 ∷ 7 ∷ 7 ∷ 7 ∷ []) ∷ (4 ∷ 7 ∷ 7 ∷ 7 ∷ 7 ∷ []) ∷ [])
  -- "18 for a frame that ends early": the last byte is missing
  pub frame_short :
      (read_on 1 (header2x2 ++ frame_word ++ ended ++ samples_short) 16 ≡ answer 18 16 0 2 2 0 8)
      × (planes_after 1 (header2x2 ++ frame_word ++ ended ++ samples_short) 16 ≡ kept)
  -- "FRAME is followed by byte 10 or a space": not by an S, which is 16 before 17 too; "a place inside the header line or past the stream's end
  -- is 16"
  pub frame_line :
      (read_on 1 (header2x2 ++ frame_word ++ passed_over 1 ++ ended ++ samples) 0 ≡ answer 0 30 1 2 2 0 8)
      × (read_on 1 (header2x2 ++ frame_word ++ 83 ∷ ended ++ samples) 0 ≡ answer 16 0 0 2 2 0 8)
      × (read_on 2 (header2x2 ++ frame_word ++ 83 ∷ ended ++ samples) 0 ≡ nothing 16 0)
      × (read_on 1 (header2x2 ++ frame2x2) 15 ≡ answer 16 15 0 2 2 0 8)
      × (read_on 1 (header2x2 ++ frame2x2) 29 ≡ answer 16 29 0 2 2 0 8)
  -- "Where the stream ends at the place given .. the answer is 0 and "no further frame""
  pub no_further_frame :
      (read_on 1 (header2x2 ++ frame2x2) 28 ≡ answer 0 28 0 2 2 0 8)
      × (read_on 1 header2x2 0 ≡ answer 0 0 0 2 2 0 8)
      × (planes_after 1 header2x2 0 ≡ kept)
  -- "FRAME alone on its line, samples as they are"
  pub written_frame :
      let y : List ℕ = 1 ∷ 2 ∷ 3 ∷ 4 ∷ [] in
      let l = lengths_of y (5 ∷ []) (6 ∷ []) in
      (frame_written 1 0 8 (image 2 2) l 12 ≡ written 0 0 0 12)
      × (after_frame 1 0 8 (image 2 2) l y (5 ∷ []) (6 ∷ []) (replicate 12 7) ≡ frame2x2)
  -- slip 3: "the marked sheet ends with `clipped 1 0`"; `sheet` has its last line
  pub sheet_clipped : clipped_on (codes 8 1 0 (tenths 0)) (100 ∷ 50 ∷ []) (128 ∷ []) (228 ∷ []) 6 ≡ counts 1 0
  -- of limited BT.709, neutral, Y 0, 16, 235, 255 the first pixel lies below 0 and the last above 255; a quotient of 0 or 255 is not clipped
  pub limited_bt709_clipped :
      clipped_on (codes 8 0 1 (tenths 0)) (0 ∷ 16 ∷ 235 ∷ 255 ∷ []) (128 ∷ 128 ∷ []) (128 ∷ 128 ∷ []) 12 ≡ counts 3 3
  -- "a refused call gives 0 and 0": the destination lacks an element
  pub refused_clipped : clipped_on (codes 8 1 0 (tenths 0)) (100 ∷ 50 ∷ []) (128 ∷ []) (228 ∷ []) 5 ≡ counts 0 0
  -- slip 4: "the two-row tail of Cr has Cb's weights"
  pub matched_tail : (b e : ℕ) →
      (rounded (sixteenths Matched chroma_blue two tail 10 b 30 e) ≡ 15)
      × (rounded (sixteenths Matched chroma_red two tail 10 b 30 e) ≡ 15)
  -- `Smpte240` at 8 bits: "Y 100, U 128, V 178, full range, then gives R 179, G 76"
  pub matched_smpte240 :
      (component_of (setting_in Matched 8 Full Smpte240) red 100 128 178 ≡ 179)
      × (component_of (setting_in Matched 8 Full Smpte240) green 100 128 178 ≡ 76)
  -- "It refuses another mode code at question 2"
  pub mode_known :
      (verdict_on (codes_in 1 8 1 3 (tenths 0)) 2 2 ≡ accepted)
      × (verdict_on (codes_in 2 8 1 3 (tenths 0)) 2 2 ≡ refused 2)
  -- slip 5: "min(limit, rows left), made even by dropping one row unless it reaches the last row"
  pub rows_of_a_band :
      (band_rows 7 0 1 ≡ 0) × (band_rows 7 0 3 ≡ 2) × (band_rows 7 2 4 ≡ 4) × (band_rows 7 4 3 ≡ 3) × (band_rows 7 6 1 ≡ 1) × (band_rows 8 6 1 ≡ 0)
      × (band_rows 7 0 4294967295 ≡ 7)
  -- "A first row equal to the height writes 0 rows"
  pub no_rows_at_the_height : (band_rows 7 7 2 ≡ 0) × (band_rows 8 8 2 ≡ 0)
  -- "It refuses 19 for an odd first row below the height, or one above it, after question 13; an odd height itself may be the first row"
  pub first_row :
      (band_on (codes 8 1 0 (tenths 0)) 2 7 6 ≡ accepted)
      × (band_on (codes 8 1 0 (tenths 0)) 2 7 7 ≡ accepted)
      × (band_on (codes 8 1 0 (tenths 0)) 2 7 5 ≡ refused 19)
      × (band_on (codes 8 1 0 (tenths 0)) 2 7 8 ≡ refused 19)
      × (band_on (codes 8 1 6 (tenths 5)) 2 7 5 ≡ refused 13)
  -- the last row of three, and nothing else
  pub last_odd_row :
      destination_after_band depths8 (codes 8 1 0 (tenths 0)) (image 1 3) (10 ∷ 20 ∷ 30 ∷ []) (128 ∷ 128 ∷ []) (128 ∷ 128 ∷ []) 3 (replicate 9 7) 2 2
      ≡ 7 ∷ 7 ∷ 7 ∷ 7 ∷ 7 ∷ 7 ∷ 30 ∷ 30 ∷ 30 ∷ []
  -- slip 8: "each row's U and V samples alternating, U first"; all else is kept
  pub woven_plane :
      after_weaving 2 2 (lent_plane (10 ∷ 20 ∷ 9 ∷ 30 ∷ 40 ∷ []) 3) (lent_plane (50 ∷ 60 ∷ 70 ∷ 80 ∷ []) 2) (lent_plane (replicate 10 7) 5)
      ≡ 10 ∷ 50 ∷ 20 ∷ 60 ∷ 7 ∷ 30 ∷ 70 ∷ 40 ∷ 80 ∷ 7 ∷ []
  -- its undoing
  pub unwoven_planes :
      let uv = lent_plane (10 ∷ 50 ∷ 20 ∷ 60 ∷ 9 ∷ 30 ∷ 70 ∷ 40 ∷ 80 ∷ []) 5 in
      (u_after_unweaving 2 2 (lent_plane (replicate 6 7) 3) (lent_plane (replicate 5 7) 2) uv ≡ 10 ∷ 20 ∷ 7 ∷ 30 ∷ 40 ∷ 7 ∷ [])
      × (v_after_unweaving 2 2 (lent_plane (replicate 6 7) 3) (lent_plane (replicate 5 7) 2) uv ≡ 50 ∷ 60 ∷ 70 ∷ 80 ∷ 7 ∷ [])
  -- "It refuses 22 for a plane short by the form of 5 or a stride below the row, after questions 3 and 4"
  pub planes_usable :
      (weave_on 2 2 (extent 4 2) (extent 4 2) (extent 8 4) ≡ accepted)
      × (weave_on 2 2 (extent 3 2) (extent 4 2) (extent 8 4) ≡ refused 22)
      × (weave_on 2 2 (extent 4 2) (extent 9 1) (extent 8 4) ≡ refused 22)
      × (weave_on 2 2 (extent 4 2) (extent 4 2) (extent 7 4) ≡ refused 22)
      × (weave_on 2 2 (extent 4 2) (extent 4 2) (extent 9 3) ≡ refused 22)
      × (weave_on 16384 1 (extent 16384 16384) (extent 16384 16384) (extent 32768 32768) ≡ accepted)
      × (weave_on 16385 1 (extent 0 0) (extent 0 0) (extent 0 0) ≡ refused 4)
      × (weave_on 2 0 (extent 0 0) (extent 0 0) (extent 0 0) ≡ refused 3)
  -- a refused call changes nothing
  pub not_woven : after_weaving 2 2 (lent_plane (10 ∷ 20 ∷ 30 ∷ []) 2) (lent_plane (50 ∷ 60 ∷ 70 ∷ 80 ∷ []) 2) (lent_plane (replicate 8 7) 4) ≡ replicate 8 7
