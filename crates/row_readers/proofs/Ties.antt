-- The readers beside the conversion. Row r cut out of a painted buffer is the definition's row, place by place (`cell_at`). So after an accepted
-- conversion the finished-row reader, asked with the same order, sides and stride, is accepted at each row below the height and hands back the
-- row of the definition. The near chroma row's elements, unpacked, are the samples that blending takes as near.
-- Assumes nothing.
use mathlib.Core.Path.{◌≡◌, refl, sym, ap, ◌∙◌}
use mathlib.Core.Bool.{Bool, true, false, cond}
use mathlib.Core.List.{List}
use Prim.Native.Nat.{ℕ, zero, suc, ◌+◌, ◌*◌, ◌≤◌, ◌<◌}
use native.Mathlib.Omega.{arith}
use borrow.Author.Tests.{le-leb, lt-ltb, eq-eqb}
use lib.Dec.{eqb}
use lib.ListN.{length, get_or}
use Rattle.yuv_support.specs.declared.Codes.{Codes}
use Rattle.yuv_support.specs.declared.Settings.{Settings}
use Rattle.yuv_support.specs.declared.Geometry.{Geometry}
use Rattle.yuv_support.specs.Settings.{sampling_of, order_of, unpacked}
use Rattle.yuv_support.specs.Blend.{Frame, frame_of, chroma_blue, chroma_red, chroma_width, near_row, sample, chroma_sample}
use Rattle.yuv_support.specs.Picture.{channels_of, element_of, row_of, painted, band, picture}
use Rattle.yuv_support.specs.Questions.{accepted, decoded, needed, part_of, row_questions, finished_row, near_chroma_row}
use Rattle.yuv_support.specs.Conversion.{request_for, answer_to, destination_after}
use Rattle.yuv_support.proofs.Overlay.{is_overlay, overlay_at}
use Rattle.yuv_support.proofs.Rows.{cell_at, painted_length, row_fits, part_length, part_at}
use Rattle.yuv_support.proofs.Picture.{band_length}
use Rattle.yuv_support.proofs.Questions.{Accepted, accepted_facts, question_at, all_hold_accepted}
use Rattle.row_readers.specs.Readers.{extent_of, wanted, row_answer, row_part, chroma_row_answer, chroma_row_part}

-- ---- the finished row

pub row_of_painted : (f : ℕ → ℕ → ℕ) (stride n height row : ℕ) (old : List ℕ) → n ≤ stride → row < height → stride * row + n ≤ length old
    → part_of stride row n (painted f stride n 0 height old) ≡ row_of f row (part_of stride row n old)
row_of_painted f stride n height row old wide below long =
    is_overlay (λ x old. f row x) (part_of stride row n old) _ (new_length ∙ sym old_length)
    (λ x b. let h : x < n = omega (arith, old_length) in
    part_at (stride * row) n (painted f stride n 0 height old) x h
    ∙ cell_at f stride n 0 height row x old wide (omega arith) (omega arith) h (omega arith))
  where
    old_length : length (part_of stride row n old) ≡ n
    old_length = part_length (stride * row) n old (omega arith)

    new_length : length (part_of stride row n (painted f stride n 0 height old)) ≡ n
    new_length = part_length (stride * row) n (painted f stride n 0 height old) (rw (painted_length f stride n 0 height old) (omega arith))

pub row_of_picture : (s : Settings) (f : Frame) (stride row : ℕ) (old : List ℕ) → f.width * channels_of s.order ≤ stride → row < f.height
    → needed stride (f.width * channels_of s.order) f.height ≤ length old
    → part_of stride row (f.width * channels_of s.order) (picture s f stride old)
    ≡ row_of (element_of s f) row (part_of stride row (f.width * channels_of s.order) old)
unfolding picture band
row_of_picture s f stride row old wide below long =
    row_of_painted (element_of s f) stride (f.width * channels_of s.order) f.height row old wide below
    (row_fits stride (f.width * channels_of s.order) f.height row (length old) long below)

module _ (known : List ℕ) (codes : Codes) (image : Geometry) (y u v : List ℕ) (stride : ℕ) (rgb : List ℕ) (row : ℕ)
    (converted : (answer_to known codes image y u v stride rgb).number ≡ 0) (below : row < image.height) where
  facts : Accepted known (request_for codes image y u v stride rgb)
  unfolding answer_to
  facts = accepted_facts known (request_for codes image y u v stride rgb) converted

  after : destination_after known codes image y u v stride rgb ≡ picture (decoded codes) (frame_of image y u v) stride rgb
  unfolding destination_after
  after = rw (eq-eqb _ _ converted)

  after_length : length (destination_after known codes image y u v stride rgb) ≡ length rgb
  unfolding picture
  after_length = ap length after ∙ band_length (decoded codes) (frame_of image y u v) stride 0 image.height rgb

  -- the reader accepts the converted destination
  pub converted_row_accepted : row_answer codes.order image.width image.height (extent_of (destination_after known codes image y u v stride rgb) stride) row ≡ accepted
  unfolding row_questions
  converted_row_accepted = rw after_length (all_hold_accepted (row_questions codes.order image.width image.height (extent_of rgb stride) row) holds)
    where
      holds : (k : ℕ) → (question_at (row_questions codes.order image.width image.height (extent_of rgb stride) row) k).holds ≡ true
      holds zero = le-leb _ _ facts.order
      holds (suc zero) = rw (le-leb _ _ facts.width_least, le-leb _ _ facts.height_least)
      holds (suc (suc zero)) = rw (le-leb _ _ facts.width_most, le-leb _ _ facts.height_most)
      holds (suc (suc (suc zero))) = le-leb _ _ facts.rgb_length
      holds (suc (suc (suc (suc zero)))) = le-leb _ _ facts.rgb_stride
      holds (suc (suc (suc (suc (suc zero))))) = lt-ltb _ _ below
      holds (suc (suc (suc (suc (suc (suc k)))))) = refl

  -- and hands back the row of the definition
  pub converted_row : row_part codes.order image.width image.height (destination_after known codes image y u v stride rgb) stride row
      ≡ row_of (element_of (decoded codes) (frame_of image y u v)) row (finished_row codes.order image.width stride row rgb)
  unfolding row_part finished_row
  converted_row =
      rw (converted_row_accepted, after)
      (row_of_picture (decoded codes) (frame_of image y u v) stride row rgb facts.rgb_stride below facts.rgb_length)

  -- whose element x is letter x mod channels of the pixel at column x / channels
  pub converted_row_at : (x : ℕ) → x < image.width * channels_of (order_of codes.order)
      → get_or (row_part codes.order image.width image.height (destination_after known codes image y u v stride rgb) stride row) x 0
      ≡ element_of (decoded codes) (frame_of image y u v) row x
  unfolding finished_row
  converted_row_at x h =
      let n : ℕ = image.width * channels_of (order_of codes.order) in
      let l : length (part_of stride row n rgb) ≡ n = part_length (stride * row) n rgb (omega (arith, row_fits stride n image.height row (length rgb) facts.rgb_length below)) in
      rw converted_row
      (overlay_at (λ x old. element_of (decoded codes) (frame_of image y u v) row x) (part_of stride row n rgb) x (omega arith))

-- ---- the near chroma row

pub near_chroma_row_at : (s : Settings) (sampling width height stride row : ℕ) (plane : List ℕ) (column : ℕ) → column < chroma_width width
    → unpacked s.packing s.depth (get_or (near_chroma_row sampling width height stride row plane) column 0) ≡ sample s plane stride (near_row (sampling_of sampling) height row) column
unfolding near_chroma_row
near_chroma_row_at s sampling width height stride row plane column h = ap (unpacked s.packing s.depth) (part_at _ (chroma_width width) plane column h)

-- an accepted part holds the elements of a frame's near samples: Cb's for code 0, Cr's for code 1
pub chroma_row_at : (s : Settings) (f : Frame) (sampling plane row column : ℕ)
    → (chroma_row_answer sampling plane f.width f.height (extent_of f.u f.u_stride) (extent_of f.v f.v_stride) row).number ≡ 0
    → column < chroma_width f.width
    → unpacked s.packing s.depth (get_or (chroma_row_part sampling plane f.width f.height f.u f.u_stride f.v f.v_stride row) column 0)
    ≡ chroma_sample s f (wanted plane chroma_blue chroma_red) (near_row (sampling_of sampling) f.height row) column
unfolding chroma_row_part near_chroma_row
chroma_row_at s f sampling plane row column e h = rw (eq-eqb _ _ e) (by_code (eqb plane 0))
  where
    by_code : (t : Bool) → unpacked s.packing s.depth (get_or (near_chroma_row sampling f.width f.height (cond t f.u_stride f.v_stride) row (cond t f.u f.v)) column 0)
        ≡ chroma_sample s f (cond t chroma_blue chroma_red) (near_row (sampling_of sampling) f.height row) column
    by_code true = near_chroma_row_at s sampling f.width f.height f.u_stride row f.u column h
    by_code false = near_chroma_row_at s sampling f.width f.height f.v_stride row f.v column h
