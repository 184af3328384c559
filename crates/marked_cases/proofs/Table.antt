-- The marked cases hold: each is computed from the definitions on closed numbers and floats.
-- Assumes nothing.
use mathlib.Core.Path.{refl}
use lib.Ieee.{of_int, mul, sub, div, le}
use Rattle.yuv_support.specs.Settings.{max_of, bias_y, bias_c, range_y, range_c, unpacked, weight_r, weight_b, weight_g, weights_of}
use Rattle.yuv_support.specs.Coefficients.{exact_y, exact_outer, exact_inner, stored_of, is_stored, ratio, green_weight, outer, inner, round_away, integer, computed_of, coefficients_of, custom_usable, usable_with, usable}
use Rattle.yuv_support.specs.Blend.{chroma_height, rows_of, place_of, near_row, far_row, sixteenths, chroma16}
use Rattle.yuv_support.specs.Component.{step, sum_of, quotient_of, component_of, quotient_at, component_at}
use Rattle.yuv_support.specs.Counts.{total, count_at, clipped_row, clipped_in}
use Rattle.yuv_support.specs.Picture.{letters_of, channels_of, value_of, element_of, overlay, band, band_rows}
use Rattle.yuv_support.specs.Questions.{verdict, questions_of, settings_questions}
use Rattle.yuv_support.specs.Conversion.{answer_to, clipped_after, answer_to_band, rows_after, destination_after_band}
use Rattle.settings_used.specs.Used.{settings_used_of}
use Rattle.sheet_writing.specs.Text.{joined, leading_digit, decimal_text}
use Rattle.sheet_numbers.specs.Numbers.{decimal, all_below}
use Rattle.y4m_text.specs.Write.{name_of, header_text}
use Rattle.y4m_lines.specs.Lines.{before, is_line, fields, none_empty}
use Rattle.y4m_lines.specs.Header.{named, is_number, is_side, side_of, format_of, is_colour, colour_of, is_header, width_of, height_of, format_in, is_frame_line}
use Rattle.sample.specs.Bytes.{bytes_of, sample_at}
use Rattle.planes.specs.Stream.{row_bytes, plane_bytes, plane_read}
use Rattle.y4m_frames.specs.Stream.{is_known, ends_at, is_place}
use Rattle.y4m_frames.specs.Questions.{frame_questions, frame_answer, is_read}
use Rattle.y4m.specs.Reading.{header_questions, header_told, frame_told, y_after, u_after, v_after}
use Rattle.y4m.specs.Writing.{write_header_answer, header_written, after_header, frame_text, write_frame_answer, frame_written, after_frame}
use Rattle.planes.specs.Woven.{alternating, woven, unwoven}
use Rattle.weave.specs.Weaving.{weave_questions, after_weaving, u_after_unweaving, v_after_unweaving}
use Rattle.marked_cases.specs.Marked.{Marked}
use Rattle.marked_cases.proofs.Sheet.{marked_sheet}

pub marked : Marked
unfolding max_of bias_y bias_c range_y range_c unpacked weight_r weight_b weight_g weights_of
    exact_y exact_outer exact_inner stored_of is_stored ratio green_weight outer inner round_away integer computed_of coefficients_of custom_usable usable_with usable
    chroma_height rows_of place_of near_row far_row sixteenths chroma16 step sum_of quotient_of component_of quotient_at
    total count_at clipped_row clipped_in answer_to clipped_after
    component_at value_of element_of overlay band band_rows answer_to_band rows_after destination_after_band
    letters_of channels_of verdict questions_of settings_questions settings_used_of
    of_int mul sub div le
    joined leading_digit decimal_text decimal all_below name_of header_text
    before is_line fields none_empty named is_number is_side side_of format_of is_colour colour_of is_header width_of height_of format_in is_frame_line
    bytes_of sample_at row_bytes plane_bytes plane_read is_known ends_at is_place frame_questions frame_answer is_read
    header_questions header_told frame_told y_after u_after v_after
    write_header_answer header_written after_header frame_text write_frame_answer frame_written after_frame
    alternating woven unwoven weave_questions after_weaving u_after_unweaving v_after_unweaving
marked = record {
  sheet = marked_sheet;
  sheet_pixels = (refl, refl);
  one_row = λ ch c e. (refl, refl);
  two_rows = λ ch. (refl, refl);
  two_row_tail = λ b e. (refl, refl);
  limited_bt709 = (refl, refl, refl, refl);
  limited_bt601_10_bits = refl;
  smpte240 = (refl, refl);
  fcc = refl;
  custom_weights = (
    (refl, refl, refl),
    ((refl, refl), (refl, refl), (refl, refl)),
    ((refl, refl), (refl, refl), (refl, refl)),
    refl,
    refl,
  );
  largest_sides = (refl, refl, refl);
  written_header = (refl, refl);
  header_output = (refl, refl, refl, refl);
  header_formats = (refl, refl);
  header_malformed = (refl, refl, refl);
  longest_line = (refl, refl, refl);
  header_unknown = (refl, refl, refl, refl);
  frame_read = (refl, refl);
  low_byte_first = (refl, refl);
  frame_short = (refl, refl);
  frame_line = (refl, refl, refl, refl, refl);
  no_further_frame = (refl, refl, refl);
  written_frame = (refl, refl);
  sheet_clipped = refl;
  limited_bt709_clipped = refl;
  refused_clipped = refl;
  matched_tail = λ b e. (refl, refl);
  matched_smpte240 = (refl, refl);
  mode_known = (refl, refl);
  rows_of_a_band = (refl, refl, refl, refl, refl, refl, refl);
  no_rows_at_the_height = (refl, refl);
  first_row = (refl, refl, refl, refl, refl);
  last_odd_row = refl;
  woven_plane = refl;
  unwoven_planes = (refl, refl);
  planes_usable = (refl, refl, refl, refl, refl, refl, refl, refl);
  not_woven = refl;
}
