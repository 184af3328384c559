-- Document 01's sheet, computed from the definition.
-- Assumes nothing.
use mathlib.Core.Path.{◌≡◌, refl}
use lib.Ieee.{of_int, mul, sub, div, le}
use Rattle.yuv_support.specs.Settings.{max_of, bias_y, bias_c, range_y, range_c, unpacked, weight_r, weight_b, weight_g, weights_of}
use Rattle.yuv_support.specs.Coefficients.{exact_y, exact_outer, exact_inner, stored_of, is_stored, ratio, green_weight, outer, inner, round_away, integer, computed_of, coefficients_of}
use Rattle.yuv_support.specs.Blend.{chroma_height, rows_of, place_of, near_row, far_row, sixteenths, chroma16}
use Rattle.yuv_support.specs.Component.{step, sum_of, quotient_of, component_of, quotient_at, component_at}
use Rattle.yuv_support.specs.Counts.{total, count_at, clipped_row, clipped_in}
use Rattle.yuv_support.specs.Questions.{verdict}
use Rattle.sheet_writing.specs.Text.{joined, leading_digit, decimal_text, number_text}
use Rattle.sheet_numbers.specs.Numbers.{digits_within, decimal, number_at, past, is_number, all_below, begin, is_item}
use Rattle.sheet_table.specs.Table.{pixel_text, clipped_text, table}
use Rattle.sheet_text.specs.Sheet.{has_names, has_values, values_of, rest_formed, sheet_frame, sheet_questions, refusal, sheet_of}
use Rattle.marked_cases.specs.Sheet.{marked_input, marked_output}

pub marked_sheet : sheet_of marked_input ≡ marked_output
unfolding max_of bias_y bias_c range_y range_c unpacked weight_r weight_b weight_g weights_of
    exact_y exact_outer exact_inner stored_of is_stored ratio green_weight outer inner round_away integer computed_of coefficients_of
    chroma_height rows_of place_of near_row far_row sixteenths chroma16 step sum_of quotient_of component_of quotient_at component_at
    total count_at clipped_row clipped_in
    of_int mul sub div le verdict
    joined leading_digit decimal_text number_text
    digits_within decimal number_at past is_number all_below begin is_item
    has_names has_values values_of rest_formed sheet_frame sheet_questions refusal pixel_text clipped_text table sheet_of
marked_sheet = refl
