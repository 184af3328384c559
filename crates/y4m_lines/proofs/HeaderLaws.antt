-- Laws of the header: a side and the colour by the texts of their fields, what reading the header answers once its line was found (`whole_header`).
-- Assumes nothing.
use mathlib.Core.Path.{◌≡◌, refl, sym, ◌∙◌}
use mathlib.Core.Bool.{Bool, true, false, cond, ◌&&◌}
use mathlib.Core.List.{List, [], ◌∷◌}
use Prim.Native.Nat.{ℕ, ◌+◌, ◌-◌, ◌≤◌}
use native.Mathlib.Omega.{arith}
use lib.Dec.{eqb}
use lib.ListN.{length, take}
use lib.Pointwise.{pointwise}
use denote.Ref.{Bor}
use Rattle.std.specs.Prelude.{Option, Some, None, Result, Ok, Err}
use Rattle.std.specs.Option.{option_copied, option_to_list}
use Rattle.std.specs.Result.{IsErr, result_ok}
use Rattle.sheet_numbers.specs.Read.{begins_with}
use Rattle.sheet_numbers.proofs.Begins.{starts_begins}
use Rattle.sheet_numbers.proofs.Optional.{some_met, none_unmet}
use Rattle.y4m_text.specs.Words.{header_word}
use Rattle.yuv_support.specs.declared.YuvChromaSubsampling.TheVariants.{Yuv420}
use Rattle.y4m_text.specs.declared.Format.{Format}
use Rattle.y4m_lines.specs.declared.Repeated.{Repeated}
use Rattle.y4m_lines.specs.Lines.{line_at, is_line, fields, none_empty}
use Rattle.y4m_lines.specs.Header.{named, is_side, side_of, format, format_of, known_format, is_colour, colour_of, widths, heights, colours, is_header, width_of, height_of, format_in}
use Rattle.y4m_lines.specs.Read.{capped, number_read, FieldRead, side_read, colour_read, header_read}
use Rattle.y4m_lines.proofs.OneLine.{Lined}

-- ---- a side and the colour, by the texts of their fields

pub side_absent : {texts : List (List ℕ)} → texts ≡ [] → None ≡ side_read texts
unfolding is_side
side_absent e = rw e

pub side_single : {texts : List (List ℕ)} {text : List ℕ} → texts ≡ text ∷ [] → number_read text ≡ side_read texts
unfolding is_side side_of
side_single e = rw e

pub side_several : (texts : List (List ℕ)) → 2 ≤ length texts → None ≡ side_read texts
unfolding is_side
side_several [] h = absurd (omega arith)
side_several (text ∷ []) h = absurd (omega arith)
side_several (text ∷ second ∷ more) h = refl

-- of what was found of a letter
module _ (texts : List (List ℕ)) (r : Result (Option (Bor (List ℕ))) Repeated)
    (found : FieldRead texts r) where
  pub side_of_several : result_ok r ≡ None → None ≡ side_read texts
  side_of_several is = by_result r found is
    where
      by_result : (r : Result (Option (Bor (List ℕ))) Repeated)
          → FieldRead texts r → result_ok r ≡ None → None ≡ side_read texts
      by_result (Ok text) m e = absurd (cc)
      by_result (Err f) m e = side_several texts m

  module _ {o : Option (Bor (List ℕ))} (is : result_ok r ≡ Some o) where
    found_ok : texts ≡ option_to_list (option_copied o)
    found_ok = by_result r found is
      where
        by_result : (r : Result (Option (Bor (List ℕ))) Repeated)
            → FieldRead texts r → result_ok r ≡ Some o
            → texts ≡ option_to_list (option_copied o)
        by_result (Ok text) m e = let same : text ≡ o = cc in rw same at m
        by_result (Err f) m e = absurd (cc)

    pub side_of_none : o ≡ None → None ≡ side_read texts
    side_of_none e = side_absent (rw e at found_ok)

    pub side_of_one : {text : Bor (List ℕ)} → o ≡ Some text → number_read text.now ≡ side_read texts
    side_of_one e = side_single (rw e at found_ok)

pub colour_absent : {texts : List (List ℕ)} → texts ≡ [] → Ok (Some (format Yuv420 8)) ≡ colour_read texts
unfolding is_colour colour_of
colour_absent e = rw e

pub colour_single : {texts : List (List ℕ)} {text : List ℕ} → texts ≡ text ∷ [] → Ok (known_format (format_of text)) ≡ colour_read texts
unfolding is_colour colour_of
colour_single e = rw e

pub colour_several : (texts : List (List ℕ)) (r : Result (Option Format) Repeated) → IsErr r → 2 ≤ length texts → r ≡ colour_read texts
unfolding is_colour
colour_several [] r e h = absurd (omega arith)
colour_several (text ∷ []) r e h = absurd (omega arith)
colour_several (text ∷ second ∷ more) (Err f) e h = refl
colour_several (text ∷ second ∷ more) (Ok x) e h = absurd (cc)

pub side_is : (texts : List (List ℕ)) {value : ℕ} → Some value ≡ side_read texts → (is_side texts ≡ true) × (value ≡ capped (side_of texts))
side_is texts {value} e = some_met (is_side texts) _ value (sym e)

pub no_side : (texts : List (List ℕ)) → None ≡ side_read texts → is_side texts ≡ false
no_side texts e = none_unmet (is_side texts) _ (sym e)

-- what an answer by a test leaves of its `Ok`
ok_if : {A E : Type 0} (t : Bool) (a : A) (f : E) → cond t (Some a) None ≡ result_ok (cond t (Ok a) (Err f))
ok_if true a f = refl
ok_if false a f = refl

pub colour_is : (texts : List (List ℕ)) {found : Option Format} → result_ok (colour_read texts) ≡ Some found
    → (is_colour texts ≡ true) × (found ≡ known_format (colour_of texts))
colour_is texts {found} e = some_met (is_colour texts) _ found (ok_if (is_colour texts) _ _ ∙ e)

pub no_colour : (texts : List (List ℕ)) → result_ok (colour_read texts) ≡ None → is_colour texts ≡ false
no_colour texts e = none_unmet (is_colour texts) _ (ok_if (is_colour texts) _ _ ∙ e)

-- ---- what reading the header answers

-- what is asked of the first word, by the library's `starts_with`
pub worded : (text : List ℕ) {b t : Bool} → b ≡ pointwise eqb header_word (take (length header_word) text) → b ≡ t
    → begins_with text header_word ≡ t
worded text starts is = sym (starts_begins text header_word refl) ∙ (sym starts ∙ is)

pub no_line : (s : List ℕ) → is_line s 0 ≡ false → None ≡ header_read s
unfolding header_read is_header
no_line s e = rw e

pub first_text : {s : List ℕ} {end : ℕ} → Lined s 0 end → take end s ≡ line_at s 0
first_text {s} {end} l = let e : end ≡ end - 0 = omega arith in rw e l.text

module _ {s : List ℕ} {end : ℕ} (l : Lined s 0 end) where
  pub no_word : begins_with (take end s) header_word ≡ false → None ≡ header_read s
  unfolding header_read is_header
  no_word w = rw (l.formed, rw (first_text l) at w)

  pub one_empty : begins_with (take end s) header_word ≡ true → none_empty (fields (take end s)) ≡ false → None ≡ header_read s
  unfolding header_read is_header
  one_empty w n = rw (l.formed, rw (first_text l) at w, rw (first_text l) at n)

-- the line that ends at `end` begins with the word, and has no empty field
pub record Begun (s : List ℕ) (end : ℕ) : Type 0 where
  pub line : Lined s 0 end
  pub word : begins_with (take end s) header_word ≡ true
  pub full : none_empty (fields (take end s)) ≡ true

-- so that the sides and the colour are left
module _ {s : List ℕ} {end : ℕ} (b : Begun s end) where
  text : take end s ≡ line_at s 0
  text = first_text b.line

  sides_left : is_header s ≡ is_side (widths s) && (is_side (heights s) && is_colour (colours s))
  unfolding is_header
  sides_left = rw (b.line.formed, rw text at b.word, rw text at b.full)

  -- by what reading each came to
  module _ {x : Option ℕ} (x_read : x ≡ side_read (named 87 (fields (take end s)))) where
    pub no_width : x ≡ None → None ≡ header_read s
    unfolding header_read
    no_width e = rw (sides_left, no_side (widths s) (rw text at (sym e ∙ x_read)))

    module _ {width : ℕ} (x_is : x ≡ Some width) {y : Option ℕ} (y_read : y ≡ side_read (named 72 (fields (take end s)))) where
      wide : (is_side (widths s) ≡ true) × (width ≡ capped (side_of (widths s)))
      wide = side_is (widths s) (rw text at (sym x_is ∙ x_read))

      pub no_height : y ≡ None → None ≡ header_read s
      unfolding header_read
      no_height e = rw (sides_left, wide.0, no_side (heights s) (rw text at (sym e ∙ y_read)))

      module _ {height : ℕ} (y_is : y ≡ Some height)
          {r : Result (Option Format) Repeated} (r_read : r ≡ colour_read (named 67 (fields (take end s)))) where
        high : (is_side (heights s) ≡ true) × (height ≡ capped (side_of (heights s)))
        high = side_is (heights s) (rw text at (sym y_is ∙ y_read))

        pub two_colours : result_ok r ≡ None → None ≡ header_read s
        unfolding header_read
        two_colours e = rw (sides_left, wide.0, high.0, no_colour (colours s) (rw (rw text at r_read) at e))

        pub whole_header : {found : Option Format} → result_ok r ≡ Some found
            → Some (record { width = width; height = height; format = found; past = end + 1 }) ≡ header_read s
        unfolding header_read width_of height_of format_in
        whole_header e =
            let f = colour_is (colours s) (rw (rw text at r_read) at e) in
            rw (sides_left, wide.0, high.0, f.0, wide.1, high.1, f.1, b.line.place)
