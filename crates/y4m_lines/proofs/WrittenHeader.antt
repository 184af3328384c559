-- The two lines that are written are read back. A number's digits and a name hold neither a space nor byte 10, so the header line ends
-- where it was ended and its fields are those that were written; a frame line computes, once what stands before it is dropped.
-- Assumes nothing.
use mathlib.Core.Path.{◌≡◌, refl}
use mathlib.Core.Bool.{Bool, true, not, ◌&&◌}
use mathlib.Core.List.{List, [], ◌∷◌, ◌++◌, append_assoc}
use Prim.Native.Nat.{ℕ, zero, suc, ◌+◌, ◌≤◌, ◌<◌}
use native.Mathlib.Omega.{arith}
use borrow.Author.Tests.{lt-ltb, le-leb, eq-eqb, ne_eqb}
use lib.Dec.{T, eqb, leb}
use lib.ListN.{length, length-append}
use lib.Seq.{drop-append_seam, append_snoc}
use mir.ValLaws.{and_both}
use Rattle.yuv_support.specs.Settings.{among, sampling_of, depths}
use Rattle.yuv_support.proofs.Depths.{by_depth}
use Rattle.yuv_support.proofs.Tests.{failed}
use Rattle.sheet_writing.specs.Text.{decimal_text, number_text}
use Rattle.sheet_writing.proofs.Write.{number_text_length}
use Rattle.sheet_numbers.specs.Numbers.{decimal, all_below}
use Rattle.y4m_text.specs.Words.{header_word}
use Rattle.y4m_text.specs.Write.{name_of, header_text, frame_line}
use Rattle.y4m_text.proofs.ReadBack.{Digits, decimal_text_digits, decimal_text_not_empty, decimal_text_all_digits, decimal_text_value}
use Rattle.y4m_lines.specs.Lines.{before, line_at, is_line, past_line, fields, none_empty}
use Rattle.y4m_lines.specs.Header.{named, is_number, is_side, side_of, is_colour, colour_of, format_of, format, is_header, width_of, height_of, format_in, is_frame_line}

-- ---- a text that has no byte b

abbrev free : ℕ → List ℕ → Bool
free b [] = true
free b (x ∷ xs) = not (eqb x b) && free b xs

free_append : (b : ℕ) (xs ys : List ℕ) → T (free b xs) → T (free b ys) → T (free b (xs ++ ys))
free_append b [] ys f g = g
free_append b (x ∷ xs) ys f g =
    let p = and_both (not (eqb x b)) (free b xs) f in
    rw (failed (eqb x b) p.0) (free_append b xs ys p.1 g)

digits_free : (b : ℕ) (xs : List ℕ) → b < 48 → Digits xs → T (free b xs)
digits_free b [] h d = tt
digits_free b (x ∷ xs) h d =
    let least = (d.each 0 (omega arith)).0 in
    rw (ne_eqb x b (λ e. omega arith)) (digits_free b xs h (record { each = λ i l. d.each (suc i) (omega arith) }))

-- ---- lines and fields

before_free : (b : ℕ) (xs ys : List ℕ) → T (free b xs) → before b (xs ++ b ∷ ys) ≡ xs
unfolding before
before_free b [] ys f = rw (eq-eqb b b refl)
before_free b (x ∷ xs) ys f =
    let p = and_both (not (eqb x b)) (free b xs) f in
    rw (failed (eqb x b) p.0, before_free b xs ys p.1)

field_then : (xs ys : List ℕ) → T (free 32 xs) → fields (xs ++ 32 ∷ ys) ≡ xs ∷ fields ys
unfolding fields
field_then [] ys f = refl
field_then (x ∷ xs) ys f =
    let p = and_both (not (eqb x 32)) (free 32 xs) f in
    rw (failed (eqb x 32) p.0, field_then xs ys p.1)

field_last : (xs : List ℕ) → T (free 32 xs) → fields xs ≡ xs ∷ []
unfolding fields
field_last [] f = refl
field_last (x ∷ xs) f =
    let p = and_both (not (eqb x 32)) (free 32 xs) f in
    rw (failed (eqb x 32) p.0, field_last xs p.1)

not_empty : (x : ℕ) (xs : List ℕ) → leb 1 (length (x ∷ xs)) ≡ true
not_empty x xs = le-leb 1 (length (x ∷ xs)) (omega arith)

-- ---- the texts that are written

record Number (n : ℕ) (text : List ℕ) : Type 0 where
  free_of : (b : ℕ) → b < 48 → T (free b text)
  most : length text ≤ 5
  formed : is_number text ≡ true
  value : decimal text 0 (length text) ≡ n

number_written : (n : ℕ) → n ≤ 16384 → Number n (decimal_text n)
unfolding number_text is_number
number_written n most =
    record {
      free_of = λ b h. digits_free b (decimal_text n) h (decimal_text_digits n);
      most = omega (arith, simp length-append at (number_text_length n 32));
      formed = rw (le-leb 1 (length (decimal_text n)) (decimal_text_not_empty n), decimal_text_all_digits n);
      value = decimal_text_value n (omega arith);
    }

-- no space, no byte 10, at most seven bytes, and read as what it was written for
abbrev NameWritten : ℕ → ℕ → Type 0
NameWritten sampling depth =
    T (free 32 (name_of sampling depth)) × T (free 10 (name_of sampling depth)) × (length (name_of sampling depth) ≤ 7)
    × (format_of (name_of sampling depth) ≡ format (sampling_of sampling) depth)

name_written : (sampling depth : ℕ) → sampling ≤ 1 → T (among depth depths) → NameWritten sampling depth
unfolding name_of format_of all_below
name_written zero depth h t =
    by_depth (NameWritten 0) (tt, tt, omega arith, refl) (tt, tt, omega arith, refl) (tt, tt, omega arith, refl) depth t
name_written (suc zero) depth h t =
    by_depth (NameWritten 1) (tt, tt, omega arith, refl) (tt, tt, omega arith, refl) (tt, tt, omega arith, refl) depth t
name_written (suc (suc s)) depth h t = absurd (omega arith)

-- ---- the header line

pub record HeaderFound (sampling depth width height : ℕ) (s : List ℕ) : Type 0 where
  pub formed : is_header s ≡ true
  pub width_is : width_of s ≡ width
  pub height_is : height_of s ≡ height
  pub format_is : format_in s ≡ format (sampling_of sampling) depth
  pub past_is : past_line s 0 ≡ length (header_text sampling depth width height)

abbrev header_line : ℕ → ℕ → ℕ → ℕ → List ℕ
header_line sampling depth width height =
    header_word ++ 87 ∷ decimal_text width ++ 32 ∷ 72 ∷ decimal_text height ++ 32 ∷ 67 ∷ name_of sampling depth

module _ (sampling depth width height : ℕ) (rest : List ℕ) (known_sampling : sampling ≤ 1) (known_depth : T (among depth depths))
    (width_most : width ≤ 16384) (height_most : height ≤ 16384) where
  width_text : Number width (decimal_text width)
  width_text = number_written width width_most

  height_text : Number height (decimal_text height)
  height_text = number_written height height_most

  name_text : NameWritten sampling depth
  name_text = name_written sampling depth known_sampling known_depth

  line_is : line_at (header_text sampling depth width height ++ rest) 0 ≡ header_line sampling depth width height
  unfolding header_text
  line_is =
      let sides : T (free 10 (decimal_text width ++ 32 ∷ 72 ∷ decimal_text height)) =
      free_append 10 (decimal_text width) (32 ∷ 72 ∷ decimal_text height) (width_text.free_of 10 (omega arith)) (height_text.free_of 10 (omega arith)) in
      rw append_snoc
      (before_free 10 (header_line sampling depth width height) rest
      (free_append 10 (decimal_text width ++ 32 ∷ 72 ∷ decimal_text height) (32 ∷ 67 ∷ name_of sampling depth) sides name_text.1))

  fields_are : fields (header_line sampling depth width height) ≡
      (89 ∷ 85 ∷ 86 ∷ 52 ∷ 77 ∷ 80 ∷ 69 ∷ 71 ∷ 50 ∷ []) ∷ (87 ∷ decimal_text width) ∷ (72 ∷ decimal_text height) ∷ (67 ∷ name_of sampling depth) ∷ []
  unfolding fields
  fields_are =
      rw (
        append_assoc (decimal_text width) (32 ∷ 72 ∷ decimal_text height) (32 ∷ 67 ∷ name_of sampling depth),
        field_then (decimal_text width) (72 ∷ decimal_text height ++ 32 ∷ 67 ∷ name_of sampling depth) (width_text.free_of 32 (omega arith)),
        field_then (decimal_text height) (67 ∷ name_of sampling depth) (height_text.free_of 32 (omega arith)),
        field_last (name_of sampling depth) name_text.0,
      )

  line_length : length (header_line sampling depth width height) + 1 ≤ 256
  line_length = simp length-append (omega (arith, width_text.most, height_text.most, name_text.2))

  text_length : length (header_text sampling depth width height) ≡ length (header_line sampling depth width height) + 1
  unfolding header_text
  text_length = simp length-append (omega arith)

  pub header_found : HeaderFound sampling depth width height (header_text sampling depth width height ++ rest)
  unfolding is_line none_empty named is_side side_of is_colour colour_of is_header width_of height_of format_in all_below
  header_found =
      let ended : length (header_line sampling depth width height) < length (header_text sampling depth width height ++ rest) =
      simp (length-append, text_length) (omega arith) in
      record {
        formed =
            rw (
              line_is,
              fields_are,
              lt-ltb _ _ ended,
              le-leb _ _ line_length,
              not_empty 87 (decimal_text width),
              not_empty 72 (decimal_text height),
              not_empty 67 (name_of sampling depth),
              width_text.formed,
              height_text.formed,
            );
        width_is = rw (line_is, fields_are) width_text.value;
        height_is = rw (line_is, fields_are) height_text.value;
        format_is = rw (line_is, fields_are) name_text.3;
        past_is = rw (line_is, text_length) (omega arith);
      }

-- ---- a frame line

pub frame_line_found : (first rest : List ℕ)
    → (is_frame_line (first ++ frame_line ++ rest) (length first) ≡ true) × (past_line (first ++ frame_line ++ rest) (length first) ≡ length first + 6)
unfolding before is_line fields none_empty is_frame_line all_below
frame_line_found first rest =
    rw (append_assoc, drop-append_seam, lt-ltb 5 (length (frame_line ++ rest)) (omega arith)) (refl, omega arith)
