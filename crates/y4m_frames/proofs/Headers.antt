-- What a header that was read says, and question 17 of it: sides above 16,384 are told as 16,385, which question 17 refuses alike.
-- Assumes nothing.
use mathlib.Core.Path.{◌≡◌, refl, sym, ap, ◌∙◌}
use mathlib.Core.Bool.{Bool, true, false, cond, ◌&&◌, and-eq-true_iff}
use mathlib.Core.List.{List}
use mathlib.Core.Logic.{◌⊎◌, inl, inr}
use Prim.Native.Nat.{ℕ, ◌≤◌, ◌<◌}
use native.Mathlib.Omega.{arith}
use borrow.Author.Tests.{eqb-true, le-leb, lt-leb}
use lib.Dec.{leb, eqb}
use Rattle.std.specs.Option.{option_map_or}
use Rattle.std.specs.Result.{result_ok}
use Rattle.std.specs.Prelude.{Some, None, Result, Ok, Err}
use Rattle.std.proofs.lemmas.Bool.{cases_lt}
use Rattle.yuv_support.specs.Settings.{among, depths8, depths16}
use Rattle.yuv_support.specs.Questions.{verdict}
use Rattle.images.proofs.Held.{Sides, sides_held}
use Rattle.sheet_numbers.proofs.Optional.{some_met, none_unmet}
use Rattle.y4m_text.specs.declared.Format.{Format}
use Rattle.y4m_lines.specs.declared.Header.{Header}
use Rattle.y4m_lines.specs.Lines.{past_line}
use Rattle.y4m_lines.specs.Header.{known_format, is_header, width_of, height_of, format_in}
use Rattle.y4m_lines.specs.Read.{capped, header_read}
use Rattle.yuv_error.specs.declared.error.YuvError.{YuvError}
use Rattle.yuv_error.specs.declared.error.YuvError.TheVariants.{UnknownStream}
use Rattle.y4m_frames.specs.declared.KnownHeader.{KnownHeader}
use Rattle.y4m_frames.specs.Stream.{depths_of, sides_known, is_known}
use Rattle.y4m_frames.specs.Judged.{known_with, known_header, said_of, header_known, header_said}

-- ---- what was read

pub record HeaderIs (s : List ℕ) (h : Header) : Type 0 where
  pub formed : is_header s ≡ true
  pub width : h.width ≡ capped (width_of s)
  pub height : h.height ≡ capped (height_of s)
  pub format : h.format ≡ known_format (format_in s)
  pub past : h.past ≡ past_line s 0

pub header_is : (s : List ℕ) {h : Header} → header_read s ≡ Some h → HeaderIs s h
unfolding header_read
header_is s {h} e =
    let f = some_met (is_header s) _ h e in
    record {
      formed = f.0;
      width = ap (λ (x : Header). x.width) f.1;
      height = ap (λ (x : Header). x.height) f.1;
      format = ap (λ (x : Header). x.format) f.1;
      past = ap (λ (x : Header). x.past) f.1;
    }

pub header_not : (s : List ℕ) → header_read s ≡ None → is_header s ≡ false
unfolding header_read
header_not s e = none_unmet (is_header s) _ e

-- ---- question 17

pub sides_known_lem : (width height : ℕ) → sides_known width height ≡ true → Sides width height
sides_known_lem width height e = sides_held width height (eqb-true _ 0 e)

least_same : (n : ℕ) → leb 1 (capped n) ≡ leb 1 n
least_same n = go (cases_lt 0 n)
  where
    go : (0 < n) ⊎ (n ≤ 0) → leb 1 (capped n) ≡ leb 1 n
    go (inl l) = rw (le-leb 1 n l) (le-leb 1 (capped n) (omega arith))
    go (inr l) = rw (lt-leb 1 n (omega arith)) (lt-leb 1 (capped n) (omega arith))

most_same : (n : ℕ) → leb (capped n) 16384 ≡ leb n 16384
most_same n = go (cases_lt 16384 n)
  where
    go : (16384 < n) ⊎ (n ≤ 16384) → leb (capped n) 16384 ≡ leb n 16384
    go (inl l) = rw (lt-leb n 16384 l) (lt-leb (capped n) 16384 (omega arith))
    go (inr l) = rw (le-leb n 16384 l) (le-leb (capped n) 16384 (omega arith))

capped_known : (width height : ℕ) → sides_known (capped width) (capped height) ≡ sides_known width height
unfolding verdict
capped_known width height = rw (least_same width, least_same height, most_same width, most_same height)

-- the depth of a format that is told, 0 standing for that of none
depth_told : (f : Format) → option_map_or (λ (g : Format). g.depth) (known_format f) 0 ≡ f.depth
depth_told f = go (eqb f.depth 0) refl
  where
    go : (t : Bool) → eqb f.depth 0 ≡ t → option_map_or (λ (g : Format). g.depth) (cond t None (Some f)) 0 ≡ f.depth
    go true e = sym (eqb-true _ 0 e)
    go false e = refl

unknown_depth : (e : ℕ) → among 0 (depths_of e) ≡ false
unknown_depth e = by_size (eqb e 1)
  where
    by_size : (t : Bool) → among 0 (cond t depths8 depths16) ≡ false
    by_size true = refl
    by_size false = refl

module _ {s : List ℕ} {h : Header} (is : HeaderIs s h) where
  pub known_is : (known : List ℕ) {result : Bool}
      → result ≡ (among (option_map_or (λ (f : Format). f.depth) h.format 0) known && sides_known h.width h.height) → result ≡ is_known known s
  unfolding is_known
  known_is known e = e ∙ rw (is.width, is.height, is.format, depth_told (format_in s), capped_known (width_of s) (height_of s))

  pub known_met : (known : List ℕ) → among 0 known ≡ false → known_header known h ≡ header_known known s
  unfolding is_known
  known_met known zero_unknown = rw (is.width, is.height, is.format) (by_depth (eqb (format_in s).depth 0) refl)
    where
      by_sides : (t : Bool) → (among (format_in s).depth known && sides_known (width_of s) (height_of s)) ≡ t
          → cond t (Ok (record { size = record { width = capped (width_of s); height = capped (height_of s) }; format = format_in s })) (Err UnknownStream)
          ≡ cond t (Ok (said_of s)) (Err UnknownStream)
      by_sides false k = refl
      by_sides true k =
          let sides : Sides (width_of s) (height_of s) = sides_known_lem (width_of s) (height_of s) ((and-eq-true_iff (among (format_in s).depth known) _).0 k).1 in
          let w : capped (width_of s) ≡ width_of s = omega (arith, sides.width_most) in
          let v : capped (height_of s) ≡ height_of s = omega (arith, sides.height_most) in
          rw (w, v) refl

      by_depth : (t : Bool) → eqb (format_in s).depth 0 ≡ t
          → known_with known (capped (width_of s)) (capped (height_of s)) (cond t None (Some (format_in s))) ≡ header_known known s
      by_depth true e = rw (eqb-true _ 0 e, zero_unknown) refl
      by_depth false e = rw (capped_known (width_of s) (height_of s)) (by_sides (among (format_in s).depth known && sides_known (width_of s) (height_of s)) refl)

  -- a known header has the stream's own sides
  module _ (known : List ℕ) (k : is_known known s ≡ true) where
    pub stream_sides : Sides (width_of s) (height_of s)
    unfolding is_known
    stream_sides = sides_known_lem (width_of s) (height_of s) ((and-eq-true_iff (among (format_in s).depth known) _).0 k).1

    pub width_is : h.width ≡ width_of s
    width_is = omega (arith, is.width, stream_sides.width_most)

    pub height_is : h.height ≡ height_of s
    height_is = omega (arith, is.height, stream_sides.height_most)

  -- with samples of so many bytes
  pub known_met_of : (e : ℕ) → known_header (depths_of e) h ≡ header_known (depths_of e) s
  known_met_of e = known_met (depths_of e) (unknown_depth e)

  pub said_if_known : (known : List ℕ) → result_ok (header_known known s) ≡ header_said known s
  said_if_known known = rw is.formed (by_known (is_known known s))
    where
      by_known : (t : Bool) → result_ok (cond t (Ok (said_of s)) (Err UnknownStream)) ≡ cond t (Some (said_of s)) None
      by_known true = refl
      by_known false = refl

-- of a header as it was read, and by samples of e bytes
module _ (s : List ℕ) (e : ℕ) {h : Header} {known : List ℕ} {found : Result KnownHeader YuvError}
    (read : header_read s ≡ Some h) (are : known ≡ depths_of e) (is : found ≡ known_header known h) where
  pub found_known : found ≡ header_known (depths_of e) s
  found_known = rw are at is ∙ known_met_of (header_is s read) e

  pub found_said : result_ok found ≡ header_said (depths_of e) s
  found_said = rw found_known (said_if_known (header_is s read) (depths_of e))
