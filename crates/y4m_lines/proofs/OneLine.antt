-- Laws of one line: what reading it answers, from the place where the look for its byte 10 ended, what a caller then knows of it (`Lined`), and
-- what reading a frame line answers.
-- Assumes nothing.
use mathlib.Core.Path.{◌≡◌, refl, sym, ◌∙◌}
use mathlib.Core.Bool.{Bool, true, false, not, ◌&&◌, and-false, and-eq-true_iff}
use mathlib.Core.List.{List}
use mathlib.Core.Logic.{◌⊎◌, inl, inr}
use Prim.Native.Nat.{ℕ, ◌+◌, ◌-◌, ◌≤◌, ◌<◌, min}
use native.Mathlib.Omega.{arith}
use borrow.Author.Tests.{ltb-true, lt-ltb, le-ltb, le-leb, lt-leb, eq-eqb, ne_eqb}
use lib.Dec.{eqb, ltb}
use lib.ListN.{length, take, drop, length-drop}
use lib.Pointwise.{pointwise}
use Rattle.std.specs.List.{prefix_len}
use Rattle.std.proofs.lemmas.Bool.{cases_lt}
use Rattle.sheet_numbers.specs.Read.{begins_with}
use Rattle.sheet_numbers.proofs.Begins.{starts_begins}
use Rattle.sheet_numbers.proofs.Optional.{some_met, none_unmet}
use Rattle.y4m_text.specs.Words.{frame_word}
use Rattle.std.specs.Prelude.{Option, Some, None}
use Rattle.y4m_lines.specs.Lines.{before, line_at, is_line, fields, none_empty}
use Rattle.y4m_lines.specs.Header.{is_frame_line}
use Rattle.y4m_lines.specs.Read.{line_read, frame_line_read}
use Rattle.y4m_lines.proofs.Fields.{before_take, before_within, before_count}

-- `end` is the number of bytes before the first byte 10 of the `most` that are looked at
module _ (s : List ℕ) (at : ℕ) {most end : ℕ} (bound : most ≡ min (length s - at) 256)
    (counted : end ≡ prefix_len (λ x. not (eqb x 10)) (take (at + most - at) (drop at s))) where
  -- those that are looked at are the first `most` from the place on
  found : end ≡ length (before 10 (take most (drop at s)))
  found =
      let all : at + most - at ≡ most = omega arith in
      rw all at (counted ∙ before_count 10 (take (at + most - at) (drop at s)))

  pub line_found : end < most → Some (at + end) ≡ line_read s at
  unfolding is_line
  line_found h =
      let d = length-drop at s in
      let e : end ≡ length (line_at s at) = omega (arith, found, before_within 10 most (drop at s)) in
      let a : length (line_at s at) < length (drop at s) = omega arith in
      let b : length (line_at s at) + 1 ≤ 256 = omega arith in
      rw (lt-ltb _ _ a, le-leb _ _ b, e)

  pub line_missed : most ≤ end → None ≡ line_read s at
  unfolding is_line
  line_missed h = go (cases_lt (length (line_at s at)) (length (drop at s)))
    where
      go : (length (line_at s at) < length (drop at s)) ⊎ (length (drop at s) ≤ length (line_at s at)) → None ≡ line_read s at
      go (inl l) =
          let d = length-drop at s in
          let b : 256 < length (line_at s at) + 1 = omega (arith, found, before_within 10 most (drop at s)) in
          rw (lt-leb _ _ b, and-false (ltb (length (line_at s at)) (length (drop at s))))
      go (inr l) = rw (le-ltb _ _ l)

-- ---- what a caller knows of a line that was read

pub line_none : (s : List ℕ) (at : ℕ) {result : Option ℕ} → result ≡ line_read s at → result ≡ None → is_line s at ≡ false
line_none s at e m = none_unmet (is_line s at) (at + length (line_at s at)) (sym e ∙ m)

-- the line at a place ends at `end`
pub record Lined (s : List ℕ) (at end : ℕ) : Type 0 where
  pub formed : is_line s at ≡ true
  pub from : at ≤ end
  pub within : end < length s
  pub place : end ≡ at + length (line_at s at)
  pub text : take (end - at) (drop at s) ≡ line_at s at

pub lined : (s : List ℕ) (at : ℕ) {end : ℕ} {result : Option ℕ} → result ≡ line_read s at → result ≡ Some end → Lined s at end
unfolding is_line
lined s at {end} e m =
    let u = some_met (is_line s at) (at + length (line_at s at)) end (sym e ∙ m) in
    let l : length (line_at s at) < length (drop at s) = ltb-true _ _ ((and-eq-true_iff (ltb (length (line_at s at)) (length (drop at s))) _).0 u.0).0 in
    let n : end - at ≡ length (line_at s at) = omega (arith, u.1) in
    record {
      formed = u.0;
      from = omega (arith, u.1);
      within = omega (arith, u.1, length-drop at s);
      place = u.1;
      text = rw n (sym (before_take 10 (drop at s)));
    }

-- ---- what a caller knows of a frame line that was read

pub frame_missed : (s : List ℕ) (at : ℕ) {result : Option ℕ} → result ≡ frame_line_read s at → result ≡ None → is_frame_line s at ≡ false
frame_missed s at e m = none_unmet (is_frame_line s at) (at + length (line_at s at)) (sym e ∙ m)

pub frame_lined : (s : List ℕ) (at : ℕ) {end : ℕ} {result : Option ℕ} → result ≡ frame_line_read s at → result ≡ Some end
    → (is_frame_line s at ≡ true) × Lined s at end
unfolding is_frame_line
frame_lined s at {end} e m =
    let u = some_met (is_frame_line s at) (at + length (line_at s at)) end (sym e ∙ m) in
    let l : is_line s at ≡ true = ((and-eq-true_iff (is_line s at) _).0 u.0).0 in
    let r : Some end ≡ line_read s at = rw (l, u.1) in
    (u.0, lined s at r refl)

pub frame_within : (s : List ℕ) (at : ℕ) {end : ℕ} {result : Option ℕ} → result ≡ frame_line_read s at → result ≡ Some end → end + 1 ≤ length s
frame_within s at e m = omega (arith, (frame_lined s at e m).1.within)

-- ---- what reading a frame line answers

pub frame_none : (s : List ℕ) (at : ℕ) → is_line s at ≡ false → None ≡ frame_line_read s at
unfolding is_frame_line
frame_none s at e = rw e

-- by the line that was read, and what is asked of it: the library's `starts_with`, `find` and `none_empty`
module _ (s : List ℕ) (at : ℕ) {end : ℕ} {result : Option ℕ} (read : result ≡ line_read s at) (is : result ≡ Some end)
    {starts : Bool} (asked : starts ≡ pointwise eqb frame_word (take (length frame_word) (take (end - at) (drop at s)))) where
  line : Lined s at end
  line = lined s at read is

  worded : {t : Bool} → starts ≡ t → begins_with (line_at s at) frame_word ≡ t
  worded w = rw line.text at (sym (starts_begins (take (end - at) (drop at s)) frame_word refl) ∙ (sym asked ∙ w))

  parts : is_frame_line s at ≡ begins_with (line_at s at) frame_word && (eqb (length (before 32 (line_at s at))) 5 && none_empty (fields (line_at s at)))
  unfolding is_frame_line
  parts = rw line.formed

  pub frame_other : starts ≡ false → None ≡ frame_line_read s at
  frame_other w = rw (parts, worded w)

  module _ (w : starts ≡ true) where
    pub frame_empty : {full : Bool} → full ≡ none_empty (fields (take (end - at) (drop at s))) → full ≡ false → None ≡ frame_line_read s at
    frame_empty m n = rw (parts, worded w, rw line.text at (sym m ∙ n), and-false (eqb (length (before 32 (line_at s at))) 5))

    module _ {n : ℕ} (found : n ≡ prefix_len (λ x. not (eqb x 32)) (take (end - at) (drop at s))) where
      first : n ≡ length (before 32 (line_at s at))
      first = rw line.text at (found ∙ before_count 32 (take (end - at) (drop at s)))

      pub frame_longer : (n ≡ 5 → ⊥) → None ≡ frame_line_read s at
      frame_longer f = rw (parts, worded w, ne_eqb _ _ (λ e. f (first ∙ e)))

      pub frame_formed : n ≡ 5 → {full : Bool} → full ≡ none_empty (fields (take (end - at) (drop at s))) → full ≡ true → Some end ≡ frame_line_read s at
      frame_formed f m t = rw (parts, worded w, eq-eqb _ _ (sym first ∙ f), rw line.text at (sym m ∙ t), line.place)
