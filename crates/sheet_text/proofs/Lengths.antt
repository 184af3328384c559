-- No sheet is longer than the output: a refusal is short, and so is the table of a small picture (`table_length`).
-- Assumes nothing.
use mathlib.Core.Path.{◌≡◌, refl, ap, ◌∙◌}
use mathlib.Core.Bool.{Bool, true, false, cond, ◌&&◌, and-eq-true_iff}
use mathlib.Core.List.{List}
use Prim.Native.Nat.{ℕ, ◌≤◌}
use native.Mathlib.Omega.{arith}
use lib.Dec.{leb}
use lib.ListN.{length, length-append}
use lib.Seq.{sets, length-sets}
use Rattle.yuv_support.specs.Settings.{among, depths}
use Rattle.yuv_support.specs.Questions.{decoded, codes_known}
use Rattle.sheet_writing.specs.Text.{number_text}
use Rattle.sheet_writing.proofs.Write.{number_text_length}
use Rattle.sheet_numbers.specs.Numbers.{are_lines}
use Rattle.sheet_values.specs.declared.Values.{Values}
use Rattle.sheet_values.specs.Values.{codes_of, is_small}
use Rattle.sheet_values.proofs.Sizes.{small_sides}
use Rattle.sheet_table.proofs.Placed.{table_length}
use Rattle.sheet_text.specs.Sheet.{has_names, values_of, has_planes, is_whole, rest_formed, sheet_frame, refused, refusal, sheet_of}
use Rattle.sheet_text.specs.Answer.{rest_text, values_text}
use Rattle.sheet_text.proofs.Answers.{names_missed, values_missed, lines_formed}

refusal_length : (n : ℕ) → length (refusal n) ≤ 131072
unfolding refusal
refusal_length n = let l = length-append refused (number_text n 10) in omega (arith, number_text_length n 10)

formed_small : (s : List ℕ) (v : Values) → rest_formed s v ≡ true → is_small v ≡ true
unfolding rest_formed
formed_small s v e = ((and-eq-true_iff (is_small v) (has_planes s v && is_whole s v)).0 e).0

rest_length : (s : List ℕ) (v : Values) (t : Bool) → rest_formed s v ≡ t → length (rest_text s v) ≤ 131072
unfolding sheet_frame
rest_length s v false e = rw e (refusal_length 15)
rest_length s v true e =
    let t = small_sides v (formed_small s v e) in
    rw e (table_length (decoded (codes_of v)) (sheet_frame s v) t.1 t.3)

values_length : (s : List ℕ) (v : Values) → length (values_text s v) ≤ 131072
values_length s v = go (leb v.sampling 1) (codes_known (among v.depth depths) (codes_of v)).holds
  where
    go : (a b : Bool) → length (cond a (cond b (rest_text s v) (refusal 2)) (refusal 1)) ≤ 131072
    go false b = refusal_length 1
    go true false = refusal_length 2
    go true true = rest_length s v (rest_formed s v) refl

pub sheet_length : (s : List ℕ) → length (sheet_of s) ≤ 131072
sheet_length s = go (has_names s) (are_lines s 47 7 99999 7) refl refl
  where
    go : (a b : Bool) → has_names s ≡ a → are_lines s 47 7 99999 7 ≡ b → length (sheet_of s) ≤ 131072
    go false b e f = rw (names_missed s e) (refusal_length 15)
    go true false e f = rw (values_missed s e f) (refusal_length 15)
    go true true e f = rw (lines_formed s e f) (values_length s (values_of s))

-- what `sheet_text` answers is within an output of 131,072 bytes
pub sheet_fits : (s old new : List ℕ) (r : ℕ) → r ≡ length (sheet_of s) → new ≡ sets old 0 (sheet_of s) → length old ≡ 131072 → r ≤ length new
sheet_fits s old new r e q l =
    let k : length new ≡ length old = ap length q ∙ length-sets old 0 (sheet_of s) in
    let m = sheet_length s in
    omega arith
