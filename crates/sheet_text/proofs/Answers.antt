-- The text of a sheet, question by question: what each "no" prints, and where all are answered the table of the planes that were read.
-- Assumes nothing.
use mathlib.Core.Path.{◌≡◌, refl, sym, ap, ◌∙◌, subst⁻¹}
use mathlib.Core.Bool.{Bool, true, false, cond, ◌&&◌, and-eq-true_iff}
use mathlib.Core.List.{List, [], ◌∷◌}
use Prim.Native.Nat.{ℕ, ◌≤◌, ◌<◌}
use native.Mathlib.Omega.{arith}
use borrow.Author.Tests.{leb-true, le-leb, lt-leb, eqb-true}
use lib.Dec.{T, leb, eqb, lit<}
use lib.ListN.{length, take, get_or}
use lib.Pointwise.{pointwise}
use lib.Seq.{sets}
use Rattle.yuv_support.specs.Settings.{last_packing, among, depths}
use Rattle.yuv_support.specs.Questions.{ask, verdict, decoded, codes_known}
use Rattle.yuv_support.proofs.Tests.{passed}
use Rattle.sheet_writing.specs.Text.{Wrote}
use Rattle.sheet_numbers.specs.Numbers.{byte_at, number_at, begin, are_lines}
use Rattle.sheet_numbers.proofs.OneNumber.{inside}
use Rattle.sheet_numbers.proofs.ManyNumbers.{all_below_lem}
use Rattle.sheet_numbers.specs.Read.{LinesTaken, Lined}
use Rattle.sheet_numbers.proofs.Begins.{starts_begins}
use Rattle.sheet_numbers.proofs.Lined.{lined, number_read}
use Rattle.std.specs.Prelude.{Option, Result, Ok, Err}
use Rattle.std.specs.Result.{result_ok}
use Rattle.yuv_support.specs.declared.Settings.{Settings}
use Rattle.sheet_values.specs.declared.Refusal.{Refusal}
use Rattle.sheet_values.specs.declared.Refusal.TheVariants.{UnknownSampling, UnknownCode, Malformed}
use Rattle.sheet_values.specs.declared.Values.{Values}
use Rattle.sheet_values.specs.Known.{number_of, settings_of}
use Rattle.sheet_values.specs.Values.{codes_of, is_small, values_in}
use Rattle.sheet_values.proofs.Sizes.{small_sides}
use Rattle.sheet_table.specs.Table.{table}
use Rattle.sheet_picture.specs.Samples.{Fit, planes_frame}
use Rattle.sheet_text.specs.Sheet.{
  names,
  has_name,
  has_names,
  has_values,
  values_of,
  luma_begin,
  has_planes,
  is_whole,
  rest_formed,
  sheet_frame,
  sheet_questions,
  refusal,
  sheet_of,
}
use Rattle.sheet_text.specs.declared.Start.{Start}
use Rattle.sheet_text.specs.Answer.{PlanesRead, rest_text, values_text, start_of}

-- ---- question 15 of the rest

pub not_small : (s : List ℕ) (v : Values) → is_small v ≡ false → rest_text s v ≡ refusal 15
unfolding rest_formed
not_small s v e = rw e

pub small_fits : {v : Values} → is_small v ≡ true → v.sampling ≤ 1 → T (codes_known (among v.depth depths) (codes_of v)).holds → Fit depths v
small_fits {v} e hs k =
    let t = small_sides v e in
    let p = passed (codes_known (among v.depth depths) (codes_of v)).holds k in
    let a = (and-eq-true_iff (leb v.order 3) _).0 p in
    let b = (and-eq-true_iff (leb v.range 1) _).0 a.1 in
    let c = (and-eq-true_iff (leb v.matrix 6) _).0 b.1 in
    let d = (and-eq-true_iff (leb 0 (last_packing v.depth)) _).0 c.1 in
    record {
      sampling = hs;
      order = leb-true _ _ a.0;
      range = leb-true _ _ b.0;
      matrix = t.4;
      depth = subst⁻¹ T d.1 tt;
      width_least = t.0;
      width = t.1;
      height_least = t.2;
      height = t.3;
    }

-- what reading the planes answers
module _ (s : List ℕ) (v : Values) (small : is_small v ≡ true) where
  pub planes_missed : (has_planes s v && is_whole s v) ≡ false → rest_text s v ≡ refusal 15
  unfolding rest_formed
  planes_missed e = rw (small, e)

  pub planes_table : {y u w : List ℕ} → (has_planes s v && is_whole s v) ≡ true → PlanesRead s v y u w
      → rest_text s v ≡ table (decoded (codes_of v)) (planes_frame v y u w)
  unfolding rest_formed sheet_frame
  planes_table e p = rw (small, e, p.luma, p.cb, p.cr)

-- the same from an answer that says whether they are whole
module _ {s : List ℕ} {v : Values} {r : Bool} {y u w : List ℕ} (small : is_small v ≡ true)
    (answered : (r ≡ (has_planes s v && is_whole s v)) × (r ≡ true → PlanesRead s v y u w)) where
  pub not_whole : r ≡ false → rest_text s v ≡ refusal 15
  not_whole e = planes_missed s v small (sym answered.0 ∙ e)

  pub rest_table : r ≡ true → rest_text s v ≡ table (decoded (codes_of v)) (planes_frame v y u w)
  rest_table e = planes_table s v small (sym answered.0 ∙ e) (answered.1 e)

-- ---- questions 1 and 2

pub sampling_unknown : (s : List ℕ) (v : Values) → 1 < v.sampling → values_text s v ≡ refusal 1
sampling_unknown s v h = rw (lt-leb v.sampling 1 h)

pub code_unknown : (s : List ℕ) (v : Values) → v.sampling ≤ 1 → (codes_known (among v.depth depths) (codes_of v)).holds ≡ false
    → values_text s v ≡ refusal 2
code_unknown s v h e = rw (le-leb v.sampling 1 h, e)

pub values_known : (s : List ℕ) (v : Values) → v.sampling ≤ 1 → (codes_known (among v.depth depths) (codes_of v)).holds ≡ true
    → values_text s v ≡ rest_text s v
values_known s v h e = rw (le-leb v.sampling 1 h, e)

-- the settings that they answer with, or what is printed in their place
pub settings_known : (s : List ℕ) (v : Values) {t : Settings} → settings_of v ≡ Ok t
    → (v.sampling ≤ 1) × T (codes_known (among v.depth depths) (codes_of v)).holds × (values_text s v ≡ rest_text s v)
settings_known s v {t} e = go (leb v.sampling 1) (codes_known (among v.depth depths) (codes_of v)).holds refl refl e
  where
    go : (a b : Bool) → leb v.sampling 1 ≡ a → (codes_known (among v.depth depths) (codes_of v)).holds ≡ b
        → cond a (cond b (Ok (decoded (codes_of v))) (Err UnknownCode)) (Err UnknownSampling) ≡ Ok t
        → (v.sampling ≤ 1) × T (codes_known (among v.depth depths) (codes_of v)).holds × (values_text s v ≡ rest_text s v)
    go true true p q r = (leb-true _ _ p, rw q tt, rw (p, q))
    go true false p q r = absurd (cc)
    go false b p q r = absurd (cc)

pub settings_refused : (s : List ℕ) (v : Values) {why : Refusal} → settings_of v ≡ Err why → refusal (number_of why) ≡ values_text s v
settings_refused s v {why} e = go (leb v.sampling 1) (codes_known (among v.depth depths) (codes_of v)).holds refl refl e
  where
    go : (a b : Bool) → leb v.sampling 1 ≡ a → (codes_known (among v.depth depths) (codes_of v)).holds ≡ b
        → cond a (cond b (Ok (decoded (codes_of v))) (Err UnknownCode)) (Err UnknownSampling) ≡ Err why
        → refusal (number_of why) ≡ values_text s v
    go true true p q r = absurd (cc)
    go true false p q r = let w : UnknownCode ≡ why = cc in rw (← w, p, q)
    go false b p q r = let w : UnknownSampling ≡ why = cc in rw (← w, p)

-- ---- the first two lines

pub names_missed : (s : List ℕ) → has_names s ≡ false → sheet_of s ≡ refusal 15
unfolding sheet_of sheet_questions verdict
names_missed s e = rw e

pub values_missed : (s : List ℕ) → has_names s ≡ true → are_lines s 47 7 99999 7 ≡ false → sheet_of s ≡ refusal 15
unfolding sheet_of sheet_questions verdict has_values
values_missed s e f = rw (e, f)

-- three questions, and the text that their verdict prints
asked : (a b c : Bool) (t : List ℕ)
    → cond (eqb (verdict (ask 1 a ∷ ask 2 b ∷ ask 15 c ∷ [])).number 0) t (refusal (verdict (ask 1 a ∷ ask 2 b ∷ ask 15 c ∷ [])).number)
    ≡ cond a (cond b (cond c t (refusal 15)) (refusal 2)) (refusal 1)
unfolding verdict
asked true true true t = refl
asked true true false t = refl
asked true false c t = refl
asked false b c t = refl

pub lines_formed : (s : List ℕ) → has_names s ≡ true → are_lines s 47 7 99999 7 ≡ true → sheet_of s ≡ values_text s (values_of s)
unfolding sheet_of sheet_questions verdict has_values
lines_formed s e f =
    rw (e, f)
    (asked (leb (values_of s).sampling 1) (codes_known (among (values_of s).depth depths) (codes_of (values_of s))).holds (rest_formed s (values_of s)) _)

-- the line of names is 47 bytes long, its last byte being 10
pub names_length : (s : List ℕ) → has_names s ≡ true → 47 ≤ length s
unfolding has_names
names_length s e =
    let q : byte_at s 46 ≡ 10 = eqb-true (byte_at s 46) (byte_at names 46) (all_below_lem (has_name s) {i = 46} (lit< tt) e) in
    omega (arith, inside s 46 (omega arith))

-- the seven numbers are the values
pub values_read : {s numbers : List ℕ} {limit next : ℕ} → Lined s 47 7 limit 7 numbers next → values_in numbers ≡ values_of s
unfolding values_of
values_read {s} {numbers} l = rw (at 0 (lit< tt), at 1 (lit< tt), at 2 (lit< tt), at 3 (lit< tt), at 4 (lit< tt), at 5 (lit< tt), at 6 (lit< tt))
  where
    at : (i : ℕ) → i < 7 → get_or numbers i 0 ≡ number_at s (begin s 47 i)
    at i h = number_read s 47 numbers l.read h

-- what the first two lines say, or what is printed in its place
pub started : (s : List ℕ) {t : Start} → start_of s ≡ Ok t → (sheet_of s ≡ values_text s t.values) × (t.at ≡ luma_begin s)
unfolding has_values
started s {t} e = go (has_names s) (has_values s) refl refl e
  where
    go : (a b : Bool) → has_names s ≡ a → has_values s ≡ b → cond {A = Result Start Refusal} (a && b) (Ok (record { values = values_of s; at = luma_begin s })) (Err Malformed) ≡ Ok t
        → (sheet_of s ≡ values_text s t.values) × (t.at ≡ luma_begin s)
    go true true p q r =
        let v : values_of s ≡ t.values = cc in
        let l : luma_begin s ≡ t.at = cc in
        (lines_formed s p q ∙ rw v, sym l)
    go true false p q r = absurd (cc)
    go false b p q r = absurd (cc)

-- what is left after questions 1 and 2
pub rest_left : (s : List ℕ) {t : Start} {r : Settings} → start_of s ≡ Ok t → settings_of t.values ≡ Ok r → sheet_of s ≡ rest_text s t.values
rest_left s {t} e k = (started s e).0 ∙ (settings_known s t.values k).2

pub not_started : (s : List ℕ) {why : Refusal} → start_of s ≡ Err why → refusal (number_of why) ≡ sheet_of s
unfolding has_values
not_started s {why} e = go (has_names s) (has_values s) refl refl e
  where
    go : (a b : Bool) → has_names s ≡ a → has_values s ≡ b → cond {A = Result Start Refusal} (a && b) (Ok (record { values = values_of s; at = luma_begin s })) (Err Malformed) ≡ Err why
        → refusal (number_of why) ≡ sheet_of s
    go true true p q r = absurd (cc)
    go true false p q r = let w : Malformed ≡ why = cc in rw (← w) (sym (values_missed s p q))
    go false b p q r = let w : Malformed ≡ why = cc in rw (← w) (sym (names_missed s p))

-- whether the list begins with the names, as the library's `starts_with` tells
pub names_asked : (s : List ℕ) {b t : Bool}
    → b ≡ pointwise eqb names (take (length names) s) → b ≡ t → has_names s ≡ t
unfolding has_names
names_asked s starts is = sym (starts_begins s names refl) ∙ (sym starts ∙ is)

-- the seven numbers of the second line, where reading it answers the place after them
pub numbers_lined : {s old numbers : List ℕ} {next : ℕ} {found : Option ℕ} {r : Result ℕ Refusal}
    → has_names s ≡ true → 7 ≤ length old → LinesTaken s 47 7 99999 7 old numbers found
    → found ≡ result_ok r → r ≡ Ok next → Lined s 47 7 99999 7 numbers next
numbers_lined named room taken told is =
    lined (names_length _ named) room taken (told ∙ ap result_ok is)

-- what is answered of them
module _ (s : List ℕ) where
  pub names_none : has_names s ≡ false → Err Malformed ≡ start_of s
  names_none e = rw e

  pub values_none : has_names s ≡ true → has_values s ≡ false → Err Malformed ≡ start_of s
  values_none e f = rw (e, f)

  pub values_some : {t : Start} → has_names s ≡ true → has_values s ≡ true → t.values ≡ values_of s → t.at ≡ luma_begin s → Ok t ≡ start_of s
  values_some e f v a = rw (e, f, ← v, ← a)

-- ---- the whole output

pub wrote_whole : {old new : List ℕ} {next : ℕ} {text written : List ℕ} → Wrote old 0 written new next → text ≡ written
    → (next ≡ length text) × (new ≡ sets old 0 text)
wrote_whole {old} {new} {next} {text} {written} w e = rw e ((let p = w.place in omega arith, w.bytes))
