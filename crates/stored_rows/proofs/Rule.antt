-- The rule of the stored rows: antt computes it at all 110 numbers, and a lemma carries it to each line of the table. And a row that keeps the
-- rule is found whole.
-- Assumes nothing.
use mathlib.Core.Path.{◌≡◌, refl, sym, subst⁻¹}
use mathlib.Core.Bool.{Bool, true, ◌&&◌}
use mathlib.Core.List.{List, [], ◌∷◌}
use Prim.Native.Nat.{ℕ, ◌<◌}
use borrow.Author.Tests.{eq-eqb}
use lib.Dec.{T, eqb, eqb→eq}
use lib.Ieee.{Float}
use lib.ListN.{length, get_or}
use mir.ValLaws.{and_both}
use Rattle.std.proofs.lemmas.List.Sums.{AllPass-from_list_all}
use Rattle.std.specs.List.{list_all}
use Rattle.yuv_support.specs.declared.YuvMode.TheVariants.{AsSource}
use Rattle.yuv_support.specs.declared.CbCrInverseTransform.{CbCrInverseTransform}
use Rattle.yuv_support.specs.Settings.{range_of, matrix_of, max_of, range_y, range_c, weight_r, weight_b, weight_g}
use Rattle.yuv_support.specs.Coefficients.{exact_y, exact_outer, exact_inner, is_stored, stored_of}
use Rattle.yuv_support.proofs.Tests.{passed}
use Rattle.built_coefficients.specs.Built.{built_of}
use Rattle.stored_rows.specs.declared.StoredRow.{StoredRow}
use Rattle.stored_rows.specs.Rows.{KeepsRule, agreeing, found_in, found_of}

-- the code's table
abbrev pub rows : List (List ℕ)
rows =
    (8 ∷ 0 ∷ 0 ∷ 9539 ∷ 13075 ∷ 16525 ∷ 6660 ∷ 3209 ∷ []) ∷
    (8 ∷ 1 ∷ 0 ∷ 8192 ∷ 11485 ∷ 14516 ∷ 5850 ∷ 2819 ∷ []) ∷
    (8 ∷ 0 ∷ 1 ∷ 9539 ∷ 14686 ∷ 17305 ∷ 4366 ∷ 1747 ∷ []) ∷
    (8 ∷ 1 ∷ 1 ∷ 8192 ∷ 12901 ∷ 15201 ∷ 3835 ∷ 1535 ∷ []) ∷
    (8 ∷ 0 ∷ 2 ∷ 9539 ∷ 13752 ∷ 17545 ∷ 5328 ∷ 1535 ∷ []) ∷
    (8 ∷ 1 ∷ 2 ∷ 8192 ∷ 12080 ∷ 15412 ∷ 4681 ∷ 1348 ∷ []) ∷
    (8 ∷ 0 ∷ 3 ∷ 9539 ∷ 17029 ∷ 14697 ∷ 2113 ∷ 4445 ∷ []) ∷
    (8 ∷ 1 ∷ 3 ∷ 8192 ∷ 14959 ∷ 12911 ∷ 1856 ∷ 3904 ∷ []) ∷
    (8 ∷ 0 ∷ 4 ∷ 9539 ∷ 14511 ∷ 17322 ∷ 4558 ∷ 1748 ∷ []) ∷
    (8 ∷ 1 ∷ 4 ∷ 8192 ∷ 12747 ∷ 15216 ∷ 4004 ∷ 1535 ∷ []) ∷
    (10 ∷ 0 ∷ 0 ∷ 9567 ∷ 13113 ∷ 16574 ∷ 6679 ∷ 3219 ∷ []) ∷
    (10 ∷ 1 ∷ 0 ∷ 8192 ∷ 11485 ∷ 14516 ∷ 5850 ∷ 2819 ∷ []) ∷
    (10 ∷ 0 ∷ 1 ∷ 9567 ∷ 14729 ∷ 17356 ∷ 4378 ∷ 1752 ∷ []) ∷
    (10 ∷ 1 ∷ 1 ∷ 8192 ∷ 12901 ∷ 15201 ∷ 3835 ∷ 1535 ∷ []) ∷
    (10 ∷ 0 ∷ 2 ∷ 9567 ∷ 13792 ∷ 17597 ∷ 5344 ∷ 1539 ∷ []) ∷
    (10 ∷ 1 ∷ 2 ∷ 8192 ∷ 12080 ∷ 15412 ∷ 4681 ∷ 1348 ∷ []) ∷
    (12 ∷ 0 ∷ 0 ∷ 9574 ∷ 13123 ∷ 16586 ∷ 6684 ∷ 3221 ∷ []) ∷
    (12 ∷ 1 ∷ 0 ∷ 8192 ∷ 11485 ∷ 14516 ∷ 5850 ∷ 2819 ∷ []) ∷
    (12 ∷ 0 ∷ 1 ∷ 9574 ∷ 14740 ∷ 17368 ∷ 4382 ∷ 1753 ∷ []) ∷
    (12 ∷ 1 ∷ 1 ∷ 8192 ∷ 12901 ∷ 15201 ∷ 3835 ∷ 1535 ∷ []) ∷
    (12 ∷ 0 ∷ 2 ∷ 9574 ∷ 13802 ∷ 17610 ∷ 5348 ∷ 1540 ∷ []) ∷
    (12 ∷ 1 ∷ 2 ∷ 8192 ∷ 12080 ∷ 15412 ∷ 4681 ∷ 1348 ∷ []) ∷
    []

-- ---- two rows are the same where their numbers are

fields : {a b : CbCrInverseTransform} → a.y ≡ b.y → a.cr ≡ b.cr → a.cb ≡ b.cb → a.g1 ≡ b.g1 → a.g2 ≡ b.g2 → a ≡ b
fields y cr cb g1 g2 i = record { y = y i; cr = cr i; cb = cb i; g1 = g1 i; g2 = g2 i }

same_row : CbCrInverseTransform → CbCrInverseTransform → Bool
same_row a b = eqb a.y b.y && (eqb a.cr b.cr && (eqb a.cb b.cb && (eqb a.g1 b.g1 && eqb a.g2 b.g2)))

same_is : (a b : CbCrInverseTransform) → T (same_row a b) → a ≡ b
unfolding same_row
same_is a b h =
    let h1 = and_both (eqb a.y b.y) _ h in
    let h2 = and_both (eqb a.cr b.cr) _ h1.1 in
    let h3 = and_both (eqb a.cb b.cb) _ h2.1 in
    let h4 = and_both (eqb a.g1 b.g1) _ h3.1 in
    fields (eqb→eq _ _ h1.0) (eqb→eq _ _ h2.0) (eqb→eq _ _ h3.0) (eqb→eq _ _ h4.0) (eqb→eq _ _ h4.1)

-- ---- the rule at a line of the table

keeps_rule : StoredRow → Bool
keeps_rule s = is_stored s.depth s.matrix && same_row s.row (stored_of s.depth s.range s.matrix AsSource)

keeps_rule_lem : (s : StoredRow) → T (keeps_rule s) → KeepsRule s
unfolding keeps_rule
keeps_rule_lem s h =
    let u = and_both (is_stored s.depth s.matrix) _ h in
    (u.0, same_is s.row (stored_of s.depth s.range s.matrix AsSource) u.1)

-- a test that each element of a list passes, at one of them
every_at : {A : Type 0} (test : A → Bool) (xs : List A) (default : A) → list_all test xs ≡ true → (k : ℕ) → k < length xs → T (test (get_or xs k default))
every_at test xs default all k h = subst⁻¹ T (AllPass-from_list_all test xs all k default h) tt

-- a line as a row; kr and kb, which Custom would carry, do not matter
module _ (kr kb : Float) where
  abbrev pub row_of : List ℕ → StoredRow
  row_of line = record {
    depth = get_or line 0 0;
    range = range_of (get_or line 1 0);
    matrix = matrix_of (get_or line 2 0) kr kb;
    row = record { y = get_or line 3 0; cr = get_or line 4 0; cb = get_or line 5 0; g1 = get_or line 6 0; g2 = get_or line 7 0 };
  }

  line_keeps : List ℕ → Bool
  line_keeps line = keeps_rule (row_of line)

  pub line_keeps_lem : (k : ℕ) → k < 22 → KeepsRule (row_of (get_or rows k []))
  unfolding line_keeps keeps_rule same_row is_stored stored_of exact_y exact_outer exact_inner max_of range_y range_c weight_r weight_b weight_g
  line_keeps_lem k h = keeps_rule_lem (row_of (get_or rows k [])) (every_at line_keeps rows [] refl k h)

-- ---- a row that keeps the rule is found whole

agree : (a : CbCrInverseTransform) → agreeing a a ≡ 5
unfolding agreeing
agree a = rw (eq-eqb a.y a.y refl, eq-eqb a.cr a.cr refl, eq-eqb a.cb a.cb refl, eq-eqb a.g1 a.g1 refl, eq-eqb a.g2 a.g2 refl)

pub all_found : (s : StoredRow) → KeepsRule s → found_of s ≡ 5
unfolding found_in built_of
all_found s h = rw (passed (is_stored s.depth s.matrix) h.0, sym h.1) (agree s.row)
