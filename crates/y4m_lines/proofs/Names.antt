-- The names of C in a table: what is found of a name is the format that it stands for (`known_by_name`).
-- Assumes nothing.
use Rattle.std.proofs.Common.{◌≡◌, ℕ, Bool, true, false, cond, List, [], ◌∷◌, eqb, refl, ap, ◌∙◌, Option, Some, None}
use denote.Ref.{Bor}
use lib.Pointwise.{pointwise}
use Rattle.std.specs.List.{find}
use Rattle.std.specs.Option.{option_map}
use Rattle.yuv_support.specs.declared.YuvChromaSubsampling.{YuvChromaSubsampling}
use Rattle.yuv_support.specs.declared.YuvChromaSubsampling.TheVariants.{Yuv420, Yuv422}
use Rattle.y4m_text.specs.declared.Format.{Format}
use Rattle.y4m_text.specs.Words.{c420jpeg, c422, c420p10, c422p10, c420p12, c422p12}
use Rattle.y4m_lines.specs.Header.{same_text, format, format_of, known_format}
use Rattle.y4m_lines.proofs.Numbers.{same_is_eq}

-- a name with what it stands for
abbrev Named : Type 0
Named = Bor (List ℕ) × YuvChromaSubsampling × ℕ

abbrev told : Option Named → Option Format
told None = None
told (Some k) = Some (format k.1 k.2)

abbrev table : (a b c d e f : Bor (List ℕ)) → List Named
table a b c d e f = (a, Yuv420, 8) ∷ (b, Yuv422, 8) ∷ (c, Yuv420, 10) ∷ (d, Yuv422, 10) ∷ (e, Yuv420, 12) ∷ (f, Yuv422, 12) ∷ []

by_tests : (a b c d e f : Bor (List ℕ)) (p q r s t u : Bool)
    → told (cond p (Some (a, Yuv420, 8)) (cond q (Some (b, Yuv422, 8)) (cond r (Some (c, Yuv420, 10)) (cond s (Some (d, Yuv422, 10)) (cond t (Some (e, Yuv420, 12)) (cond u (Some (f, Yuv422, 12)) None))))))
    ≡ known_format (cond p (format Yuv420 8) (cond q (format Yuv422 8) (cond r (format Yuv420 10) (cond s (format Yuv422 10) (cond t (format Yuv420 12) (cond u (format Yuv422 12) (format Yuv420 0)))))))
by_tests a b c d e f true q r s t u = refl
by_tests a b c d e f false true r s t u = refl
by_tests a b c d e f false false true s t u = refl
by_tests a b c d e f false false false true t u = refl
by_tests a b c d e f false false false false true u = refl
by_tests a b c d e f false false false false false true = refl
by_tests a b c d e f false false false false false false = refl

-- r is what is found of a name, and `a` to `f` are the names as the table has them
module _ (name : List ℕ) (a b c d e f : Bor (List ℕ)) (r : Option (Bor Named))
    (found : option_map (λ x. x.now) r ≡ find (λ k. pointwise eqb name k.0.now) (table a b c d e f))
    (is_a : a.now ≡ c420jpeg) (is_b : b.now ≡ c422) (is_c : c.now ≡ c420p10) (is_d : d.now ≡ c422p10) (is_e : e.now ≡ c420p12) (is_f : f.now ≡ c422p12) where
  same : {xs : List ℕ} (ys : List ℕ) → xs ≡ ys → pointwise eqb name xs ≡ same_text name ys
  same ys e = ap (λ zs. pointwise eqb name zs) e ∙ same_is_eq name ys

  known_by_name : told (option_map (λ x. x.now) r) ≡ known_format (format_of name)
  unfolding format_of
  known_by_name =
      ap told found
      ∙ rw (same c420jpeg is_a, same c422 is_b, same c420p10 is_c, same c422p10 is_d, same c420p12 is_e, same c422p12 is_f)
      (by_tests a b c d e f (same_text name c420jpeg) (same_text name c422) (same_text name c420p10) (same_text name c422p10) (same_text name c420p12) (same_text name c422p12))

  pub name_unknown : r ≡ None → None ≡ known_format (format_of name)
  name_unknown is = rw is at known_by_name

  pub name_known : {k : Bor Named} → r ≡ Some k → Some (record { sampling = k.now.1; depth = k.now.2 }) ≡ known_format (format_of name)
  name_known is = rw is at known_by_name
