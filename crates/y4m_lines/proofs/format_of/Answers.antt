use Rattle.std.proofs.Common.{rules, refl, eqb, ◌∙◌}
use lib.Pointwise.{pointwise}
use Rattle.std.proofs.lemmas.Iterator.{YieldsList-from_slice}
use Rattle.std.proofs.lemmas.Iterator.Search.{find_from_yields_List}
use Rattle.y4m_lines.proofs.Names.{name_known, name_unknown}
use Rattle.y4m_lines.proofs.format_of.Goals as goal

pub returns-in_err-known : goal.returns-in_err-known
returns-in_err-known c =
    let found = find_from_yields_List (λ k. pointwise eqb c.args.name.now k.0.now) _ _ _ c.find.ensures.ran (YieldsList-from_slice _ c.iter.ensures.rest) (λ x b q k. search rules) in
    c.from_residual.ensures ∙ name_unknown c.args.name.now _ _ _ _ _ _ c.find.result found refl refl refl refl refl refl c.in_err-known.was

pub returns : goal.returns
returns c =
    let found = find_from_yields_List (λ k. pointwise eqb c.args.name.now k.0.now) _ _ _ c.find.ensures.ran (YieldsList-from_slice _ c.iter.ensures.rest) (λ x b q k. search rules) in
    name_known c.args.name.now _ _ _ _ _ _ c.find.result found refl refl refl refl refl refl c.in_ok-known.was
