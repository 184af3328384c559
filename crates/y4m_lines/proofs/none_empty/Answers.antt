use Rattle.std.proofs.Common.{◌∙◌, eqb, not, length, rules}
use Rattle.std.proofs.lemmas.Iterator.Splits.{YieldsList-from_slice_split}
use Rattle.std.proofs.lemmas.Iterator.Search.{all_from_yields_List}
use Rattle.y4m_lines.proofs.Fields.{fields_split, all_some}
use Rattle.y4m_lines.proofs.none_empty.Goals as goal

pub returns : goal.returns
returns c =
    all_from_yields_List (λ f. not (eqb (length f) 0)) _ _ _ c.all.ensures.ran
    (YieldsList-from_slice_split _ (λ b. eqb b 32) c.args.line.now (c.split.ensures.rest) (c.split.ensures.done) (c.split.ensures.closure) (λ x b q k. search rules)) (λ x b q k. search rules)
    ∙ rw (fields_split c.args.line.now) (all_some _)
