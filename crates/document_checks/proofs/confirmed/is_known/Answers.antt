use Rattle.std.proofs.Common.{◌∙◌, rules, tests}
use Rattle.std.proofs.lemmas.Iterator.{YieldsList-from_slice}
use Rattle.std.proofs.lemmas.Iterator.Search.{any_from_yields_List}
use Rattle.play_documents.specs.Field.{is_text}
use Rattle.play_documents.proofs.Keys.{list_any-map}
use Rattle.document_checks.proofs.confirmed.is_known.Goals as goal

pub returns : goal.returns
returns c =
    any_from_yields_List (λ k. is_text k.now c.args.key.now) _ _ _ c.any.ensures.ran (YieldsList-from_slice c.args.known.now cc) (λ x b q k. search (rules, tests))
    ∙ list_any-map (λ k. is_text k c.args.key.now) (λ k. k.now) c.args.known.now
