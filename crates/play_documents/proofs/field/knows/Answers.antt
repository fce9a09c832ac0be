use Rattle.std.proofs.Common.{map, ◌∙◌, string_bytes, rules, tests}
use Rattle.std.specs.Map.{keys_of}
use Rattle.std.proofs.lemmas.Iterator.Consumers.{YieldsList-from_rest}
use Rattle.std.proofs.lemmas.Iterator.Search.{all_from_yields_List}
use Rattle.play_documents.specs.Field.{is_known}
use Rattle.play_documents.proofs.Keys.{knows-keys}
use Rattle.play_documents.proofs.field.knows.Goals as goal

pub returns : goal.returns
returns c =
    let known = map (λ w. w.now) c.args.known.now in
    all_from_yields_List (λ k. is_known known (string_bytes k)) _ _ _ c.all.ensures.ran (YieldsList-from_rest (keys_of c.args.table.now.entries) cc) (λ x b q k. search (rules, tests))
    ∙ knows-keys known c.args.table.now.entries
