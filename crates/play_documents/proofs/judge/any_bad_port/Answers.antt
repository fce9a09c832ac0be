use Rattle.std.proofs.Common.{◌∙◌, rules, tests}
use Rattle.std.proofs.lemmas.Iterator.{YieldsList-from_slice}
use Rattle.std.proofs.lemmas.Iterator.Search.{any_from_yields_List}
use Rattle.play_documents.specs.Judge.{has_bad_port}
use Rattle.play_documents.specs.Survey.{port_seen}
use Rattle.play_documents.proofs.Keys.{list_any-map}
use Rattle.play_documents.proofs.judge.any_bad_port.Goals as goal

pub returns : goal.returns
returns c =
    any_from_yields_List (λ p. has_bad_port (port_seen p)) _ _ _ c.any.ensures.ran (YieldsList-from_slice c.args.ports.now cc) (λ x b q k. search (rules, tests))
    ∙ list_any-map has_bad_port port_seen c.args.ports.now
