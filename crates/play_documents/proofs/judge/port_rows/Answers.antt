use Rattle.std.proofs.Common.{map, ap, ◌∙◌}
use Rattle.play_documents.specs.Survey.{port_seen}
use Rattle.play_documents.proofs.Keys.{rows-map}
use Rattle.play_documents.proofs.judge.port_rows.Goals as goal

pub returns : goal.returns
returns c = ap (map port_seen) c.rows.ensures ∙ rows-map port_seen c.args.survey.now.ports
