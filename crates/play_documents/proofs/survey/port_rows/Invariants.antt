use Rattle.std.proofs.Common.{◌≡◌, map, take}
use Rattle.toml.specs.View.{table_view}
use Rattle.play_documents.specs.Survey.{port_row, port_seen}
use Rattle.play_documents.proofs.survey.port_rows.Given as goal

abbrev pub invariant-loop-table : goal.invariant-loop-table
invariant-loop-table l = map port_seen l.rows.items ≡ map port_row (map (λ t. table_view t.now) (take l.table-index l.tables))
