use Rattle.std.proofs.Common.{◌≡◌, map, take}
use Rattle.toml.specs.View.{table_view}
use Rattle.play_documents.specs.Survey.{queue_row}
use Rattle.play_documents.proofs.survey.queue_rows.Given as goal

abbrev pub invariant-loop-table : goal.invariant-loop-table
invariant-loop-table l = l.rows.items ≡ map queue_row (map (λ t. table_view t.now) (take l.table-index l.tables))
