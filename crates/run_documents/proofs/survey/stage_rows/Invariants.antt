use Rattle.std.proofs.Common.{◌≡◌, map, take}
use Rattle.toml.specs.View.{table_view}
use Rattle.run_documents.specs.Survey.{stage_row}
use Rattle.run_documents.proofs.survey.stage_rows.Given as goal

abbrev pub invariant-loop-table : goal.invariant-loop-table
invariant-loop-table l = l.rows.items ≡ map stage_row (map (λ t. table_view t.now) (take l.table-index l.tables))
