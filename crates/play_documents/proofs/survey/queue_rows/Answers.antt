use Rattle.std.proofs.Common.{List, map, take_all, ap, ◌∙◌}
use Rattle.toml.specs.View.{table_view}
use Rattle.play_documents.specs.Survey.{queue_row}
use Rattle.play_documents.specs.declared.survey.QueueRow.{QueueRow}
use Rattle.play_documents.proofs.Items.{shown-more}
use Rattle.play_documents.proofs.survey.queue_rows.Goals as goal

pub loop-table-preserved : goal.loop-table-preserved
loop-table-preserved c =
    ◌∙◌ {A = List QueueRow} c.in_ok-push.ensures.items (shown-more queue_row (λ t. table_view t.now) c.args.tables.now c.loop-table.table-index c.table-item.result c.loop-table.rows.items _
    c.loop-table-test.true c.loop-table.invariant (◌∙◌ {A = QueueRow} c.queue_row.ensures (ap (λ t. queue_row (table_view t.now)) c.table-item.is)))

pub returns : goal.returns
returns c =
    ◌∙◌ {A = List QueueRow} c.loop-table.invariant
    (ap (λ ts. map queue_row (map (λ t. table_view t.now) ts)) (take_all c.loop-table.table-index c.args.tables.now c.loop-table-test.false))
