use Rattle.std.proofs.Common.{◌≡◌, map, drop}
use Rattle.toml.specs.Data.{as_table}
use Rattle.toml.specs.View.{items_view, array_view, table_view}
use Rattle.play_documents.specs.Field.{items_by}
use Rattle.play_documents.proofs.Items.{with_front}
use Rattle.play_documents.proofs.field.tables_in.Given as goal

abbrev pub invariant-loop-value : goal.invariant-loop-value
invariant-loop-value l =
    with_front (map (λ t. table_view t.now) l.tables.items) (items_by as_table (items_view (drop l.value-index l.values.items))) ≡ items_by as_table (array_view l.values)
