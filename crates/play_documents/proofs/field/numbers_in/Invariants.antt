use Rattle.std.proofs.Common.{◌≡◌, ◌-◌, ◌^◌, drop}
use Rattle.toml.specs.View.{items_view, array_view}
use Rattle.play_documents.specs.Field.{items_by, number_of}
use Rattle.play_documents.proofs.Items.{with_front}
use Rattle.play_documents.proofs.field.numbers_in.Given as goal

abbrev pub invariant-loop-value : goal.invariant-loop-value
invariant-loop-value l =
    with_front l.numbers.items (items_by (number_of (2 ^ 32 - 1)) (items_view (drop l.value-index l.values.items))) ≡ items_by (number_of (2 ^ 32 - 1)) (array_view l.values)
