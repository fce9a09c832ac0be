use Rattle.std.proofs.Common.{◌≡◌, ◌++◌, take}
use Rattle.std.specs.Prelude.{flat_map, string_bytes}
use Rattle.play_text.specs.Text.{delivery_line}
use Rattle.play_text.proofs.answer_lines.write_deliveries.Given as goal

abbrev pub invariant-loop-delivery : goal.invariant-loop-delivery
invariant-loop-delivery l = string_bytes l.out ≡ string_bytes l.initial.out ++ flat_map (delivery_line l.queues) (take l.delivery-index l.deliveries)
