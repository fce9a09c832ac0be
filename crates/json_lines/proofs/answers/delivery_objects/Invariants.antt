use Rattle.std.proofs.Common.{◌≡◌, take}
use Rattle.std.specs.Prelude.{map}
use Rattle.serde_json.specs.View.{view}
use Rattle.json_lines.specs.Lines.{delivery_object}
use Rattle.json_lines.proofs.answers.delivery_objects.Given as goal

abbrev pub invariant-loop-delivery : goal.invariant-loop-delivery
invariant-loop-delivery l = map view l.objects.items ≡ map (delivery_object l.queues) (take l.delivery-index l.deliveries)
