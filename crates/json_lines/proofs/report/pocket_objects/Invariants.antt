use Rattle.std.proofs.Common.{◌≡◌, take}
use Rattle.std.specs.Prelude.{map}
use Rattle.serde_json.specs.View.{view}
use Rattle.json_lines.specs.Lines.{count}
use Rattle.json_lines.proofs.report.pocket_objects.Given as goal

abbrev pub invariant-loop-pocket : goal.invariant-loop-pocket
invariant-loop-pocket l = map view l.objects.items ≡ map count (take l.pocket-index l.pockets)
