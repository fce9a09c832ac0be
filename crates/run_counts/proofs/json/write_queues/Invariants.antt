use Rattle.std.proofs.Common.{◌≡◌, ◌++◌, take}
use Rattle.std.specs.Prelude.{string_bytes}
use Rattle.run_counts.specs.CountsJson.{queue_object_lines}
use Rattle.run_counts.proofs.json.write_queues.Given as goal

abbrev pub invariant-loop-work : goal.invariant-loop-work
invariant-loop-work l = string_bytes l.out ≡ string_bytes l.initial.out ++ queue_object_lines (take l.work-index l.works)
