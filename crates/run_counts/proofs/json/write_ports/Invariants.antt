use Rattle.std.proofs.Common.{◌≡◌, ◌++◌, take}
use Rattle.std.specs.Prelude.{string_bytes}
use Rattle.run_counts.specs.CountsJson.{port_object_lines}
use Rattle.run_counts.proofs.json.write_ports.Given as goal

abbrev pub invariant-loop-work : goal.invariant-loop-work
invariant-loop-work l = string_bytes l.out ≡ string_bytes l.initial.out ++ port_object_lines (take l.work-index l.works)
