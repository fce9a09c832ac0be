use Rattle.std.proofs.Common.{◌≡◌, ◌++◌, take}
use Rattle.std.specs.Prelude.{flat_map, string_bytes}
use Rattle.json_lines.specs.Lines.{line, waiting_object}
use Rattle.json_lines.proofs.report.write_waiting.Given as goal

abbrev pub invariant-loop-waiting : goal.invariant-loop-waiting
invariant-loop-waiting l = string_bytes l.out ≡ string_bytes l.initial.out ++ flat_map (λ w. line (waiting_object w)) (take l.waiting-index l.all)
