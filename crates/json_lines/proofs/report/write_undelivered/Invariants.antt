use Rattle.std.proofs.Common.{◌≡◌, ◌++◌, take}
use Rattle.std.specs.Prelude.{flat_map, string_bytes}
use Rattle.json_lines.specs.Lines.{line, undelivered_object}
use Rattle.json_lines.proofs.report.write_undelivered.Given as goal

abbrev pub invariant-loop-undelivered : goal.invariant-loop-undelivered
invariant-loop-undelivered l = string_bytes l.out ≡ string_bytes l.initial.out ++ flat_map (λ u. line (undelivered_object u)) (take l.undelivered-index l.all)
