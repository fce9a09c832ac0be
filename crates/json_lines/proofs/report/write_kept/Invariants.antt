use Rattle.std.proofs.Common.{◌≡◌, ◌++◌, take}
use Rattle.std.specs.Prelude.{flat_map, string_bytes}
use Rattle.json_lines.specs.Lines.{line, kept_object}
use Rattle.json_lines.proofs.report.write_kept.Given as goal

abbrev pub invariant-loop-kept : goal.invariant-loop-kept
invariant-loop-kept l = string_bytes l.out ≡ string_bytes l.initial.out ++ flat_map (λ k. line (kept_object l.queues k)) (take l.kept-index l.all)
