use Rattle.std.proofs.Common.{◌≡◌, ◌++◌, take}
use Rattle.std.specs.Prelude.{flat_map, string_bytes}
use Rattle.json_lines.specs.Lines.{line, held_object}
use Rattle.json_lines.proofs.report.write_held.Given as goal

abbrev pub invariant-loop-held : goal.invariant-loop-held
invariant-loop-held l = string_bytes l.out ≡ string_bytes l.initial.out ++ flat_map (λ h. line (held_object h)) (take l.held-index l.all)
