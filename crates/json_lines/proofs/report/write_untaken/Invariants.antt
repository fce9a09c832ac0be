use Rattle.std.proofs.Common.{◌≡◌, ◌++◌, take}
use Rattle.std.specs.Prelude.{flat_map, string_bytes}
use Rattle.json_lines.specs.Lines.{line, untaken_object}
use Rattle.json_lines.proofs.report.write_untaken.Given as goal

abbrev pub invariant-loop-untaken : goal.invariant-loop-untaken
invariant-loop-untaken l = string_bytes l.out ≡ string_bytes l.initial.out ++ flat_map (λ u. line (untaken_object l.queues u)) (take l.untaken-index l.all)
