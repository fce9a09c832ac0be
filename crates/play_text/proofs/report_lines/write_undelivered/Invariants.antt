use Rattle.std.proofs.Common.{◌≡◌, ◌++◌, take}
use Rattle.std.specs.Prelude.{flat_map, string_bytes}
use Rattle.play_text.specs.Text.{undelivered_line}
use Rattle.play_text.proofs.report_lines.write_undelivered.Given as goal

abbrev pub invariant-loop-undelivered : goal.invariant-loop-undelivered
invariant-loop-undelivered l = string_bytes l.out ≡ string_bytes l.initial.out ++ flat_map undelivered_line (take l.undelivered-index l.all)
