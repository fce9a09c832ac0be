use Rattle.std.proofs.Common.{◌≡◌, ◌++◌, take}
use Rattle.std.specs.Prelude.{flat_map, string_bytes}
use Rattle.play_text.specs.Text.{waiting_line}
use Rattle.play_text.proofs.report_lines.write_waiting.Given as goal

abbrev pub invariant-loop-waiting : goal.invariant-loop-waiting
invariant-loop-waiting l = string_bytes l.out ≡ string_bytes l.initial.out ++ flat_map waiting_line (take l.waiting-index l.all)
