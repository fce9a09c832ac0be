use Rattle.std.proofs.Common.{◌≡◌, ◌++◌, take}
use Rattle.std.specs.Prelude.{flat_map, string_bytes}
use Rattle.play_text.specs.Text.{kept_line}
use Rattle.play_text.proofs.report_lines.write_kept.Given as goal

abbrev pub invariant-loop-kept : goal.invariant-loop-kept
invariant-loop-kept l = string_bytes l.out ≡ string_bytes l.initial.out ++ flat_map (kept_line l.queues) (take l.kept-index l.all)
