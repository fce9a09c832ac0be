use Rattle.std.proofs.Common.{◌≡◌, ◌++◌, take}
use Rattle.std.specs.Prelude.{flat_map, string_bytes}
use Rattle.play_text.specs.Text.{untaken_line}
use Rattle.play_text.proofs.report_lines.write_untaken.Given as goal

abbrev pub invariant-loop-untaken : goal.invariant-loop-untaken
invariant-loop-untaken l = string_bytes l.out ≡ string_bytes l.initial.out ++ flat_map (untaken_line l.queues) (take l.untaken-index l.all)
