use Rattle.std.proofs.Common.{◌≡◌, ◌++◌, take}
use Rattle.std.specs.Prelude.{flat_map, string_bytes}
use Rattle.play_text.specs.Text.{pocket_text}
use Rattle.play_text.proofs.report_lines.write_pockets.Given as goal

abbrev pub invariant-loop-pocket : goal.invariant-loop-pocket
invariant-loop-pocket l = string_bytes l.out ≡ string_bytes l.initial.out ++ flat_map pocket_text (take l.pocket-index l.pockets)
