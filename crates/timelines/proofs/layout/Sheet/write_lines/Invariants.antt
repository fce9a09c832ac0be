use Rattle.std.proofs.Common.{◌≡◌, ◌++◌}
use Rattle.std.specs.Prelude.{flat_map, string_bytes}
use Rattle.std.specs.List.{range_with_len}
use Rattle.timelines.specs.Layout.{frame_in}
use Rattle.timelines.specs.Picture.{line_at}
use Rattle.timelines.proofs.layout.Sheet.write_lines.Given as goal

abbrev pub invariant-loop-line : goal.invariant-loop-line
invariant-loop-line l = string_bytes l.out ≡ string_bytes l.initial.out ++ flat_map (line_at (frame_in l.self)) (range_with_len 0 l.line)
