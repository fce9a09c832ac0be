use Rattle.std.proofs.Common.{◌≡◌, ◌++◌}
use Rattle.std.specs.Prelude.{flat_map, string_bytes}
use Rattle.std.specs.List.{range_with_len}
use Rattle.timelines.specs.Layout.{frame_in}
use Rattle.timelines.specs.Picture.{row_text}
use Rattle.timelines.proofs.layout.Sheet.write_rows.Given as goal

abbrev pub invariant-loop-row : goal.invariant-loop-row
invariant-loop-row l = string_bytes l.out ≡ string_bytes l.initial.out ++ flat_map (row_text l.queues (frame_in l.self) l.width) (range_with_len 0 l.row)
