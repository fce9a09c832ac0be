use Rattle.std.proofs.Common.{◌≡◌, ◌++◌}
use Rattle.std.specs.Prelude.{flat_map, string_bytes}
use Rattle.std.specs.List.{range_with_len}
use Rattle.timelines.specs.Layout.{frame_in}
use Rattle.timelines.specs.Marks.{mark_at, mark_text}
use Rattle.timelines.proofs.layout.Sheet.write_marks.Given as goal

abbrev pub invariant-loop-step : goal.invariant-loop-step
invariant-loop-step l =
    (l.place ≡ l.step-index) × (string_bytes l.out ≡ string_bytes l.initial.out ++ flat_map (λ i. mark_text (mark_at l.queues (frame_in l.self) l.log i)) (range_with_len 0 l.step-index))
