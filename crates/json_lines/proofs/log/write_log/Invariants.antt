use Rattle.std.proofs.Common.{◌≡◌, ◌++◌, [], take, drop, length}
use Rattle.std.specs.Prelude.{string_bytes}
use Rattle.play_text.proofs.Counted.{Counts}
use Rattle.json_lines.specs.Lines.{lines_after}
use Rattle.json_lines.proofs.log.write_log.Given as goal

abbrev pub invariant-loop-step : goal.invariant-loop-step
invariant-loop-step l =
    Counts (length l.queues) l.counts.accepted.items (take l.step-index l.log)
    × (string_bytes l.out ++ lines_after l.queues (take l.step-index l.log) (drop l.step-index l.log) ≡ string_bytes l.initial.out ++ lines_after l.queues [] l.log)
