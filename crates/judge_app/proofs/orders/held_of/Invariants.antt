use Rattle.std.proofs.Common.{◌≡◌}
use Rattle.std.specs.Prelude.{filter_map, flat_map}
use Rattle.std.specs.List.{range_with_len}
use Rattle.transcripts.specs.Transcript.{unanswered}
use Rattle.judge_app.specs.Forwards.{number_of}
use Rattle.judge_app.proofs.orders.held_of.Given as goal

abbrev pub invariant-loop-lane : goal.invariant-loop-lane
invariant-loop-lane l = l.numbers.items ≡ flat_map (λ m. filter_map (number_of l.queue) (unanswered l.past m)) (range_with_len 0 l.lane)
