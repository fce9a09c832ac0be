use Rattle.std.proofs.Common.{◌≡◌}
use Rattle.std.specs.Prelude.{flat_map}
use Rattle.std.specs.List.{range_with_len}
use Rattle.judge_app.specs.Forwards.{sent_on}
use Rattle.judge_app.proofs.forwards.sent_of.Given as goal

abbrev pub invariant-loop-lane : goal.invariant-loop-lane
invariant-loop-lane l = l.numbers.items ≡ flat_map (λ m. sent_on l.past m l.queue) (range_with_len 0 l.lane)
