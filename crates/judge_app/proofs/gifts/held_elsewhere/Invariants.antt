use Rattle.std.proofs.Common.{◌≡◌, []}
use Rattle.std.specs.Prelude.{filter_map}
use Rattle.std.specs.List.{range_with_len}
use Rattle.judge_app.specs.Gifts.{held_on}
use Rattle.judge_app.proofs.gifts.held_elsewhere.Given as goal

abbrev pub invariant-loop-lane : goal.invariant-loop-lane
invariant-loop-lane l = filter_map (held_on l.shape l.past l.gift l.slot) (range_with_len 0 l.lane) ≡ []
