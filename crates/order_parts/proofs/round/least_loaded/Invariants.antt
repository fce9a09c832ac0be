use Rattle.std.specs.Prelude.{◌≡◌}
use Rattle.small_set.specs.SmallSets.{weight}
use Rattle.order_parts.proofs.Fewest.{IsWalked}
use Rattle.order_parts.specs.Dealing.{loads_in}
use Rattle.order_parts.proofs.round.least_loaded.Given as goal

abbrev pub invariant-loop-lane : goal.invariant-loop-lane
invariant-loop-lane l = IsWalked (loads_in l.histories) l.fn.lanes l.left l.best × (l.fewest ≡ loads_in l.histories l.best)

abbrev pub decreases-loop-lane : goal.decreases-loop-lane
decreases-loop-lane l = weight l.left
