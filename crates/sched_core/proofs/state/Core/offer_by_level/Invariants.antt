use Rattle.std.proofs.Common.{◌≡◌}
use Rattle.small_set.specs.SmallSets.{weight}
use Rattle.parked_queue.specs.LevelSets.{members}
use Rattle.sched_core.proofs.Offers.{HasNoneBeside}
use Rattle.sched_core.proofs.state.Core.offer_by_level.Given as goal

abbrev pub invariant-loop-level : goal.invariant-loop-level
invariant-loop-level l = (l.self ≡ l.fn.self) × HasNoneBeside l.fn.self l.skips l.queue (members l.left)

abbrev pub decreases-loop-level : goal.decreases-loop-level
decreases-loop-level l = weight (members l.left)
