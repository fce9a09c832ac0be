use Rattle.std.proofs.Common.{◌≡◌}
use Rattle.sched_core.specs.Offered.{HasAllowed}
use Rattle.small_set.specs.SmallSets.{weight}
use Rattle.sched_core.proofs.state.Core.offer_behind.Given as goal

abbrev pub invariant-loop-found : goal.invariant-loop-found
invariant-loop-found l = (l.self ≡ l.fn.self) × HasAllowed l.fn.self l.skips l.queue l.left

abbrev pub decreases-loop-found : goal.decreases-loop-found
decreases-loop-found l = weight l.left
