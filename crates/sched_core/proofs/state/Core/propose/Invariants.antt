use Rattle.std.proofs.Common.{◌≡◌, ℕ, ◌<◌, length}
use Rattle.small_set.specs.SmallSets.{Has, weight}
use Rattle.sched_core.proofs.Offers.{NothingBeside}
use Rattle.sched_core.proofs.state.Core.propose.Given as goal

abbrev pub invariant-loop-queue : goal.invariant-loop-queue
invariant-loop-queue l = (l.self ≡ l.fn.self) × ((q : ℕ) → Has l.left q → q < length l.fn.self.shape.queues) × NothingBeside l.fn.self l.skips l.left

abbrev pub decreases-loop-queue : goal.decreases-loop-queue
decreases-loop-queue l = weight l.left
