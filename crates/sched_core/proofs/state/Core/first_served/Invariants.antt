use Rattle.evt_types.specs.Plan.{queue_of}
use Rattle.sched_core.proofs.Service.{IsLowest}
use Rattle.sched_core.proofs.state.Core.first_served.Given as goal

abbrev pub invariant-loop-first : goal.invariant-loop-first
invariant-loop-first l = IsLowest l.self.shape l.queues l.first

abbrev pub decreases-loop-first : goal.decreases-loop-first
decreases-loop-first l = (queue_of l.self.shape l.first).priority
