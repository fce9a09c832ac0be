use Rattle.std.proofs.Common.{◌-◌, length}
use Rattle.sched_core.proofs.DealsBehind.{IsDealing}
use Rattle.sched_core.proofs.state.Core.deal_behind.Given as goal

abbrev pub invariant-loop-level : goal.invariant-loop-level
invariant-loop-level l = IsDealing l.queue l.level.number l.bound l.fn.among l.fn.self l.fn.skips l.run.items l.to.items l.self l.skips l.opened l.allowed

abbrev pub decreases-loop-level : goal.decreases-loop-level
decreases-loop-level l = l.bound - length l.run.items
