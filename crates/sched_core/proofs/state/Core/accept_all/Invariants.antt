use Rattle.sched_core.proofs.Accepting.{IsAccepting}
use Rattle.sched_core.proofs.state.Core.accept_all.Given as goal

abbrev pub invariant-loop-event : goal.invariant-loop-event
invariant-loop-event g l = IsAccepting l.queue l.number l.events l.fn.self (g.L.StepLog.steps l.fn.log) (g.L.StepLog.room l.fn.log) l.self (g.L.StepLog.steps l.log) (g.L.StepLog.room l.log) l.event-index
