use Rattle.std.proofs.Common.{◌≡◌, ◌+◌, ◌≤◌, ◌++◌, take}
use Rattle.step_log.specs.Gives.{deals_of}
use Rattle.step_log.proofs.log.StepLog.push_deals.Given as goal

abbrev pub invariant-loop-position : goal.invariant-loop-position
invariant-loop-position g l =
    (g.Self.StepLog.steps l.self ≡ g.Self.StepLog.steps l.fn.self ++ deals_of l.queue (take l.position l.row) (take l.position l.lanes))
    × (g.Self.StepLog.room l.fn.self ≤ g.Self.StepLog.room l.self + l.position)
