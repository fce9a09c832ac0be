use Rattle.std.proofs.Common.{◌≡◌, ◌+◌, ◌≤◌, ◌++◌, take}
use Rattle.step_log.specs.Gives.{gives_of}
use Rattle.step_log.proofs.log.StepLog.push_gives.Given as goal

abbrev pub invariant-loop-delivery : goal.invariant-loop-delivery
invariant-loop-delivery g l =
    (g.Self.StepLog.steps l.self ≡ g.Self.StepLog.steps l.fn.self ++ gives_of l.lane l.queue (take l.delivery-index l.row))
    × (g.Self.StepLog.room l.fn.self ≤ g.Self.StepLog.room l.self + l.delivery-index)
