use Rattle.std.proofs.Common.{◌≡◌, ◌+◌, ◌*◌, ◌≤◌, ◌++◌, take}
use Rattle.step_log.specs.Rows.{forward_steps}
use Rattle.step_log.proofs.log.StepLog.push_forwards.Given as goal

abbrev pub invariant-loop-index : goal.invariant-loop-index
invariant-loop-index g l =
    (g.Self.StepLog.steps l.self ≡ g.Self.StepLog.steps l.initial.self ++ forward_steps l.lane l.source (take l.index l.numbers) (take l.index l.replies))
    × (g.Self.StepLog.room l.initial.self ≤ g.Self.StepLog.room l.self + 2 * l.index)
