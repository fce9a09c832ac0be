use Rattle.std.proofs.Common.{◌≡◌, ◌+◌, ◌≤◌, ◌++◌}
use Rattle.step_log.specs.Rows.{release_steps}
use Rattle.step_log.proofs.log.StepLog.push_releases.Given as goal

abbrev pub invariant-loop : goal.invariant-loop
invariant-loop g l =
    (g.Self.StepLog.steps l.self ≡ g.Self.StepLog.steps l.initial.self ++ release_steps l.lane l.counter)
    × (g.Self.StepLog.room l.initial.self ≤ g.Self.StepLog.room l.self + l.counter)
