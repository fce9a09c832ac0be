use Rattle.std.proofs.Common.{◌≡◌, ◌+◌, ◌≤◌, ◌++◌, take}
use Rattle.step_log.specs.Rows.{news_steps}
use Rattle.step_log.proofs.log.StepLog.push_news.Given as goal

abbrev pub invariant-loop-reply : goal.invariant-loop-reply
invariant-loop-reply g l =
    (g.Self.StepLog.steps l.self ≡ g.Self.StepLog.steps l.initial.self ++ news_steps l.lane l.queue (take l.reply-index l.replies))
    × (g.Self.StepLog.room l.initial.self ≤ g.Self.StepLog.room l.self + l.reply-index)
