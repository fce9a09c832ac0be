use Rattle.std.proofs.Common.{◌≡◌, ℕ, ◌+◌, ◌*◌, ◌≤◌, length}
use Rattle.credit_pool.specs.declared.account.Account.{Account}
use Rattle.credit_pool.specs.declared.pool.Credits.{Credits}
use Rattle.event_scheduler.specs.Giving.{Gives, left}
use Rattle.event_scheduler.specs.Hidden.{NoneHidden}
use Rattle.event_scheduler.specs.Scheduler.{sight}
use Rattle.evt_types.specs.Plan.{lanes_of}
use Rattle.event_scheduler.proofs.Passing.{long}
use Rattle.sched_core.specs.Runs.{IsTurn}
use Rattle.std.specs.Option.{IfSome}
use Rattle.event_scheduler.proofs.give.give_each.Given as goal

abbrev pub invariant-loop-offer : goal.invariant-loop-offer
invariant-loop-offer g l =
    ((pool : Credits) (v : Account) (p n : ℕ) → Gives l.skips l.given l.bounced (sight pool l.initial.core l.initial.lanes.items v p n) (g.L.StepLog.steps l.initial.log) (sight pool l.core l.lanes.items v p n) (g.L.StepLog.steps l.log))
    × (left l.initial.core.shape l.skips ≤ g.L.StepLog.room l.log)
    × (l.given + l.bounced + left l.initial.core.shape l.skips ≤ l.initial.core.shape.sweep * length l.initial.core.shape.queues + lanes_of l.initial.core.shape)
    × (length l.lanes.items ≡ lanes_of l.core.shape) × NoneHidden l.lanes.items
    × (l.core.shape ≡ l.initial.core.shape) × long l.skips × IfSome l.turn (IsTurn l.core l.skips)

abbrev pub decreases-loop-offer : goal.decreases-loop-offer
decreases-loop-offer g l = left l.initial.core.shape l.skips
