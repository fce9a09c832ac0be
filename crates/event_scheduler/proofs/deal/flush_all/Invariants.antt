use Rattle.std.proofs.Common.{◌≡◌, ℕ, length}
use Rattle.credit_pool.specs.declared.account.Account.{Account}
use Rattle.credit_pool.specs.declared.pool.Credits.{Credits}
use Rattle.event_scheduler.proofs.Dealing.{AreThere, HiddenAmong}
use Rattle.event_scheduler.specs.Scheduler.{sight}
use Rattle.small_set.specs.SmallSets.{weight}
use Rattle.transcripts.specs.Standing.{View}
use Rattle.event_scheduler.proofs.deal.flush_all.Given as goal

abbrev pub invariant-loop-lane : goal.invariant-loop-lane
invariant-loop-lane l =
    ((pool : Credits) (core : View) (v : Account) (p n : ℕ) → sight pool core l.initial.lanes.items v p n ≡ sight pool core l.lanes.items v p n)
    × (length l.lanes.items ≡ length l.initial.lanes.items)
    × HiddenAmong l.left l.lanes.items × AreThere l.left (length l.lanes.items)

abbrev pub decreases-loop-lane : goal.decreases-loop-lane
decreases-loop-lane l = weight l.left
