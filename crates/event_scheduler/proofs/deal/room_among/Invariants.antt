use Rattle.std.proofs.Common.{◌≡◌, ℕ, ◌≤◌, length}
use Rattle.credit_pool.specs.declared.account.Account.{Account}
use Rattle.credit_pool.specs.declared.pool.Credits.{Credits}
use Rattle.event_scheduler.proofs.Dealing.{AreThere}
use Rattle.event_scheduler.specs.Dealing.{HasRoomFor}
use Rattle.event_scheduler.specs.Hidden.{NoneHidden}
use Rattle.event_scheduler.specs.Scheduler.{sight}
use Rattle.small_set.specs.SmallSets.{Has, weight}
use Rattle.transcripts.specs.Standing.{View}
use Rattle.event_scheduler.proofs.deal.room_among.Given as goal

abbrev pub invariant-loop-lane : goal.invariant-loop-lane
invariant-loop-lane l =
    record {
      same : (pool : Credits) (seen : View) (v : Account) (p n : ℕ) → sight pool seen l.initial.lanes.items v p n ≡ sight pool seen l.lanes.items v p n;
      count : length l.lanes.items ≡ length l.initial.lanes.items;
      shown : NoneHidden l.lanes.items;
      there : AreThere l.left (length l.lanes.items);
      least : l.least ≤ l.count;
      room : (m : ℕ) → Has l.fn.among m → ¬ Has l.left m → HasRoomFor l.core l.lanes.items l.least m;
    }

abbrev pub decreases-loop-lane : goal.decreases-loop-lane
decreases-loop-lane l = weight l.left
