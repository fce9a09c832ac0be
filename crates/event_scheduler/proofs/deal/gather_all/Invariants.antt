use Rattle.std.proofs.Common.{◌≡◌, ◌≤◌, ℕ, drop, length, take}
use Rattle.event_scheduler.proofs.Dealing.{HiddenAmong}
use Rattle.event_scheduler.specs.Dealing.{AreGathered, room_at}
use Rattle.sched_core.specs.Runs.{times}
use Rattle.small_set.specs.SmallSets.{Has}
use Rattle.event_scheduler.proofs.deal.gather_all.Given as goal

abbrev pub invariant-loop-position : goal.invariant-loop-position
invariant-loop-position l =
    record {
      gathered : AreGathered l.initial.lanes.items (take l.position l.row) (take l.position l.to) l.lanes.items;
      count : length l.lanes.items ≡ length l.initial.lanes.items;
      room : (m : ℕ) → Has l.fn.among m → times m (drop l.position l.to) ≤ room_at l.lanes.items m;
      others : HiddenAmong l.fn.among l.lanes.items;
    }
