-- What waits in all queues, and the queues in which something waits.
use Rattle.std.specs.Prelude.{ℕ, ◌≡◌, ◌<◌, ◌≤◌, List, [], length}
use Rattle.parked_queue.specs.LevelSets.{HaveLevels}
use Rattle.parked_queue.specs.Lists.{Lists}
use Rattle.parked_queue.specs.Parkings.{AreParkings, all_waits}
use Rattle.parked_queue.specs.Waits.{AreNamed, Waits, waits_at}
use Rattle.small_set.specs.SmallSets.{Has}
use Rattle.small_set.specs.declared.set.SmallSet.{SmallSet}
use Rattle.parked_queue.specs.declared.level.Levels.{Levels}
use Rattle.parked_queue.specs.declared.parking.Parking.{Parking}

-- these are numbers of queues, and each queue in which something waits is among them
pub record AreBusy (qs : List Waits) (busy : SmallSet) : Type 0 where
  pub few : length qs ≤ 64
  pub there : (q : ℕ) → Has busy q → q < length qs
  pub rest : (q : ℕ) → ¬ Has busy q → (waits_at qs q).waiting ≡ []

-- the words say of which levels of each queue an event waits, and in which queues one does; each event names its queue
pub record AreNoted (qs : List Waits) (ls : List Levels) (set : SmallSet) : Type 0 where
  pub levels : HaveLevels qs ls
  pub busy : AreBusy qs set
  pub named : (q : ℕ) → AreNamed q (waits_at qs q).waiting

-- the parts are those of queues, and the words say what waits in these
pub record AreQueues (l : Lists) (ps : List Parking) (ls : List Levels) (set : SmallSet) : Type 0 where
  pub parkings : AreParkings l ps
  pub noted : AreNoted (all_waits l ps) ls set
