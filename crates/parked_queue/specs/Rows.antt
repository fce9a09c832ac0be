-- The first events of a level, as a row.
use Rattle.std.specs.Prelude.{ℕ, ◌≡◌, ◌≤◌, ◌==◌, Bool, List, [], ◌∷◌, ◌++◌, filter, length, map}
use Rattle.evt_types.specs.Plan.{level_of}
use Rattle.evt_types.specs.declared.event.Delivery.{Delivery}
use Rattle.evt_types.specs.declared.event.Numbered.{Numbered}
use Rattle.parked_queue.specs.Lists.{named_delivery}
use Rattle.parked_queue.specs.Waits.{AreNamed, Waits, without_number}

-- the events of a level
abbrev pub is_at : ℕ → Numbered → Bool
is_at c w = level_of w.event == c

abbrev pub at_level : ℕ → Waits → List Numbered
at_level c v = filter (is_at c) v.waiting

-- a run goes on by the first events of the queue's level, no more than so many
pub record AreHeads (v : Waits) (q c most : ℕ) (run longer : List Delivery) : Type 0 where
  pub heads : List Numbered
  pub rest : List Numbered
  pub whole : at_level c v ≡ heads ++ rest
  pub longer_is : longer ≡ run ++ map named_delivery heads
  pub few : length heads ≤ most
  pub named : AreNamed q heads

-- the events of these numbers no longer wait
abbrev pub without_all : Waits → List Delivery → Waits
without_all v [] = v
without_all v (d ∷ ds) = without_all (without_number v d.number) ds
