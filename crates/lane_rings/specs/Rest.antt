-- What is left in a lane whose ends are both at hand.
use Rattle.std.specs.Prelude.{ℕ, ◌++◌, List, length}
use Rattle.evt_types.specs.declared.event.Delivery.{Delivery}
use Rattle.evt_types.specs.declared.event.Reply.{Reply}
use Rattle.lane_rings.specs.Intakes.{ahead}
use Rattle.lane_rings.specs.declared.rests.Beside.{Beside}

-- offered, and not received
abbrev pub undelivered : Beside → List Delivery
undelivered rests = ahead rests.deliveries ++ rests.offered.items

-- answered, and not taken
abbrev pub untaken : Beside → List Reply
untaken rests = ahead rests.replies

-- received and not answered: the queue and the number of each
abbrev pub held_pairs : Beside → List (ℕ × ℕ)
held_pairs rests = rests.held.items

-- how many these are
abbrev pub held_in : Beside → ℕ
held_in rests = length (held_pairs rests)
