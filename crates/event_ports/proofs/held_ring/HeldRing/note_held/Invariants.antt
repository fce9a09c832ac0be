use Rattle.std.proofs.Common.{◌≡◌, map, take}
use Rattle.lane_rings.specs.Ends.{unanswered}
use Rattle.event_ports.specs.declared.lane.Lane.TheVariants.{Own}
use Rattle.event_ports.specs.Lanes.{holding_of}
use Rattle.event_ports.proofs.held_ring.HeldRing.note_held.Given as goal

abbrev pub invariant-loop-position : goal.invariant-loop-position
invariant-loop-position l = (l.self.items ≡ map (holding_of Own) (take l.position (unanswered l.own))) × (l.self.capacity ≡ l.fn.self.capacity)
