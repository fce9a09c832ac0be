use Rattle.std.proofs.Common.{List, ap}
use Rattle.event_ports.specs.declared.lane.Holding.{Holding}
use Rattle.event_ports.specs.HeldRings.{holds}
use Rattle.lists.proofs.Windows.{window_none}
use Rattle.event_ports.proofs.held_ring.HeldRing.new.Goals as goal

pub returns : goal.returns
returns c = ap (λ (hs : List Holding). holds hs c.args.capacity c.args.notes) (window_none 0 c.in_ok-places.places.items)
