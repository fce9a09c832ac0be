use Rattle.std.proofs.Common.{◌≡◌, ◌+◌, ◌++◌, length, map, drop}
use Rattle.lists.specs.Windows.{window}
use Rattle.event_ports.specs.Lanes.{holding_of}
use Rattle.event_ports.proofs.held_ring.write.Given as goal

abbrev pub invariant-loop-delivery : goal.invariant-loop-delivery
invariant-loop-delivery l =
    record {
      places : length l.places ≡ 64;
      len : l.len ≡ l.initial.len + l.delivery-index;
      written : window l.first l.len l.places ++ map (holding_of l.lane) (drop l.delivery-index l.deliveries) ≡ window l.first l.initial.len l.initial.places ++ map (holding_of l.lane) l.deliveries;
    }
