use Rattle.std.proofs.Common.{◌≡◌, ◌+◌, ◌++◌, length, map, take}
use Rattle.evt_types.specs.Event.{pair_of}
use Rattle.lists.specs.Windows.{window}
use Rattle.lane_rings.proofs.held_pairs.write.Given as goal

-- the first deliveries stand behind what was held
abbrev pub invariant-loop-delivery : goal.invariant-loop-delivery
invariant-loop-delivery l =
    record {
      places : length l.places ≡ length l.initial.places;
      count : l.count ≡ l.initial.count + l.delivery-index;
      written : window l.first l.count l.places ≡ window l.first l.initial.count l.initial.places ++ map pair_of (take l.delivery-index l.deliveries);
    }
