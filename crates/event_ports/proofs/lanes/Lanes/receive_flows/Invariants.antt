use Rattle.std.proofs.Common.{◌≡◌, ◌<◌, ◌≤◌, ◌-◌, true, length, map, take}
use Rattle.event_ports.specs.declared.lane.Lane.TheVariants.{Flow}
use Rattle.event_ports.specs.Claiming.{ClaimsEach}
use Rattle.event_ports.specs.Flows.{linked_of}
use Rattle.event_ports.specs.Lanes.{ArrivesFrom, HasRoomFor}
use Rattle.event_ports.specs.Handed.{lanes_site, links_of, flow_hands, seating_of, seen_own, hand_of, CountsNone}
use Rattle.event_ports.proofs.Reading.{AreAhead, AreDone}
use Rattle.event_ports.proofs.lanes.Lanes.receive_flows.Given as goal

abbrev pub invariant-loop-position : goal.invariant-loop-position
invariant-loop-position l = record {
  site : lanes_site l.self ≡ lanes_site l.fn.self;
  counts : CountsNone l.fn.self l.self;
  arrived : ArrivesFrom (map Flow (take l.position (links_of l.fn.self))) (hand_of l.fn.self) (hand_of l.self) l.fn.into.items l.into.items;
  claims : ClaimsEach (take l.position (links_of l.fn.self)) (seating_of l.fn.self) (seating_of l.self);
  room : HasRoomFor l.most (lanes_site l.self).depth (hand_of l.self).holding l.into.items;
  links : l.count ≡ length (links_of l.fn.self);
  within : l.position ≤ length (links_of l.fn.self);
  linked : linked_of l.self.flows ≡ linked_of l.fn.self.flows;
  ahead : AreAhead (linked_of l.fn.self.flows) (links_of l.fn.self) l.worthy.left l.position (flow_hands l.self);
  done : length l.into.items < l.most → AreDone (links_of l.fn.self) l.position (flow_hands l.self);
  none : length l.fn.into.items ≡ l.most → l.into.items ≡ l.fn.into.items;
  others : seen_own l.self ≡ seen_own l.fn.self;
  notes : l.self.order.notes ≡ true;
}

abbrev pub decreases-loop-position : goal.decreases-loop-position
decreases-loop-position l = length (links_of l.fn.self) - l.position
