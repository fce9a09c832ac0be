-- What the finished stints are, and that all that is held is of lanes that are there.
use Rattle.std.proofs.Common.{arith}
use Rattle.event_ports.specs.Flows.{hands_of}
use Rattle.event_ports.specs.Lanes.{held_in}
use Rattle.event_ports.proofs.ByLane.{all_there}
use Rattle.event_ports.proofs.Parted.{end_of}
use Rattle.event_ports.proofs.lanes.Lanes.into_parts.Goals as goal

pub returns-clause-counted : goal.returns-clause-counted
returns-clause-counted c = all_there c.args.self.own (hands_of c.args.self.flows) (held_in c.args.self.own c.args.self.order) _ c.args.self.flows.are.entries c.args.self.ordered

pub returns-clause-lists : goal.returns-clause-lists
returns-clause-lists c = end_of c.args.self.own (hands_of c.args.self.flows) (held_in c.args.self.own c.args.self.order) _ c.args.self.ordered c.args.self.gave_back c.args.self.idle c.into_seat.ensures.lists

pub note_held-requires : goal.note_held-requires
note_held-requires c none = omega (arith, c.args.self.depth.0)
