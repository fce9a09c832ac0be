use Rattle.event_ports.proofs.Stops.{joined, counted, shared}
use Rattle.event_ports.proofs.stop.flow_lanes_at_stop.Goals as goal

pub returns-clause-joined : goal.returns-clause-joined
returns-clause-joined c P n xs ys = joined P n xs ys

pub returns-clause-counted : goal.returns-clause-counted
returns-clause-counted c P n lanes finished ends are = counted P n lanes finished ends are

pub returns-clause-shared : goal.returns-clause-shared
returns-clause-shared c linked lanes finished lane far all is = shared linked lanes finished lane far all is
