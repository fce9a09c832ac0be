use Rattle.event_ports.proofs.IdleLanes.{idle_lanes, staffed_lanes}
use Rattle.event_ports.proofs.port.Port.shut_seen.Goals as goal

pub invariant_of-self-clause-idle : goal.invariant_of-self-clause-idle
invariant_of-self-clause-idle c = idle_lanes c.shut_seen.new.self.lanes

pub invariant_of-self-clause-staffed : goal.invariant_of-self-clause-staffed
invariant_of-self-clause-staffed c = staffed_lanes c.shut_seen.new.self.lanes
