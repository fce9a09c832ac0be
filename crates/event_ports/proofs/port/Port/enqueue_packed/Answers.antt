-- What a burst says follows from the chain of its single calls.
use Rattle.event_ports.specs.Desks.{events_of}
use Rattle.event_ports.proofs.Chains.{bursts_names, bursts_site, bursts_stays, bursts_stops, bursts_submits}
use Rattle.event_ports.proofs.IdleLanes.{idle_lanes, staffed_lanes}
use Rattle.event_ports.proofs.port.Port.enqueue_packed.Goals as goal

pub invariant_of-self-clause-idle : goal.invariant_of-self-clause-idle
invariant_of-self-clause-idle c = idle_lanes c.submit_burst-answer.new.self.lanes

pub invariant_of-self-clause-staffed : goal.invariant_of-self-clause-staffed
invariant_of-self-clause-staffed c = staffed_lanes c.submit_burst-answer.new.self.lanes

pub returns-clause-site : goal.returns-clause-site
returns-clause-site c = bursts_site (events_of c.args.replies.now) c.submit_burst-answer.result.0 c.submit_burst-answer.result.1 c.args.self.now.desk c.submit_burst-answer.new.self c.submit_burst-answer.ensures.chain

pub returns-clause-credit : goal.returns-clause-credit
returns-clause-credit c = bursts_stays (events_of c.args.replies.now) c.submit_burst-answer.result.0 c.submit_burst-answer.result.1 c.args.self.now.desk c.submit_burst-answer.new.self c.submit_burst-answer.ensures.chain

pub returns-clause-submitted : goal.returns-clause-submitted
returns-clause-submitted c = bursts_submits (events_of c.args.replies.now) c.submit_burst-answer.result.0 c.submit_burst-answer.result.1 c.args.self.now.desk c.submit_burst-answer.new.self c.submit_burst-answer.ensures.chain

pub returns-clause-there : goal.returns-clause-there
returns-clause-there c = bursts_names (events_of c.args.replies.now) c.submit_burst-answer.result.0 c.submit_burst-answer.result.1 c.args.self.now.desk c.submit_burst-answer.new.self c.submit_burst-answer.ensures.chain

pub returns-clause-refused : goal.returns-clause-refused
returns-clause-refused c = bursts_stops (events_of c.args.replies.now) c.submit_burst-answer.result.0 c.submit_burst-answer.result.1 c.args.self.now.desk c.submit_burst-answer.new.self c.submit_burst-answer.ensures.chain
