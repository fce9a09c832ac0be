-- What a burst says follows from the chain of its single calls.
use Rattle.event_ports.proofs.Chains.{bursts_names, bursts_site, bursts_stays, bursts_stops, bursts_submits}
use Rattle.event_ports.proofs.IdleLanes.{idle_lanes, staffed_lanes}
use Rattle.event_ports.proofs.port.Port.enqueue_burst.Goals as goal

pub invariant_of-self-clause-idle : goal.invariant_of-self-clause-idle
invariant_of-self-clause-idle c = idle_lanes c.submit_events-answer.new.self.lanes

pub invariant_of-self-clause-staffed : goal.invariant_of-self-clause-staffed
invariant_of-self-clause-staffed c = staffed_lanes c.submit_events-answer.new.self.lanes

pub returns-clause-site : goal.returns-clause-site
returns-clause-site c = bursts_site c.args.events.now c.submit_events-answer.result.0 c.submit_events-answer.result.1 c.args.self.now.desk c.submit_events-answer.new.self c.submit_events-answer.ensures.chain

pub returns-clause-credit : goal.returns-clause-credit
returns-clause-credit c = bursts_stays c.args.events.now c.submit_events-answer.result.0 c.submit_events-answer.result.1 c.args.self.now.desk c.submit_events-answer.new.self c.submit_events-answer.ensures.chain

pub returns-clause-submitted : goal.returns-clause-submitted
returns-clause-submitted c = bursts_submits c.args.events.now c.submit_events-answer.result.0 c.submit_events-answer.result.1 c.args.self.now.desk c.submit_events-answer.new.self c.submit_events-answer.ensures.chain

pub returns-clause-there : goal.returns-clause-there
returns-clause-there c = bursts_names c.args.events.now c.submit_events-answer.result.0 c.submit_events-answer.result.1 c.args.self.now.desk c.submit_events-answer.new.self c.submit_events-answer.ensures.chain

pub returns-clause-refused : goal.returns-clause-refused
returns-clause-refused c = bursts_stops c.args.events.now c.submit_events-answer.result.0 c.submit_events-answer.result.1 c.args.self.now.desk c.submit_events-answer.new.self c.submit_events-answer.ensures.chain
