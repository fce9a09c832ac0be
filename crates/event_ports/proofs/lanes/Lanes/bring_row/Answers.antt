-- NEWs go to the port's own lane, and answer nothing.
use Rattle.std.proofs.Common.{refl}
use Rattle.event_ports.specs.Flows.{flow_site, hands_of}
use Rattle.event_ports.proofs.HeldIn.{still_held, still_ordered}
use Rattle.event_ports.proofs.lanes.Lanes.bring_row.Goals as goal

pub invariant_of-self-clause-ordered : goal.invariant_of-self-clause-ordered
invariant_of-self-clause-ordered c =
    let was = c.args.self.now in
    still_ordered was.own c.bring_row.new.self (hands_of was.flows) was.order c.bring_row.ensures.held was.ordered

pub returns : goal.returns
returns c =
    let was = c.args.self.now in
    let held = c.bring_row.ensures in
    record {
      site = λ i. record { own = held.lane i; flows = flow_site was.flows; depth = was.order.capacity };
      flows = refl;
      got = held.received.0;
      said = held.answered;
      holding = still_held was.own c.bring_row.new.self was.order held.held;
    }
