-- Nothing was submitted yet.
use Rattle.std.proofs.Common.{◌≡◌, [], length}
use Rattle.evt_types.specs.Operation.{is_more_reply, is_new_reply, is_release_reply}
use Rattle.flow_claims.specs.Claims.{lanes_of}
use Rattle.event_ports.specs.declared.lane.Lane.{Lane}
use Rattle.event_ports.specs.Flows.{hands_of, flow_site}
use Rattle.event_ports.specs.Lanes.{got_on, said_on}
use Rattle.event_ports.proofs.Submitted.{counts_zero}
use Rattle.event_ports.proofs.HeldIn.{none_held, none_open}
use Rattle.event_ports.proofs.Orders.{each_lane}
use Rattle.event_ports.proofs.lanes.Lanes.new.Goals as goal

pub returns-clause-empty : goal.returns-clause-empty
returns-clause-empty c =
    let flows = c.requires.flows in
    record {
      said = each_lane (λ l. said_on c.args.own (hands_of c.args.flows) l ≡ []) c.requires.own.1 flows.answered_is;
      got = each_lane (λ l. got_on c.args.own (hands_of c.args.flows) l ≡ []) c.requires.own.0 flows.received;
      holding = none_held c.args.own c.args.order c.requires.order.0 (none_open c.args.own c.requires.own.0 c.requires.own.1);
    }

pub returns-clause-none : goal.returns-clause-none
returns-clause-none c =
    let said = said_on c.args.own (hands_of c.args.flows) in
    let none : (l : Lane) → said l ≡ [] = each_lane (λ l. said l ≡ []) c.requires.own.1 c.requires.flows.answered_is in
    let n = length (lanes_of (flow_site c.args.flows).claims) in
    (counts_zero is_new_reply n said none, counts_zero is_more_reply n said none, counts_zero is_release_reply n said none)
