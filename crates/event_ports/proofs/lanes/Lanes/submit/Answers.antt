-- A NEW goes to the port's own lane, and answers nothing.
use Rattle.std.proofs.Common.{◌≡◌, ◌∙◌, MatchResult, ap, refl, subst, sym}
use Rattle.evt_types.specs.Operation.{is_new_op}
use Rattle.evt_types.specs.declared.event.Op.{Op}
use Rattle.evt_types.specs.declared.event.Op.TheVariants as ops
use Rattle.lane_rings.specs.Identity.{LaneId}
use Rattle.event_ports.specs.Flows.{hands_of}
use Rattle.event_ports.specs.Lanes.{Rests, SubmitsTo, held_in, lane_for, reply_of}
use Rattle.event_ports.proofs.Adding.{counts_own, keeps_open, over, submits_own}
use Rattle.event_ports.proofs.HeldIn.{still_ordered}
use Rattle.event_ports.proofs.Refusals.{new_answers_none}
use Rattle.event_ports.proofs.lanes.Lanes.submit.Goals as goal

pub invariant_of-self : goal.invariant_of-self
invariant_of-self c =
    let was = c.args.self.now in
    let r = reply_of c.args.event.now in
    record {
      depth = (was.depth.0 ∙ sym (ap (λ (i : LaneId). i.depth) c.submit.ensures.lane), was.depth.1);
      ordered = still_ordered was.own c.submit.new.self (hands_of was.flows) was.order
          (keeps_open was.own c.submit.new.self r c.submit.result (new_answers_none r (ap is_new_op (sym c.op.ensures ∙ c.in-New.is))) c.submit.ensures.held) was.ordered;
      gave_back = was.gave_back;
      no_new = was.no_new;
      added = was.added;
      idle = was.idle;
      noted = was.noted;
    }

pub returns-in-New-clause-submitted : goal.returns-in-New-clause-submitted
returns-in-New-clause-submitted c =
    let was = c.args.self.now in
    let own = c.submit.new.self in
    let hands = hands_of was.flows in
    let r = reply_of c.args.event.now in
    let new : c.args.event.now.op ≡ ops.New = sym c.op.ensures ∙ c.in-New.is in
    let none = new_answers_none r (ap is_new_op new) in
    let before = over was.own (held_in was.own was.order) hands in
    let after = over own (held_in own was.order) hands in
    subst (λ (o : Op). MatchResult c.submit.result (λ _. SubmitsTo (lane_for o before.holding) r before after) (λ _. Rests before after)) (sym new)
    (submits_own was.own own hands was.order r c.submit.result none c.submit.ensures.received.0 c.submit.ensures.answered (keeps_open was.own own r c.submit.result none c.submit.ensures.held))

pub returns-in-New-clause-counts : goal.returns-in-New-clause-counts
returns-in-New-clause-counts c = counts_own c.args.self.now _ (reply_of c.args.event.now) c.submit.result refl c.submit.ensures.answered
