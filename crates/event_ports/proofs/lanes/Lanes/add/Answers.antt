-- An event is added beside the oldest that is held, which stays held.
use Rattle.std.proofs.Common.{◌≡◌, ◌≢◌, ◌<◌, ◌∙◌, IfErr, MatchResult, Some, [], ap, subst, sym, refl}
use Rattle.evt_types.specs.Additions.{extras_of}
use Rattle.evt_types.specs.declared.event.TheConstants.{MAX_EXTRAS}
use Rattle.lane_rings.specs.Ends.{answered, unanswered}
use Rattle.lane_rings.specs.Identity.{LaneId}
use Rattle.lane_rings.specs.declared.far.Refusal.TheVariants.{Full}
use Rattle.event_ports.specs.declared.lane.Lane.TheVariants.{Own}
use Rattle.event_ports.specs.Flows.{hands_of}
use Rattle.event_ports.specs.Handed.{hand_of}
use Rattle.event_ports.specs.Lanes.{IsFilledAt, Rests, SubmitsTo, extras_to, first_lane, held_in, open_on, reply_of}
use Rattle.event_ports.proofs.Adding.{added_still, counts_flow, gave_back_still, idle_still, keeps_open, no_new_still, ordered_still, over, submits_flow, submits_own}
use Rattle.event_ports.proofs.HeldIn.{still_held, still_ordered}
use Rattle.event_ports.proofs.Oldest.{oldest_held, oldest_there}
use Rattle.event_ports.proofs.Orders.{first_open}
use Rattle.event_ports.proofs.Refusals.{all_full, no_answer}
use Rattle.event_ports.proofs.lanes.Lanes.add.Goals as goal

pub answer-requires-clause-held : goal.answer-requires-clause-held
answer-requires-clause-held c = oldest_held c.args.self.now c.in-Flow.lane (sym c.in-Some.ensures ∙ ap Some c.in-Flow.is)

pub answer-requires-clause-exists : goal.answer-requires-clause-exists
answer-requires-clause-exists c = oldest_there c.args.self.now c.in-Flow.lane (sym c.in-Some.ensures ∙ ap Some c.in-Flow.is)

pub invariant_of-self-in-Flow-clause-ordered : goal.invariant_of-self-in-Flow-clause-ordered
invariant_of-self-in-Flow-clause-ordered c =
    ordered_still (hands_of c.args.self.now.flows) (hands_of c.answer.new.self) c.in-Flow.lane (reply_of c.args.event.now) c.answer.result c.requires.more c.answer.ensures.lists
    c.args.self.now.own (held_in c.args.self.now.own c.args.self.now.order) c.args.self.now.ordered

pub invariant_of-self-in-Flow-clause-gave_back : goal.invariant_of-self-in-Flow-clause-gave_back
invariant_of-self-in-Flow-clause-gave_back c =
    gave_back_still (hands_of c.args.self.now.flows) (hands_of c.answer.new.self) c.in-Flow.lane (reply_of c.args.event.now) c.answer.result c.requires.more c.answer.ensures.lists c.args.self.now.gave_back

pub invariant_of-self-in-Flow-clause-no_new : goal.invariant_of-self-in-Flow-clause-no_new
invariant_of-self-in-Flow-clause-no_new c =
    no_new_still (hands_of c.args.self.now.flows) (hands_of c.answer.new.self) c.in-Flow.lane (reply_of c.args.event.now) c.answer.result c.requires.more c.answer.ensures.lists c.args.self.now.no_new

pub invariant_of-self-in-Flow-clause-added : goal.invariant_of-self-in-Flow-clause-added
invariant_of-self-in-Flow-clause-added c =
    added_still (hands_of c.args.self.now.flows) (hands_of c.answer.new.self) c.in-Flow.lane (reply_of c.args.event.now) c.answer.result c.requires.more c.answer.ensures.lists c.args.self.now.added

pub invariant_of-self-in-Flow-clause-idle : goal.invariant_of-self-in-Flow-clause-idle
invariant_of-self-in-Flow-clause-idle c =
    idle_still (hands_of c.args.self.now.flows) (hands_of c.answer.new.self) c.in-Flow.lane (reply_of c.args.event.now) c.answer.result c.requires.more c.answer.ensures.lists
    c.answer.ensures.entries c.args.self.now.idle

pub returns-in-Own-clause-refused : goal.returns-in-Own-clause-refused
returns-in-Own-clause-refused c =
    let own : first_lane (held_in c.args.self.now.own c.args.self.now.order) ≡ Some Own = sym c.in-Some.ensures ∙ ap Some c.in-Own.is in
    let some : unanswered c.args.self.now.own ≢ [] = first_open (held_in c.args.self.now.own c.args.self.now.order) Own (open_on c.args.self.now.own (hands_of c.args.self.now.flows)) own c.args.self.now.ordered in
    let few : extras_of (answered c.args.self.now.own) < MAX_EXTRAS = subst (λ o. extras_to o (hand_of c.args.self.now) < MAX_EXTRAS) own c.requires.takes.1 in
    let r = reply_of c.args.event.now in
    let still : first_lane (held_in c.submit.new.self c.args.self.now.order) ≡ Some Own =
    ap first_lane (still_held c.args.self.now.own c.submit.new.self c.args.self.now.order (keeps_open c.args.self.now.own c.submit.new.self r c.submit.result (no_answer r c.requires.more) c.submit.ensures.held)) ∙ own in
    subst (λ o. IfErr c.submit.result (λ e. (e ≡ Full) × IsFilledAt c.submit.new.self (hands_of c.args.self.now.flows) o)) (sym still)
    (all_full c.args.self.now.own c.submit.new.self (reply_of c.args.event.now) c.submit.result c.submit.ensures.refused some (λ _. few) c.submit.ensures.lane c.submit.ensures.answered)

pub returns-in-Flow-clause-submitted : goal.returns-in-Flow-clause-submitted
returns-in-Flow-clause-submitted c =
    submits_flow c.args.self.now.own (held_in c.args.self.now.own c.args.self.now.order) (hands_of c.args.self.now.flows) (hands_of c.answer.new.self) c.in-Flow.lane (reply_of c.args.event.now) c.answer.result
    (first_lane (held_in c.args.self.now.own c.args.self.now.order)) (sym c.in-Some.ensures ∙ ap Some c.in-Flow.is) c.requires.more c.answer.ensures.lists

pub returns-in-Flow-clause-counts : goal.returns-in-Flow-clause-counts
returns-in-Flow-clause-counts c =
    counts_flow c.args.self.now _ c.in-Flow.lane (reply_of c.args.event.now) c.answer.result refl c.answer.ensures.site
    (oldest_there c.args.self.now c.in-Flow.lane (sym c.in-Some.ensures ∙ ap Some c.in-Flow.is))
    c.answer.ensures.lists

pub invariant_of-self : goal.invariant_of-self
invariant_of-self c =
    let was = c.args.self.now in
    let r = reply_of c.args.event.now in
    record {
      depth = (was.depth.0 ∙ sym (ap (λ (i : LaneId). i.depth) c.submit.ensures.lane), was.depth.1);
      ordered = still_ordered was.own c.submit.new.self (hands_of was.flows) was.order (keeps_open was.own c.submit.new.self r c.submit.result (no_answer r c.requires.more) c.submit.ensures.held) was.ordered;
      gave_back = was.gave_back;
      no_new = was.no_new;
      added = was.added;
      idle = was.idle;
      noted = was.noted;
    }

pub returns-in-Own-clause-submitted : goal.returns-in-Own-clause-submitted
returns-in-Own-clause-submitted c =
    let was = c.args.self.now in
    let own = c.submit.new.self in
    let hands = hands_of was.flows in
    let r = reply_of c.args.event.now in
    let none = no_answer r c.requires.more in
    let before = over was.own (held_in was.own was.order) hands in
    let after = over own (held_in own was.order) hands in
    subst (λ o. MatchResult c.submit.result (λ _. SubmitsTo o r before after) (λ _. Rests before after)) (sym (sym c.in-Some.ensures ∙ ap Some c.in-Own.is))
    (submits_own was.own own hands was.order r c.submit.result none c.submit.ensures.received.0 c.submit.ensures.answered (keeps_open was.own own r c.submit.result none c.submit.ensures.held))
