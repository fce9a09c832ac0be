-- The oldest that is held is answered: the own lane's, or a flow lane's.
use Rattle.std.proofs.Common.{◌≡◌, ◌≢◌, ◌∙◌, ◌||◌, [], List, Ok, Err, Some, drop, map, refl, sym, ap, subst}
use Rattle.evt_types.specs.Event.{pair_of}
use Rattle.evt_types.specs.Operation.{is_more_reply}
use Rattle.evt_types.specs.declared.event.Delivery.{Delivery}
use Rattle.lane_rings.specs.Ends.{unanswered}
use Rattle.lane_rings.specs.Identity.{LaneId}
use Rattle.lane_rings.specs.declared.far.Refusal.{Refusal}
use Rattle.event_ports.specs.declared.lane.Holding.{Holding}
use Rattle.event_ports.specs.declared.lane.Lane.{Lane}
use Rattle.event_ports.specs.declared.lane.Lane.TheVariants.{Own, Flow}
use Rattle.event_ports.specs.Holds.{Says}
use Rattle.event_ports.specs.Flows.{FlowSite, hands_of}
use Rattle.event_ports.specs.Handed.{hand_of}
use Rattle.event_ports.specs.Lanes.{Hand, IsFilledAt, RefusesFirst, SubmitsTo, first_lane, got_on, held_in, held_of, open_on, pair_in, said_on, reply_of}
use Rattle.event_ports.proofs.HeldIn.{first_noted, flow_dropped, flow_first, held_dropped, still_held, still_ordered}
use Rattle.event_ports.proofs.Oldest.{oldest_held, oldest_there}
use Rattle.event_ports.proofs.Orders.{Notes, each_lane, answered_first, first_open, some_first}
use Rattle.event_ports.proofs.Adding.{counts_own, counts_said, counts_same}
use Rattle.event_ports.proofs.Claiming.{asks_same}
use Rattle.event_ports.proofs.Extras.{added_said, added_same}
use Rattle.event_ports.proofs.Refusals.{one_answer, refused_own}
use Rattle.event_ports.proofs.Calls.{says_no_new, says_received, gave_back, same_no_new}
use Rattle.event_ports.proofs.lanes.Lanes.answer.Goals as goal

pub invariant_of-self-clause-ordered : goal.invariant_of-self-clause-ordered
invariant_of-self-clause-ordered c =
    let before : Lane → List Delivery = open_on c.args.self.now.own (hands_of c.args.self.now.flows) in
    let after : Lane → List Delivery = open_on c.submit.new.self (hands_of c.args.self.now.flows) in
    let here : after Own ≡ drop 1 (before Own) = c.in-Ok.ensures.held ∙ ap (λ n. drop n (before Own)) (one_answer (reply_of c.args.event.now) c.requires) in
    let others : (l : Lane) → l ≢ Own → after l ≡ before l = each_lane (λ l. l ≢ Own → after l ≡ before l) (λ ne. absurd (ne refl)) (λ j ne. refl) in
    let To : List Holding → Type 0 = λ xs. Notes xs after in
    subst To (sym (held_dropped 1 c.args.self.now.own c.submit.new.self c.args.self.now.order c.drop_row.new.self here c.drop_row.ensures.notes c.drop_row.ensures.dropped)) (answered_first (held_in c.args.self.now.own c.args.self.now.order) Own before after (sym c.in-Some.ensures ∙ ap Some c.in-Own.is) here others c.args.self.now.ordered)

pub invariant_of-self-in-Err-1 : goal.invariant_of-self-in-Err-1
invariant_of-self-in-Err-1 c =
    let was = c.args.self.now in
    record {
      depth = (was.depth.0 ∙ sym (ap (λ (i : LaneId). i.depth) c.submit.ensures.lane), was.depth.1);
      ordered = still_ordered was.own c.submit.new.self (hands_of was.flows) was.order c.in-Err.ensures.held was.ordered;
      gave_back = was.gave_back;
      no_new = was.no_new;
      added = was.added;
      idle = was.idle;
      noted = was.noted;
    }

pub invariant_of-self-in-Err-answer_oldest : goal.invariant_of-self-in-Err-answer_oldest
invariant_of-self-in-Err-answer_oldest c =
    let was = c.args.self.now in
    let before = hands_of was.flows in
    let after = hands_of c.answer_oldest.new.self in
    let same = c.in-Err-answer_oldest.ensures.lists in
    record {
      depth = was.depth;
      ordered = each_lane (λ l. map pair_in (held_of l (held_in was.own was.order)) ≡ map pair_of (open_on was.own after l)) (was.ordered Own) (λ j. was.ordered (Flow j) ∙ sym (ap (map pair_of) (same.held j)));
      gave_back = gave_back before after same.given_back was.gave_back;
      no_new = same_no_new before after same.answered_is was.no_new;
      added = added_same before after same was.added;
      idle = c.answer_oldest.ensures.idle was.idle;
      noted = λ none. ap (λ (p : FlowSite). p.links) c.answer_oldest.ensures.site ∙ was.noted none;
    }

pub returns-in-Err-answer_oldest-clause-submitted : goal.returns-in-Err-answer_oldest-clause-submitted
returns-in-Err-answer_oldest-clause-submitted c =
    let own = c.args.self.now.own in
    let before = hands_of c.args.self.now.flows in
    let after = hands_of c.answer_oldest.new.self in
    let same = c.in-Err-answer_oldest.ensures.lists in
    record {
      said = each_lane (λ l. said_on own after l ≡ said_on own before l) refl same.answered_is;
      got = each_lane (λ l. got_on own after l ≡ got_on own before l) refl same.received;
      holding = refl;
    }

pub returns-in-Err-clause-refused : goal.returns-in-Err-clause-refused
returns-in-Err-clause-refused c =
    let was = c.args.self.now in
    let own = c.submit.new.self in
    let first : first_lane (held_in was.own was.order) ≡ Some Own = sym c.in-Some.ensures ∙ ap Some c.in-Own.is in
    let some : unanswered was.own ≢ [] = first_open (held_in was.own was.order) Own (open_on was.own (hands_of was.flows)) first was.ordered in
    let still : first_lane (held_in own was.order) ≡ Some Own = ap first_lane (still_held was.own own was.order c.in-Err.ensures.held) ∙ first in
    refused_own own was.own (hands_of was.flows) (held_in own was.order) (reply_of c.args.event.now) c.in-Err.fault c.requires c.in-Err.ensures.refused some still c.submit.ensures.lane c.in-Err.ensures.answered

pub answer_oldest-requires-clause-held : goal.answer_oldest-requires-clause-held
answer_oldest-requires-clause-held c =
    oldest_held c.args.self.now c.in-Flow.lane (sym c.in-Some.ensures ∙ ap Some c.in-Flow.is)

pub answer_oldest-requires-clause-exists : goal.answer_oldest-requires-clause-exists
answer_oldest-requires-clause-exists c =
    oldest_there c.args.self.now c.in-Flow.lane (sym c.in-Some.ensures ∙ ap Some c.in-Flow.is)

pub invariant_of-self-in-Ok-answer_oldest-clause-ordered : goal.invariant_of-self-in-Ok-answer_oldest-clause-ordered
invariant_of-self-in-Ok-answer_oldest-clause-ordered c =
    let before : Lane → List Delivery = open_on c.args.self.now.own (hands_of c.args.self.now.flows) in
    let after : Lane → List Delivery = open_on c.args.self.now.own (hands_of c.answer_oldest.new.self) in
    let says : Says c.in-Flow.lane (reply_of c.args.event.now) (hands_of c.args.self.now.flows) (hands_of c.answer_oldest.new.self) =
    c.in-Ok-answer_oldest.ensures.lists in
    let here : after (Flow c.in-Flow.lane) ≡ drop 1 (before (Flow c.in-Flow.lane)) = says.held ∙ ap (λ n. drop n (before (Flow c.in-Flow.lane))) (one_answer (reply_of c.args.event.now) c.requires) in
    let others : (l : Lane) → l ≢ Flow c.in-Flow.lane → after l ≡ before l =
    each_lane (λ l. l ≢ Flow c.in-Flow.lane → after l ≡ before l) (λ ne. refl) (λ j ne. says.others.held j (λ e. ne (ap Flow e))) in
    let To : List Holding → Type 0 = λ xs. Notes xs after in
    subst To (sym (flow_dropped 1 c.args.self.now.own c.args.self.now.order c.drop_row-in-Ok-answer_oldest.new.self (flow_first c.args.self.now.own c.args.self.now.order c.in-Flow.lane (sym c.in-Some.ensures ∙ ap Some c.in-Flow.is)) c.drop_row-in-Ok-answer_oldest.ensures.notes c.drop_row-in-Ok-answer_oldest.ensures.dropped)) (answered_first (held_in c.args.self.now.own c.args.self.now.order) (Flow c.in-Flow.lane) before after (sym c.in-Some.ensures ∙ ap Some c.in-Flow.is) here others c.args.self.now.ordered)

pub invariant_of-self-in-Ok-answer_oldest-clause-gave_back : goal.invariant_of-self-in-Ok-answer_oldest-clause-gave_back
invariant_of-self-in-Ok-answer_oldest-clause-gave_back c =
    gave_back (hands_of c.args.self.now.flows) (hands_of c.answer_oldest.new.self) c.in-Ok-answer_oldest.ensures.lists.given_back c.args.self.now.gave_back

pub invariant_of-self-in-Ok-answer_oldest-clause-no_new : goal.invariant_of-self-in-Ok-answer_oldest-clause-no_new
invariant_of-self-in-Ok-answer_oldest-clause-no_new c =
    says_no_new (hands_of c.args.self.now.flows) (hands_of c.answer_oldest.new.self) c.in-Flow.lane (reply_of c.args.event.now) (ap (λ b. b || is_more_reply (reply_of c.args.event.now)) c.requires)
    c.in-Ok-answer_oldest.ensures.lists c.args.self.now.no_new

pub invariant_of-self-in-Ok-answer_oldest-clause-added : goal.invariant_of-self-in-Ok-answer_oldest-clause-added
invariant_of-self-in-Ok-answer_oldest-clause-added c =
    added_said (hands_of c.args.self.now.flows) (hands_of c.answer_oldest.new.self) c.in-Flow.lane (reply_of c.args.event.now)
    c.in-Ok-answer_oldest.ensures.lists c.args.self.now.added

pub invariant_of-self-in-Ok-answer_oldest-clause-idle : goal.invariant_of-self-in-Ok-answer_oldest-clause-idle
invariant_of-self-in-Ok-answer_oldest-clause-idle c = c.answer_oldest.ensures.idle c.args.self.now.idle

pub returns-in-Ok-answer_oldest-clause-counts : goal.returns-in-Ok-answer_oldest-clause-counts
returns-in-Ok-answer_oldest-clause-counts c =
    let says : Says c.in-Flow.lane (reply_of c.args.event.now) (hands_of c.args.self.now.flows) (hands_of c.answer_oldest.new.self) =
    c.in-Ok-answer_oldest.ensures.lists in
    counts_said c.args.self.now _ (Flow c.in-Flow.lane) (reply_of c.args.event.now) c.answer_oldest.ensures.site
    (oldest_there c.args.self.now c.in-Flow.lane (sym c.in-Some.ensures ∙ ap Some c.in-Flow.is))
    says.answered_is
    (each_lane (λ l. l ≢ Flow c.in-Flow.lane → said_on c.args.self.now.own (hands_of c.answer_oldest.new.self) l ≡ said_on c.args.self.now.own (hands_of c.args.self.now.flows) l) (λ ne. refl)
    (λ j ne. says.others.answered_is j (λ h. ne (ap Flow h))))

pub returns-in-Ok-answer_oldest-clause-submitted : goal.returns-in-Ok-answer_oldest-clause-submitted
returns-in-Ok-answer_oldest-clause-submitted c =
    let says : Says c.in-Flow.lane (reply_of c.args.event.now) (hands_of c.args.self.now.flows) (hands_of c.answer_oldest.new.self) =
    c.in-Ok-answer_oldest.ensures.lists in
    let own = c.args.self.now.own in
    let after : Hand = record { said = said_on own (hands_of c.answer_oldest.new.self); got = got_on own (hands_of c.answer_oldest.new.self); holding = held_in own c.drop_row-in-Ok-answer_oldest.new.self } in
    subst (λ o. SubmitsTo o (reply_of c.args.event.now) (hand_of c.args.self.now) after) (sym (sym c.in-Some.ensures ∙ ap Some c.in-Flow.is))
    (record {
      said_here = says.answered_is;
      said = each_lane (λ l. l ≢ Flow c.in-Flow.lane → after.said l ≡ said_on own (hands_of c.args.self.now.flows) l) (λ ne. refl) (λ j ne. says.others.answered_is j (λ h. ne (ap Flow h)));
      got = each_lane (λ l. after.got l ≡ got_on own (hands_of c.args.self.now.flows) l) refl (says_received _ _ c.in-Flow.lane (reply_of c.args.event.now) says);
      holding = flow_dropped 1 own c.args.self.now.order c.drop_row-in-Ok-answer_oldest.new.self (flow_first own c.args.self.now.order c.in-Flow.lane (sym c.in-Some.ensures ∙ ap Some c.in-Flow.is)) c.drop_row-in-Ok-answer_oldest.ensures.notes c.drop_row-in-Ok-answer_oldest.ensures.dropped ∙ ap (λ n. drop n (held_in own c.args.self.now.order)) (sym (one_answer (reply_of c.args.event.now) c.requires));
    })

pub returns-in-Ok-clause-counts : goal.returns-in-Ok-clause-counts
returns-in-Ok-clause-counts c = counts_own {E = Refusal} c.args.self.now _ (reply_of c.args.event.now) (Ok tt) refl c.in-Ok.ensures.answered

pub returns-in-Ok-clause-submitted : goal.returns-in-Ok-clause-submitted
returns-in-Ok-clause-submitted c =
    let own = c.args.self.now.own in
    let flows = hands_of c.args.self.now.flows in
    let after : Hand = record { said = said_on c.submit.new.self flows; got = got_on c.submit.new.self flows; holding = held_in c.submit.new.self c.drop_row.new.self } in
    subst (λ o. SubmitsTo o (reply_of c.args.event.now) (hand_of c.args.self.now) after) (sym (sym c.in-Some.ensures ∙ ap Some c.in-Own.is))
    (record {
      said_here = c.in-Ok.ensures.answered;
      said = each_lane (λ l. l ≢ Own → after.said l ≡ said_on own flows l) (λ ne. absurd (ne refl)) (λ j ne. refl);
      got = each_lane (λ l. after.got l ≡ got_on own flows l) c.submit.ensures.received.0 (λ j. refl);
      holding = held_dropped 1 own c.submit.new.self c.args.self.now.order c.drop_row.new.self (c.in-Ok.ensures.held ∙ ap (λ n. drop n (unanswered own)) (one_answer (reply_of c.args.event.now) c.requires)) c.drop_row.ensures.notes c.drop_row.ensures.dropped
          ∙ ap (λ n. drop n (held_in own c.args.self.now.order)) (sym (one_answer (reply_of c.args.event.now) c.requires));
    })

pub returns-in-Err-clause-counts : goal.returns-in-Err-clause-counts
returns-in-Err-clause-counts c = counts_own {E = Refusal} c.args.self.now _ (reply_of c.args.event.now) (Err c.in-Err.fault) refl c.in-Err.ensures.answered

pub returns-in-Err-answer_oldest-clause-counts : goal.returns-in-Err-answer_oldest-clause-counts
returns-in-Err-answer_oldest-clause-counts c =
    counts_same c.args.self.now _ c.answer_oldest.ensures.site
    (each_lane (λ l. said_on c.args.self.now.own (hands_of c.answer_oldest.new.self) l ≡ said_on c.args.self.now.own (hands_of c.args.self.now.flows) l) refl c.in-Err-answer_oldest.ensures.lists.answered_is)

pub returns-in-Err-answer_oldest-clause-refused : goal.returns-in-Err-answer_oldest-clause-refused
returns-in-Err-answer_oldest-clause-refused c =
    let own = c.args.self.now.own in
    let after = hands_of c.answer_oldest.new.self in
    let xs = (held_in c.args.self.now.own c.args.self.now.order) in
    let first : first_lane xs ≡ Some (Flow c.in-Flow.lane) = sym c.in-Some.ensures ∙ ap Some c.in-Flow.is in
    let refused = c.in-Err-answer_oldest.ensures.refused in
    subst (RefusesFirst own after xs) (sym refused.0) (some_first xs (Flow c.in-Flow.lane) first, subst (IsFilledAt own after) (sym first) refused.1)

pub returns-in-Ok-clause-asks : goal.returns-in-Ok-clause-asks
returns-in-Ok-clause-asks c = asks_same _ _ refl

pub returns-in-Err-clause-asks : goal.returns-in-Err-clause-asks
returns-in-Err-clause-asks c = asks_same _ _ refl

pub returns-in-Ok-answer_oldest-clause-asks : goal.returns-in-Ok-answer_oldest-clause-asks
returns-in-Ok-answer_oldest-clause-asks c = c.answer_oldest.ensures.asks

pub returns-in-Err-answer_oldest-clause-asks : goal.returns-in-Err-answer_oldest-clause-asks
returns-in-Err-answer_oldest-clause-asks c = c.answer_oldest.ensures.asks

pub drop_row-requires : goal.drop_row-requires
drop_row-requires c = first_noted c.args.self.now.own c.args.self.now.order Own (sym c.in-Some.ensures ∙ ap Some c.in-Own.is)

pub drop_row-requires-in-Ok-answer_oldest : goal.drop_row-requires-in-Ok-answer_oldest
drop_row-requires-in-Ok-answer_oldest c = first_noted c.args.self.now.own c.args.self.now.order (Flow c.in-Flow.lane) (sym c.in-Some.ensures ∙ ap Some c.in-Flow.is)
