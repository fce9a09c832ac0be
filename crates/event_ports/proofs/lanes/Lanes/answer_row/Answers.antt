-- The oldest that are held are answered, which came from the own lane.
use Rattle.std.proofs.Common.{◌≡◌, ◌≢◌, ◌≤◌, ◌∙◌, ℕ, List, length, refl, sym, ap, subst, arith}
use Rattle.std.proofs.lemmas.List.{length-map}
use Rattle.evt_types.specs.Event.{pair_of}
use Rattle.evt_types.specs.declared.event.Delivery.{Delivery}
use Rattle.lane_rings.specs.Ends.{unanswered}
use Rattle.lane_rings.specs.Identity.{LaneId}
use Rattle.event_ports.specs.declared.lane.Holding.{Holding}
use Rattle.event_ports.specs.declared.lane.Lane.{Lane}
use Rattle.event_ports.specs.declared.lane.Lane.TheVariants.{Own}
use Rattle.event_ports.specs.Flows.{flow_site, hands_of}
use Rattle.event_ports.specs.Handed.{hand_of}
use Rattle.event_ports.specs.Lanes.{held_of, open_on, pair_in}
use Rattle.event_ports.proofs.HeldIn.{held_dropped, held_noted}
use Rattle.event_ports.proofs.Orders.{Notes, each_lane}
use Rattle.event_ports.proofs.OwnRows.{answered_row, are_own, own_count}
use Rattle.event_ports.proofs.lanes.Lanes.answer_row.Goals as goal

pub answer_row-requires-clause-held : goal.answer_row-requires-clause-held
answer_row-requires-clause-held c =
    let was = c.args.self.now in
    let n : ℕ = length c.args.replies.now in
    omega (arith, own_count n (hand_of was).holding (are_own n (hand_of was).holding c.requires.held c.requires.own), ap length (was.ordered Own), length-map (held_of Own (hand_of was).holding) pair_in, length-map (unanswered was.own) pair_of)

pub invariant_of-self : goal.invariant_of-self
invariant_of-self c =
    let was = c.args.self.now in
    let n : ℕ = length c.args.replies.now in
    let before : Lane → List Delivery = open_on was.own (hands_of was.flows) in
    let after : Lane → List Delivery = open_on c.answer_row.new.self (hands_of was.flows) in
    let others : (l : Lane) → l ≢ Own → after l ≡ before l = each_lane (λ l. l ≢ Own → after l ≡ before l) (λ ne. absurd (ne refl)) (λ j ne. refl) in
    let To : List Holding → Type 0 = λ xs. Notes xs after in
    record {
      depth = (c.drop_row.ensures.room ∙ was.depth.0 ∙ sym (ap (λ (i : LaneId). i.depth) c.answer_row.ensures.lane), omega (arith, was.depth.1, c.drop_row.ensures.room));
      ordered = subst To (sym (held_dropped n was.own c.answer_row.new.self was.order c.drop_row.new.self c.answer_row.ensures.held c.drop_row.ensures.notes c.drop_row.ensures.dropped)) (answered_row n (hand_of was).holding before after (are_own n (hand_of was).holding c.requires.held c.requires.own) c.answer_row.ensures.held others was.ordered);
      gave_back = was.gave_back;
      no_new = was.no_new;
      added = was.added;
      idle = was.idle;
      noted = λ none. was.noted (sym c.drop_row.ensures.notes ∙ none);
    }

pub drop_row-requires : goal.drop_row-requires
drop_row-requires c noted = subst (λ (xs : List Holding). length c.args.replies.now ≤ length xs) (held_noted c.args.self.now.own c.args.self.now.order noted) c.requires.held

pub returns : goal.returns
returns c =
    let was = c.args.self.now in
    let held = c.answer_row.ensures in
    record {
      site = λ i. record { own = held.lane i; flows = flow_site was.flows; depth = c.drop_row.ensures.room i };
      flows = refl;
      got = held.received.0;
      said = held.answered;
      holding = held_dropped (length c.args.replies.now) was.own c.answer_row.new.self was.order c.drop_row.new.self held.held c.drop_row.ensures.notes c.drop_row.ensures.dropped;
    }
