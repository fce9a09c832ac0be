-- What arrived from one flow lane more, in the order of the links.
use Rattle.std.proofs.Common.{◌≡◌, ◌≤◌, ◌∙◌, ap, refl, sym, subst, arith, ℕ, List, [], ◌∷◌, ◌++◌, ◌+◌, length, map, take, slice_get, Some}
use Rattle.lists.proofs.Parts.{take_next}
use Rattle.event_ports.specs.declared.lane.Lane.TheVariants.{Flow}
use Rattle.event_ports.specs.Handed.{LanesSite, lanes_site, flow_hands, hand_of, links_of, seating_of}
use Rattle.event_ports.specs.Holds.{Hands, IsDrained, entry_at}
use Rattle.event_ports.specs.Looks.{IsIn}
use Rattle.event_ports.specs.Flows.{linked_of}
use Rattle.lane_rings.specs.LaneSets.{Has}
use Rattle.event_ports.proofs.Arrivals.{arrives_all, arrives_grows, arrives_more, arrives_past, none_read}
use Rattle.event_ports.proofs.Claiming.{asks_same, claims_all, claims_more, claims_none, claims_past}
use Rattle.event_ports.proofs.HeldIn.{no_stints}
use Rattle.event_ports.proofs.Looks.{free_drained, get_within}
use Rattle.event_ports.proofs.ReadOrder.{read_more}
use Rattle.event_ports.proofs.Reading.{AreAhead, ArePassed, ahead_still, all_drained, done_more, done_past, passed_done}
use Rattle.event_ports.proofs.lanes.Lanes.receive_flows.Goals as goal
use Rattle.event_ports.proofs.lanes.Lanes.receive_flows.Goals.{then-loop-position-test+else-len-most, else-loop-position-test}

pub loop-position-init : goal.loop-position-init
loop-position-init c = record {
  site = refl;
  counts = record { news = refl; mores = refl; releases = refl };
  arrived = none_read (map Flow (take c.next_link-position.result (links_of c.args.self.now))) (hand_of c.args.self.now) c.args.into.now.items;
  claims = claims_none _ _ _ (asks_same _ _ refl);
  room = c.requires;
  links = c.link_count-count.ensures;
  within = c.next_link-position.ensures.within.1;
  linked = refl;
  ahead = λ j lane lt at seen is. c.next_link-position.ensures.left j lane lt at seen (c.worth_a_look-worthy.ensures j lane at seen is);
  done = λ few j lane lt at.
      passed_done (linked_of c.args.self.now.flows) (links_of c.args.self.now) c.worth_a_look-worthy.result.left 0 c.next_link-position.result (flow_hands c.args.self.now)
      (λ i l le there seen is. c.worth_a_look-worthy.ensures i l there seen is)
      (λ i l le below there. c.next_link-position.ensures.passed i l le below there (omega (arith, few, c.saturating_sub-wanted.ensures, c.len.ensures.len))) j lane (omega arith) lt at;
  none = λ full. refl;
  others = refl;
  notes = sym c.notes.ensures ∙ c.if-not-notes.false;
}

pub loop-position-preserved : goal.loop-position-preserved
loop-position-preserved c =
    let was = c.loop-position.invariant in
    let links : List ℕ = links_of c.args.self.now in
    let At : LanesSite → Type 0 = λ p. slice_get p.flows.links c.loop-position.position ≡ Some c.link-lane.result in
    let more : take (c.loop-position.position + 1) links ≡ take c.loop-position.position links ++ c.link-lane.result ∷ [] = take_next links c.loop-position.position c.link-lane.result (subst At was.site c.link-lane.ensures.at_link) in
    let set = linked_of c.args.self.now.flows in
    let site = c.receive_flow.ensures.site ∙ was.site in
    let linked = c.receive_flow.ensures.linked ∙ was.linked in
    let at : slice_get links c.loop-position.position ≡ Some c.link-lane.result = subst At was.site c.link-lane.ensures.at_link in
    let before : Hands = flow_hands c.loop-position.self in
    let after : Hands = flow_hands c.receive_flow.new.self in
    let still : AreAhead set links c.loop-position.worthy.left c.loop-position.position after =
    ahead_still set links c.loop-position.worthy.left c.loop-position.position c.link-lane.result before after c.args.self.now.flows.placed at c.receive_flow.ensures.other_lanes was.ahead in
    let grows = arrives_grows _ _ _ _ _ c.receive_flow.ensures.arrived in
    let count = ap (λ (p : LanesSite). length p.flows.links) (c.receive_flow.ensures.site ∙ was.site) in
    let next = c.next_link-position-in-loop-position in
    record {
      site = c.receive_flow.ensures.site ∙ was.site;
      counts = record { news = c.receive_flow.ensures.counts.news ∙ was.counts.news; mores = c.receive_flow.ensures.counts.mores ∙ was.counts.mores; releases = c.receive_flow.ensures.counts.releases ∙ was.counts.releases };
      arrived = arrives_past links (c.loop-position.position + 1) next.result (hand_of c.args.self.now) (hand_of c.receive_flow.new.self) _ _ next.ensures.within.0
          (arrives_more (map Flow (take c.loop-position.position links)) (Flow c.link-lane.result ∷ []) (map Flow (take (c.loop-position.position + 1) links)) (hand_of c.args.self.now)
          (hand_of c.loop-position.self) (hand_of c.receive_flow.new.self) _ _ _ (read_more (take c.loop-position.position links) (take (c.loop-position.position + 1) links) c.link-lane.result more) was.arrived
          c.receive_flow.ensures.arrived);
      claims = claims_past links (c.loop-position.position + 1) next.result (seating_of c.args.self.now) (seating_of c.receive_flow.new.self) next.ensures.within.0
          (claims_more (take c.loop-position.position links) (c.link-lane.result ∷ []) (take (c.loop-position.position + 1) links) (seating_of c.args.self.now) (seating_of c.loop-position.self) (seating_of c.receive_flow.new.self)
          more was.claims c.receive_flow.ensures.claims);
      room = c.receive_flow.ensures.room;
      links = was.links;
      within = omega (arith, next.ensures.within.1, count);
      linked = c.receive_flow.ensures.linked ∙ was.linked;
      ahead = λ j lane lt is_at seen is.
          next.ensures.left j lane lt (subst (λ (p : LanesSite). slice_get p.flows.links j ≡ Some lane) (sym site) is_at) (subst (λ s. IsIn s lane) (sym linked) seen) (still j lane (omega (arith, lt, next.ensures.within.0)) is_at seen is);
      done = λ few.
          let passed : ArePassed set links c.loop-position.worthy.left (c.loop-position.position + 1) next.result =
          λ j lane le lt is_at. subst (λ s. IsIn s lane × (¬ Has c.loop-position.worthy.left lane)) linked (next.ensures.passed j lane le lt (subst (λ (p : LanesSite). slice_get p.flows.links j ≡ Some lane) (sym site) is_at) (omega (arith, few, c.saturating_sub-wanted-in-loop-position.ensures, c.len-in-loop-position.ensures.len))) in
          done_past links (c.loop-position.position + 1) next.result after
          (done_more links c.loop-position.position c.link-lane.result before after at c.receive_flow.ensures.other_lanes (c.receive_flow.ensures.drained few) (was.done (omega (arith, few, grows))))
          (passed_done set links c.loop-position.worthy.left (c.loop-position.position + 1) next.result after (λ j lane le. still j lane (omega (arith, le))) passed);
      none = λ full. c.receive_flow.ensures.none (ap length (was.none full) ∙ full) ∙ was.none full;
      others = c.receive_flow.ensures.others ∙ was.others;
      notes = c.receive_flow.ensures.notes ∙ was.notes;
    }

pub returns-clause-arrived : goal.returns-clause-arrived
returns-clause-arrived c = arrives_all (links_of c.args.self.now) c.loop-position.position _ _ _ _ c.loop-position.invariant.within c.loop-position.invariant.arrived

pub returns-clause-claims : goal.returns-clause-claims
returns-clause-claims c = claims_all (links_of c.args.self.now) c.loop-position.position _ _ c.loop-position.invariant.within c.loop-position.invariant.claims

pub returns-clause-drained : goal.returns-clause-drained
returns-clause-drained c few lane =
    let was = c.loop-position.invariant in
    let f = c.loop-position.self.flows in
    let past : length (links_of c.args.self.now) ≤ c.loop-position.position =
    elim c.loop-position-test.branch [ then-loop-position-test+else-len-most w ↦ absurd (omega (arith, few, w.len-in-loop-position.ensures.len, w.if-len-most.false)) | else-loop-position-test w ↦ omega (arith, was.links, w.loop-position-test.false) ] in
    let Done : LanesSite → Type 0 = λ p. (j lane : ℕ) → slice_get p.flows.links j ≡ Some lane → IsDrained (entry_at f.stints.items lane) in
    let done : Done (lanes_site c.loop-position.self) = subst Done (sym was.site) (λ j l at. was.done few j l (omega (arith, get_within (links_of c.args.self.now) j l at, past)) at) in
    all_drained _ f.seat f.stints.items f.links.items f.are done lane _ refl

-- a port that notes nothing reads no flow lane

pub receive_flow-requires-clause-notes : goal.receive_flow-requires-clause-notes
receive_flow-requires-clause-notes c = c.loop-position.invariant.notes

pub returns-then-not-notes-clause-drained : goal.returns-then-not-notes-clause-drained
returns-then-not-notes-clause-drained c few lane =
    let was = c.args.self.now in
    free_drained _ (was.idle lane (no_stints was.own (flow_hands was) was.order (sym c.notes.ensures ∙ c.if-not-notes.true) was.ordered lane))

pub returns-then-not-notes-clause-claims : goal.returns-then-not-notes-clause-claims
returns-then-not-notes-clause-claims c = claims_none _ _ _ (asks_same _ _ refl)

pub returns-then-not-notes-clause-arrived : goal.returns-then-not-notes-clause-arrived
returns-then-not-notes-clause-arrived c = none_read (map Flow (links_of c.args.self.now)) (hand_of c.args.self.now) c.args.into.now.items
