-- What arrived from the own lane, and then from the flow lanes. No more of the own lane is unanswered than is held in all.
use Rattle.std.proofs.Common.{◌≡◌, ◌≢◌, ◌∙◌, ap, sym, refl, subst, arith, List, [], ◌∷◌, ◌<◌, length, map}
use Rattle.std.proofs.lemmas.List.{length-append}
use Rattle.evt_types.specs.declared.event.Delivery.{Delivery}
use Rattle.lane_rings.specs.Ends.{seen_deliveries, unanswered}
use Rattle.lane_rings.specs.Identity.{LaneId}
use Rattle.event_ports.specs.declared.lane.Holding.{Holding}
use Rattle.event_ports.specs.declared.lane.Lane.{Lane}
use Rattle.event_ports.specs.declared.lane.Lane.TheVariants.{Own, Flow}
use Rattle.event_ports.specs.Flows.{hands_of}
use Rattle.event_ports.specs.Handed.{LanesSite, hand_of, links_of}
use Rattle.event_ports.specs.Lanes.{ArrivesFrom, Hand, HasRoomFor, got_on, held_in, lanes_read, open_on, said_on}
use Rattle.event_ports.proofs.Adding.{counts_same, counts_then}
use Rattle.event_ports.proofs.Arrivals.{arrives, arrives_more, arrives_grows, arrives_length, arrives_some, flows_after, own_only, room_less}
use Rattle.event_ports.proofs.HeldIn.{came_own, held_noted}
use Rattle.event_ports.proofs.Noting.{note_fits, room_first}
use Rattle.event_ports.proofs.Orders.{Notes, each_lane, open_within, received_last}
use Rattle.event_ports.proofs.lanes.Lanes.receive_all.Goals as goal
use Rattle.event_ports.proofs.lanes.Lanes.receive_all.Goals.{After-receive_flows}

pub receive_some-requires : goal.receive_some-requires
receive_some-requires c =
    (room_first c.args.max c.min-most.result _ c.args.self.now.order.capacity (held_in c.args.self.now.own c.args.self.now.order) c.args.into.now.items c.min-most.ensures (omega (arith, c.capacity.ensures.capacity, c.held.ensures.value))
    (omega (arith, c.capacity.ensures.capacity, c.held.ensures.within)) c.args.self.now.depth.1 c.requires).small

pub note-requires-clause-room : goal.note-requires-clause-room
note-requires-clause-room c noted =
    let came = c.receive_some.ensures.came in
    let room = room_first c.args.max c.min-most.result _ c.args.self.now.order.capacity (held_in c.args.self.now.own c.args.self.now.order) c.args.into.now.items c.min-most.ensures (omega (arith, c.capacity.ensures.capacity, c.held.ensures.value))
    (omega (arith, c.capacity.ensures.capacity, c.held.ensures.within)) c.args.self.now.depth.1 c.requires in
    note_fits c.min-most.result _ _ c.args.into.now.items c.receive_some.new.into.items came.came room came.array (c.receive_some.ensures.few room.few)
    c.args.self.now.order.items c.args.self.now.order.capacity 0 (sym (held_noted c.args.self.now.own c.args.self.now.order noted)) refl (ap length (sym c.requires))

pub invariant_of-self-clause-ordered : goal.invariant_of-self-clause-ordered
invariant_of-self-clause-ordered c =
    let came = c.receive_some.ensures.came in
    let before : Lane → List Delivery = open_on c.args.self.now.own (hands_of c.args.self.now.flows) in
    let after : Lane → List Delivery = open_on c.receive_some.new.self (hands_of c.args.self.now.flows) in
    let others : (l : Lane) → l ≢ Own → after l ≡ before l = each_lane (λ l. l ≢ Own → after l ≡ before l) (λ ne. absurd (ne refl)) (λ j ne. refl) in
    let To : List Holding → Type 0 = λ xs. Notes xs after in
    subst To (sym (came_own c.args.self.now.own c.receive_some.new.self c.args.self.now.order c.note.new.self c.args.into.now.items c.receive_some.new.into.items came.came c.requires came.array came.held c.note.ensures.notes c.note.ensures.noted))
    (received_last (held_in c.args.self.now.own c.args.self.now.order) Own came.came before after came.held others c.args.self.now.ordered)

pub receive_flows-requires : goal.receive_flows-requires
receive_flows-requires c =
    let came = c.receive_some.ensures.came in
    let room = room_first c.args.max c.min-most.result _ c.args.self.now.order.capacity (held_in c.args.self.now.own c.args.self.now.order) c.args.into.now.items c.min-most.ensures (omega (arith, c.capacity.ensures.capacity, c.held.ensures.value))
    (omega (arith, c.capacity.ensures.capacity, c.held.ensures.within)) c.args.self.now.depth.1 c.requires in
    room_less c.min-most.result _ (held_in c.args.self.now.own c.args.self.now.order) (held_in c.receive_some.new.self c.note.new.self) Own c.args.into.now.items c.receive_some.new.into.items came.came
    (subst (λ n. HasRoomFor c.min-most.result n (held_in c.args.self.now.own c.args.self.now.order) c.args.into.now.items) (sym c.note.ensures.room) room) (c.receive_some.ensures.few room.few)
    (came_own c.args.self.now.own c.receive_some.new.self c.args.self.now.order c.note.new.self c.args.into.now.items c.receive_some.new.into.items came.came c.requires came.array came.held c.note.ensures.notes c.note.ensures.noted) came.array

-- the port between the own lane and the flow lanes
abbrev mid : After-receive_flows → Hand
mid c = record { said = said_on c.receive_some.new.self (hands_of c.args.self.now.flows); got = got_on c.receive_some.new.self (hands_of c.args.self.now.flows); holding = (held_in c.receive_some.new.self c.note.new.self) }

-- what came from the own lane
first : (c : After-receive_flows) → ArrivesFrom (Own ∷ []) (hand_of c.args.self.now) (mid c) [] c.receive_some.new.into.items
first c =
    let came = c.receive_some.ensures.came in
    subst (λ (ds : List Delivery). ArrivesFrom (Own ∷ []) (hand_of c.args.self.now) (mid c) ds c.receive_some.new.into.items) c.requires
    (arrives_some Own _ _ c.args.into.now.items c.receive_some.new.into.items came.came
    (record {
      said = each_lane (λ l. said_on c.receive_some.new.self (hands_of c.args.self.now.flows) l ≡ said_on c.args.self.now.own (hands_of c.args.self.now.flows) l) c.receive_some.ensures.answered (λ j. refl);
      got_here = came.received;
      got = each_lane (λ l. l ≢ Own → got_on c.receive_some.new.self (hands_of c.args.self.now.flows) l ≡ got_on c.args.self.now.own (hands_of c.args.self.now.flows) l) (λ ne. absurd (ne refl)) (λ j ne. refl);
      holding = came_own c.args.self.now.own c.receive_some.new.self c.args.self.now.order c.note.new.self c.args.into.now.items c.receive_some.new.into.items came.came c.requires came.array came.held c.note.ensures.notes c.note.ensures.noted;
    }) came.array)

-- and then from the flow lanes
later : (c : After-receive_flows) → ArrivesFrom (map Flow (links_of c.args.self.now)) (mid c) (hand_of c.receive_flows.new.self) c.receive_some.new.into.items c.receive_flows.new.into.items
later c = c.receive_flows.ensures.arrived

both : (c : After-receive_flows) → ArrivesFrom (lanes_read (links_of c.args.self.now)) (hand_of c.args.self.now) (hand_of c.receive_flows.new.self) [] c.receive_flows.new.into.items
both c =
    arrives_more (Own ∷ []) (map Flow (links_of c.args.self.now)) (lanes_read (links_of c.args.self.now)) (hand_of c.args.self.now) (mid c) (hand_of c.receive_flows.new.self) _ _ _ refl (first c) (later c)

pub returns-clause-counts : goal.returns-clause-counts
returns-clause-counts c =
    counts_then c.args.self.now _ _ c.receive_flows.ensures.counts
    (counts_same c.args.self.now _ refl (each_lane (λ l. said_on c.receive_some.new.self (hands_of c.args.self.now.flows) l ≡ said_on c.args.self.now.own (hands_of c.args.self.now.flows) l) c.receive_some.ensures.answered (λ j. refl)))

pub returns-clause-arrived : goal.returns-clause-arrived
returns-clause-arrived c = arrives (links_of c.args.self.now) (hand_of c.args.self.now) (hand_of c.receive_flows.new.self) [] c.receive_flows.new.into.items (both c)

-- where fewer came than might, no more is seen of the own lane
drained : (c : After-receive_flows) → length c.receive_some.new.into.items < c.min-most.result → seen_deliveries c.receive_some.new.self ≡ []
drained c few =
    let came = c.receive_some.ensures.came in
    let before : Lane → List Delivery = open_on c.args.self.now.own (hands_of c.args.self.now.flows) in
    let within = open_within (held_in c.args.self.now.own c.args.self.now.order) Own before c.args.self.now.ordered in
    c.receive_some.ensures.drained few
    (omega (
      arith,
      few,
      within,
      c.min-most.ensures,
      c.capacity.ensures.capacity,
      c.held.ensures.value,
      ap length c.requires,
      ap length came.held,
      length-append (unanswered c.args.self.now.own) came.came,
      ap length came.array,
      length-append c.args.into.now.items came.came,
      c.args.self.now.depth.0,
      ap (λ (l : LaneId). l.depth) c.receive_some.ensures.lane,
    ))

pub returns-clause-drained : goal.returns-clause-drained
returns-clause-drained c few room =
    c.receive_flows.ensures.others
    ∙ drained c
    (omega (
      arith,
      few,
      room,
      c.min-most.ensures,
      c.capacity.ensures.capacity,
      c.held.ensures.value,
      c.note.ensures.room,
      ap (λ (p : LanesSite). p.depth) c.receive_flows.ensures.site,
      arrives_length _ (hand_of c.args.self.now) (hand_of c.receive_flows.new.self) _ (both c),
      arrives_grows _ _ _ _ _ (later c),
    ))

pub returns-clause-own_first : goal.returns-clause-own_first
returns-clause-own_first c =
    flows_after (hand_of c.args.self.now) (mid c) (hand_of c.receive_flows.new.self) (links_of c.args.self.now) c.min-most.result _ _ _ _
    (c.receive_some.ensures.few (omega (arith, ap length c.requires)))
    (drained c) (own_only (hand_of c.args.self.now) (mid c) c.receive_some.new.into.items _ (first c)) (later c) c.receive_flows.ensures.none
    c.receive_flows.ensures.others

pub returns-clause-drained_flows : goal.returns-clause-drained_flows
returns-clause-drained_flows c few room =
    c.receive_flows.ensures.drained
    (omega (arith, few, room, c.min-most.ensures, c.capacity.ensures.capacity, c.held.ensures.value, c.note.ensures.room, ap (λ (p : LanesSite). p.depth) c.receive_flows.ensures.site, arrives_length _ (hand_of c.args.self.now) (hand_of c.receive_flows.new.self) _ (both c)))
