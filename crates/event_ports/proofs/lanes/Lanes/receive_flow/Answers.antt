-- What receipts from a flow lane make of a port's lanes: they count no reply.
use Rattle.std.proofs.Common.{◌≡◌, ◌≢◌, ◌∙◌, List, length, map, refl, sym, ap, subst, arith, ltb-true}
use Rattle.std.proofs.lemmas.List.{length-append}
use Rattle.evt_types.specs.Event.{pair_of}
use Rattle.lane_rings.specs.Identity.{far_id}
use Rattle.flow_claims.specs.Claims.{lanes_of}
use Rattle.evt_types.specs.declared.event.Delivery.{Delivery}
use Rattle.event_ports.specs.declared.lane.Holding.{Holding}
use Rattle.event_ports.specs.declared.lane.Lane.{Lane}
use Rattle.event_ports.specs.declared.lane.Lane.TheVariants.{Own, Flow}
use Rattle.event_ports.specs.Holds.{Gets, held_on}
use Rattle.event_ports.specs.Flows.{FlowSite, hands_of}
use Rattle.event_ports.specs.Lanes.{HasRoomFor, held_in, held_of, pair_in, said_on, got_on, open_on}
use Rattle.event_ports.proofs.Arrivals.{arrives_none, arrives_some, room_less}
use Rattle.event_ports.proofs.HeldIn.{came_flow, held_noted}
use Rattle.event_ports.proofs.Noting.{note_fits}
use Rattle.event_ports.proofs.Orders.{Notes, each_lane, received_last}
use Rattle.event_ports.proofs.Adding.{counts_same}
use Rattle.event_ports.proofs.Calls.{added_received, gave_back, same_no_new, idle_received, idle_refused, gets_between, gets_no_answer}
use Rattle.event_ports.proofs.Claiming.{asks_same, asks_then, claims_before, claims_none}
use Rattle.event_ports.proofs.Extras.{added_same}
use Rattle.event_ports.proofs.Looks.{free_drained}
use Rattle.event_ports.proofs.lanes.Lanes.receive_flow.Goals as goal

pub note-requires-clause-room : goal.note-requires-clause-room
note-requires-clause-room c noted =
    let came = c.receive_some.ensures.lists in
    note_fits c.args.most _ _ c.args.into.now.items c.receive_some.new.into.items came.came c.requires.room came.array c.receive_some.ensures.few
    c.args.self.now.order.items c.args.self.now.order.capacity c.len-from.result (sym (held_noted c.args.self.now.own c.args.self.now.order noted)) refl c.len-from.ensures.len

pub invariant_of-self-2-clause-ordered : goal.invariant_of-self-2-clause-ordered
invariant_of-self-2-clause-ordered c =
    let came = c.receive_some.ensures.lists in
    let gets : Gets c.args.lane came.came (hands_of c.args.self.now.flows) (hands_of c.leave_unless.new.self) =
    gets_between _ (hands_of c.hold.new.self) (hands_of c.receive_some.new.self) _ c.args.lane came.came c.hold.ensures.same came.gets c.leave_unless.ensures.same in
    let before : Lane → List Delivery = open_on c.args.self.now.own (hands_of c.args.self.now.flows) in
    let after : Lane → List Delivery = open_on c.args.self.now.own (hands_of c.leave_unless.new.self) in
    let others : (l : Lane) → l ≢ Flow c.args.lane → after l ≡ before l =
    each_lane (λ l. l ≢ Flow c.args.lane → after l ≡ before l) (λ ne. refl) (λ j ne. gets.others.held j (λ e. ne (ap Flow e))) in
    let To : List Holding → Type 0 = λ xs. Notes xs after in
    subst To (sym (came_flow (Flow c.args.lane) c.args.self.now.own c.args.self.now.order c.note.new.self c.len-from.result c.args.into.now.items c.receive_some.new.into.items came.came c.requires.notes came.array c.len-from.ensures.len c.note.ensures.notes c.note.ensures.noted))
    (received_last (held_in c.args.self.now.own c.args.self.now.order) (Flow c.args.lane) came.came before after gets.held others c.args.self.now.ordered)

pub invariant_of-self-2-clause-gave_back : goal.invariant_of-self-2-clause-gave_back
invariant_of-self-2-clause-gave_back c =
    let came = c.receive_some.ensures.lists in
    let gets : Gets c.args.lane came.came (hands_of c.args.self.now.flows) (hands_of c.leave_unless.new.self) =
    gets_between _ (hands_of c.hold.new.self) (hands_of c.receive_some.new.self) _ c.args.lane came.came c.hold.ensures.same came.gets c.leave_unless.ensures.same in
    gave_back (hands_of c.args.self.now.flows) (hands_of c.leave_unless.new.self) gets.given_back c.args.self.now.gave_back

pub invariant_of-self-2-clause-no_new : goal.invariant_of-self-2-clause-no_new
invariant_of-self-2-clause-no_new c =
    let came = c.receive_some.ensures.lists in
    let gets : Gets c.args.lane came.came (hands_of c.args.self.now.flows) (hands_of c.leave_unless.new.self) =
    gets_between _ (hands_of c.hold.new.self) (hands_of c.receive_some.new.self) _ c.args.lane came.came c.hold.ensures.same came.gets c.leave_unless.ensures.same in
    same_no_new (hands_of c.args.self.now.flows) (hands_of c.leave_unless.new.self) (gets_no_answer _ _ c.args.lane came.came gets) c.args.self.now.no_new

pub invariant_of-self-2-clause-idle : goal.invariant_of-self-2-clause-idle
invariant_of-self-2-clause-idle c =
    idle_received (hands_of c.args.self.now.flows) (hands_of c.hold.new.self) (hands_of c.receive_some.new.self) (hands_of c.leave_unless.new.self) c.args.lane c.receive_some.ensures.lists.came
    c.hold.ensures.same c.hold.ensures.elsewhere c.receive_some.ensures.lists.gets c.receive_some.ensures.entries c.leave_unless.ensures.same c.leave_unless.ensures.left c.leave_unless.ensures.elsewhere c.args.self.now.idle

pub returns-clause-counts : goal.returns-clause-counts
returns-clause-counts c =
    let came = c.receive_some.ensures.lists in
    let gets : Gets c.args.lane came.came (hands_of c.args.self.now.flows) (hands_of c.leave_unless.new.self) =
    gets_between _ (hands_of c.hold.new.self) (hands_of c.receive_some.new.self) _ c.args.lane came.came c.hold.ensures.same came.gets c.leave_unless.ensures.same in
    counts_same c.args.self.now _ (c.leave_unless.ensures.site ∙ c.receive_some.ensures.site ∙ c.hold.ensures.site)
    (each_lane (λ l. said_on c.args.self.now.own (hands_of c.leave_unless.new.self) l ≡ said_on c.args.self.now.own (hands_of c.args.self.now.flows) l) refl (gets_no_answer _ _ c.args.lane came.came gets))

pub returns-clause-arrived : goal.returns-clause-arrived
returns-clause-arrived c =
    let came = c.receive_some.ensures.lists in
    let gets : Gets c.args.lane came.came (hands_of c.args.self.now.flows) (hands_of c.leave_unless.new.self) =
    gets_between _ (hands_of c.hold.new.self) (hands_of c.receive_some.new.self) _ c.args.lane came.came c.hold.ensures.same came.gets c.leave_unless.ensures.same in
    arrives_some (Flow c.args.lane) _ _ c.args.into.now.items c.receive_some.new.into.items came.came
    (record {
      said = each_lane (λ l. said_on c.args.self.now.own (hands_of c.leave_unless.new.self) l ≡ said_on c.args.self.now.own (hands_of c.args.self.now.flows) l) refl (λ j. gets_no_answer _ _ c.args.lane came.came gets j);
      got_here = gets.received;
      got = each_lane (λ l. l ≢ Flow c.args.lane → got_on c.args.self.now.own (hands_of c.leave_unless.new.self) l ≡ got_on c.args.self.now.own (hands_of c.args.self.now.flows) l) (λ ne. refl) (λ j ne. gets.others.received j (λ e. ne (ap Flow e)));
      holding = came_flow (Flow c.args.lane) c.args.self.now.own c.args.self.now.order c.note.new.self c.len-from.result c.args.into.now.items c.receive_some.new.into.items came.came c.requires.notes came.array c.len-from.ensures.len c.note.ensures.notes c.note.ensures.noted;
    }) came.array

pub returns-clause-room : goal.returns-clause-room
returns-clause-room c =
    let came = c.receive_some.ensures.lists in
    room_less c.args.most _ (held_in c.args.self.now.own c.args.self.now.order) (held_in c.args.self.now.own c.note.new.self) (Flow c.args.lane) c.args.into.now.items c.receive_some.new.into.items came.came (subst (λ n. HasRoomFor c.args.most n (held_in c.args.self.now.own c.args.self.now.order) c.args.into.now.items) (sym c.note.ensures.room) c.requires.room) c.receive_some.ensures.few
    (came_flow (Flow c.args.lane) c.args.self.now.own c.args.self.now.order c.note.new.self c.len-from.result c.args.into.now.items c.receive_some.new.into.items came.came c.requires.notes came.array c.len-from.ensures.len c.note.ensures.notes c.note.ensures.noted) came.array

pub returns-then-len-most-clause-arrived : goal.returns-then-len-most-clause-arrived
returns-then-len-most-clause-arrived c = arrives_none (Flow c.args.lane) _ _ c.args.into.now.items (record { said = λ l. refl; got = λ l. refl; holding = refl })

pub returns-then-not-hold-clause-arrived : goal.returns-then-not-hold-clause-arrived
returns-then-not-hold-clause-arrived c =
    let same = c.hold.ensures.same in
    arrives_none (Flow c.args.lane) _ _ c.args.into.now.items
    (record {
      said = each_lane (λ l. said_on c.args.self.now.own (hands_of c.hold.new.self) l ≡ said_on c.args.self.now.own (hands_of c.args.self.now.flows) l) refl same.answered_is;
      got = each_lane (λ l. got_on c.args.self.now.own (hands_of c.hold.new.self) l ≡ got_on c.args.self.now.own (hands_of c.args.self.now.flows) l) refl same.received;
      holding = refl;
    })

pub returns-then-not-hold-clause-counts : goal.returns-then-not-hold-clause-counts
returns-then-not-hold-clause-counts c =
    counts_same c.args.self.now _ c.hold.ensures.site
    (each_lane (λ l. said_on c.args.self.now.own (hands_of c.hold.new.self) l ≡ said_on c.args.self.now.own (hands_of c.args.self.now.flows) l) refl c.hold.ensures.same.answered_is)

pub returns-then-not-hold-clause-site : goal.returns-then-not-hold-clause-site
returns-then-not-hold-clause-site c i = record { own = far_id c.args.self.now.own; flows = c.hold.ensures.site i; depth = c.args.self.now.order.capacity }

pub receive_some-requires-clause-exists : goal.receive_some-requires-clause-exists
receive_some-requires-clause-exists c = omega (arith, c.requires.readable.0, ap (λ (p : FlowSite). length (lanes_of p.claims)) c.hold.ensures.site)

pub leave_unless-requires-clause-exists : goal.leave_unless-requires-clause-exists
leave_unless-requires-clause-exists c = omega (arith, c.requires.readable.0, ap (λ (p : FlowSite). length (lanes_of p.claims)) (c.receive_some.ensures.site ∙ c.hold.ensures.site))

pub returns-clause-site : goal.returns-clause-site
returns-clause-site c i = record {
  own = far_id c.args.self.now.own;
  flows = (c.leave_unless.ensures.site ∙ c.receive_some.ensures.site ∙ c.hold.ensures.site) i;
  depth = c.note.ensures.room i;
}

pub returns-clause-none : goal.returns-clause-none
returns-clause-none c full = absurd (omega (arith, full, c.len.ensures.len, c.if-len-most.false))

pub hold-requires-clause-exists : goal.hold-requires-clause-exists
hold-requires-clause-exists c = c.requires.readable.0

pub hold-requires-clause-linked : goal.hold-requires-clause-linked
hold-requires-clause-linked c = c.requires.readable.1

pub invariant_of-self : goal.invariant_of-self
invariant_of-self c =
    let was = c.args.self.now in
    let before = hands_of was.flows in
    let after = hands_of c.hold.new.self in
    let same = c.hold.ensures.same in
    record {
      depth = was.depth;
      ordered = each_lane (λ l. map pair_in (held_of l (held_in was.own was.order)) ≡ map pair_of (open_on was.own after l)) (was.ordered Own) (λ j. was.ordered (Flow j) ∙ sym (ap (map pair_of) (same.held j)));
      gave_back = gave_back before after same.given_back was.gave_back;
      no_new = same_no_new before after same.answered_is was.no_new;
      added = added_same before after same was.added;
      idle = idle_refused before after c.args.lane same (c.hold.ensures.held ∙ c.if-not-hold.true) c.hold.ensures.elsewhere was.idle;
      noted = λ none. ap (λ (p : FlowSite). p.links) c.hold.ensures.site ∙ was.noted none;
    }

pub invariant_of-self-2-clause-depth : goal.invariant_of-self-2-clause-depth
invariant_of-self-2-clause-depth c = (c.note.ensures.room ∙ c.args.self.now.depth.0, omega (arith, c.note.ensures.room, c.args.self.now.depth.1))

pub invariant_of-self-2-clause-added : goal.invariant_of-self-2-clause-added
invariant_of-self-2-clause-added c =
    let came = c.receive_some.ensures.lists in
    let gets : Gets c.args.lane came.came (hands_of c.args.self.now.flows) (hands_of c.leave_unless.new.self) =
    gets_between _ (hands_of c.hold.new.self) (hands_of c.receive_some.new.self) _ c.args.lane came.came c.hold.ensures.same came.gets c.leave_unless.ensures.same in
    added_received (hands_of c.args.self.now.flows) (hands_of c.leave_unless.new.self) c.args.lane came.came gets c.args.self.now.added

pub returns-then-not-hold-clause-room : goal.returns-then-not-hold-clause-room
returns-then-not-hold-clause-room c = c.requires.room

pub returns-then-not-hold-clause-none : goal.returns-then-not-hold-clause-none
returns-then-not-hold-clause-none c full = refl

pub returns-then-not-hold-clause-others : goal.returns-then-not-hold-clause-others
returns-then-not-hold-clause-others c = refl

pub receive_some-requires-clause-most : goal.receive_some-requires-clause-most
receive_some-requires-clause-most c = c.requires.room.small

pub receive_some-requires-clause-room : goal.receive_some-requires-clause-room
receive_some-requires-clause-room c = omega (arith, c.len.ensures.len, c.if-len-most.false)

pub leave_unless-requires-clause-held : goal.leave_unless-requires-clause-held
leave_unless-requires-clause-held c some none =
    let came = c.receive_some.ensures.lists in
    let held = held_on (hands_of c.hold.new.self) c.args.lane in
    absurd (omega (arith, ltb-true c.len-from.result c.len-2.result some, c.len-2.ensures.len, c.len-from.ensures.len, ap length came.array, length-append c.args.into.now.items came.came, ap length (sym came.gets.held ∙ none), length-append held came.came))

pub returns-clause-others : goal.returns-clause-others
returns-clause-others c = refl

pub returns-then-len-most-clause-claims : goal.returns-then-len-most-clause-claims
returns-then-len-most-clause-claims c = claims_none _ _ _ (asks_same _ _ refl)

pub returns-then-not-hold-clause-claims : goal.returns-then-not-hold-clause-claims
returns-then-not-hold-clause-claims c = c.hold.ensures.claims

pub returns-clause-claims : goal.returns-clause-claims
returns-clause-claims c = claims_before _ _ _ _ c.hold.ensures.claims (asks_then _ _ _ (asks_same _ _ c.receive_some.ensures.seat) c.leave_unless.ensures.asks)

pub returns-then-len-most-clause-drained : goal.returns-then-len-most-clause-drained
returns-then-len-most-clause-drained c few = absurd (omega (arith, few, c.len.ensures.len, c.if-len-most.true))

pub returns-then-not-hold-clause-drained : goal.returns-then-not-hold-clause-drained
returns-then-not-hold-clause-drained c few = free_drained _ (c.hold.ensures.held ∙ c.if-not-hold.true)

pub returns-clause-drained : goal.returns-clause-drained
returns-clause-drained c few = c.leave_unless.ensures.drained (c.receive_some.ensures.drained few)

pub returns-clause-linked : goal.returns-clause-linked
returns-clause-linked c = c.leave_unless.ensures.linked ∙ c.receive_some.ensures.linked ∙ c.hold.ensures.linked

pub returns-clause-other_lanes : goal.returns-clause-other_lanes
returns-clause-other_lanes c j ne = c.leave_unless.ensures.others j ne ∙ c.receive_some.ensures.others j ne ∙ c.hold.ensures.others j ne

pub returns-clause-notes : goal.returns-clause-notes
returns-clause-notes c = c.note.ensures.notes
