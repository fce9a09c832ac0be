-- A stint ends: its slot comes in front, takes the end in, and goes back.
use Rattle.std.proofs.Common.{◌≡◌, ◌∙◌, None, ⊎_elim, eqb, refl, ap, subst, length, List, arith}
use Rattle.lane_rings.specs.declared.far.Far.{Far}
use Rattle.flow_claims.specs.Lists.{IsOf}
use Rattle.flow_claims.specs.Seats.{without, past_of, finished_by}
use Rattle.flow_claims.proofs.Held.{found_lane, found_has}
use Rattle.flow_claims.proofs.Keeps.{fronts, finishes}
use Rattle.flow_claims.proofs.Opened.{opened, stays_open, is_ended, ended_held, ended_ports}
use Rattle.flow_claims.proofs.Calls.{of_within, first_slot, in_front, put, ended_by, ended_lanes, ended_rest}
use Rattle.flow_claims.proofs.claims.Claims.end.Goals as goal

pub load-requires : goal.load-requires
load-requires c =
    let o = opened c.args.seat.now.seat.me.0 c.args.stint c.requires.open in
    let there = of_within c.args.seat.now.seat.me.0.lanes c.args.stint.lane c.args.stint.far c.requires.open.of_lane in (
      c.requires.seat.0,
      omega (arith, c.args.self.now.words, there, ap length c.requires.seat.1),
      fronts _ _ _ _ _ o.begun c.args.seat.now.has_part c.args.seat.now.slots o.at,
    )

pub exchange-requires : goal.exchange-requires
exchange-requires c =
    let o = opened c.args.seat.now.seat.me.0 c.args.stint c.requires.open in
    let slots = in_front c.args.stint.lane c.args.seat.now.seat.me.0.held o.begun c.load.new.seat.me.1 o.at c.load.ensures.2.1 in
    (c.load.ensures.0 ∙ c.requires.seat.0, (None, first_slot _ _ _ slots))

pub store-requires : goal.store-requires
store-requires c =
    let v = c.args.seat.now.seat.me.0 in
    let o = opened v c.args.stint c.requires.open in
    let there = of_within v.lanes c.args.stint.lane c.args.stint.far c.requires.open.of_lane in
    let slots = c.args.self.now.table.shared.table_id.slots in
    let is = put slots c.args.stint.lane c.load.result v o.begun c.args.stint.far c.args.seat.now.seat.me c.load.new.seat.me c.exchange.new.seat.me refl o.at c.load.ensures.2 c.exchange.ensures.3 in
    let parts = ap (λ x. x.parts) is.view in
    let Of : List Far → Type 0 = λ ls. IsOf ls c.args.stint.lane c.args.stint.far in (
      c.exchange.ensures.0 ∙ c.load.ensures.0 ∙ c.requires.seat.0,
      omega (arith, c.args.self.now.words, there, ap length c.requires.seat.1),
      finishes _ _ _ _ _ _ _ o.begun (without c.args.stint.lane v.held) c.args.stint.far (omega (arith, parts, c.args.seat.now.has_part)) (ap (λ x. x.held) is.view) is.slots
          (found_lane c.args.stint.lane v.held o.begun o.at) o.number (omega (arith, there, ap length c.requires.seat.1))
          o.goes_on (subst Of c.requires.seat.1 c.requires.open.of_lane) c.requires.tail,
    )

pub returns : goal.returns
returns c =
    let v = c.args.seat.now.seat.me.0 in
    let o = opened v c.args.stint c.requires.open in
    let over = ended_by c.args.self.now.table.shared.table_id.slots c.args.stint.lane c.args.stint.number c.args.tail c.load.result v o.begun c.args.stint.far
    c.args.seat.now.seat.me c.load.new.seat.me c.exchange.new.seat.me c.store.new.seat.me refl o.at c.load.ensures.2 c.exchange.ensures.3 c.store.ensures.2
    (⊎_elim (λ h. omega (arith, h.0)) (λ h. omega (arith, h)) c.requires.tail) in
    let rest = ended_rest (eqb c.args.tail 255) c.args.stint.lane c.args.stint.far v o.begun c.store.new.seat.me o.at over.view in
    record {
      seat = (c.store.ensures.0 ∙ c.exchange.ensures.0 ∙ c.load.ensures.0 ∙ c.requires.seat.0, rest.2 ∙ c.requires.seat.1);
      port = record {
        port = refl;
        held = ended_held c.args.seat.now.port (eqb c.args.tail 255) c.args.stint.lane c.args.stint.far v c.store.new.seat.me.0 o.begun o.at over.view c.args.seat.now.own_port;
        all = ended_ports c.args.seat.now.port (eqb c.args.tail 255) c.args.stint.lane c.args.stint.far v c.store.new.seat.me.0 o.begun o.at over.view;
      };
      ended = over.view;
      piece = (past_of (eqb c.args.tail 255) o.begun c.args.stint.far, ap (λ x. x.finished) (over.view ∙ ap (λ f. finished_by (eqb c.args.tail 255) c.args.stint.lane c.args.stint.far f v) o.at), is_ended (eqb c.args.tail 255) v c.args.stint o, found_has (λ b. b.port ≡ c.args.seat.now.port) c.args.stint.lane v.held o.begun c.args.seat.now.own_port o.at);
      closed = c.store.ensures.2.2;
      others = over.others;
      stay = λ other ne. stays_open v c.store.new.seat.me.0 other (over.others other.lane ne) rest.2;
      last = over.last;
      parts = rest.0;
      reads = record { loads = ap (λ x. x.loads) (over.view ∙ ap (λ f. finished_by (eqb c.args.tail 255) c.args.stint.lane c.args.stint.far f v) o.at); reads = ap (λ x. x.reads) (over.view ∙ ap (λ f. finished_by (eqb c.args.tail 255) c.args.stint.lane c.args.stint.far f v) o.at) };
    }

pub invariant_of-seat : goal.invariant_of-seat
invariant_of-seat c =
    let v = c.args.seat.now.seat.me.0 in
    let o = opened v c.args.stint c.requires.open in
    let over = ended_by c.args.self.now.table.shared.table_id.slots c.args.stint.lane c.args.stint.number c.args.tail c.load.result v o.begun c.args.stint.far
    c.args.seat.now.seat.me c.load.new.seat.me c.exchange.new.seat.me c.store.new.seat.me refl o.at c.load.ensures.2 c.exchange.ensures.3 c.store.ensures.2
    (⊎_elim (λ h. omega (arith, h.0)) (λ h. omega (arith, h)) c.requires.tail) in
    let there = of_within v.lanes c.args.stint.lane c.args.stint.far c.requires.open.of_lane in
    let rest = ended_rest (eqb c.args.tail 255) c.args.stint.lane c.args.stint.far v o.begun c.store.new.seat.me o.at over.view in
    record {
      slots = over.slots;
      has_part = omega (arith, rest.0, c.args.seat.now.has_part);
      none_closed = rest.1 ∙ c.args.seat.now.none_closed;
      lanes_exist = ended_lanes (eqb c.args.tail 255) c.args.stint.lane c.args.stint.far v o.begun c.store.new.seat.me o.at over.view there c.args.seat.now.lanes_exist;
      own_port = ended_held c.args.seat.now.port (eqb c.args.tail 255) c.args.stint.lane c.args.stint.far v c.store.new.seat.me.0 o.begun o.at over.view c.args.seat.now.own_port;
    }
