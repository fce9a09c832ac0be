-- What a claim makes of the port's flow lanes.
use Rattle.std.proofs.Common.{refl, ◌≡◌, ◌<◌, length, arith, sym, ap, ◌∙◌, Some, None}
use Rattle.std.proofs.lemmas.List.{get_or-set_other}
use Rattle.std.specs.Arc.{arc_value}
use Rattle.flow_claims.specs.Claims.{seating, claims_id, lanes_of, IsSeatOf}
use Rattle.event_ports.specs.Holds.{entry_at}
use Rattle.event_ports.proofs.Claiming.{asks_same, claims_none, claims_one}
use Rattle.event_ports.proofs.Entries.{nothing_there, place_read}
use Rattle.event_ports.proofs.Turns.{refused, claimed, claim_same}
use Rattle.event_ports.proofs.Looks.{held_more}
use Rattle.event_ports.proofs.flows.FlowLanes.hold.Goals as goal

pub invariant_of-self-2 : goal.invariant_of-self-2
invariant_of-self-2 c =
    let got = c.in-Held.ensures.answer in
    let seat_of : IsSeatOf (arc_value c.args.self.now.claims) c.claim.new.seat = (c.claim.ensures.seat.0 ∙ ap claims_id c.deref.ensures, c.claim.ensures.seat.1 ∙ ap lanes_of c.deref.ensures) in
    let within : c.args.lane < length c.args.self.now.stints.items = omega (arith, c.args.self.now.are.entries, c.requires.exists) in
    record {
      are = claimed _ _ c.args.self.now.seat c.claim.new.seat _ _ _ c.args.self.now.are seat_of c.claim.ensures.port c.claim.ensures.finished c.claim.ensures.others
          c.requires.exists c.requires.linked got.0 got.3;
      placed = c.args.self.now.placed;
      has_held = held_more c.args.self.now.held c.add.new.self c.args.self.now.stints.items c.args.lane c.in-Held.stint within c.add.ensures.there c.add.ensures.others c.args.self.now.has_held;
    }

pub invariant_of-self-in_default : goal.invariant_of-self-in_default
invariant_of-self-in_default c =
    let seat_of : IsSeatOf (arc_value c.args.self.now.claims) c.claim.new.seat = (c.claim.ensures.seat.0 ∙ ap claims_id c.deref.ensures, c.claim.ensures.seat.1 ∙ ap lanes_of c.deref.ensures) in
    let held : (seating c.claim.new.seat).held ≡ (seating c.args.self.now.seat).held = c.claim.ensures.refused c.in_default.not-Held in
    record { are = refused _ _ c.args.self.now.seat c.claim.new.seat _ c.args.self.now.are seat_of c.claim.ensures.port held c.claim.ensures.finished; placed = c.args.self.now.placed; has_held = c.args.self.now.has_held }

pub returns-clause-same : goal.returns-clause-same
returns-clause-same c =
    let got = c.in-Held.ensures.answer in
    let within : c.args.lane < length c.args.self.now.stints.items = omega (arith, c.args.self.now.are.entries, c.requires.exists) in
    let free : entry_at c.args.self.now.stints.items c.args.lane ≡ None =
    place_read _ _ c.index.result.now None c.index.ensures (nothing_there _ (sym c.is_some.ensures ∙ c.if-is_some.false)) within in
    claim_same _ _ c.args.self.now.seat c.claim.new.seat c.args.self.now.stints.items c.args.lane c.in-Held.stint c.args.self.now.are c.claim.ensures.finished c.claim.ensures.others
    c.requires.exists free got.4 got.5 got.2.2

pub returns-then-is_some-clause-claims : goal.returns-then-is_some-clause-claims
returns-then-is_some-clause-claims c = claims_none _ _ _ (asks_same _ _ refl)

pub returns-in_default-clause-claims : goal.returns-in_default-clause-claims
returns-in_default-clause-claims c = claims_one c.args.lane _ _ c.claim.ensures.asks

pub returns-clause-claims : goal.returns-clause-claims
returns-clause-claims c = claims_one c.args.lane _ _ c.claim.ensures.asks

pub returns-clause-others : goal.returns-clause-others
returns-clause-others c j ne = get_or-set_other c.args.self.now.stints.items c.args.lane j (Some c.in-Held.stint) None ne
