-- A join keeps the rule.
use Rattle.std.proofs.Common.{◌≡◌, ◌++◌, ◌∙◌, map, ap, sym, subst, arith, append-nil, List, All}
use Rattle.flow_claims.specs.declared.seating.Begun.{Begun}
use Rattle.flow_claims.specs.Seats.{slot_of}
use Rattle.flow_claims.proofs.Parts.{joins}
use Rattle.flow_claims.proofs.Calls.{joined_slots, joined_lanes}
use Rattle.flow_claims.proofs.claims.Claims.join.Goals as goal

pub join_seat-requires : goal.join_seat-requires
join_seat-requires c = (
  c.requires.first.0,
  c.requires.second.0,
  c.args.b.slots ∙ ap (map slot_of) c.requires.none_open,
  omega (arith, c.args.self.now.words),
  joins _ _ _ _ _ c.args.a.has_part c.args.b.has_part c.args.b.none_closed,
)

pub invariant_of-a-clause-slots : goal.invariant_of-a-clause-slots
invariant_of-a-clause-slots c = joined_slots c.args.a.seat.me c.join_seat.new.seat.me c.args.b.seat.me.0 c.join_seat.ensures.2 c.args.a.slots c.requires.none_open

pub invariant_of-a-clause-lanes_exist : goal.invariant_of-a-clause-lanes_exist
invariant_of-a-clause-lanes_exist c = joined_lanes c.args.a.seat.me c.join_seat.new.seat.me c.args.b.seat.me.0 c.join_seat.ensures.2 c.args.a.lanes_exist c.args.b.lanes_exist (c.requires.second.1 ∙ sym c.requires.first.1)

pub invariant_of-a-clause-own_port : goal.invariant_of-a-clause-own_port
invariant_of-a-clause-own_port c =
    let Own : List Begun → Type 0 = All (λ b. b.port ≡ c.args.a.port) in
    subst Own (sym (ap (λ m. m.0.held) c.join_seat.ensures.2 ∙ ap (λ bs. c.args.a.seat.me.0.held ++ bs) c.requires.none_open ∙ append-nil c.args.a.seat.me.0.held)) c.args.a.own_port
