-- What the end of a stint of which nothing is unanswered makes of the port's flow lanes.
use Rattle.std.proofs.Common.{◌≡◌, ◌∙◌, refl, sym, ap, subst, false, [], Some, None, Option, length, ◌<◌, arith, set}
use Rattle.std.proofs.lemmas.List.{get_or-set_same, get_or-set_other}
use Rattle.std.specs.Arc.{arc_value}
use Rattle.std.specs.Option.{is_some}
use Rattle.lane_rings.specs.Ends.{unanswered}
use Rattle.flow_claims.specs.declared.claims.Claims.{Claims}
use Rattle.flow_claims.specs.declared.claim.Stint.{Stint}
use Rattle.flow_claims.specs.Answers.{EndsStint}
use Rattle.flow_claims.specs.Claims.{seating, claims_id, lanes_of}
use Rattle.event_ports.specs.Holds.{entry_at, held_now, AreFlows, Same}
use Rattle.event_ports.proofs.Claiming.{asks_same}
use Rattle.event_ports.specs.Looks.{HasHeld}
use Rattle.event_ports.proofs.Entries.{hands, place_read, place_there, same_list}
use Rattle.event_ports.proofs.Turns.{entries_back, ended, left_same, same_back}
use Rattle.event_ports.proofs.Looks.{held_less}
use Rattle.event_ports.proofs.flows.FlowLanes.give_back.Goals as goal

pub invariant_of-self-2 : goal.invariant_of-self-2
invariant_of-self-2 c =
    let within : c.args.lane < length c.args.self.now.stints.items = omega (arith, c.args.self.now.are.entries, c.requires.exists) in
    let at : entry_at c.args.self.now.stints.items c.args.lane ≡ Some c.in-Some.stint =
    place_read _ _ _ _ c.index_mut.ensures.value (sym c.take.ensures.value ∙ c.in-Some.is) within in
    let Over : Claims → Type 0 = λ k. EndsStint k false c.in-Some.stint c.args.self.now.seat c.give_back.new.seat in
    let Are : Option Stint → Type 0 = λ o. AreFlows (arc_value c.args.self.now.claims) c.give_back.new.seat (set c.args.self.now.stints.items c.args.lane o) c.args.self.now.links.items in
    let Held : Option Stint → Type 0 = λ o. HasHeld c.remove.new.self (set c.args.self.now.stints.items c.args.lane o) in
    record {
      are = subst Are (sym c.take.ensures.after) (ended _ _ c.args.self.now.seat c.give_back.new.seat _ _ c.in-Some.stint false c.args.self.now.are (subst Over c.deref.ensures c.give_back.ensures) at c.requires.exists);
      placed = c.args.self.now.placed;
      has_held = subst Held (sym c.take.ensures.after) (held_less c.args.self.now.held c.remove.new.self c.args.self.now.stints.items c.args.lane within c.remove.ensures.others c.args.self.now.has_held);
    }

pub returns-clause-same : goal.returns-clause-same
returns-clause-same c =
    let are = c.args.self.now.are in
    let at : entry_at c.args.self.now.stints.items c.args.lane ≡ Some c.in-Some.stint =
    place_there _ _ _ _ c.args.lane _ _ c.args.self.now.are c.requires.exists c.index_mut.ensures.value (sym c.take.ensures.value ∙ c.in-Some.is) in
    let Over : Claims → Type 0 = λ k. EndsStint k false c.in-Some.stint c.args.self.now.seat c.give_back.new.seat in
    let none : unanswered c.in-Some.stint.far ≡ [] = sym (ap held_now at) ∙ c.requires.answered in
    let To : Option Stint → Type 0 = λ o. Same (hands (seating c.args.self.now.seat) c.args.self.now.stints.items) (hands (seating c.give_back.new.seat) (set c.args.self.now.stints.items c.args.lane o)) in
    subst To (sym c.take.ensures.after)
    (left_same _ _ c.args.self.now.seat c.give_back.new.seat _ _ c.in-Some.stint false are (subst Over c.deref.ensures c.give_back.ensures) at c.requires.exists refl none)

pub invariant_of-self : goal.invariant_of-self
invariant_of-self c =
    let f = c.args.self.now in
    let within : c.args.lane < length f.stints.items = omega (arith, f.are.entries, c.requires.exists) in
    let back : set f.stints.items c.args.lane c.take.new.self ≡ f.stints.items =
    ap (set f.stints.items c.args.lane) c.take.ensures.after ∙ same_list _ _ _ (place_read _ _ _ _ c.index_mut.ensures.value (sym c.take.ensures.value ∙ c.in_default.is) within) in
    let same = entries_back _ _ _ f.held _ _ back f.are f.has_held in
    record { are = same.0; placed = f.placed; has_held = same.1 }

pub returns-in_default-clause-same : goal.returns-in_default-clause-same
returns-in_default-clause-same c =
    let f = c.args.self.now in
    let within : c.args.lane < length f.stints.items = omega (arith, f.are.entries, c.requires.exists) in
    let back : set f.stints.items c.args.lane c.take.new.self ≡ f.stints.items =
    ap (set f.stints.items c.args.lane) c.take.ensures.after ∙ same_list _ _ _ (place_read _ _ _ _ c.index_mut.ensures.value (sym c.take.ensures.value ∙ c.in_default.is) within) in
    same_back (seating f.seat) _ _ back

pub returns-in_default-clause-left : goal.returns-in_default-clause-left
returns-in_default-clause-left c =
    let f = c.args.self.now in
    let within : c.args.lane < length f.stints.items = omega (arith, f.are.entries, c.requires.exists) in
    ap is_some (get_or-set_same f.stints.items c.args.lane c.take.new.self None within ∙ c.take.ensures.after)

pub returns-in_default-clause-elsewhere : goal.returns-in_default-clause-elsewhere
returns-in_default-clause-elsewhere c j ne = ap is_some (get_or-set_other c.args.self.now.stints.items c.args.lane j c.take.new.self None ne)

pub give_back-requires-clause-seat : goal.give_back-requires-clause-seat
give_back-requires-clause-seat c =
    let seat_of = c.args.self.now.are.seat_of in
    (seat_of.0 ∙ sym (ap claims_id c.deref.ensures), seat_of.1 ∙ sym (ap lanes_of c.deref.ensures))

pub give_back-requires-clause-open : goal.give_back-requires-clause-open
give_back-requires-clause-open c =
    ((c.args.self.now.are.each c.args.lane).held c.in-Some.stint
    (place_there _ _ _ _ c.args.lane _ _ c.args.self.now.are c.requires.exists c.index_mut.ensures.value (sym c.take.ensures.value ∙ c.in-Some.is))).open_is

pub give_back-requires-clause-answered : goal.give_back-requires-clause-answered
give_back-requires-clause-answered c =
    sym (ap held_now (place_there _ _ _ _ c.args.lane _ _ c.args.self.now.are c.requires.exists c.index_mut.ensures.value (sym c.take.ensures.value ∙ c.in-Some.is))) ∙ c.requires.answered

pub returns-clause-left : goal.returns-clause-left
returns-clause-left c =
    let f = c.args.self.now in
    let within : c.args.lane < length f.stints.items = omega (arith, f.are.entries, c.requires.exists) in
    ap is_some (get_or-set_same f.stints.items c.args.lane c.take.new.self None within ∙ c.take.ensures.after)

pub returns-clause-elsewhere : goal.returns-clause-elsewhere
returns-clause-elsewhere c j ne = ap is_some (get_or-set_other c.args.self.now.stints.items c.args.lane j c.take.new.self None ne)

pub returns-in_default-clause-asks : goal.returns-in_default-clause-asks
returns-in_default-clause-asks c = asks_same _ _ refl

pub returns-clause-asks : goal.returns-clause-asks
returns-clause-asks c = c.give_back.ensures.reads

pub returns-in_default-clause-others : goal.returns-in_default-clause-others
returns-in_default-clause-others c j ne = get_or-set_other c.args.self.now.stints.items c.args.lane j c.take.new.self None ne

pub returns-clause-others : goal.returns-clause-others
returns-clause-others c j ne = get_or-set_other c.args.self.now.stints.items c.args.lane j c.take.new.self None ne
