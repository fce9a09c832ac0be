-- What the surrender of a lane makes of the port's flow lanes.
use Rattle.std.proofs.Common.{◌≡◌, ◌∙◌, refl, sym, subst, true, Some, None, Option, length, ◌<◌, arith, set}
use Rattle.std.proofs.lemmas.Bool.{false≢true}
use Rattle.std.specs.Arc.{arc_value}
use Rattle.flow_claims.specs.declared.claims.Claims.{Claims}
use Rattle.flow_claims.specs.declared.claim.Stint.{Stint}
use Rattle.flow_claims.specs.Answers.{EndsStint}
use Rattle.flow_claims.specs.Claims.{seating}
use Rattle.event_ports.specs.Holds.{entry_at, AreFlows, Kept}
use Rattle.event_ports.specs.Looks.{HasHeld}
use Rattle.event_ports.proofs.Entries.{hands, place_read, place_there}
use Rattle.event_ports.proofs.Turns.{ended, all_kept, ended_but, ended_received, ended_answered, ended_left, ended_free}
use Rattle.event_ports.proofs.Looks.{held_set}
use Rattle.event_ports.proofs.flows.FlowLanes.surrender.Goals as goal

pub surrender-requires-clause-open : goal.surrender-requires-clause-open
surrender-requires-clause-open c =
    ((c.args.self.now.are.each c.args.lane).held c.in-Some.stint
    (place_there _ _ _ _ c.args.lane _ _ c.args.self.now.are c.requires.exists c.index_mut.ensures.value (sym c.take.ensures.value ∙ c.in-Some.is))).open_is

pub invariant_of-self-2 : goal.invariant_of-self-2
invariant_of-self-2 c =
    let are = c.args.self.now.are in
    let within : c.args.lane < length c.args.self.now.stints.items = omega (arith, are.entries, c.requires.exists) in
    let at : entry_at c.args.self.now.stints.items c.args.lane ≡ Some c.in-Some.stint =
    place_read _ _ _ _ c.index_mut.ensures.value (sym c.take.ensures.value ∙ c.in-Some.is) within in
    let Over : Claims → Type 0 = λ k. EndsStint k true c.in-Some.stint c.args.self.now.seat c.surrender.new.seat in
    let Are : Option Stint → Type 0 = λ o. AreFlows (arc_value c.args.self.now.claims) c.surrender.new.seat (set c.args.self.now.stints.items c.args.lane o) c.args.self.now.links.items in
    let Held : Option Stint → Type 0 = λ o. HasHeld c.args.self.now.held (set c.args.self.now.stints.items c.args.lane o) in
    record {
      are = subst Are (sym c.take.ensures.after) (ended _ _ c.args.self.now.seat c.surrender.new.seat _ _ c.in-Some.stint true are (subst Over c.deref.ensures c.surrender.ensures) at c.requires.exists);
      placed = c.args.self.now.placed;
      has_held = subst Held (sym c.take.ensures.after) (held_set c.args.self.now.held c.args.self.now.stints.items c.args.lane None within (λ few is. absurd (false≢true is)) c.args.self.now.has_held);
    }

pub returns-clause-kept : goal.returns-clause-kept
returns-clause-kept c =
    let are = c.args.self.now.are in
    let within : c.args.lane < length c.args.self.now.stints.items = omega (arith, are.entries, c.requires.exists) in
    let at : entry_at c.args.self.now.stints.items c.args.lane ≡ Some c.in-Some.stint =
    place_read _ _ _ _ c.index_mut.ensures.value (sym c.take.ensures.value ∙ c.in-Some.is) within in
    let Over : Claims → Type 0 = λ k. EndsStint k true c.in-Some.stint c.args.self.now.seat c.surrender.new.seat in
    let over = subst Over c.deref.ensures c.surrender.ensures in
    let before = hands (seating c.args.self.now.seat) c.args.self.now.stints.items in
    let after = hands (seating c.surrender.new.seat) (set c.args.self.now.stints.items c.args.lane None) in
    let To : Option Stint → Type 0 = λ o. Kept before (hands (seating c.surrender.new.seat) (set c.args.self.now.stints.items c.args.lane o)) in
    subst To (sym c.take.ensures.after)
    (all_kept c.args.lane before after
    (ended_but _ _ c.args.self.now.seat c.surrender.new.seat _ _ c.in-Some.stint true are over at c.requires.exists)
    (ended_received _ _ c.args.self.now.seat c.surrender.new.seat _ _ c.in-Some.stint true are over at c.requires.exists)
    (ended_answered _ _ c.args.self.now.seat c.surrender.new.seat _ _ c.in-Some.stint true are over at c.requires.exists)
    (ended_left _ _ c.args.self.now.seat c.surrender.new.seat _ _ c.in-Some.stint true are over at c.requires.exists refl)
    (ended_free _ _ c.args.self.now.seat c.surrender.new.seat _ _ c.in-Some.stint true are over at c.requires.exists))
