-- What an answer makes of the port's flow lanes.
use Rattle.std.proofs.Common.{◌≡◌, ◌≢◌, ◌∙◌, [], None, Some, Option, ◌<◌, IfErr, refl, sym, ap, subst, set, arith, length}
use Rattle.std.proofs.lemmas.List.{get_or-set_same}
use Rattle.std.specs.Option.{is_some}
use Rattle.lane_rings.specs.Ends.{unanswered}
use Rattle.lane_rings.specs.declared.far.Refusal.TheVariants.{Full}
use Rattle.flow_claims.specs.declared.claim.Stint.{Stint}
use Rattle.flow_claims.specs.Claims.{seating}
use Rattle.event_ports.specs.Holds.{entry_at, extras_now, held_now, IsFilledBy}
use Rattle.event_ports.specs.Lanes.{reply_of}
use Rattle.event_ports.proofs.Entries.{Stints, at_each, place_read, same_list}
use Rattle.event_ports.proofs.Refusals.{all_full}
use Rattle.event_ports.proofs.Turns.{entries_back, answered_lists, same_back, turned}
use Rattle.event_ports.proofs.Looks.{held_same}
use Rattle.event_ports.proofs.flows.FlowLanes.answer.Goals as goal

pub returns-clause-lists : goal.returns-clause-lists
returns-clause-lists c =
    let f = c.args.self.now in
    let within : c.args.lane < length f.stints.items = omega (arith, f.are.entries, c.requires.exists) in
    let at : entry_at f.stints.items c.args.lane ≡ Some c.in-Some.stint = place_read _ _ _ _ c.index_mut.ensures.value c.in-Some.is within in
    answered_lists _ _ f.seat _ _ c.in-Some.stint c.submit.new.self f.are at c.requires.exists (reply_of c.args.event.now) c.submit.result
    ((f.are.each c.args.lane).held c.in-Some.stint at).open_is c.submit.ensures.far.held c.submit.ensures.so_far c.submit.ensures.received c.submit.ensures.far.answered_is

pub invariant_of-self : goal.invariant_of-self
invariant_of-self c =
    let f = c.args.self.now in
    let within : c.args.lane < length f.stints.items = omega (arith, f.are.entries, c.requires.exists) in
    let back : set f.stints.items c.args.lane c.index_mut.result.now ≡ f.stints.items = same_list _ _ _ (place_read _ _ _ _ c.index_mut.ensures.value refl within) in
    let same = entries_back _ _ _ f.held _ _ back f.are f.has_held in
    record { are = same.0; placed = f.placed; has_held = same.1 }

pub returns-in_default-clause-lists : goal.returns-in_default-clause-lists
returns-in_default-clause-lists c =
    let f = c.args.self.now in
    let within : c.args.lane < length f.stints.items = omega (arith, f.are.entries, c.requires.exists) in
    same_back (seating f.seat) _ _ (same_list _ _ _ (place_read _ _ _ _ c.index_mut.ensures.value refl within))

pub returns-in_default-clause-entries : goal.returns-in_default-clause-entries
returns-in_default-clause-entries c j =
    let f = c.args.self.now in
    let within : c.args.lane < length f.stints.items = omega (arith, f.are.entries, c.requires.exists) in
    let back : set f.stints.items c.args.lane c.index_mut.result.now ≡ f.stints.items = same_list _ _ _ (place_read _ _ _ _ c.index_mut.ensures.value refl within) in
    ap (λ (ss : Stints). is_some (entry_at ss j)) back

pub returns-in_default-clause-refused : goal.returns-in_default-clause-refused
returns-in_default-clause-refused c =
    let f = c.args.self.now in
    let within : c.args.lane < length f.stints.items = omega (arith, f.are.entries, c.requires.exists) in
    let at : entry_at f.stints.items c.args.lane ≡ None = place_read _ _ _ _ c.index_mut.ensures.value c.in_default.is within in
    absurd (c.requires.held (ap held_now at))

pub invariant_of-self-2 : goal.invariant_of-self-2
invariant_of-self-2 c =
    let f = c.args.self.now in
    let within : c.args.lane < length f.stints.items = omega (arith, f.are.entries, c.requires.exists) in
    let at : entry_at f.stints.items c.args.lane ≡ Some c.in-Some.stint = place_read _ _ _ _ c.index_mut.ensures.value c.in-Some.is within in
    record {
      are = turned _ _ f.seat _ _ c.in-Some.stint _ f.are at c.requires.exists c.submit.ensures.lane.0 (c.submit.ensures.open _);
      placed = f.placed;
      has_held = held_same f.held f.stints.items c.args.lane _ (Some c.submit.new.self) within at refl f.has_held;
    }

pub returns-clause-entries : goal.returns-clause-entries
returns-clause-entries c =
    let f = c.args.self.now in
    let within : c.args.lane < length f.stints.items = omega (arith, f.are.entries, c.requires.exists) in
    let at : entry_at f.stints.items c.args.lane ≡ Some c.in-Some.stint = place_read _ _ _ _ c.index_mut.ensures.value c.in-Some.is within in
    at_each (λ o p. is_some p ≡ is_some o) f.stints.items c.args.lane (Some c.submit.new.self) within (ap is_some (sym at)) (λ o. refl)

pub returns-clause-refused : goal.returns-clause-refused
returns-clause-refused c =
    let f = c.args.self.now in
    let within : c.args.lane < length f.stints.items = omega (arith, f.are.entries, c.requires.exists) in
    let at : entry_at f.stints.items c.args.lane ≡ Some c.in-Some.stint = place_read _ _ _ _ c.index_mut.ensures.value c.in-Some.is within in
    let some : unanswered c.in-Some.stint.far ≢ [] = λ none. c.requires.held (ap held_now at ∙ none) in
    let Refused : Option Stint → Type 0 = λ o. IfErr c.submit.result (λ e. (e ≡ Full) × IsFilledBy o) in
    subst Refused (sym (get_or-set_same f.stints.items c.args.lane (Some c.submit.new.self) None within))
    (all_full c.in-Some.stint.far c.submit.new.self.far (reply_of c.args.event.now) c.submit.result c.submit.ensures.far.refused some
    (λ more. omega (arith, c.requires.few more, ap extras_now at)) c.submit.ensures.far.lane c.submit.ensures.far.answered_is)
