-- A lane of which nothing is unanswered is given back; otherwise its entry is as it was.
use Rattle.std.proofs.Common.{◌≡◌, ◌∙◌, refl, sym, ap, subst, [], None, Some, length, ◌<◌, arith, set}
use Rattle.std.proofs.lemmas.List.{get_or-set_same, get_or-set_other}
use Rattle.std.specs.Option.{is_some}
use Rattle.lane_rings.specs.Ends.{unanswered}
use Rattle.flow_claims.specs.Claims.{seating}
use Rattle.event_ports.specs.Flows.{hands_of}
use Rattle.event_ports.specs.Holds.{entry_at, held_now, IsDrained}
use Rattle.event_ports.proofs.Calls.{same_more}
use Rattle.event_ports.proofs.Claiming.{asks_same}
use Rattle.event_ports.proofs.Entries.{none_left, place_read, same_list}
use Rattle.event_ports.proofs.Turns.{entries_back, same_back}
use Rattle.event_ports.proofs.Looks.{free_drained}
use Rattle.event_ports.proofs.flows.FlowLanes.leave.Goals as goal

pub invariant_of-self : goal.invariant_of-self
invariant_of-self c =
    let f = c.args.self.now in
    let within : c.args.lane < length f.stints.items = omega (arith, f.are.entries, c.requires) in
    let back : set f.stints.items c.args.lane c.index_mut.result.now ≡ f.stints.items =
    same_list _ _ _ (place_read _ _ _ _ c.index_mut.ensures.value refl within) in
    let same = entries_back _ _ _ f.held _ _ back f.are f.has_held in
    record { are = same.0; placed = f.placed; has_held = same.1 }

pub returns-in_default-clause-same : goal.returns-in_default-clause-same
returns-in_default-clause-same c =
    let f = c.args.self.now in
    let within : c.args.lane < length f.stints.items = omega (arith, f.are.entries, c.requires) in
    same_back (seating f.seat) _ _ (same_list _ _ _ (place_read _ _ _ _ c.index_mut.ensures.value refl within))

pub returns-in_default-clause-left : goal.returns-in_default-clause-left
returns-in_default-clause-left c none =
    let f = c.args.self.now in
    let within : c.args.lane < length f.stints.items = omega (arith, f.are.entries, c.requires) in
    ap is_some (get_or-set_same f.stints.items c.args.lane c.index_mut.result.now None within ∙ c.in_default.is)

pub returns-in_default-clause-elsewhere : goal.returns-in_default-clause-elsewhere
returns-in_default-clause-elsewhere c j ne = ap is_some (get_or-set_other c.args.self.now.stints.items c.args.lane j c.index_mut.result.now None ne)

pub returns-then-held-gt0-clause-same : goal.returns-then-held-gt0-clause-same
returns-then-held-gt0-clause-same c =
    let f = c.args.self.now in
    let within : c.args.lane < length f.stints.items = omega (arith, f.are.entries, c.requires) in
    same_back (seating f.seat) _ _ (same_list _ _ _ (place_read _ _ _ _ c.index_mut.ensures.value c.in-Some.is within))

pub returns-then-held-gt0-clause-left : goal.returns-then-held-gt0-clause-left
returns-then-held-gt0-clause-left c none =
    let f = c.args.self.now in
    let within : c.args.lane < length f.stints.items = omega (arith, f.are.entries, c.requires) in
    let at : entry_at f.stints.items c.args.lane ≡ Some c.in-Some.stint = place_read _ _ _ _ c.index_mut.ensures.value c.in-Some.is within in
    let left : unanswered c.in-Some.stint.far ≡ [] = sym (ap held_now at) ∙ none in
    absurd (omega (arith, ap length left, c.held.ensures.value, c.if-held-gt0.true))

pub returns-then-held-gt0-clause-elsewhere : goal.returns-then-held-gt0-clause-elsewhere
returns-then-held-gt0-clause-elsewhere c j ne = ap is_some (get_or-set_other c.args.self.now.stints.items c.args.lane j (Some c.in-Some.stint) None ne)

pub invariant_of-self-2 : goal.invariant_of-self-2
invariant_of-self-2 c =
    let f = c.args.self.now in
    let within : c.args.lane < length f.stints.items = omega (arith, f.are.entries, c.requires) in
    let back : set f.stints.items c.args.lane (Some c.in-Some.stint) ≡ f.stints.items =
    same_list _ _ _ (place_read _ _ _ _ c.index_mut.ensures.value c.in-Some.is within) in
    let same = entries_back _ _ _ f.held _ _ back f.are f.has_held in
    record { are = same.0; placed = f.placed; has_held = same.1 }

pub give_back-requires-clause-answered : goal.give_back-requires-clause-answered
give_back-requires-clause-answered c =
    let f = c.args.self.now in
    let within : c.args.lane < length f.stints.items = omega (arith, f.are.entries, c.requires) in
    ap held_now (get_or-set_same f.stints.items c.args.lane (Some c.in-Some.stint) None within)
    ∙ none_left (unanswered c.in-Some.stint.far) (omega (arith, c.held.ensures.value, c.if-held-gt0.false))

pub returns-clause-same : goal.returns-clause-same
returns-clause-same c =
    let f = c.args.self.now in
    let within : c.args.lane < length f.stints.items = omega (arith, f.are.entries, c.requires) in
    same_more (hands_of f) _ _ (same_back (seating f.seat) _ _ (same_list _ _ _ (place_read _ _ _ _ c.index_mut.ensures.value c.in-Some.is within))) c.give_back.ensures.same

pub returns-clause-left : goal.returns-clause-left
returns-clause-left c none = c.give_back.ensures.left

pub returns-clause-elsewhere : goal.returns-clause-elsewhere
returns-clause-elsewhere c j ne = c.give_back.ensures.elsewhere j ne ∙ ap is_some (get_or-set_other c.args.self.now.stints.items c.args.lane j (Some c.in-Some.stint) None ne)

pub returns-in_default-clause-asks : goal.returns-in_default-clause-asks
returns-in_default-clause-asks c = asks_same _ _ refl

pub returns-then-held-gt0-clause-asks : goal.returns-then-held-gt0-clause-asks
returns-then-held-gt0-clause-asks c = asks_same _ _ refl

pub returns-clause-asks : goal.returns-clause-asks
returns-clause-asks c = c.give_back.ensures.asks

pub returns-in_default-clause-others : goal.returns-in_default-clause-others
returns-in_default-clause-others c j ne = get_or-set_other c.args.self.now.stints.items c.args.lane j c.index_mut.result.now None ne

pub returns-then-held-gt0-clause-others : goal.returns-then-held-gt0-clause-others
returns-then-held-gt0-clause-others c j ne = get_or-set_other c.args.self.now.stints.items c.args.lane j (Some c.in-Some.stint) None ne

pub returns-clause-others : goal.returns-clause-others
returns-clause-others c j ne = c.give_back.ensures.others j ne ∙ get_or-set_other c.args.self.now.stints.items c.args.lane j (Some c.in-Some.stint) None ne

pub returns-in_default-clause-drained : goal.returns-in_default-clause-drained
returns-in_default-clause-drained c was =
    let f = c.args.self.now in
    let within : c.args.lane < length f.stints.items = omega (arith, f.are.entries, c.requires) in
    free_drained _ (ap is_some (get_or-set_same f.stints.items c.args.lane c.index_mut.result.now None within ∙ c.in_default.is))

pub returns-then-held-gt0-clause-drained : goal.returns-then-held-gt0-clause-drained
returns-then-held-gt0-clause-drained c was =
    let f = c.args.self.now in
    let within : c.args.lane < length f.stints.items = omega (arith, f.are.entries, c.requires) in
    let at : entry_at f.stints.items c.args.lane ≡ Some c.in-Some.stint = place_read _ _ _ _ c.index_mut.ensures.value c.in-Some.is within in
    subst IsDrained (at ∙ sym (get_or-set_same f.stints.items c.args.lane (Some c.in-Some.stint) None within)) was

pub returns-clause-drained : goal.returns-clause-drained
returns-clause-drained c was = free_drained _ c.give_back.ensures.left
