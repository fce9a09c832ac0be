-- What receipts make of the port's flow lanes.
use Rattle.std.proofs.Common.{◌≡◌, ◌∙◌, None, Some, length, ◌<◌, refl, sym, ap, subst, arith}
use Rattle.std.proofs.lemmas.List.{get_or-set_same, get_or-set_other}
use Rattle.std.specs.Option.{is_some}
use Rattle.flow_claims.specs.Claims.{seating}
use Rattle.event_ports.specs.Flows.{hands_of}
use Rattle.event_ports.specs.Holds.{Brings, IsDrained, entry_at}
use Rattle.event_ports.proofs.Calls.{brings_none}
use Rattle.event_ports.proofs.Entries.{hands, place_read, same_list}
use Rattle.event_ports.proofs.Turns.{turned, brought}
use Rattle.event_ports.proofs.Looks.{free_drained, held_same}
use Rattle.event_ports.proofs.flows.FlowLanes.receive_some.Goals as goal

pub invariant_of-self-2 : goal.invariant_of-self-2
invariant_of-self-2 c =
    let are = c.args.self.now.are in
    let within : c.args.lane < length c.args.self.now.stints.items = omega (arith, are.entries, c.requires.exists) in
    let at : entry_at c.args.self.now.stints.items c.args.lane ≡ Some c.in-Some.stint = place_read _ _ _ _ c.index_mut.ensures.value c.in-Some.is within in
    record {
      are = turned _ _ c.args.self.now.seat _ _ c.in-Some.stint _ are at c.requires.exists c.receive_waiting-some_left.ensures.lane.0 (c.receive_waiting-some_left.ensures.open _);
      placed = c.args.self.now.placed;
      has_held = held_same c.args.self.now.held c.args.self.now.stints.items c.args.lane _ (Some c.receive_waiting-some_left.new.self) within at refl c.args.self.now.has_held;
    }

pub returns-clause-lists : goal.returns-clause-lists
returns-clause-lists c =
    let are = c.args.self.now.are in
    let within : c.args.lane < length c.args.self.now.stints.items = omega (arith, are.entries, c.requires.exists) in
    let at : entry_at c.args.self.now.stints.items c.args.lane ≡ Some c.in-Some.stint = place_read _ _ _ _ c.index_mut.ensures.value c.in-Some.is within in
    brought _ _ c.args.self.now.seat _ _ c.in-Some.stint c.receive_waiting-some_left.new.self are at c.requires.exists c.args.into.now.items c.receive_waiting-some_left.new.into.items
    ((are.each c.args.lane).held c.in-Some.stint at).open_is c.receive_waiting-some_left.ensures.came c.receive_waiting-some_left.ensures.so_far c.receive_waiting-some_left.ensures.answered c.receive_waiting-some_left.ensures.far.1

pub returns-in_default-clause-lists : goal.returns-in_default-clause-lists
returns-in_default-clause-lists c =
    let within : c.args.lane < length c.args.self.now.stints.items = omega (arith, c.args.self.now.are.entries, c.requires.exists) in
    let same = same_list c.args.self.now.stints.items c.args.lane c.index_mut.result.now (place_read _ _ _ _ c.index_mut.ensures.value refl within) in
    subst (λ ss. Brings c.args.lane (hands_of c.args.self.now) c.args.into.now.items (hands (seating c.args.self.now.seat) ss) c.args.into.now.items) (sym same) (brings_none c.args.lane _ _)

pub returns-clause-others : goal.returns-clause-others
returns-clause-others c j ne = get_or-set_other c.args.self.now.stints.items c.args.lane j (Some c.receive_waiting-some_left.new.self) None ne

pub returns-in_default-clause-others : goal.returns-in_default-clause-others
returns-in_default-clause-others c j ne = get_or-set_other c.args.self.now.stints.items c.args.lane j c.index_mut.result.now None ne

pub returns-clause-drained : goal.returns-clause-drained
returns-clause-drained c few =
    let within : c.args.lane < length c.args.self.now.stints.items = omega (arith, c.args.self.now.are.entries, c.requires.exists) in
    subst IsDrained (sym (get_or-set_same c.args.self.now.stints.items c.args.lane (Some c.receive_waiting-some_left.new.self) None within)) (c.receive_waiting-some_left.ensures.drained few)

pub returns-in_default-clause-drained : goal.returns-in_default-clause-drained
returns-in_default-clause-drained c few =
    let within : c.args.lane < length c.args.self.now.stints.items = omega (arith, c.args.self.now.are.entries, c.requires.exists) in
    free_drained _ (ap is_some (get_or-set_same c.args.self.now.stints.items c.args.lane c.index_mut.result.now None within ∙ c.in_default.is))
