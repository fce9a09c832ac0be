use Rattle.std.proofs.Common.{◌<◌, ◌+◌, ◌-◌, true, false, option_copied, subst, sym, ◌∙◌, length, arith, ◌≡◌, ℕ, List, Vec, Global}
use Rattle.std.proofs.lemmas.Bool.{ltb-true}
use Rattle.evt_types.specs.Plan.{Plan, bound_of}
use Rattle.transcripts.specs.Standing.{View, inside_of, unanswered_at}
use Rattle.sched_core.proofs.Answering.{answer_leaves_room, core_answered, oldest_has_pin, oldest_is_open, oldest_order, oldest_pins, oldest_places, oldest_queue, view_answered}
use Rattle.sched_core.proofs.Cores.{lane_there}
use Rattle.sched_core.proofs.OpenLanes.{held_here}
use Rattle.sched_core.specs.OpenSlots.{IsOpened}
use Rattle.sched_core.specs.Ordered.{outcome_of}
use Rattle.std.specs.Vec.{with_items}
use Rattle.std.proofs.lemmas.List.{with_items_is}
use Rattle.small_set.specs.declared.set.SmallSet.{SmallSet}
use Rattle.sched_core.specs.View.{view_in}
use Rattle.sched_core.proofs.state.Core.answer.Goals as goal
use Rattle.sched_core.proofs.state.Core.answer.Goals.{then-kept, else-kept}

-- the slots are opened in the vector as they are in what it holds
opening : (p : Plan) (l : ℕ) (sets : Vec SmallSet Global) (was now : List SmallSet) → was ≡ sets.items → length was ≡ sets.len → IsOpened p l was now → IsOpened p l sets.items (with_items sets now).items
opening p l sets was now value len opens =
    subst (IsOpened p l sets.items) (sym (with_items_is sets now (opens.count ∙ len))) (subst (λ xs. IsOpened p l xs now) value opens)

pub pop-entry-requires-clause-there : goal.pop-entry-requires-clause-there
pop-entry-requires-clause-there g c = lane_there c.self.inside c.args.self.now c.args.lane c.self.invariant c.self.view_is c.requires.lane

pub pop-entry-requires-clause-some : goal.pop-entry-requires-clause-some
pop-entry-requires-clause-some g c =
    let some : 0 < length (unanswered_at (view_in c.self.inside) c.args.lane) = subst (λ (v : View). 0 < length (unanswered_at v c.args.lane)) (sym c.self.view_is) (ltb-true 0 _ c.requires.some) in
    omega (arith, some, held_here c.self.inside c.args.lane (pop-entry-requires-clause-there g c))

pub unpin-requires-clause-there : goal.unpin-requires-clause-there
unpin-requires-clause-there g c = oldest_pins c.self.inside c.args.self.now c.args.lane c.pop-entry.result c.self.invariant c.self.view_is c.requires.lane c.pop-entry.ensures.oldest

pub unpin-requires-clause-held : goal.unpin-requires-clause-held
unpin-requires-clause-held g c = oldest_has_pin c.self.inside c.args.self.now c.args.lane c.pop-entry.result c.self.invariant c.self.view_is c.requires.lane c.pop-entry.ensures.oldest

pub resolve-kept-requires-clause-there : goal.resolve-kept-requires-clause-there
resolve-kept-requires-clause-there g c = oldest_order c.self.inside c.args.self.now c.args.lane c.pop-entry.result c.self.invariant c.self.view_is c.requires.lane c.pop-entry.ensures.oldest

pub resolve-kept-requires-clause-open : goal.resolve-kept-requires-clause-open
resolve-kept-requires-clause-open g c = oldest_is_open c.self.inside c.args.self.now c.args.lane c.pop-entry.result c.self.invariant c.self.view_is c.requires.lane c.pop-entry.ensures.oldest

pub invariant_of-self : goal.invariant_of-self
invariant_of-self g c = core_answered c.self.inside c.args.self.now c.args.lane c.pop-entry.result c.self.invariant c.self.view_is c.requires.lane c.pop-entry.ensures.oldest (option_copied c.args.forward) c.requires.outcome c.resolve-kept.new.self c.pop-entry.new.self c.resolve-kept.ensures.resolved c.pop-entry.ensures.rest (with_items c.self.inside.open_slots c.open_slot.new.open_slots) c.unpin.new.self true (opening c.self.inside.shape c.args.lane c.self.inside.open_slots c.deref_mut.result.now c.open_slot.new.open_slots c.deref_mut.ensures.value c.deref_mut.ensures.len c.open_slot.ensures) c.requires.entries c.unpin.ensures (sym c.resolve-kept.ensures.kept ∙ c.if-kept.true)

pub invariant_of-self-else-kept : goal.invariant_of-self-else-kept
invariant_of-self-else-kept g c = core_answered c.self.inside c.args.self.now c.args.lane c.pop-entry.result c.self.invariant c.self.view_is c.requires.lane c.pop-entry.ensures.oldest (option_copied c.args.forward) c.requires.outcome c.resolve-kept.new.self c.pop-entry.new.self c.resolve-kept.ensures.resolved c.pop-entry.ensures.rest (with_items c.self.inside.open_slots c.open_slot.new.open_slots) c.unpin.new.self false (opening c.self.inside.shape c.args.lane c.self.inside.open_slots c.deref_mut.result.now c.open_slot.new.open_slots c.deref_mut.ensures.value c.deref_mut.ensures.len c.open_slot.ensures) c.requires.entries c.unpin.ensures (sym c.resolve-kept.ensures.kept ∙ c.if-kept.false)

pub returns-clause-queue : goal.returns-clause-queue
returns-clause-queue g c = oldest_queue c.self.inside c.args.self.now c.args.lane c.pop-entry.result c.self.invariant c.self.view_is c.requires.lane c.pop-entry.ensures.oldest

pub returns-clause-places : goal.returns-clause-places
returns-clause-places g c = oldest_places c.self.inside c.args.self.now c.args.lane c.pop-entry.result c.self.invariant c.self.view_is c.requires.lane c.pop-entry.ensures.oldest

pub returns-clause-view : goal.returns-clause-view
returns-clause-view g c =
    elim c.if-kept.branch [
      | then-kept w ↦ w.self-is ∙ view_answered c.self.inside c.args.self.now c.args.lane c.pop-entry.result c.self.invariant c.self.view_is c.requires.lane c.pop-entry.ensures.oldest (option_copied c.args.forward) c.requires.outcome c.resolve-kept.new.self c.pop-entry.new.self c.resolve-kept.ensures.resolved c.pop-entry.ensures.rest c.unpin.new.self c.self.inside.inside (c.self.inside.entries + 1)
      | else-kept w ↦ w.self-is ∙ view_answered c.self.inside c.args.self.now c.args.lane c.pop-entry.result c.self.invariant c.self.view_is c.requires.lane c.pop-entry.ensures.oldest (option_copied c.args.forward) c.requires.outcome c.resolve-kept.new.self c.pop-entry.new.self c.resolve-kept.ensures.resolved c.pop-entry.ensures.rest c.unpin.new.self (c.self.inside.inside - 1) c.self.inside.entries
    ]

pub returns-clause-fewer : goal.returns-clause-fewer
returns-clause-fewer g c plain = subst (λ v. inside_of v < bound_of c.args.self.now.shape) (sym (returns-clause-view g c)) (answer_leaves_room c.self.inside c.args.self.now c.args.lane c.pop-entry.result c.self.invariant c.self.view_is c.requires.lane c.pop-entry.ensures.oldest (outcome_of (option_copied c.args.forward)) plain)
