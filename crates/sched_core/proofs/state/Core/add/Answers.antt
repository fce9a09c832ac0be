use Rattle.std.proofs.Common.{◌+◌, ◌<◌, ◌^◌, true, false, subst, sym, ◌∙◌}
use Rattle.evt_types.specs.Plan.{bound_of}
use Rattle.transcripts.specs.Standing.{entries_of, inside_of}
use Rattle.sched_core.proofs.Adding.{add_leaves, add_room, core_adds, view_adds}
use Rattle.sched_core.proofs.Answering.{oldest_first, oldest_is_open, oldest_order, oldest_queue}
use Rattle.sched_core.proofs.state.Core.add.Goals as goal
use Rattle.sched_core.proofs.state.Core.add.Goals.{then-kept, else-kept}

pub add-kept-requires-clause-there : goal.add-kept-requires-clause-there
add-kept-requires-clause-there g c = oldest_order c.self.inside c.args.self.now c.args.lane c.oldest-entry.result c.self.invariant c.self.view_is c.requires.lane c.oldest-entry.ensures

pub add-kept-requires-clause-open : goal.add-kept-requires-clause-open
add-kept-requires-clause-open g c = oldest_is_open c.self.inside c.args.self.now c.args.lane c.oldest-entry.result c.self.invariant c.self.view_is c.requires.lane c.oldest-entry.ensures

pub add-kept-requires-clause-room : goal.add-kept-requires-clause-room
add-kept-requires-clause-room g c = add_room c.self.inside c.args.self.now c.args.lane c.oldest-entry.result c.self.invariant c.self.view_is c.requires.lane c.oldest-entry.ensures c.args.event.now c.requires.may

pub invariant_of-self : goal.invariant_of-self
invariant_of-self g c = rw c.add-kept.ensures.added (core_adds c.self.inside c.args.self.now c.args.lane c.oldest-entry.result c.self.invariant c.self.view_is c.requires.lane c.oldest-entry.ensures c.args.event.now c.requires.may c.index_mut.result.now true c.index_mut.ensures.value (sym c.if-kept.true ∙ c.add-kept.ensures.kept))

pub invariant_of-self-else-kept : goal.invariant_of-self-else-kept
invariant_of-self-else-kept g c = rw c.add-kept.ensures.added (core_adds c.self.inside c.args.self.now c.args.lane c.oldest-entry.result c.self.invariant c.self.view_is c.requires.lane c.oldest-entry.ensures c.args.event.now c.requires.may c.index_mut.result.now false c.index_mut.ensures.value (sym c.if-kept.false ∙ c.add-kept.ensures.kept))

pub returns-clause-oldest : goal.returns-clause-oldest
returns-clause-oldest g c = oldest_first c.self.inside c.args.self.now c.args.lane c.oldest-entry.result c.self.invariant c.self.view_is c.requires.lane c.oldest-entry.ensures

pub returns-clause-queue : goal.returns-clause-queue
returns-clause-queue g c = oldest_queue c.self.inside c.args.self.now c.args.lane c.oldest-entry.result c.self.invariant c.self.view_is c.requires.lane c.oldest-entry.ensures

pub returns-clause-view : goal.returns-clause-view
returns-clause-view g c =
    elim c.if-kept.branch [
      | then-kept w ↦ w.self-is ∙ rw c.add-kept.ensures.added (view_adds c.self.inside c.args.self.now c.args.lane c.oldest-entry.result c.self.invariant c.self.view_is c.requires.lane c.oldest-entry.ensures c.args.event.now c.requires.may c.index_mut.result.now (c.self.inside.inside + 1) (c.self.inside.entries + 1) c.index_mut.ensures.value)
      | else-kept w ↦ w.self-is ∙ rw c.add-kept.ensures.added (view_adds c.self.inside c.args.self.now c.args.lane c.oldest-entry.result c.self.invariant c.self.view_is c.requires.lane c.oldest-entry.ensures c.args.event.now c.requires.may c.index_mut.result.now c.self.inside.inside c.self.inside.entries c.index_mut.ensures.value)
    ]

pub returns-clause-inside : goal.returns-clause-inside
returns-clause-inside g c plain = subst (λ v. inside_of v < bound_of c.args.self.now.shape) (sym (returns-clause-view g c)) (add_leaves c.self.inside c.args.self.now c.args.lane c.oldest-entry.result c.self.invariant c.self.view_is c.requires.lane c.oldest-entry.ensures c.args.event.now c.requires.may plain).0

pub returns-clause-entries : goal.returns-clause-entries
returns-clause-entries g c plain = subst (λ v. entries_of v < 2 ^ 63) (sym (returns-clause-view g c)) (add_leaves c.self.inside c.args.self.now c.args.lane c.oldest-entry.result c.self.invariant c.self.view_is c.requires.lane c.oldest-entry.ensures c.args.event.now c.requires.may plain).1
