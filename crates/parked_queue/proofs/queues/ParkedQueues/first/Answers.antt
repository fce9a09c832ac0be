use Rattle.std.proofs.Common.{◌≡◌, ◌∙◌, IfNone, IfSome, arith, refl, set, subst}
use Rattle.std.proofs.lemmas.List.{set-get_or}
use Rattle.parked_queue.specs.Waits.{HasNoneAllowed, HasNoneOf, IsFirstAllowed, no_waits, slot_of, waits_at}
use Rattle.parked_queue.proofs.Named.{found_named}
use Rattle.parked_queue.proofs.Parkings.{asked, queues_changed, sound_changed, waits_changed}
use Rattle.parked_queue.proofs.Seen.{emptied, names_here, noted_still, noted_there}
use Rattle.parked_queue.proofs.queues.ParkedQueues.first.Goals as goal
use Rattle.parked_queue.proofs.queues.ParkedQueues.first.Goals.{else-is_none-via-then-is_none+else-is_level_empty, else-is_none-via-else-is_none}

pub first-first-requires : goal.first-first-requires
first-first-requires c =
    let a = asked c.self.inside.lists c.self.inside.queues.items c.args.self.now c.args.queue c.self.invariant.parkings c.self.view_is c.requires c.index_mut-asked.result.now c.index_mut-asked.ensures.value in
    a.part

pub is_level_empty-requires : goal.is_level_empty-requires
is_level_empty-requires c =
    c.first-first.ensures.changed.part

pub index_mut-requires : goal.index_mut-requires
index_mut-requires c = omega (arith, noted_there _ c.args.self.now c.self.inside.levels.items c.self.inside.busy c.args.queue c.self.invariant.noted c.self.view_is c.requires, c.self.inside.levels.ok.0)

pub invariant_of-self : goal.invariant_of-self
invariant_of-self c =
    let a = asked c.self.inside.lists c.self.inside.queues.items c.args.self.now c.args.queue c.self.invariant.parkings c.self.view_is c.requires c.index_mut-asked.result.now c.index_mut-asked.ensures.value in
    let none = subst (λ w. HasNoneOf w c.args.level.number) (c.first-first.ensures.changed.waits ∙ a.waits) (c.if-is_level_empty.ensures refl) in
    queues_changed c.self.inside.lists c.self.inside.queues.items c.args.self.now c.args.queue c.self.invariant.parkings c.self.view_is c.requires c.first-first.new.lists c.index_mut-asked.result.now c.first-first.new.self (λ w. w) c.index_mut-asked.ensures.value c.first-first.ensures.changed (set c.self.inside.levels.items c.args.queue c.remove.new.self) c.self.inside.busy
    (emptied _ c.args.self.now c.self.inside.levels.items c.self.inside.busy c.args.queue c.self.invariant.noted c.self.view_is c.requires c.args.level.number c.index_mut.result.now c.remove.new.self c.index_mut.ensures.value c.remove.ensures.others none)

pub invariant_of-self-else-is_level_empty : goal.invariant_of-self-else-is_level_empty
invariant_of-self-else-is_level_empty c = queues_changed c.self.inside.lists c.self.inside.queues.items c.args.self.now c.args.queue c.self.invariant.parkings c.self.view_is c.requires c.first-first.new.lists c.index_mut-asked.result.now c.first-first.new.self (λ w. w) c.index_mut-asked.ensures.value c.first-first.ensures.changed c.self.inside.levels.items c.self.inside.busy (noted_still _ c.args.self.now c.self.inside.levels.items c.self.inside.busy c.args.queue c.self.invariant.noted c.self.view_is c.requires)

pub invariant_of-self-else-is_none : goal.invariant_of-self-else-is_none
invariant_of-self-else-is_none c = queues_changed c.self.inside.lists c.self.inside.queues.items c.args.self.now c.args.queue c.self.invariant.parkings c.self.view_is c.requires c.first-first.new.lists c.index_mut-asked.result.now c.first-first.new.self (λ w. w) c.index_mut-asked.ensures.value c.first-first.ensures.changed c.self.inside.levels.items c.self.inside.busy (noted_still _ c.args.self.now c.self.inside.levels.items c.self.inside.busy c.args.queue c.self.invariant.noted c.self.view_is c.requires)

pub returns-then-is_level_empty-clause-same : goal.returns-then-is_level_empty-clause-same
returns-then-is_level_empty-clause-same c = waits_changed c.self.inside.lists c.self.inside.queues.items c.args.self.now c.args.queue c.self.invariant.parkings c.self.view_is c.requires c.first-first.new.lists c.index_mut-asked.result.now c.first-first.new.self (λ w. w) c.index_mut-asked.ensures.value c.first-first.ensures.changed ∙ set-get_or c.args.self.now c.args.queue (no_waits 1 0)

pub returns-else-is_none-clause-same : goal.returns-else-is_none-clause-same
returns-else-is_none-clause-same c =
    let same = waits_changed c.self.inside.lists c.self.inside.queues.items c.args.self.now c.args.queue c.self.invariant.parkings c.self.view_is c.requires c.first-first.new.lists c.index_mut-asked.result.now c.first-first.new.self (λ w. w) c.index_mut-asked.ensures.value c.first-first.ensures.changed ∙ set-get_or c.args.self.now c.args.queue (no_waits 1 0) in
    elim c.else-is_none.branch [
      | else-is_none-via-then-is_none+else-is_level_empty w ↦ w.self-is ∙ same
      | else-is_none-via-else-is_none w ↦ w.self-is ∙ same
    ]

pub returns-then-is_level_empty-clause-first : goal.returns-then-is_level_empty-clause-first
returns-then-is_level_empty-clause-first c =
    let a = asked c.self.inside.lists c.self.inside.queues.items c.args.self.now c.args.queue c.self.invariant.parkings c.self.view_is c.requires c.index_mut-asked.result.now c.index_mut-asked.ensures.value in
    subst (λ w. IfSome c.first-first.result (λ f. IsFirstAllowed w c.args.level.number c.args.allowed f.waiting)) a.waits c.first-first.ensures.first

pub returns-else-is_none-clause-first : goal.returns-else-is_none-clause-first
returns-else-is_none-clause-first c =
    let a = asked c.self.inside.lists c.self.inside.queues.items c.args.self.now c.args.queue c.self.invariant.parkings c.self.view_is c.requires c.index_mut-asked.result.now c.index_mut-asked.ensures.value in
    subst (λ w. IfSome c.first-first.result (λ f. IsFirstAllowed w c.args.level.number c.args.allowed f.waiting)) a.waits c.first-first.ensures.first

pub returns-then-is_level_empty-clause-slot : goal.returns-then-is_level_empty-clause-slot
returns-then-is_level_empty-clause-slot c =
    let a = asked c.self.inside.lists c.self.inside.queues.items c.args.self.now c.args.queue c.self.invariant.parkings c.self.view_is c.requires c.index_mut-asked.result.now c.index_mut-asked.ensures.value in
    subst (λ w. IfSome c.first-first.result (λ f. f.slot ≡ slot_of w.slots f.waiting)) a.waits c.first-first.ensures.slot

pub returns-else-is_none-clause-slot : goal.returns-else-is_none-clause-slot
returns-else-is_none-clause-slot c =
    let a = asked c.self.inside.lists c.self.inside.queues.items c.args.self.now c.args.queue c.self.invariant.parkings c.self.view_is c.requires c.index_mut-asked.result.now c.index_mut-asked.ensures.value in
    subst (λ w. IfSome c.first-first.result (λ f. f.slot ≡ slot_of w.slots f.waiting)) a.waits c.first-first.ensures.slot

pub returns-then-is_level_empty-clause-none : goal.returns-then-is_level_empty-clause-none
returns-then-is_level_empty-clause-none c =
    let a = asked c.self.inside.lists c.self.inside.queues.items c.args.self.now c.args.queue c.self.invariant.parkings c.self.view_is c.requires c.index_mut-asked.result.now c.index_mut-asked.ensures.value in
    subst (λ w. IfNone c.first-first.result (HasNoneAllowed w c.args.level.number c.args.allowed)) a.waits c.first-first.ensures.none

pub returns-else-is_none-clause-none : goal.returns-else-is_none-clause-none
returns-else-is_none-clause-none c =
    let a = asked c.self.inside.lists c.self.inside.queues.items c.args.self.now c.args.queue c.self.invariant.parkings c.self.view_is c.requires c.index_mut-asked.result.now c.index_mut-asked.ensures.value in
    subst (λ w. IfNone c.first-first.result (HasNoneAllowed w c.args.level.number c.args.allowed)) a.waits c.first-first.ensures.none

pub returns-then-is_level_empty-clause-waits : goal.returns-then-is_level_empty-clause-waits
returns-then-is_level_empty-clause-waits c = sound_changed c.self.inside.lists c.self.inside.queues.items c.args.self.now c.args.queue c.self.invariant.parkings c.self.view_is c.requires c.first-first.new.lists c.index_mut-asked.result.now c.first-first.new.self (λ w. w) c.index_mut-asked.ensures.value c.first-first.ensures.changed

pub returns-else-is_none-clause-waits : goal.returns-else-is_none-clause-waits
returns-else-is_none-clause-waits c = sound_changed c.self.inside.lists c.self.inside.queues.items c.args.self.now c.args.queue c.self.invariant.parkings c.self.view_is c.requires c.first-first.new.lists c.index_mut-asked.result.now c.first-first.new.self (λ w. w) c.index_mut-asked.ensures.value c.first-first.ensures.changed

pub returns-then-is_level_empty-clause-names : goal.returns-then-is_level_empty-clause-names
returns-then-is_level_empty-clause-names c =
    found_named c.args.queue c.args.level.number (waits_at c.args.self.now c.args.queue) c.args.allowed c.first-first.result
    (names_here _ c.args.self.now c.self.inside.levels.items c.self.inside.busy c.args.queue c.self.invariant.noted c.self.view_is c.requires)
    (returns-then-is_level_empty-clause-first c)

pub returns-else-is_none-clause-names : goal.returns-else-is_none-clause-names
returns-else-is_none-clause-names c =
    found_named c.args.queue c.args.level.number (waits_at c.args.self.now c.args.queue) c.args.allowed c.first-first.result
    (names_here _ c.args.self.now c.self.inside.levels.items c.self.inside.busy c.args.queue c.self.invariant.noted c.self.view_is c.requires)
    (returns-else-is_none-clause-first c)
