use Rattle.std.proofs.Common.{◌≡◌, ◌+◌, ◌<◌, ◌++◌, ◌∷◌, ◌%◌, [], ℕ, All, List, ap, get_or, length, set, subst, sym, take, ◌∙◌}
use Rattle.std.proofs.lemmas.List.{get_or-set_same, set-get_or, set-set, take_more}
use Rattle.evt_types.specs.declared.event.Delivery.{Delivery}
use Rattle.evt_types.specs.declared.event.Event.{Event}
use Rattle.parked_queue.specs.Rows.{without_all}
use Rattle.parked_queue.specs.Waits.{IsOnlyOf, Waits, no_waits, waits_at, without_number}
use Rattle.parked_queue.proofs.LevelHeads.{only_still, slots_still, without_more}
use Rattle.parked_queue.proofs.queues.ParkedQueues.remove_each.Goals as goal

-- the queue at this turn
at_turn : (qs now : List Waits) (q : ℕ) (w : Waits) → q < length qs → now ≡ set qs q w → waits_at now q ≡ w
at_turn qs now q w there is = ap (λ xs. waits_at xs q) is ∙ get_or-set_same qs q w (no_waits 1 0) there

pub loop-delivery-init : goal.loop-delivery-init
loop-delivery-init c = sym (set-get_or c.args.self.now c.args.queue (no_waits 1 0))

-- what was asked of the row, of its event at this turn
only_at_turn : (w now : Waits) (c slot n i : ℕ) (row : List Delivery) (d : Delivery) → All (λ (e : Delivery). IsOnlyOf w c (e.event.flow % w.slots) e.number) row → i < length row → d ≡ get_or row i d → now ≡ without_all w (take i row) → slot ≡ d.event.flow % now.slots → n ≡ d.number → IsOnlyOf now c slot n
only_at_turn w now c slot n i row d only lt is at here number =
    let this : IsOnlyOf w c (d.event.flow % w.slots) d.number = subst (λ (e : Delivery). IsOnlyOf w c (e.event.flow % w.slots) e.number) (sym is) (only i d lt) in
    let slots : now.slots ≡ w.slots = ap (λ (x : Waits). x.slots) at ∙ slots_still w (take i row) in
    subst (λ x. IsOnlyOf x c slot n) (sym at)
    (subst (λ k. IsOnlyOf (without_all w (take i row)) c slot k) (sym number)
    (subst (λ k. IsOnlyOf (without_all w (take i row)) c k d.number) (sym (here ∙ ap (λ k. d.event.flow % k) slots)) (only_still w c (d.event.flow % w.slots) d.number (take i row) this)))

pub remove-requires-clause-only : goal.remove-requires-clause-only
remove-requires-clause-only c =
    only_at_turn (waits_at c.args.self.now c.args.queue) (waits_at c.loop-delivery.self c.args.queue) c.args.level.number c.slot_of-slot.result c.number.result c.loop-delivery.delivery-index c.args.row.now c.delivery-item.result c.requires.only c.loop-delivery-test.true c.delivery-item.is
    (at_turn c.args.self.now c.loop-delivery.self c.args.queue (without_all (waits_at c.args.self.now c.args.queue) (take c.loop-delivery.delivery-index c.args.row.now)) c.requires.there c.loop-delivery.invariant)
    (c.slot_of-slot.ensures.value ∙ ap (λ f. f % (waits_at c.loop-delivery.self c.args.queue).slots) (c.flow.ensures ∙ ap (λ (e : Event). e.flow) c.packed.ensures)) c.number.ensures

-- the queues after this turn
turned : (qs now later : List Waits) (q n i : ℕ) (row : List Delivery) (d : Delivery) → q < length qs → now ≡ set qs q (without_all (waits_at qs q) (take i row)) → i < length row → d ≡ get_or row i d → n ≡ d.number
    → later ≡ set now q (without_number (waits_at now q) n) → later ≡ set qs q (without_all (waits_at qs q) (take (i + 1) row))
turned qs now later q n i row d there was lt is number step =
    let w : Waits = without_all (waits_at qs q) (take i row) in
    let more : take (i + 1) row ≡ take i row ++ d ∷ [] = take_more row i d lt ∙ ap (λ e. take i row ++ e ∷ []) (sym is) in
    step
    ∙ (ap (λ x. set now q (without_number x n)) (at_turn qs now q w there was)
    ∙ (ap (λ xs. set xs q (without_number w n)) was
    ∙ (set-set qs q w (without_number w n)
    ∙ (ap (λ k. set qs q (without_number w k)) number ∙ (ap (set qs q) (sym (without_more (waits_at qs q) (take i row) d)) ∙ ap (λ ds. set qs q (without_all (waits_at qs q) ds)) (sym more))))))

pub loop-delivery-preserved : goal.loop-delivery-preserved
loop-delivery-preserved c =
    turned c.args.self.now c.loop-delivery.self c.remove.new.self c.args.queue c.number.result c.loop-delivery.delivery-index c.args.row.now c.delivery-item.result c.requires.there c.loop-delivery.invariant c.loop-delivery-test.true c.delivery-item.is c.number.ensures c.remove.ensures.value
