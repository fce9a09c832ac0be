use Rattle.std.proofs.Common.{◌≡◌, ◌+◌, List, ap, subst, sym, ◌∙◌, replicate}
use Rattle.std.proofs.lemmas.List.{get_or_default}
use Rattle.evt_types.specs.Plan.{atomic_slots, queue_in}
use Rattle.order_parts.specs.Pins.{Pin, free}
use Rattle.order_parts.specs.QueuePins.{AreFreePins, slots_of}
use Rattle.order_parts.proofs.FreePins.{pins_more}
use Rattle.order_parts.proofs.all_pins.AllPins.free.Goals as goal

pub loop-queue-preserved : goal.loop-queue-preserved
loop-queue-preserved c =
    let few : c.slots_of.result ≡ slots_of c.args.shape.now c.loop-queue.queue =
    c.slots_of.ensures.value ∙ ap atomic_slots (get_or_default c.queues-drafts.result.now c.loop-queue.queue _ _ c.loop-queue-test.true ∙ ap (λ qs. queue_in qs c.loop-queue.queue) c.queues-drafts.ensures.value) in
    subst (AreFreePins c.args.shape.now (c.loop-queue.queue + 1)) (sym {A = List (List Pin)} c.in_ok-push.ensures.items)
    (pins_more c.args.shape.now c.loop-queue.queue c.loop-queue.queues.items c.in_ok-new.field-0 c.loop-queue.invariant (c.in_ok-new.ensures ∙ ap (λ n. replicate n free) few))
