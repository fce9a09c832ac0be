use Rattle.evt_types.specs.declared.event.Numbered.{Numbered}
use Rattle.std.proofs.Common.{◌++◌, ◌∷◌, [], subst, sym, ap, ◌∙◌}
use Rattle.evt_types.specs.declared.step.Step.{Step}
use Rattle.evt_types.specs.declared.step.Step.TheVariants.{Give}
use Rattle.sched_core.proofs.FirstOnes.{slot_of_flow}
use Rattle.sched_core.proofs.Runs.{gift_is}
use Rattle.sched_core.specs.Offered.{numbered_in}
use Rattle.transcripts.proofs.WholeStands.{stands_give, offer_is_accepted}
use Rattle.transcripts.specs.Standing.{Stands, after}
use Rattle.sched_core.proofs.state.Core.give.Goals as goal

pub give_at-requires-clause-slot : goal.give_at-requires-clause-slot
give_at-requires-clause-slot g c =
    slot_of_flow c.self.inside c.args.self.now c.args.offer.delivery.queue c.self.invariant c.self.view_is c.requires.offer.queue c.queue-queue.result c.flow.result c.slot_of-slot.result (numbered_in c.args.offer.delivery) c.numbered-waiting.result
    c.slot_of-slot.ensures.value (c.flow.ensures ∙ ap (λ (w : Numbered). w.event.flow) c.numbered-waiting.ensures) c.queue-queue.ensures c.numbered-waiting.ensures

pub returns-clause-stands : goal.returns-clause-stands
returns-clause-stands g c T stands =
    subst (λ v. Stands (T ++ Give c.args.offer.lane c.args.offer.delivery.queue c.args.offer.delivery.number ∷ []) v)
    (sym (c.give_at.ensures.view
    ∙ ap (λ (s : Step). after c.args.self.now (s ∷ [])) (gift_is c.args.offer.lane c.queue-queue.result c.numbered-waiting.result c.args.offer.delivery (sym c.queue-queue.ensures) c.numbered-waiting.ensures)))
    (stands_give c.args.self.now T c.args.offer.lane c.args.offer.delivery.queue (numbered_in c.args.offer.delivery) stands c.requires.offer)

pub returns-clause-event : goal.returns-clause-event
returns-clause-event g c T stands = offer_is_accepted c.args.self.now T c.args.offer.lane c.args.offer.delivery.queue (numbered_in c.args.offer.delivery) stands c.requires.offer
