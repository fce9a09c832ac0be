use Rattle.std.proofs.Common.{◌≡◌, ◌+◌, ◌<◌, ◌≤◌, length, take, List, subst, sym, arith}
use Rattle.std.proofs.lemmas.List.{length-take-le}
use Rattle.evt_types.specs.declared.event.Event.{Event}
use Rattle.pipeline_threads.proofs.Answering.{due_count, due_more}
use Rattle.pipeline_threads.specs.Ports.{AreDue, IsDue}
use Rattle.pipeline_threads.proofs.worker.answer_each.Goals as goal

pub push-requires : goal.push-requires
push-requires g c =
    let ds = c.args.deliveries.now in
    let i = c.loop-delivery.delivery-index in
    let count = due_count c.args.actions.now (take i ds) c.loop-delivery.answers.items c.loop-delivery.invariant in
    let front : length (take i ds) ≡ i = length-take-le i ds (omega (arith, c.loop-delivery-test.true)) in
    let fits : length ds ≤ 64 = c.requires.fits in
    let room : length c.loop-delivery.answers.items < 64 = omega (arith, count, front, fits, c.loop-delivery-test.true) in
    (omega arith, room)

pub loop-delivery-preserved : goal.loop-delivery-preserved
loop-delivery-preserved g c =
    let ds = c.args.deliveries.now in
    let i = c.loop-delivery.delivery-index in
    let due : IsDue c.args.actions.now c.delivery-item.result c.answer_event.result = record { said = c.answer_event.ensures.said; answers = c.answer_event.ensures.answers } in
    subst (λ (es : List Event). AreDue c.args.actions.now (take (i + 1) ds) es) (sym c.push.ensures.items)
    (due_more c.args.actions.now ds i c.delivery-item.result c.loop-delivery.answers.items c.answer_event.result c.loop-delivery-test.true c.delivery-item.is c.loop-delivery.invariant due)
