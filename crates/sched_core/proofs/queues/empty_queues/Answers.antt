use Rattle.std.proofs.Common.{◌≡◌, ◌∙◌, List, ap, arith, length}
use Rattle.std.proofs.lemmas.List.FromFn.{length-map-range_with_len}
use Rattle.std.proofs.lemmas.Result.{IfOk-weaker}
use Rattle.parked_queue.specs.Waits.{Waits, all_empty}
use Rattle.sched_core.specs.Inner.{AreEmptyQueues, slots_for}
use Rattle.sched_core.proofs.News.{queues_new}
use Rattle.sched_core.proofs.queues.empty_queues.Goals as goal

pub new-requires-clause-few : goal.new-requires-clause-few
new-requires-clause-few c =
    let slots = ap length (c.deref.ensures.value ∙ c.in_ok-slots.ensures.slots) in
    let long = length-map-range_with_len (slots_for c.args.shape.now) 0 (length c.args.shape.now.queues) in
    let few = c.limit.ensures.within.queue_count.1 in
    omega arith

pub returns : goal.returns
returns c =
    IfOk-weaker c.new.result (λ (qs : List Waits). qs ≡ all_empty c.bound.result c.deref.result.now) (AreEmptyQueues c.args.shape.now (length c.args.shape.now.queues))
    (λ qs is. queues_new c.args.shape.now c.deref.result.now c.bound.result qs (c.deref.ensures.value ∙ c.in_ok-slots.ensures.slots) c.bound.ensures.value is) c.new.ensures
