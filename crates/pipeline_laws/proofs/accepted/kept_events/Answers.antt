use Rattle.std.proofs.Common.{length, map, take, ap, refl, sym, ◌∙◌, []}
use Rattle.std.proofs.lemmas.List.{length-replicate}
use Rattle.pipeline_laws.proofs.AcceptedEvents.{accept_of, hold_all, hold_none, hold_one}
use Rattle.pipeline_laws.proofs.Pasts.{length-rows}
use Rattle.pipeline_laws.proofs.accepted.kept_events.Goals as goal

pub loop-queue-init : goal.loop-queue-init
loop-queue-init c =
    record {
      count = sym (length-rows c.in_ok-lists.lists.items) ∙ (ap length c.in_ok-lists.ensures ∙ length-replicate c.args.queues []);
      hold = hold_none c.args.queues c.in_ok-lists.lists.items c.in_ok-lists.ensures;
    }

pub loop-queue-preserved : goal.loop-queue-preserved
loop-queue-preserved c =
    let kept = c.kept-queue-items.result.now in
    let index = c.loop-queue.queue-index in
    let here = c.loop-queue-item.result in
    record {
      count = c.in_ok-add_event.ensures.count ∙ c.loop-queue.invariant.count;
      hold = hold_one kept index here c.add_event.new.lists.items c.loop-queue-test.true c.loop-queue-item.is
          (c.in_ok-add_event.ensures.hold (map accept_of (take index kept)) (accept_of here) refl c.loop-queue.invariant.hold);
    }

pub returns-clause-hold : goal.returns-clause-hold
returns-clause-hold c = hold_all _ c.kept-queue-items.result.now c.loop-queue.queue-index c.loop-queue.lists.items c.kept-queue-items.ensures c.loop-queue-test.false c.loop-queue.invariant.hold
