use Rattle.std.proofs.Common.{◌≡◌, ◌<◌, ◌≤◌, ◌∙◌, ap, arith, length, subst, sym}
use Rattle.std.proofs.lemmas.List.Elements.{All-nil, All-push}
use Rattle.parked_queue.specs.Waits.{AreSlots}
use Rattle.sched_core.specs.Inner.{queue_slots}
use Rattle.sched_core.proofs.News.{slots_more}
use Rattle.sched_core.proofs.queues.all_slots.Goals as goal

pub loop-queue-init : goal.loop-queue-init
loop-queue-init c =
    record {
      slots = c.in_ok-slots.ensures.items;
      each = subst AreSlots (sym c.in_ok-slots.ensures.items) (All-nil (λ n. (0 < n) × (n ≤ 64)));
    }

pub loop-queue-preserved : goal.loop-queue-preserved
loop-queue-preserved c =
    record {
      slots = c.in_ok-push.ensures.items ∙ slots_more c.args.shape.now c.loop-queue.queue c.loop-queue.slots.items c.slots_for.result c.loop-queue.invariant.slots c.slots_for.ensures.value;
      each =
          subst AreSlots (sym c.in_ok-push.ensures.items)
          (All-push (λ n. (0 < n) × (n ≤ 64)) c.loop-queue.slots.items c.slots_for.result c.loop-queue.invariant.each (omega (arith, c.slots_for.ensures.range.0), c.slots_for.ensures.range.1));
    }

pub returns-clause-slots : goal.returns-clause-slots
returns-clause-slots c =
    let e : c.loop-queue.queue ≡ length c.args.shape.now.queues = omega (arith, ap length c.queues-count.ensures.value) in
    c.loop-queue.invariant.slots ∙ ap (queue_slots c.args.shape.now) e

pub returns-clause-each : goal.returns-clause-each
returns-clause-each c = c.loop-queue.invariant.each
