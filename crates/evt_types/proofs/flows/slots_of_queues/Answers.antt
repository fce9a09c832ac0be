use Rattle.std.proofs.Common.{◌++◌, sym, ap, ◌∙◌}
use Rattle.std.specs.List.{range_with_len, flat_map}
use Rattle.evt_types.specs.Plan.{lanes_at, slot_lanes}
use Rattle.evt_types.proofs.FlowLanes.{queues_more}
use Rattle.evt_types.proofs.flows.slots_of_queues.Goals as goal

pub loop-queue-preserved : goal.loop-queue-preserved
loop-queue-preserved c =
    c.in_ok-add_slots.ensures ∙ ap (λ flows. flows ++ slot_lanes c.loop-queue.queue c.atomic_slots.result) c.loop-queue.invariant
    ∙ ap (λ n. flat_map (lanes_at c.args.queues.now) (range_with_len 0 c.loop-queue.queue) ++ slot_lanes c.loop-queue.queue n) c.atomic_slots.ensures
    ∙ sym (queues_more c.args.queues.now c.loop-queue.queue _ c.loop-queue-test.true)
