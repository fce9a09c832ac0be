use Rattle.evt_types.specs.declared.event.TheConstants.{MAX_FORWARDS}
use Rattle.evt_types.specs.declared.shape.TheConstants.{MAX_LANES, MAX_ORDER, MAX_QUEUES, MAX_SWEEP}
use Rattle.std.proofs.Common.{◌≡◌, ℕ, ◌≤◌, ◌<◌, ◌+◌, ◌*◌, ◌^◌, length, sum_by, subst, sym, ap, arith, ◌∙◌}
use Rattle.std.proofs.Math.Nat.{mul-le-mul}
use Rattle.evt_types.specs.Fault.{IsWithinLimits}
use Rattle.evt_types.specs.Plan.{Plan, kept_room, lanes_of}
use Rattle.transcripts.specs.Sweep.{sweep_room}
use Rattle.sched_core.proofs.Cores.{few_kept}
use Rattle.sched_core.proofs.new.log_room.Goals as goal

-- a sweep logs few steps
room_is_small : (p : Plan) (s l k n : ℕ) → IsWithinLimits p → s ≤ MAX_SWEEP → l ≤ MAX_LANES → n ≤ MAX_QUEUES → k ≡ sum_by kept_room p.queues → 1 + 2 * s * l + MAX_FORWARDS * k + s * n + l < 2 ^ 64
room_is_small p s l k n limits sweep lanes queues kept =
    let keeps : k ≤ MAX_QUEUES * MAX_ORDER = subst (λ m. m ≤ MAX_QUEUES * MAX_ORDER) (sym kept) (few_kept p limits) in
    let taken : s * l ≤ MAX_SWEEP * MAX_LANES = mul-le-mul sweep lanes in
    let given : s * n ≤ MAX_SWEEP * MAX_QUEUES = mul-le-mul sweep queues in
    omega arith

pub overflow_mul-kept : goal.overflow_mul-kept
overflow_mul-kept c = omega (arith, room_is_small c.args.shape.now c.sweep-sweep.result c.lanes-lanes.result c.all_kept_room-kept.result (length c.queues-queues.result.now) c.limit-sweep.ensures.within c.sweep-sweep.ensures.range.1 c.lanes-lanes.ensures.few.1 c.queues-queues.ensures.few.1 (c.all_kept_room-kept.ensures ∙ ap (sum_by kept_room) c.queues-queues.ensures.value))

pub overflow_add-result-2 : goal.overflow_add-result-2
overflow_add-result-2 c = omega (arith, room_is_small c.args.shape.now c.sweep-sweep.result c.lanes-lanes.result c.all_kept_room-kept.result (length c.queues-queues.result.now) c.limit-sweep.ensures.within c.sweep-sweep.ensures.range.1 c.lanes-lanes.ensures.few.1 c.queues-queues.ensures.few.1 (c.all_kept_room-kept.ensures ∙ ap (sum_by kept_room) c.queues-queues.ensures.value))

pub overflow_add-result-3 : goal.overflow_add-result-3
overflow_add-result-3 c = omega (arith, room_is_small c.args.shape.now c.sweep-sweep.result c.lanes-lanes.result c.all_kept_room-kept.result (length c.queues-queues.result.now) c.limit-sweep.ensures.within c.sweep-sweep.ensures.range.1 c.lanes-lanes.ensures.few.1 c.queues-queues.ensures.few.1 (c.all_kept_room-kept.ensures ∙ ap (sum_by kept_room) c.queues-queues.ensures.value))

pub overflow_add-result-4 : goal.overflow_add-result-4
overflow_add-result-4 c = omega (arith, room_is_small c.args.shape.now c.sweep-sweep.result c.lanes-lanes.result c.all_kept_room-kept.result (length c.queues-queues.result.now) c.limit-sweep.ensures.within c.sweep-sweep.ensures.range.1 c.lanes-lanes.ensures.few.1 c.queues-queues.ensures.few.1 (c.all_kept_room-kept.ensures ∙ ap (sum_by kept_room) c.queues-queues.ensures.value))

pub returns : goal.returns
returns c = room_is c.args.shape.now c.sweep-sweep.result c.lanes-lanes.result c.all_kept_room-kept.result (length c.queues-queues.result.now) c.sweep-sweep.ensures.value c.lanes-lanes.ensures.value (c.all_kept_room-kept.ensures ∙ ap (sum_by kept_room) c.queues-queues.ensures.value) (ap length c.queues-queues.ensures.value)
  where
    room_is : (p : Plan) (s l k n : ℕ) → s ≡ p.sweep → l ≡ lanes_of p → k ≡ sum_by kept_room p.queues → n ≡ length p.queues
        → 1 + 2 * s * l + MAX_FORWARDS * k + s * n + l ≡ sweep_room p
    room_is p s l k n sweep lanes kept queues = cc
