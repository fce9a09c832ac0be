use Rattle.std.proofs.Common.{◌≤◌, ◌∙◌, List, length, ap, subst, refl, arith}
use Rattle.std.proofs.lemmas.List.{length-map}
use Rattle.evt_types.specs.Plan.{port_plan}
use Rattle.evt_types.specs.declared.draft.QueueDraft.{QueueDraft}
use Rattle.evt_types.specs.declared.shape.TheConstants.{MAX_BOUND, MAX_LANES, MAX_QUEUES}
use Rattle.event_device.proofs.Fresh.{made_is_fresh, made_is_one}
use Rattle.event_device.proofs.InOrder.{port_count}
use Rattle.event_device.proofs.running.Device.with_log.Goals as goal

pub put_all-requires-clause-room : goal.put_all-requires-clause-room
put_all-requires-clause-room g c =
    let made = c.in_ok-scheduler.ensures.made in
    omega (
      arith,
      port_count made.device c.in_ok-scheduler.ports.items (length c.args.shape.ports) made.ports_are,
      c.in_ok-scheduler.ports.ok.0,
      c.in-Ok.ensures.capacity,
      ap length c.ports.ensures,
      length-map c.ports.result.now port_plan,
    )

pub invariant_of-result : goal.invariant_of-result
invariant_of-result g c =
    let parts = c.in_ok-scheduler in
    made_is_one c.args.shape parts.scheduler parts.ports.items parts.control parts.ensures.made _ c.begin_with.ensures.sight c.begin_with.ensures.log (c.of.ensures ∙ c.deref.ensures) refl c.put_all.ensures
    (record {
      bound = subst (λ n. n ≤ MAX_BOUND) c.bound.ensures.value c.bound.ensures.small;
      queues = subst (λ (qs : List QueueDraft). length qs ≤ MAX_QUEUES) c.queues-queues.ensures.value c.queues-queues.ensures.few.1;
      lanes = subst (λ n. n ≤ MAX_LANES) c.lanes.ensures.value c.lanes.ensures.few.1;
    })

pub returns-clause-fresh : goal.returns-clause-fresh
returns-clause-fresh g c =
    let parts = c.in_ok-scheduler in
    made_is_fresh c.args.shape parts.scheduler parts.ports.items parts.control parts.ensures.made _ c.begin_with.ensures.sight c.begin_with.ensures.log (c.of.ensures ∙ c.deref.ensures) refl c.put_all.ensures
