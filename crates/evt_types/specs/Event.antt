-- The events that are made, and what a delivered one is known by.
use Rattle.std.specs.Prelude.{ℕ, ◌≡◌}
use Rattle.std.proofs.Common.{lit<}
use Rattle.evt_types.specs.declared.event.Delivery.{Delivery}
use Rattle.evt_types.specs.declared.event.Event.{Event}
use Rattle.evt_types.specs.declared.event.Op.{Op}
use Rattle.evt_types.specs.declared.event.Op.TheVariants as ops

-- the event of these fields: flow, sub type, event type, operation, queue, priority, payload
pub record IsEvent (e : Event) (f s t : ℕ) (o : Op) (q r x : ℕ) : Type 0 where
  pub flow : e.flow ≡ f
  pub sub_type : e.sub_type ≡ s
  pub event_type : e.event_type ≡ t
  pub op : e.op ≡ o
  pub queue : e.queue ≡ q
  pub priority : e.priority ≡ r
  pub impl_opaque : e.impl_opaque ≡ 0
  pub payload : e.payload ≡ x

-- what a port answers with when it releases of its own accord
abbrev pub release_event : Event
release_event =
    record {
      flow = 0;
      sub_type = 0;
      event_type = 0;
      op = ops.Release;
      queue = 0;
      priority = 0;
      impl_opaque = 0;
      payload = 0;
      flow_fits = lit< tt;
      event_type_fits = lit< tt;
    }

-- what the holder of an event forwards: the event with another queue and payload
abbrev pub forwarded_event : Event → ℕ → ℕ → Event
forwarded_event e q x = record e { op = ops.Forward; queue = q; payload = x }

-- the queue and the number of a delivery, by which it is known until it is answered
abbrev pub pair_of : Delivery → ℕ × ℕ
pair_of d = (d.queue, d.number)
