-- Two events with the same fields are equal: the facts on flow and event type add nothing.
use Rattle.std.proofs.Common.{◌≡◌, ℕ, ◌<◌, ◌^◌, subst, ap, ◌∙◌}
use Rattle.std.proofs.Props.{props}
use Rattle.evt_types.specs.declared.event.Event.{Event}
use Rattle.evt_types.specs.declared.event.Op.{Op}

-- all fields but the facts are the same
pub record SameFields (d e : Event) : Type 0 where
  pub flow : d.flow ≡ e.flow
  pub sub_type : d.sub_type ≡ e.sub_type
  pub event_type : d.event_type ≡ e.event_type
  pub op : d.op ≡ e.op
  pub queue : d.queue ≡ e.queue
  pub priority : d.priority ≡ e.priority
  pub impl_opaque : d.impl_opaque ≡ e.impl_opaque
  pub payload : d.payload ≡ e.payload

-- flow, sub type, event type, operation, queue, priority, impl_opaque, payload
abbrev Fields : Type 0
Fields = ℕ × ℕ × ℕ × Op × ℕ × ℕ × ℕ × ℕ

abbrev fields : Event → Fields
fields e = (e.flow, e.sub_type, e.event_type, e.op, e.queue, e.priority, e.impl_opaque, e.payload)

abbrev from_fields : (t : Fields) → t.0 < 2 ^ 20 → t.2 < 16 → Event
from_fields t flow_fits event_type_fits =
    record {
      flow = t.0;
      sub_type = t.1;
      event_type = t.2;
      op = t.3;
      queue = t.4;
      priority = t.5;
      impl_opaque = t.6;
      payload = t.7;
      flow_fits = flow_fits;
      event_type_fits = event_type_fits;
    }

same_made : (t u : Fields) → t ≡ u → (f : t.0 < 2 ^ 20) (g : t.2 < 16) (f' : u.0 < 2 ^ 20) (g' : u.2 < 16) → from_fields t f g ≡ from_fields u f' g'
same_made t u e f g =
    subst (λ (v : Fields). (f' : v.0 < 2 ^ 20) (g' : v.2 < 16) → from_fields t f g ≡ from_fields v f' g') e
    (λ f' g'. let flow_prop : IsProp (t.0 < 2 ^ 20) = hlevel props in
    let type_prop : IsProp (t.2 < 16) = hlevel props in
    ap (λ (x : t.0 < 2 ^ 20). from_fields t x g) (flow_prop f f') ∙ ap (λ (x : t.2 < 16). from_fields t f' x) (type_prop g g'))

pub same_event : (d e : Event) → SameFields d e → d ≡ e
same_event d e s = same_made (fields d) (fields e) (cc) d.flow_fits d.event_type_fits e.flow_fits e.event_type_fits
