-- Events with the same fields.
use Rattle.std.proofs.Common.{◌≡◌, ℕ, ◌^◌, ◌<◌, ap, subst, ◌∙◌}
use Rattle.std.proofs.Props.{props}
use Rattle.evt_types.specs.declared.event.Event.{Event}
use Rattle.evt_types.specs.declared.event.Op.{Op}

-- an event by its fields
event_by : (flow sub_type event_type : ℕ) (op : Op) (queue priority impl_opaque payload : ℕ) → flow < 2 ^ 20 → event_type < 16 → Event
event_by flow sub_type event_type op queue priority impl_opaque payload fits type_fits =
    record {
      flow = flow;
      sub_type = sub_type;
      event_type = event_type;
      op = op;
      queue = queue;
      priority = priority;
      impl_opaque = impl_opaque;
      payload = payload;
      flow_fits = fits;
      event_type_fits = type_fits;
    }

same_limit : (m n : ℕ) (g h : m < n) → g ≡ h
same_limit m n g h = is_prop g h
  where
    is_prop : (g h : m < n) → g ≡ h
    is_prop = hlevel props

-- two events with the same fields: a fact about a field has one proof at most
pub same_event : (d e : Event) → d.flow ≡ e.flow → d.sub_type ≡ e.sub_type → d.event_type ≡ e.event_type → d.op ≡ e.op → d.queue ≡ e.queue → d.priority ≡ e.priority → d.impl_opaque ≡ e.impl_opaque → d.payload ≡ e.payload → d ≡ e
unfolding event_by
same_event d e flow sub_type event_type op queue priority impl_opaque payload =
    ap (λ f. event_by d.flow f d.event_type d.op d.queue d.priority d.impl_opaque d.payload d.flow_fits d.event_type_fits) sub_type
    ∙ (ap (λ o. event_by d.flow e.sub_type d.event_type o d.queue d.priority d.impl_opaque d.payload d.flow_fits d.event_type_fits) op
    ∙ (ap (λ f. event_by d.flow e.sub_type d.event_type e.op f d.priority d.impl_opaque d.payload d.flow_fits d.event_type_fits) queue
    ∙ (ap (λ f. event_by d.flow e.sub_type d.event_type e.op e.queue f d.impl_opaque d.payload d.flow_fits d.event_type_fits) priority
    ∙ (ap (λ f. event_by d.flow e.sub_type d.event_type e.op e.queue e.priority f d.payload d.flow_fits d.event_type_fits) impl_opaque
    ∙ (ap (λ f. event_by d.flow e.sub_type d.event_type e.op e.queue e.priority e.impl_opaque f d.flow_fits d.event_type_fits) payload
    ∙ (at_flow ∙ at_event_type))))))
  where
    at_flow : event_by d.flow e.sub_type d.event_type e.op e.queue e.priority e.impl_opaque e.payload d.flow_fits d.event_type_fits ≡ event_by e.flow e.sub_type d.event_type e.op e.queue e.priority e.impl_opaque e.payload e.flow_fits d.event_type_fits
    at_flow =
        subst
        (λ f. (h : f < 2 ^ 20) → event_by d.flow e.sub_type d.event_type e.op e.queue e.priority e.impl_opaque e.payload d.flow_fits d.event_type_fits ≡ event_by f e.sub_type d.event_type e.op e.queue e.priority e.impl_opaque e.payload h d.event_type_fits)
        flow
        (λ h. ap (λ k. event_by d.flow e.sub_type d.event_type e.op e.queue e.priority e.impl_opaque e.payload k d.event_type_fits) (same_limit d.flow (2 ^ 20) d.flow_fits h))
        e.flow_fits

    at_event_type : event_by e.flow e.sub_type d.event_type e.op e.queue e.priority e.impl_opaque e.payload e.flow_fits d.event_type_fits ≡ e
    at_event_type =
        subst
        (λ f. (h : f < 16) → event_by e.flow e.sub_type d.event_type e.op e.queue e.priority e.impl_opaque e.payload e.flow_fits d.event_type_fits ≡ event_by e.flow e.sub_type f e.op e.queue e.priority e.impl_opaque e.payload e.flow_fits h)
        event_type
        (λ h. ap (λ k. event_by e.flow e.sub_type d.event_type e.op e.queue e.priority e.impl_opaque e.payload e.flow_fits k) (same_limit d.event_type 16 d.event_type_fits h))
        e.event_type_fits
