-- The configuration that a document's rows ask for, with the values that stand where a key is left out.
use Rattle.std.specs.Prelude.{true, false, List, map}
use Rattle.evt_types.specs.Plan.{Plan, PortPlan}
use Rattle.evt_types.specs.declared.draft.QueueDraft.{QueueDraft}
use Rattle.evt_types.specs.declared.draft.Serving.TheVariants.{Ports}
use Rattle.evt_types.specs.declared.event.Kind.TheVariants.{Atomic}
use Rattle.play_documents.specs.Field.{value_or, rows}
use Rattle.play_documents.specs.Numbers.{normal_priority}
use Rattle.play_documents.specs.Survey.{PortSeen, SurveySeen}
use Rattle.play_documents.specs.declared.survey.DeviceRow.{DeviceRow}
use Rattle.play_documents.specs.declared.survey.QueueRow.{QueueRow}

-- a queue and a port
abbrev pub queue_asked : QueueRow → QueueDraft
queue_asked q =
    record { kind = value_or Atomic q.kind; priority = value_or normal_priority q.priority; slots = value_or 0 q.slots; order = value_or 0 q.order; single = value_or false q.single }

abbrev pub port_asked : PortSeen → PortPlan
port_asked p =
    record {
      threshold = value_or 0 p.threshold;
      depth = value_or 0 p.depth;
      replies = value_or 0 p.replies;
      implicit = value_or true p.implicit;
      links = rows p.links;
    }

-- a device of these queues and ports
abbrev pub device_asked : DeviceRow → List QueueDraft → List PortPlan → Plan
device_asked d queues ports =
    record {
      limit = value_or 0 d.limit;
      quantum = value_or 0 d.quantum;
      sweep = value_or 0 d.sweep;
      serving = value_or Ports d.serving;
      queues = queues;
      ports = ports;
    }

unfoldable pub plan_asked : SurveySeen → Plan
plan_asked s = device_asked s.device (map queue_asked (rows s.queues)) (map port_asked (rows s.ports))
