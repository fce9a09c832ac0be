-- The faults that a document's rows show, in their order.
use Rattle.std.specs.Prelude.{Bool, false, not, ◌||◌, Option, Some, None, if◌then◌else◌}
use Rattle.std.specs.List.{list_any}
use Rattle.evt_types.specs.declared.event.Kind.{Kind}
use Rattle.evt_types.specs.declared.event.Kind.TheVariants.{Ordered, Atomic, Parallel}
use Rattle.play_documents.specs.Field.{is_absent, is_bad, rows}
use Rattle.play_documents.specs.Survey.{PortSeen, SurveySeen}
use Rattle.play_documents.specs.declared.fault.DocFault.{DocFault}
use Rattle.play_documents.specs.declared.fault.DocFault.TheVariants.{UnknownKey, MissingKey, BadValue}
use Rattle.play_documents.specs.declared.field.Field.{Field}
use Rattle.play_documents.specs.declared.field.Field.TheVariants.{Absent, Bad, Good}
use Rattle.play_documents.specs.declared.survey.DeviceRow.{DeviceRow}
use Rattle.play_documents.specs.declared.survey.QueueRow.{QueueRow}

-- some key isn't a queue's, or a port's
abbrev pub is_unknown_queue : QueueRow → Bool
is_unknown_queue q = not q.known

abbrev pub is_unknown_port : PortSeen → Bool
is_unknown_port p = not p.known

-- an atomic queue needs its slots, an ordered one its order
abbrev pub lacks_size : Field Kind → QueueRow → Bool
lacks_size (Good Atomic) q = is_absent q.slots
lacks_size (Good Ordered) q = is_absent q.order
lacks_size (Good Parallel) q = false
lacks_size Absent q = false
lacks_size Bad q = false

abbrev pub lacks_slots : QueueRow → Bool
lacks_slots q = lacks_size q.kind q

abbrev pub misses_queue : QueueRow → Bool
misses_queue q = is_absent q.kind || lacks_slots q

abbrev pub misses_port : PortSeen → Bool
misses_port p = is_absent p.threshold || is_absent p.depth || is_absent p.replies || is_absent p.links

-- some value is refused
abbrev pub has_bad_queue : QueueRow → Bool
has_bad_queue q = is_bad q.kind || is_bad q.priority || is_bad q.slots || is_bad q.order || is_bad q.single

abbrev pub has_bad_port : PortSeen → Bool
has_bad_port p = is_bad p.threshold || is_bad p.depth || is_bad p.replies || is_bad p.implicit || is_bad p.links

-- what every document's table needs of its device, and what is refused of it
abbrev pub misses_device : DeviceRow → Bool
misses_device d = is_absent d.limit || is_absent d.quantum || is_absent d.sweep

abbrev pub has_bad_device : DeviceRow → Bool
has_bad_device d = is_bad d.limit || is_bad d.quantum || is_bad d.sweep || is_bad d.serving

-- the three tests of a whole document
unfoldable pub has_unknown : SurveySeen → Bool
has_unknown s = not s.known || list_any is_unknown_queue (rows s.queues) || list_any is_unknown_port (rows s.ports)

unfoldable pub has_missing : SurveySeen → Bool
has_missing s =
    misses_device s.device || is_absent s.script || is_absent s.queues || is_absent s.ports
    || list_any misses_queue (rows s.queues) || list_any misses_port (rows s.ports)

unfoldable pub has_bad : SurveySeen → Bool
has_bad s =
    has_bad_device s.device || is_bad s.script || is_bad s.queues || is_bad s.ports || list_any has_bad_queue (rows s.queues) || list_any has_bad_port (rows s.ports)

-- the first fault by the three tests: each is looked for in the whole document before the next
abbrev pub rows_fault : Bool → Bool → Bool → Option DocFault
rows_fault unknown missing bad =
    if unknown then Some UnknownKey else (if missing then Some MissingKey else (if bad then Some BadValue else None))

unfoldable pub first_fault : SurveySeen → Option DocFault
first_fault s = rows_fault (has_unknown s) (has_missing s) (has_bad s)
