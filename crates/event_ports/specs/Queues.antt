-- Which queues the events name that a port takes.
use Rattle.std.specs.Prelude.{◌≢◌, ℕ, ◌<◌, List, All}
use Rattle.evt_types.specs.declared.event.Event.{Event}
use Rattle.evt_types.specs.declared.event.Op.TheVariants as ops

-- the event names one of so many queues, or is a RELEASE, which goes to none
abbrev pub NamesQueue : ℕ → Event → Type 0
NamesQueue queues e = e.op ≢ ops.Release → e.queue < queues

-- each of these events does
abbrev pub AllNameQueues : ℕ → List Event → Type 0
AllNameQueues queues events = All (λ (e : Event). NamesQueue queues e) events
