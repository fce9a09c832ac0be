-- What each command makes of the device on which it is played.
use Rattle.std.specs.Prelude.{◌≡◌, ℕ, true, List, [], ◌∷◌, length, slice_get, slice_set, Some, Result, Ok, Err, Vec}
use Rattle.std.specs.declared.alloc.Global.{Global}
use Rattle.event_answers.specs.declared.answer.Behind.{Behind}
use Rattle.event_answers.specs.declared.answer.Refused.{Refused}
use Rattle.event_ports.specs.declared.port.Port.{Port}
use Rattle.event_device.specs.Home.{AreHome}
use Rattle.event_device.specs.Lent.{Shuts, SweepsOnce}
use Rattle.event_device.specs.Parts.{Parts, device_of}
use Rattle.event_device.specs.declared.control.Control.{Control}
use Rattle.evt_types.specs.declared.event.Delivery.{Delivery}
use Rattle.evt_types.specs.declared.event.Event.{Event}
use Rattle.play_documents.specs.Command.{Fields, Line, Enqueue, Dequeue, Sweep, Shut, fields_of}
use Rattle.play_text.specs.declared.answer.Answer.{Answer}
use Rattle.play_text.specs.declared.answer.Answer.TheVariants as answers
use Rattle.pipeline_app.specs.Calls.{IsDequeue, IsEnqueue}

-- the control and all ports of the configuration are at home
pub record AreAllHome (r : Parts) : Type 0 where
  pub control : Control
  pub ports : List Port
  pub at_home : AreHome r control ports
  pub count : length ports ≡ length (device_of r).plan.ports

-- the port of this number enqueued an event of these fields, and nothing else changed
pub record PortEnqueues (n : ℕ) (fields : Fields) (outcome : Result (Unit {0}) Refused) (r q : Parts) : Type 0 where
  pub port : Port
  pub event : Event
  pub after : Port
  pub port_is : slice_get r.ports n ≡ Some (Some port)
  pub event_is : fields_of event ≡ fields
  pub call : IsEnqueue port event outcome after
  pub changed : q ≡ record r { ports = slice_set r.ports n (Some after) }

-- the deliveries of a dequeue
abbrev pub outcome_of : Result (Vec Delivery Global) Behind → Result (List Delivery) Behind
outcome_of (Ok deliveries) = Ok deliveries.items
outcome_of (Err behind) = Err behind

-- the port of this number dequeued at most so many events, and nothing else changed
pub record PortDequeues (n max : ℕ) (outcome : Result (List Delivery) Behind) (r q : Parts) : Type 0 where
  pub port : Port
  pub after : Port
  pub port_is : slice_get r.ports n ≡ Some (Some port)
  pub call : IsDequeue port max outcome after
  pub changed : q ≡ record r { ports = slice_set r.ports n (Some after) }

-- An answer is of its command's kind and port, and is what the command's call said: the device before the command, and after it.
abbrev pub IsAnswerTo : Line → Answer → Parts → Parts → Type 0
IsAnswerTo (Enqueue n fields) (answers.Enqueued port op outcome) r q = (port ≡ n) × (op ≡ fields.op) × PortEnqueues n fields outcome r q
IsAnswerTo (Dequeue n max) (answers.Dequeued port outcome) r q = (port ≡ n) × PortDequeues n max (outcome_of outcome) r q
IsAnswerTo Sweep (answers.Swept swept) r q = SweepsOnce swept r q
IsAnswerTo Shut answers.Shut r q = Shuts true r q
IsAnswerTo _ _ r q = ⊥

-- One answer a command, in order: the device before all of them, and after them.
abbrev pub ArePlayed : Parts → List Line → List Answer → Parts → Type 0
ArePlayed r [] [] q = q ≡ r
ArePlayed r (c ∷ cs) (a ∷ more) q = (between : Parts) × IsAnswerTo c a r between × ArePlayed between cs more q
ArePlayed r _ _ q = ⊥
