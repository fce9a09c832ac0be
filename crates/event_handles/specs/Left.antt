-- What is left in a device that was stopped, as C gets it.
use Rattle.std.specs.Prelude.{ℕ, List, [], ◌∷◌, map}
use Rattle.event_answers.specs.declared.report.Report.{Report}
use Rattle.event_answers.specs.declared.report.Turned.{Turned}
use Rattle.event_answers.specs.declared.report.Undelivered.{Undelivered}
use Rattle.event_answers.specs.declared.report.Untaken.{Untaken}
use Rattle.evt_types.specs.declared.event.Delivery.{Delivery}
use Rattle.evt_types.specs.declared.event.Event.{Event}
use Rattle.evt_types.specs.declared.event.KeptEvent.{KeptEvent}
use Rattle.evt_types.specs.declared.event.Kind.{Kind}
use Rattle.event_handles.specs.Events.{c_event, kind_in}
use Rattle.event_handles.specs.declared.event.CEvent.{CEvent}
use Rattle.event_handles.specs.declared.event.CLeft.{CLeft}

-- an event as it is, with the scheduling type of its queue
abbrev pub shown : List Kind → Event → CEvent
shown kinds e = c_event e (kind_in kinds e.queue)

-- an event of a part, that of a queue or lane
abbrev pub left_in : ℕ → List Kind → Event → ℕ → ℕ → CLeft
left_in part kinds e number lane = record { event = shown kinds e; number = number; part = part; lane = lane }

-- All of it but what the ports hold, which the program has: one list for each part, 0 to 4. It waits in a queue, a queue keeps it, a
-- lane's holder didn't receive it, it wasn't taken from a lane, it was turned away. What wasn't accepted has no number.
abbrev pub lists_of : {X : Type 0} → Report X → List Kind → List (List CLeft)
lists_of x kinds =
    map (λ (y : Delivery). left_in 0 kinds y.event y.number y.queue) x.waiting.items
    ∷ map (λ (y : KeptEvent). left_in 1 kinds y.event y.number y.queue) x.kept.items
    ∷ map (λ (y : Undelivered). left_in 2 kinds y.event y.number y.lane) x.undelivered.items
    ∷ map (λ (y : Untaken). left_in 3 kinds y.event 0 y.lane) x.untaken.items
    ∷ map (λ (y : Turned). left_in 4 kinds y.event 0 y.lane) x.turned.items
    ∷ []
