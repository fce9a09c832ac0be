-- A played script as JSON, one object a line, byte by byte: the answers, the log and the report.
use Rattle.std.specs.Prelude.{ℕ, List, [], ◌∷◌, ◌++◌, codes, flat_map, map, Result, Ok, Err}
use Rattle.std.specs.declared.alloc.Global.{Global}
use Rattle.std.specs.declared.vec.Vec.{Vec}
use Rattle.serde_json.specs.Data as json
use Rattle.serde_json.specs.Data.{Data, array, object, string, Members, no_members, member}
use Rattle.serde_json.specs.View.{items_of}
use Rattle.serde_json.specs.Written.{compact_text}
use Rattle.evt_types.specs.Plan.{queue_in}
use Rattle.evt_types.specs.declared.draft.QueueDraft.{QueueDraft}
use Rattle.evt_types.specs.declared.event.Delivery.{Delivery}
use Rattle.evt_types.specs.declared.event.Event.{Event}
use Rattle.evt_types.specs.declared.event.KeptEvent.{KeptEvent}
use Rattle.evt_types.specs.declared.event.Kind.{Kind}
use Rattle.evt_types.specs.declared.event.Kind.TheVariants.{Ordered, Atomic, Parallel}
use Rattle.evt_types.specs.declared.event.Op.{Op}
use Rattle.evt_types.specs.declared.event.Op.TheVariants as ops
use Rattle.evt_types.specs.declared.step.Outcome.{Outcome}
use Rattle.evt_types.specs.declared.step.Outcome.TheVariants.{Forwarded, Released}
use Rattle.evt_types.specs.declared.step.Source.{Source}
use Rattle.evt_types.specs.declared.step.Source.TheVariants.{New, Of}
use Rattle.evt_types.specs.declared.step.Step.{Step}
use Rattle.evt_types.specs.declared.step.Step.TheVariants.{Accept, Give, Done, More, Turned, Bounced, Shut}
use Rattle.event_answers.specs.declared.answer.Behind.{Behind}
use Rattle.event_answers.specs.declared.answer.Refused.{Refused}
use Rattle.event_answers.specs.declared.answer.Refused.TheVariants.{Stopped, BadQueue, NothingHeld, TooMany, Backpressure, Raced, Full}
use Rattle.event_answers.specs.declared.answer.Swept.{Swept}
use Rattle.event_answers.specs.declared.report.Held.{Held}
use Rattle.event_answers.specs.declared.report.Report.{Report}
use Rattle.event_answers.specs.declared.report.Undelivered.{Undelivered}
use Rattle.event_answers.specs.declared.report.Untaken.{Untaken}
use Rattle.play_text.specs.Text.{number_after}
use Rattle.play_text.specs.declared.answer.Answer.{Answer}
use Rattle.play_text.specs.declared.answer.Answer.TheVariants as answers

-- ---- objects; the members stand in the order of their keys

abbrev pub of_members : List (List ℕ × Data) → Members
of_members [] = no_members
of_members (m ∷ ms) = member m.0 m.1 (of_members ms)

abbrev pub object_of : List (List ℕ × Data) → Data
object_of ms = object (of_members ms)

abbrev pub count : ℕ → Data
count n = json.number (json.unsigned n)

abbrev pub array_of : List Data → Data
array_of ds = array (items_of ds)

-- an object's line
abbrev pub line : Data → List ℕ
line d = compact_text d ++ codes "\n"

-- ---- events

abbrev pub op_name : Op → List ℕ
op_name ops.New = codes "new"
op_name ops.Forward = codes "forward"
op_name ops.Release = codes "release"
op_name ops.ForwardMore = codes "forward-more"

abbrev pub kind_name : Kind → List ℕ
kind_name Ordered = codes "ordered"
kind_name Atomic = codes "atomic"
kind_name Parallel = codes "parallel"

-- an event, with the scheduling type of the queue that it names
abbrev pub event_object : List QueueDraft → Event → Data
event_object qs e =
    object_of (
    (codes "event_type", count e.event_type)
    ∷ (codes "flow", count e.flow)
    ∷ (codes "impl_opaque", count e.impl_opaque)
    ∷ (codes "op", string (op_name e.op))
    ∷ (codes "payload", count e.payload)
    ∷ (codes "priority", count e.priority)
    ∷ (codes "queue", count e.queue)
    ∷ (codes "sched_type", string (kind_name (queue_in qs e.queue).kind))
    ∷ (codes "sub_type", count e.sub_type)
    ∷ []
    )

-- ---- answers

-- why an event wasn't taken
abbrev pub refusal_name : Refused → List ℕ
refusal_name Stopped = codes "Stopped"
refusal_name BadQueue = codes "BadQueue"
refusal_name NothingHeld = codes "NothingHeld"
refusal_name TooMany = codes "TooMany"
refusal_name (Backpressure free) = codes "Backpressure"
refusal_name (Raced first second) = codes "Raced"
refusal_name Full = codes "Full"

abbrev pub enqueued_object : ℕ → Op → List ℕ → Data
enqueued_object port op outcome =
    object_of ((codes "answer", string (codes "enqueue")) ∷ (codes "op", string (op_name op)) ∷ (codes "outcome", string outcome) ∷ (codes "port", count port) ∷ [])

-- a refusal for want of credits says how many were free
abbrev pub refused_object : ℕ → Op → Refused → Data
refused_object port op Stopped = enqueued_object port op (refusal_name Stopped)
refused_object port op BadQueue = enqueued_object port op (refusal_name BadQueue)
refused_object port op NothingHeld = enqueued_object port op (refusal_name NothingHeld)
refused_object port op TooMany = enqueued_object port op (refusal_name TooMany)
refused_object port op (Backpressure free) =
    object_of (
    (codes "answer", string (codes "enqueue"))
    ∷ (codes "free", count free)
    ∷ (codes "op", string (op_name op))
    ∷ (codes "outcome", string (refusal_name (Backpressure free)))
    ∷ (codes "port", count port)
    ∷ []
    )
refused_object port op (Raced first second) = enqueued_object port op (refusal_name (Raced first second))
refused_object port op Full = enqueued_object port op (refusal_name Full)

abbrev pub outcome_object : ℕ → Op → Result (Unit {0}) Refused → Data
outcome_object port op (Ok u) = enqueued_object port op (codes "ok")
outcome_object port op (Err r) = refused_object port op r

abbrev pub delivery_object : List QueueDraft → Delivery → Data
delivery_object qs d = object_of ((codes "event", event_object qs d.event) ∷ (codes "number", count d.number) ∷ (codes "queue", count d.queue) ∷ [])

abbrev pub dequeued_object : List QueueDraft → ℕ → List Delivery → Data
dequeued_object qs port ds =
    object_of (
    (codes "answer", string (codes "dequeue")) ∷ (codes "events", array_of (map (delivery_object qs) ds)) ∷ (codes "outcome", string (codes "ok")) ∷ (codes "port", count port) ∷ []
    )

abbrev pub behind_object : ℕ → Behind → Data
behind_object port b =
    object_of (
    (codes "answer", string (codes "dequeue")) ∷ (codes "outcome", string (codes "Behind")) ∷ (codes "port", count port) ∷ (codes "released", count b.released) ∷ []
    )

abbrev pub swept_object : Swept → Data
swept_object s =
    object_of ((codes "answer", string (codes "sweep")) ∷ (codes "bounced", count s.bounced) ∷ (codes "given", count s.given) ∷ (codes "taken", count s.taken) ∷ [])

abbrev pub answer_object : List QueueDraft → Answer → Data
answer_object qs (answers.Enqueued port op outcome) = outcome_object port op outcome
answer_object qs (answers.Dequeued port (Ok deliveries)) = dequeued_object qs port deliveries.items
answer_object qs (answers.Dequeued port (Err behind)) = behind_object port behind
answer_object qs (answers.Swept swept) = swept_object swept
answer_object qs answers.Shut = object_of ((codes "answer", string (codes "shut")) ∷ [])

-- the line of an answer; a dequeue has one, with all its events
abbrev pub answer_line : List QueueDraft → Answer → List ℕ
answer_line qs a = line (answer_object qs a)

-- ---- the log

abbrev pub source_object : Source → Data
source_object (New lane) = object_of ((codes "lane", count lane) ∷ [])
source_object (Of queue number) = object_of ((codes "number", count number) ∷ (codes "queue", count queue) ∷ [])

abbrev pub accept_object : List QueueDraft → ℕ → ℕ → Event → Source → Data
accept_object qs queue number e source =
    object_of (
    (codes "event", event_object qs e) ∷ (codes "number", count number) ∷ (codes "queue", count queue) ∷ (codes "source", source_object source) ∷ (codes "step", string (codes "accept")) ∷ []
    )

abbrev pub give_object : ℕ → ℕ → ℕ → Data
give_object lane queue number =
    object_of ((codes "lane", count lane) ∷ (codes "number", count number) ∷ (codes "queue", count queue) ∷ (codes "step", string (codes "give")) ∷ [])

abbrev pub done_object : List QueueDraft → ℕ → Outcome → Data
done_object qs lane Released = object_of ((codes "lane", count lane) ∷ (codes "outcome", string (codes "release")) ∷ (codes "step", string (codes "done")) ∷ [])
done_object qs lane (Forwarded e) =
    object_of ((codes "event", event_object qs e) ∷ (codes "lane", count lane) ∷ (codes "outcome", string (codes "forward")) ∷ (codes "step", string (codes "done")) ∷ [])

-- what befell an event of the lane
abbrev pub event_step_object : List QueueDraft → List ℕ → ℕ → Event → Data
event_step_object qs name lane e = object_of ((codes "event", event_object qs e) ∷ (codes "lane", count lane) ∷ (codes "step", string name) ∷ [])

abbrev pub bounced_object : ℕ → Data
bounced_object lane = object_of ((codes "lane", count lane) ∷ (codes "step", string (codes "bounced")) ∷ [])

-- the object of a step; n is the number of an accepted event
abbrev pub step_object : List QueueDraft → ℕ → Step → Data
step_object qs n (Accept queue e source) = accept_object qs queue n e source
step_object qs n (Give lane queue number) = give_object lane queue number
step_object qs n (Done lane outcome) = done_object qs lane outcome
step_object qs n (More lane e) = event_step_object qs (codes "more") lane e
step_object qs n (Turned lane e) = event_step_object qs (codes "turned") lane e
step_object qs n (Bounced lane) = bounced_object lane
step_object qs n Shut = object_of ((codes "step", string (codes "shut")) ∷ [])

abbrev pub step_line : List QueueDraft → ℕ → Step → List ℕ
step_line qs n s = line (step_object qs n s)

-- the lines of the steps that come after those past
abbrev pub lines_after : List QueueDraft → List Step → List Step → List ℕ
lines_after qs past [] = []
lines_after qs past (s ∷ rest) = step_line qs (number_after past s) s ++ lines_after qs (past ++ s ∷ []) rest

-- ---- the report

-- an event that waits
abbrev pub waiting_object : Delivery → Data
waiting_object w = object_of ((codes "left", string (codes "waiting")) ∷ (codes "number", count w.number) ∷ (codes "queue", count w.queue) ∷ [])

abbrev pub kept_object : List QueueDraft → KeptEvent → Data
kept_object qs k =
    object_of ((codes "event", event_object qs k.event) ∷ (codes "left", string (codes "kept")) ∷ (codes "number", count k.number) ∷ (codes "queue", count k.queue) ∷ [])

abbrev pub undelivered_object : Undelivered → Data
undelivered_object u =
    object_of ((codes "lane", count u.lane) ∷ (codes "left", string (codes "undelivered")) ∷ (codes "number", count u.number) ∷ (codes "queue", count u.queue) ∷ [])

abbrev pub held_object : Held → Data
held_object h = object_of ((codes "left", string (codes "held")) ∷ (codes "number", count h.number) ∷ (codes "port", count h.port) ∷ (codes "queue", count h.queue) ∷ [])

abbrev pub untaken_object : List QueueDraft → Untaken → Data
untaken_object qs u = object_of ((codes "event", event_object qs u.event) ∷ (codes "lane", count u.lane) ∷ (codes "left", string (codes "untaken")) ∷ [])

-- where the credits are, and how many there are in all
abbrev pub credits_object : ℕ → Report (Vec Step Global) → Data
credits_object limit r =
    object_of ((
      codes "credits",
      object_of ((codes "free", count r.free) ∷ (codes "limit", count limit) ∷ (codes "own", count r.own) ∷ (codes "pockets", array_of (map count r.pockets.items)) ∷ []),
    )
    ∷ []
    )

abbrev pub report_text : List QueueDraft → ℕ → Report (Vec Step Global) → List ℕ
report_text qs limit r =
    flat_map (λ w. line (waiting_object w)) r.waiting.items
    ++ flat_map (λ k. line (kept_object qs k)) r.kept.items
    ++ flat_map (λ u. line (undelivered_object u)) r.undelivered.items
    ++ flat_map (λ h. line (held_object h)) r.held.items
    ++ flat_map (λ u. line (untaken_object qs u)) r.untaken.items
    ++ line (credits_object limit r)

-- ---- the whole

-- what a device with these queues and this limit answered, did and has left
unfoldable pub json_text : List QueueDraft → ℕ → List Answer → Report (Vec Step Global) → List ℕ
json_text qs limit answers report = flat_map (answer_line qs) answers ++ lines_after qs [] report.log.items ++ report_text qs limit report
