-- The text of a played script, byte by byte: the answers, the log and the report.
use Rattle.std.specs.Prelude.{ℕ, ◌+◌, ◌^◌, ◌-◌, ◌<◌, false, List, [], ◌∷◌, ◌++◌, length, codes, flat_map, slice_index, slice_set, Result, Ok, Err}
use Rattle.std.specs.declared.alloc.Global.{Global}
use Rattle.std.specs.declared.vec.Vec.{Vec}
use Rattle.std.specs.Fmt.{decimal, digits, padded_integral, format_spec}
use Rattle.evt_types.specs.Plan.{queue_in}
use Rattle.transcripts.specs.Transcript.{accepted}
use Rattle.evt_types.specs.Word.{word_of}
use Rattle.evt_types.specs.declared.draft.QueueDraft.{QueueDraft}
use Rattle.evt_types.specs.declared.event.Delivery.{Delivery}
use Rattle.evt_types.specs.declared.event.Event.{Event}
use Rattle.evt_types.specs.declared.event.KeptEvent.{KeptEvent}
use Rattle.evt_types.specs.declared.event.Op.{Op}
use Rattle.evt_types.specs.declared.event.Op.TheVariants as ops
use Rattle.evt_types.specs.declared.step.Outcome.{Outcome}
use Rattle.evt_types.specs.declared.step.Outcome.TheVariants.{Forwarded, Released}
use Rattle.evt_types.specs.declared.step.Source.{Source}
use Rattle.evt_types.specs.declared.step.Source.TheVariants.{New, Of}
use Rattle.evt_types.specs.declared.step.Step.{Step}
use Rattle.evt_types.specs.declared.step.Step.TheVariants.{Accept, Give, Done, More, Turned, Bounced, Shut}
use Rattle.event_answers.specs.declared.answer.Behind.{Behind}
use Rattle.event_answers.specs.declared.answer.Refused.{Refused}
use Rattle.event_answers.specs.declared.answer.Refused.TheVariants.{Stopped, BadQueue, NothingHeld, TooMany, Backpressure, Raced, Full}
use Rattle.event_answers.specs.declared.answer.Swept.{Swept}
use Rattle.event_answers.specs.declared.report.Held.{Held}
use Rattle.event_answers.specs.declared.report.Report.{Report}
use Rattle.event_answers.specs.declared.report.Undelivered.{Undelivered}
use Rattle.event_answers.specs.declared.report.Untaken.{Untaken}
use Rattle.play_text.specs.declared.answer.Answer.{Answer}
use Rattle.play_text.specs.declared.answer.Answer.TheVariants as answers

-- ---- words

-- a number in 16 lower case hexadecimal digits, with leading zeros
unfoldable pub hex_word : ℕ → List ℕ
hex_word n = padded_integral (format_spec 32 0 4 16 (2 ^ 64 - 1)) false [] (digits 16 false n)

-- an event's word, with the scheduling type of the queue that it names, and its payload
abbrev pub event_text : List QueueDraft → Event → List ℕ
event_text qs e = hex_word (word_of e (queue_in qs e.queue).kind) ++ codes " " ++ decimal e.payload

-- an event's place: its queue and number
abbrev pub place_text : ℕ → ℕ → List ℕ
place_text q n = codes "q" ++ decimal q ++ codes " #" ++ decimal n

-- ---- answers

abbrev pub op_name : Op → List ℕ
op_name ops.New = codes "new"
op_name ops.Forward = codes "fwd"
op_name ops.Release = codes "rel"
op_name ops.ForwardMore = codes "more"

-- why an event wasn't taken; the words that a race found are not told
abbrev pub refusal_text : Refused → List ℕ
refusal_text Stopped = codes "Stopped"
refusal_text BadQueue = codes "BadQueue"
refusal_text NothingHeld = codes "NothingHeld"
refusal_text TooMany = codes "TooMany"
refusal_text (Backpressure free) = codes "Backpressure free=" ++ decimal free
refusal_text (Raced first second) = codes "Raced"
refusal_text Full = codes "Full"

abbrev pub outcome_text : Result (Unit {0}) Refused → List ℕ
outcome_text (Ok u) = codes "ok"
outcome_text (Err r) = refusal_text r

-- a line of a dequeued event
abbrev pub delivery_line : List QueueDraft → Delivery → List ℕ
delivery_line qs d = codes "- " ++ place_text d.queue d.number ++ codes " " ++ event_text qs d.event ++ codes "\n"

abbrev pub deliveries_text : List QueueDraft → List Delivery → List ℕ
deliveries_text qs ds = decimal (length ds) ++ codes "\n" ++ flat_map (delivery_line qs) ds

abbrev pub behind_text : Behind → List ℕ
behind_text b = codes "Behind released=" ++ decimal b.released ++ codes "\n"

abbrev pub swept_line : Swept → List ℕ
swept_line s = codes "sweep: taken=" ++ decimal s.taken ++ codes " given=" ++ decimal s.given ++ codes " bounced=" ++ decimal s.bounced ++ codes "\n"

abbrev pub answer_text : List QueueDraft → Answer → List ℕ
answer_text qs (answers.Enqueued port op outcome) = op_name op ++ codes " " ++ decimal port ++ codes ": " ++ outcome_text outcome ++ codes "\n"
answer_text qs (answers.Dequeued port (Ok deliveries)) = codes "deq " ++ decimal port ++ codes ": " ++ deliveries_text qs deliveries.items
answer_text qs (answers.Dequeued port (Err behind)) = codes "deq " ++ decimal port ++ codes ": " ++ behind_text behind
answer_text qs (answers.Swept swept) = swept_line swept
answer_text qs answers.Shut = codes "shut: ok\n"

-- ---- the log

abbrev pub source_text : Source → List ℕ
source_text (New lane) = codes "new l" ++ decimal lane
source_text (Of queue number) = codes "of " ++ place_text queue number

abbrev pub accept_line : List QueueDraft → ℕ → ℕ → Event → Source → List ℕ
accept_line qs queue number e source =
    codes "accept " ++ place_text queue number ++ codes " " ++ source_text source ++ codes " " ++ event_text qs e ++ codes "\n"

abbrev pub done_text : List QueueDraft → Outcome → List ℕ
done_text qs Released = codes "release\n"
done_text qs (Forwarded e) = codes "forward " ++ event_text qs e ++ codes "\n"

-- the line of a step; n is the number of an accepted event
abbrev pub step_line : List QueueDraft → ℕ → Step → List ℕ
step_line qs n (Accept queue e source) = accept_line qs queue n e source
step_line qs n (Give lane queue number) = codes "give l" ++ decimal lane ++ codes " " ++ place_text queue number ++ codes "\n"
step_line qs n (Done lane outcome) = codes "done l" ++ decimal lane ++ codes " " ++ done_text qs outcome
step_line qs n (More lane e) = codes "more l" ++ decimal lane ++ codes " " ++ event_text qs e ++ codes "\n"
step_line qs n (Turned lane e) = codes "turned l" ++ decimal lane ++ codes " " ++ event_text qs e ++ codes "\n"
step_line qs n (Bounced lane) = codes "bounced l" ++ decimal lane ++ codes "\n"
step_line qs n Shut = codes "shut\n"

-- of a step that accepts, what is said of its queue; of another, this
abbrev pub if_accepts : {A : Type 0} → A → (ℕ → A) → Step → A
if_accepts other said (Accept queue e source) = said queue
if_accepts other said (Give lane queue number) = other
if_accepts other said (Done lane outcome) = other
if_accepts other said (More lane e) = other
if_accepts other said (Turned lane e) = other
if_accepts other said (Bounced lane) = other
if_accepts other said Shut = other

-- the number of the event that the step accepts after those past: it counts what the queue accepted before
abbrev pub number_after : List Step → Step → ℕ
number_after past s = if_accepts 0 (λ queue. length (accepted past queue)) s

-- the lines of the steps that come after those past
abbrev pub lines_after : List QueueDraft → List Step → List Step → List ℕ
lines_after qs past [] = []
lines_after qs past (s ∷ rest) = step_line qs (number_after past s) s ++ lines_after qs (past ++ s ∷ []) rest

abbrev pub log_text : List QueueDraft → List Step → List ℕ
log_text qs T = codes "log\n" ++ lines_after qs [] T

-- ---- the report

-- a waiting event: its queue and number
abbrev pub waiting_line : Delivery → List ℕ
waiting_line w = codes "waiting " ++ place_text w.queue w.number ++ codes "\n"

abbrev pub kept_line : List QueueDraft → KeptEvent → List ℕ
kept_line qs k = codes "kept " ++ place_text k.queue k.number ++ codes " " ++ event_text qs k.event ++ codes "\n"

unfoldable pub undelivered_line : Undelivered → List ℕ
undelivered_line u = codes "undelivered l" ++ decimal u.lane ++ codes " " ++ place_text u.queue u.number ++ codes "\n"

abbrev pub held_line : Held → List ℕ
held_line h = codes "held p" ++ decimal h.port ++ codes " " ++ place_text h.queue h.number ++ codes "\n"

abbrev pub untaken_line : List QueueDraft → Untaken → List ℕ
untaken_line qs u = codes "untaken l" ++ decimal u.lane ++ codes " " ++ event_text qs u.event ++ codes "\n"

abbrev pub pocket_text : ℕ → List ℕ
pocket_text n = codes " " ++ decimal n

-- where the credits are, and how many there are in all
abbrev pub credits_text : ℕ → Report (Vec Step Global) → List ℕ
credits_text limit r =
    codes "free " ++ decimal r.free ++ codes "\npockets" ++ flat_map pocket_text r.pockets.items ++ codes "\nown " ++ decimal r.own ++ codes "\nlimit " ++ decimal limit ++ codes "\n"

abbrev pub lists_text : List QueueDraft → Report (Vec Step Global) → List ℕ
lists_text qs r =
    flat_map waiting_line r.waiting.items ++ flat_map (kept_line qs) r.kept.items ++ flat_map undelivered_line r.undelivered.items ++ flat_map held_line r.held.items ++ flat_map (untaken_line qs) r.untaken.items

abbrev pub report_text : List QueueDraft → ℕ → Report (Vec Step Global) → List ℕ
report_text qs limit r = codes "report\n" ++ lists_text qs r ++ credits_text limit r

-- ---- the whole

-- what a device with these queues and this limit answered, did and has left
unfoldable pub text_of : List QueueDraft → ℕ → List Answer → Report (Vec Step Global) → List ℕ
text_of qs limit answers report = flat_map (answer_text qs) answers ++ log_text qs report.log.items ++ report_text qs limit report

-- a step that accepts names one of so many queues
abbrev pub IsInRange : ℕ → Step → Type 0
IsInRange n (Accept queue e source) = queue < n
IsInRange n (Give lane queue number) = Unit {0}
IsInRange n (Done lane outcome) = Unit {0}
IsInRange n (More lane e) = Unit {0}
IsInRange n (Turned lane e) = Unit {0}
IsInRange n (Bounced lane) = Unit {0}
IsInRange n Shut = Unit {0}

-- of the counts of what each queue accepted, the one that numbers the step's event
abbrev pub count_of : List ℕ → Step → ℕ
count_of counts s = if_accepts 0 (slice_index counts) s

-- the counts after the step
abbrev pub counts_after : List ℕ → Step → List ℕ
counts_after counts s = if_accepts counts (λ queue. slice_set counts queue (slice_index counts queue + 1)) s
