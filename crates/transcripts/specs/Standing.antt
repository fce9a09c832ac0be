-- Standing: what a scheduling core holds of a transcript, which replies it may take, and the steps that it takes them by.
use Rattle.std.specs.Prelude.{ℕ, ◌≡◌, ◌+◌, ◌^◌, Bool, true, false, not, ◌&&◌, ◌||◌, List, [], ◌∷◌, ◌++◌, ◌==◌, nat_lt, length, map, drop, filter, fold, sum, sum_by, take_while, flat_map, slice_get, slice_set, slice_index, slice_index_or, Option, Some, None, if◌then◌else◌, All}
use Rattle.evt_types.specs.Place.{Place}
use Rattle.evt_types.specs.Plan.{Plan, queues, lanes, bound_of, queue_of, slot_of, is_ordered}
use Rattle.transcripts.specs.Lawful.{Lawful}
use Rattle.transcripts.specs.Transcript.{accepted, waiting, inside, entries, unanswered, unanswered_slots, Held, extras, open_of, forwards, is_answered, is_from_of, has_shut}
use Rattle.evt_types.specs.declared.event.Event.{Event}
use Rattle.evt_types.specs.declared.event.KeptEvent.{KeptEvent}
use Rattle.evt_types.specs.declared.event.Numbered.{Numbered}
use Rattle.evt_types.specs.declared.event.Op.{Op}
use Rattle.evt_types.specs.declared.event.Op.TheVariants as ops
use Rattle.evt_types.specs.Limits.{most_extras}
use Rattle.evt_types.specs.declared.step.Outcome.{Outcome}
use Rattle.evt_types.specs.declared.step.Outcome.TheVariants.{Forwarded, Released}
use Rattle.evt_types.specs.declared.step.Source.TheVariants as sources
use Rattle.evt_types.specs.declared.step.Step.{Step}
use Rattle.evt_types.specs.declared.step.Step.TheVariants.{Accept, Give, Done, More, Turned, Bounced, Shut}

-- ---- the view of a transcript

abbrev pub place_at : List Step → ℕ → ℕ → Place
place_at T q n = record { number = n; answered = is_answered T q n; forwards = forwards T q n }

-- the places of an ordered queue: its open numbers, in hand-out order. Another queue restores no order and has none.
abbrev pub places : Plan → List Step → ℕ → List Place
places p T q = if is_ordered (queue_of p q).kind then map (place_at T q) (open_of T q) else []

-- Per queue what waits, the next number and the places; per lane what is unanswered, and how many events were added beside the oldest
-- of it; and whether the core is shut. The added events themselves are those of an ordered queue's place, and of any other queue they
-- are accepted at once: which replies may be taken, and which steps they have, depends on their number alone.
pub record View : Type 0 where
  pub shape : Plan
  pub waiting : List (List Numbered)
  pub next : List ℕ
  pub places : List (List Place)
  pub unanswered : List (List Held)
  pub extras : List ℕ
  pub shut : Bool

unfoldable pub view_of : Plan → List Step → View
view_of p T =
    record {
      shape = p;
      waiting = map (waiting T) (queues p);
      next = map (λ q. length (accepted T q)) (queues p);
      places = map (places p T) (queues p);
      unanswered = map (unanswered_slots p T) (lanes p);
      extras = map (λ l. length (extras T l)) (lanes p);
      shut = has_shut T;
    }

-- a core stands at a transcript: it is lawful, and the core holds its view
pub record Stands (T : List Step) (v : View) : Type 0 where
  pub lawful : Lawful v.shape T
  pub holds : v ≡ view_of v.shape T

abbrev pub waiting_at : View → ℕ → List Numbered
waiting_at v q = slice_index_or v.waiting q []

abbrev pub next_at : View → ℕ → ℕ
next_at v q = slice_index v.next q

abbrev pub places_at : View → ℕ → List Place
places_at v q = slice_index_or v.places q []

abbrev pub unanswered_at : View → ℕ → List Held
unanswered_at v l = slice_index_or v.unanswered l []

abbrev pub extras_at : View → ℕ → ℕ
extras_at v l = slice_index v.extras l

-- the lane's oldest unanswered event
abbrev pub oldest_at : View → ℕ → Option Held
oldest_at v l = slice_get (unanswered_at v l) 0

-- how many events are kept, how many are waiting, kept or unanswered, and how many are or will be accepted
abbrev pub kept_in : View → ℕ
kept_in v = sum_by (λ ps. sum_by (λ (x : Place). length x.forwards) ps) v.places

abbrev pub inside_of : View → ℕ
inside_of v = sum_by (λ (xs : List Numbered). length xs) v.waiting + kept_in v + sum_by (λ (xs : List Held). length xs) v.unanswered

abbrev pub entries_of : View → ℕ
entries_of v = sum v.next + kept_in v

-- ---- which replies may be taken (that a NEW is turned away by name once the device is shut is own)

abbrev pub may_enter : View → ℕ → Bool
may_enter v q = nat_lt q (length v.shape.queues) && (v.shut || (nat_lt (inside_of v) (bound_of v.shape) && nat_lt (entries_of v) (2 ^ 63)))

abbrev pub may_answer : View → ℕ → Bool
may_answer v l = nat_lt 0 (length (unanswered_at v l))

abbrev pub may_forward : View → ℕ → ℕ → Bool
may_forward v l q = may_answer v l && (nat_lt q (length v.shape.queues) && nat_lt (entries_of v) (2 ^ 63))

-- an event may be added where an event may be forwarded, as long as few were added and there is room for one more inside
abbrev pub may_add : View → ℕ → ℕ → Bool
may_add v l q = may_forward v l q && (nat_lt (extras_at v l) most_extras && nat_lt (inside_of v) (bound_of v.shape))

-- a NEW comes on a port's own lane
abbrev pub may_take_by : Op → View → ℕ → Event → Bool
may_take_by ops.New v l e = nat_lt l (length v.shape.ports) && may_enter v e.queue
may_take_by ops.Forward v l e = may_forward v l e.queue
may_take_by ops.Release v l e = may_answer v l
may_take_by ops.ForwardMore v l e = may_add v l e.queue

-- whether the lane's reply with this event may be taken
abbrev pub may_take : View → ℕ → Event → Bool
may_take v l e = may_take_by e.op v l e

-- The same by the transcript: the queue is there, a NEW is a port's, what is inside and what was accepted or is kept leave room for
-- it while Shut isn't in the transcript, an answer answers something, and an event is added beside something, one of few, where there
-- is room for it.
abbrev pub may_enter_at : Plan → List Step → ℕ → Bool
may_enter_at p T q = nat_lt q (length p.queues) && (has_shut T || (nat_lt (inside p T) (bound_of p) && nat_lt (entries p T) (2 ^ 63)))

abbrev pub may_answer_at : List Step → ℕ → Bool
may_answer_at T l = nat_lt 0 (length (unanswered T l))

abbrev pub may_forward_at : Plan → List Step → ℕ → ℕ → Bool
may_forward_at p T l q = may_answer_at T l && (nat_lt q (length p.queues) && nat_lt (entries p T) (2 ^ 63))

abbrev pub may_add_at : Plan → List Step → ℕ → ℕ → Bool
may_add_at p T l q = may_forward_at p T l q && (nat_lt (length (extras T l)) most_extras && nat_lt (inside p T) (bound_of p))

abbrev pub may_be_taken_by : Op → Plan → List Step → ℕ → Event → Bool
may_be_taken_by ops.New p T l e = nat_lt l (length p.ports) && may_enter_at p T e.queue
may_be_taken_by ops.Forward p T l e = may_forward_at p T l e.queue
may_be_taken_by ops.Release p T l e = may_answer_at T l
may_be_taken_by ops.ForwardMore p T l e = may_add_at p T l e.queue

abbrev pub may_be_taken : Plan → List Step → ℕ → Event → Bool
may_be_taken p T l e = may_be_taken_by e.op p T l e

-- ---- what is kept

-- what a place keeps, under its event's number, the same as it is reported, and a kept event with the number that it was passed on
-- from
abbrev pub kept_in_place : Place → List Numbered
kept_in_place x = map (λ (e : Event). record { number = x.number; event = e }) x.forwards

abbrev pub kept_event : ℕ → Numbered → KeptEvent
kept_event q w = record { queue = q; number = w.number; event = w.event }

abbrev pub kept_under : ℕ × Event → Numbered
kept_under x = record { number = x.0; event = x.1 }

-- the queue's kept events by what a core holds, in hand-out order
abbrev pub kept_at : View → ℕ → List Numbered
kept_at v q = flat_map kept_in_place (places_at v q)

-- ---- the steps of a reply

-- this step, and then events that were passed on are accepted, and nothing else
abbrev pub AreLed : Step → List Step → Type 0
AreLed s steps = (rest : List Step) × (steps ≡ s ∷ rest) × All (λ t. is_from_of t ≡ true) rest

-- led by the answer of the lane's oldest event
abbrev pub AreAnswer : ℕ → Outcome → List Step → Type 0
AreAnswer l o steps = AreLed (Done l o) steps

abbrev pub AreStepsBy : Op → List Step → ℕ → Event → List Step → Type 0
AreStepsBy ops.New T l e steps = steps ≡ (if has_shut T then Turned l e ∷ [] else Accept e.queue e (sources.New l) ∷ [])
AreStepsBy ops.Forward T l e steps = AreAnswer l (Forwarded e) steps
AreStepsBy ops.Release T l e steps = AreAnswer l Released steps
AreStepsBy ops.ForwardMore T l e steps = AreLed (More l e) steps

-- the steps of a reply at a transcript: of this form, and such that the whole is lawful
pub record AreStepsOf (p : Plan) (T : List Step) (l : ℕ) (e : Event) (steps : List Step) : Type 0 where
  pub form : AreStepsBy e.op T l e steps
  pub lawful : Lawful p (T ++ steps)

-- The same steps by what a core holds. An answer of an ordered queue's event settles its place, and then the answered
-- places at the front leave: what they were passed on as is accepted. An event that is added beside one of an ordered queue goes into
-- its place; of any other queue it is accepted at once.

abbrev pub events_of : Outcome → List Event
events_of (Forwarded e) = e ∷ []
events_of Released = []

abbrev pub answer_place : ℕ → Outcome → Place → Place
answer_place n o x = if x.number == n then record { number = n; answered = true; forwards = x.forwards ++ events_of o } else x

abbrev pub answered_places : View → ℕ → ℕ → Outcome → List Place
answered_places v q n o = map (answer_place n o) (places_at v q)

abbrev pub leaving : List Place → List Place
leaving xs = take_while (λ (x : Place). x.answered) xs

abbrev pub staying : List Place → List Place
staying xs = drop (length (leaving xs)) xs

abbrev pub accepts_from : ℕ → ℕ → List Event → List Step
accepts_from q n es = map (λ (e : Event). Accept e.queue e (sources.Of q n)) es

abbrev pub accepts_of : View → Option Held → Outcome → List Step
accepts_of v None o = []
accepts_of v (Some h) o =
    if is_ordered (queue_of v.shape h.queue).kind
    then flat_map (λ (x : Place). accepts_from h.queue x.number x.forwards) (leaving (answered_places v h.queue h.number o))
    else accepts_from h.queue h.number (events_of o)

abbrev pub answer_steps : View → ℕ → Outcome → List Step
answer_steps v l o = Done l o ∷ accepts_of v (oldest_at v l) o

abbrev pub added_of : View → Option Held → Event → List Step
added_of v None e = []
added_of v (Some h) e = if is_ordered (queue_of v.shape h.queue).kind then [] else accepts_from h.queue h.number (e ∷ [])

abbrev pub more_steps : View → ℕ → Event → List Step
more_steps v l e = More l e ∷ added_of v (oldest_at v l) e

abbrev pub steps_by : Op → View → ℕ → Event → List Step
steps_by ops.New v l e = if v.shut then Turned l e ∷ [] else Accept e.queue e (sources.New l) ∷ []
steps_by ops.Forward v l e = answer_steps v l (Forwarded e)
steps_by ops.Release v l e = answer_steps v l Released
steps_by ops.ForwardMore v l e = more_steps v l e

abbrev pub steps_of : View → ℕ → Event → List Step
steps_of v l e = steps_by e.op v l e

-- ---- what a step makes of a view

abbrev pub after_accept : View → ℕ → Event → View
after_accept v q e =
    record v {
      waiting = slice_set v.waiting q (waiting_at v q ++ record { number = next_at v q; event = e } ∷ []);
      next = slice_set v.next q (next_at v q + 1);
    }

-- the waiting event of a number
abbrev pub event_in : List Numbered → ℕ → Option Event
event_in [] n = None
event_in (w ∷ ws) n = if w.number == n then Some w.event else event_in ws n

abbrev pub slot_in : View → ℕ → Option Event → ℕ
slot_in v q None = 0
slot_in v q (Some e) = slot_of v.shape q e.flow

abbrev pub after_give : View → ℕ → ℕ → ℕ → View
after_give v l q n =
    record v {
      waiting = slice_set v.waiting q (filter (λ (w : Numbered). not (w.number == n)) (waiting_at v q));
      places = if is_ordered (queue_of v.shape q).kind then slice_set v.places q (places_at v q ++ record { number = n; answered = false; forwards = [] } ∷ []) else v.places;
      unanswered = slice_set v.unanswered l (unanswered_at v l ++ record { queue = q; number = n; slot = slot_in v q (event_in (waiting_at v q) n) } ∷ []);
    }

abbrev pub places_after : View → Option Held → Outcome → List (List Place)
places_after v None o = v.places
places_after v (Some h) o =
    if is_ordered (queue_of v.shape h.queue).kind then slice_set v.places h.queue (staying (answered_places v h.queue h.number o)) else v.places

abbrev pub after_done : View → ℕ → Outcome → View
after_done v l o =
    record v {
      places = places_after v (oldest_at v l) o;
      unanswered = slice_set v.unanswered l (drop 1 (unanswered_at v l));
      extras = slice_set v.extras l 0;
    }

abbrev pub add_to_place : ℕ → Event → Place → Place
add_to_place n e x = if x.number == n then record { number = n; answered = x.answered; forwards = x.forwards ++ e ∷ [] } else x

abbrev pub places_with : View → Option Held → Event → List (List Place)
places_with v None e = v.places
places_with v (Some h) e =
    if is_ordered (queue_of v.shape h.queue).kind then slice_set v.places h.queue (map (add_to_place h.number e) (places_at v h.queue)) else v.places

abbrev pub after_more : View → ℕ → Event → View
after_more v l e = record v { places = places_with v (oldest_at v l) e; extras = slice_set v.extras l (extras_at v l + 1) }

abbrev pub after_step : View → Step → View
after_step v (Accept q e s) = after_accept v q e
after_step v (Give l q n) = after_give v l q n
after_step v (Done l o) = after_done v l o
after_step v (More l e) = after_more v l e
after_step v (Turned l e) = v
after_step v (Bounced l) = v
after_step v Shut = record v { shut = true }

-- after some steps
abbrev pub after : View → List Step → View
after v steps = fold after_step v steps
