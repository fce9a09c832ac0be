-- What a transcript says: the words by which the promises on a device are made. Each is read off the whole list of steps.
-- A queue or lane that isn't there has empty lists, so no word needs a bound.
use Rattle.std.specs.Prelude.{ℕ, ◌+◌, Bool, true, false, not, ◌&&◌, List, [], ◌∷◌, ◌++◌, ◌==◌, length, map, drop, filter, fold, sum_by, Option, Some, None, slice_get, filter_map, flat_map, if◌then◌else◌}
use Rattle.std.specs.List.{list_any}
use Rattle.evt_types.specs.Plan.{Plan, lanes, queues, slot_of}
use Rattle.lists.specs.Lists.{has, with_past, from_first}
use Rattle.evt_types.specs.declared.event.Event.{Event}
use Rattle.evt_types.specs.declared.event.KeptEvent.{KeptEvent}
use Rattle.evt_types.specs.declared.event.Numbered.{Numbered}
use Rattle.evt_types.specs.declared.step.Outcome.{Outcome}
use Rattle.evt_types.specs.declared.step.Outcome.TheVariants.{Forwarded, Released}
use Rattle.evt_types.specs.declared.step.Source.TheVariants.{New, Of}
use Rattle.evt_types.specs.declared.step.Step.{Step}
use Rattle.evt_types.specs.declared.step.Step.TheVariants.{Accept, Give, Done, More, Turned, Bounced, Shut}

-- ---- What was accepted (Event Device Library, "Queues", "Ingress of New Events", "Forwarding of Events")

abbrev pub accepted_in : ℕ → Step → Option Event
accepted_in q (Accept r e s) = if r == q then Some e else None
accepted_in q s = None

-- the events that the queue accepted, in order: an event's number is its place here, from 0
unfoldable pub accepted : List Step → ℕ → List Event
accepted T q = filter_map (accepted_in q) T

-- each event with its number
abbrev pub numbered : ℕ → List Event → List Numbered
numbered n [] = []
numbered n (e ∷ es) = record { number = n; event = e } ∷ numbered (n + 1) es

-- the accepted events with their numbers
abbrev pub entered : List Step → ℕ → List Numbered
entered T q = numbered 0 (accepted T q)

-- the event of a number
abbrev pub event_at : List Step → ℕ → ℕ → Option Event
event_at T q n = slice_get (accepted T q) n

abbrev pub slot_if : Plan → ℕ → Option Event → ℕ
slot_if p q None = 0
slot_if p q (Some e) = slot_of p q e.flow

-- the slot of a number
abbrev pub slot_at : Plan → List Step → ℕ → ℕ → ℕ
slot_at p T q n = slot_if p q (event_at T q n)

-- ---- What was given and answered (Event Device Library, "Egress of Events"; that answers go by age is own)

abbrev pub given_to : ℕ → Step → Option (ℕ × ℕ)
given_to l (Give m q n) = if m == l then Some (q, n) else None
given_to l s = None

-- the (queue, number) pairs that the lane was given, in order
unfoldable pub out : List Step → ℕ → List (ℕ × ℕ)
out T l = filter_map (given_to l) T

abbrev pub answer_of : ℕ → Step → Option Outcome
answer_of l (Done m o) = if m == l then Some o else None
answer_of l s = None

-- the lane's answers, in order: the k-th is to the k-th pair
unfoldable pub answers : List Step → ℕ → List Outcome
answers T l = filter_map (answer_of l) T

-- the pairs that the lane hasn't answered
unfoldable pub unanswered : List Step → ℕ → List (ℕ × ℕ)
unanswered T l = drop (length (answers T l)) (out T l)

-- an unanswered pair, with its slot
pub record Held : Type 0 where
  pub queue : ℕ
  pub number : ℕ
  pub slot : ℕ

abbrev pub held_at : Plan → List Step → ℕ × ℕ → Held
held_at p T x = record { queue = x.0; number = x.1; slot = slot_at p T x.0 x.1 }

abbrev pub unanswered_slots : Plan → List Step → ℕ → List Held
unanswered_slots p T l = map (held_at p T) (unanswered T l)

-- the pair that the lane's next answer is to
abbrev pub next_pair : List Step → ℕ → Option (ℕ × ℕ)
next_pair P l = slice_get (out P l) (length (answers P l))

abbrev pub ends : List Step → Step → Option (ℕ × ℕ)
ends P (Done l o) = next_pair P l
ends P (Accept q e s) = None
ends P (Give l q n) = None
ends P (More l e) = None
ends P (Turned l e) = None
ends P (Bounced l) = None
ends P Shut = None

-- the pairs that were answered, in the order of their answers
unfoldable pub ended : List Step → List (ℕ × ℕ)
ended T = with_past ends [] T

abbrev pub is_pair : ℕ → ℕ → ℕ × ℕ → Bool
is_pair q n x = (x.0 == q) && (x.1 == n)

abbrev pub is_answered : List Step → ℕ → ℕ → Bool
is_answered T q n = list_any (is_pair q n) (ended T)

abbrev pub with_event : Event → Option (ℕ × ℕ) → Option ((ℕ × ℕ) × Event)
with_event e None = None
with_event e (Some x) = Some (x, e)

abbrev pub sends : List Step → Step → Option ((ℕ × ℕ) × Event)
sends P (Done l (Forwarded e)) = with_event e (next_pair P l)
sends P (Done l Released) = None
sends P (Accept q e s) = None
sends P (Give l q n) = None
sends P (More l e) = with_event e (next_pair P l)
sends P (Turned l e) = None
sends P (Bounced l) = None
sends P Shut = None

-- the events that were passed on, each with the pair that it comes from: a FORWARD's with the pair that it answers, an added one with
-- the pair that the lane's next answer is to
unfoldable pub sent : List Step → List ((ℕ × ℕ) × Event)
sent T = with_past sends [] T

abbrev pub sent_for : ℕ → ℕ → (ℕ × ℕ) × Event → Option Event
sent_for q n x = if is_pair q n x.0 then Some x.1 else None

-- the events that this number was passed on as: those that were added beside it, then that of its FORWARD
unfoldable pub forwards : List Step → ℕ → ℕ → List Event
forwards T q n = filter_map (sent_for q n) (sent T)

-- what was added on a lane since its last answer, after one step more
abbrev pub add_more : ℕ → List Event → Step → List Event
add_more l es (More m e) = if m == l then es ++ e ∷ [] else es
add_more l es (Done m o) = if m == l then [] else es
add_more l es s = es

-- the events that were added beside the lane's oldest unanswered one (own; a program of DPDK's enqueues a NEW in its place)
unfoldable pub extras : List Step → ℕ → List Event
extras T l = fold (add_more l) [] T

-- ---- What waits and what is inside (Event Device Library, "Queues")

abbrev pub given_of : ℕ → Step → Option ℕ
given_of q (Give l r n) = if r == q then Some n else None
given_of q s = None

-- the hand-out: the queue's numbers in the order of their Gives (rte_eventdev, RTE_SCHED_TYPE_ORDERED)
unfoldable pub hand : List Step → ℕ → List ℕ
hand T q = filter_map (given_of q) T

-- the queue's events that no Give has, by rising number
unfoldable pub waiting : List Step → ℕ → List Numbered
waiting T q = filter (λ (w : Numbered). not (has w.number (hand T q))) (entered T q)

abbrev pub named : ℕ → Option Event → Option Numbered
named n None = None
named n (Some e) = Some (record { number = n; event = e })

abbrev pub named_at : List Step → ℕ → ℕ → Option Numbered
named_at T q n = named n (event_at T q n)

-- the queue's events that were given, in the order of their Gives
abbrev pub given : List Step → ℕ → List Numbered
given T q = filter_map (named_at T q) (hand T q)

-- ---- The hand-out (Event Device Library, "Queues"; rte_eventdev, RTE_SCHED_TYPE_ORDERED)

-- the events that were accepted from this number
abbrev pub taken_in : ℕ → ℕ → Step → Option Event
taken_in q n (Accept r e (Of s m)) = if is_pair q n (s, m) then Some e else None
taken_in q n s = None

unfoldable pub taken : List Step → ℕ → ℕ → List Event
taken T q n = filter_map (taken_in q n) T

-- the queue's numbers from which events were accepted, in the order of those Accepts
abbrev pub source_in : ℕ → Step → Option ℕ
source_in q (Accept r e (Of s n)) = if s == q then Some n else None
source_in q s = None

unfoldable pub sources : List Step → ℕ → List ℕ
sources T q = filter_map (source_in q) T

-- what this number was passed on as and no Accept has yet: the i-th Accept from it has the i-th of its forwards
abbrev pub kept_of : List Step → ℕ → ℕ → List Event
kept_of T q n = drop (length (taken T q n)) (forwards T q n)

-- the queue's kept events, each with the number that it was passed on from, in hand-out order
unfoldable pub kept : List Step → ℕ → List (ℕ × Event)
kept T q = flat_map (λ n. map (λ e. (n, e)) (kept_of T q n)) (hand T q)

-- the same as they are reported
abbrev pub kept_events : List Step → ℕ → List KeptEvent
kept_events T q = map (λ (x : ℕ × Event). record { queue = q; number = x.0; event = x.1 }) (kept T q)

-- the hand-out from its first unanswered number on
unfoldable pub open_of : List Step → ℕ → List ℕ
open_of T q = from_first (is_answered T q) (hand T q)

-- how many events are waiting, kept or unanswered
unfoldable pub inside : Plan → List Step → ℕ
inside p T =
    sum_by (λ q. length (waiting T q)) (queues p) + sum_by (λ q. length (kept T q)) (queues p) + sum_by (λ l. length (unanswered T l)) (lanes p)

-- how many events were accepted or are kept
unfoldable pub entries : Plan → List Step → ℕ
entries p T = sum_by (λ q. length (accepted T q)) (queues p) + sum_by (λ q. length (kept T q)) (queues p)

-- ---- single steps

abbrev pub is_shut : Step → Bool
is_shut Shut = true
is_shut s = false

abbrev pub has_shut : List Step → Bool
has_shut T = list_any is_shut T

-- an Accept from a NEW
abbrev pub is_new : Step → Bool
is_new (Accept q e (New l)) = true
is_new s = false

-- an Accept of what an event was passed on as
abbrev pub is_from_of : Step → Bool
is_from_of (Accept q e (Of r n)) = true
is_from_of s = false

abbrev pub is_give : Step → Bool
is_give (Give l q n) = true
is_give s = false

abbrev pub is_turned : Step → Bool
is_turned (Turned l e) = true
is_turned s = false

abbrev pub is_release : Step → Bool
is_release (Done l Released) = true
is_release s = false

abbrev pub is_more : Step → Bool
is_more (More l e) = true
is_more s = false
