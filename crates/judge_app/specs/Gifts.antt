-- What shows that a Give breaks a clause.
use Rattle.std.specs.Prelude.{ℕ, Bool, ◌&&◌, ◌==◌, nat_lt, List, length, filter_map, slice_get, Option, Some, None, option_map, if◌then◌else◌}
use Rattle.std.specs.List.{find}
use Rattle.std.specs.Option.{option_and_then}
use Rattle.evt_types.specs.Plan.{Plan, is_ordered, lanes, level_of, queue_of, slot_of}
use Rattle.evt_types.specs.declared.event.Event.{Event}
use Rattle.evt_types.specs.declared.event.Numbered.{Numbered}
use Rattle.evt_types.specs.declared.step.Step.{Step}
use Rattle.transcripts.specs.Lawful.{keeps_order}
use Rattle.transcripts.specs.Transcript.{accepted, event_at, slot_at, unanswered, waiting}
use Rattle.judge_app.specs.Scans.{accept_place, give_place}
use Rattle.judge_app.specs.declared.reason.Class.{Class}
use Rattle.judge_app.specs.declared.reason.Class.TheVariants.{Flow, Level}
use Rattle.judge_app.specs.declared.reason.Gift.{Gift}
use Rattle.judge_app.specs.declared.reason.Holding.{Holding}
use Rattle.judge_app.specs.declared.reason.Reason.{Reason}
use Rattle.judge_app.specs.declared.reason.Reason.TheVariants.{Passed, Absent, Given, Unserved, Full, Held}

-- ---- (flow) the first event that waits, though it keeps its order with #n, which is e, and has a lower number

abbrev pub goes_before : Plan → ℕ → ℕ → Event → Numbered → Bool
goes_before p q n e v = nat_lt v.number n && keeps_order p q v.event e

abbrev pub first_before : Plan → List Step → ℕ → ℕ → Event → Option Numbered
first_before p T q n e = find (goes_before p q n e) (waiting T q)

-- of an ordered queue it is of the same level, of an atomic queue of the same flow too
abbrev pub class_of : Plan → ℕ → Event → Class
class_of p q e = if is_ordered (queue_of p q).kind then Level (level_of e) else Flow e.flow

abbrev pub passed_at : Plan → List Step → Gift → Event → Numbered → Option Reason
passed_at p T g e v = option_map (Passed (class_of p g.queue e) g.queue g.number v.number) (accept_place T g.queue v.number)

abbrev pub passed_by : Plan → List Step → Gift → Event → Option Reason
passed_by p T g e = option_and_then (passed_at p T g e) (first_before p T g.queue g.number e)

abbrev pub passed : Plan → List Step → Gift → Option Reason
passed p T g = option_and_then (passed_by p T g) (event_at T g.queue g.number)

-- ---- (once) it wasn't accepted; or where it was given

abbrev pub given_again : List Step → Gift → Option Reason
given_again T g = if nat_lt g.number (length (accepted T g.queue)) then option_map (Given g.queue g.number) (give_place T g.queue g.number) else Some (Absent g.queue g.number)

-- ---- (linked) its flow

abbrev pub unserved : List Step → Gift → Option Reason
unserved T g = option_map (λ (e : Event). Unserved g.lane g.queue e.flow) (event_at T g.queue g.number)

-- ---- (depth) how many events the lane hasn't answered

abbrev pub full : List Step → ℕ → Reason
full T l = Full l (length (unanswered T l))

-- ---- (alone) the oldest unanswered event of its slot on the first lane that has one, but for its own

abbrev pub is_of_slot : Plan → List Step → ℕ → ℕ → ℕ × ℕ → Bool
is_of_slot p T q slot x = (x.0 == q) && (slot_at p T q x.1 == slot)

abbrev pub held_on : Plan → List Step → Gift → ℕ → ℕ → Option Holding
held_on p T g slot l =
    if l == g.lane then None else option_map (λ (x : ℕ × ℕ). record { lane = l; number = x.1 }) (find (is_of_slot p T g.queue slot) (unanswered T l))

abbrev pub held_elsewhere : Plan → List Step → Gift → ℕ → Option Holding
held_elsewhere p T g slot = slice_get (filter_map (held_on p T g slot) (lanes p)) 0

abbrev pub shared_at : List Step → Gift → Event → Holding → Event → Option Reason
shared_at T g e h d = option_map (Held g.queue e.flow h.number d.flow h.lane) (give_place T g.queue h.number)

abbrev pub shared_with : List Step → Gift → Event → Holding → Option Reason
shared_with T g e h = option_and_then (shared_at T g e h) (event_at T g.queue h.number)

abbrev pub shared_by : Plan → List Step → Gift → Event → Option Reason
shared_by p T g e = option_and_then (shared_with T g e) (held_elsewhere p T g (slot_of p g.queue e.flow))

abbrev pub shared : Plan → List Step → Gift → Option Reason
shared p T g = option_and_then (shared_by p T g) (event_at T g.queue g.number)
