-- What the judge holds, as the view of what it has read.
use Rattle.std.specs.Prelude.{ℕ, ◌≡◌, Bool, false, List, [], ◌∷◌, ◌++◌, length, map, flat_map, slice_get, slice_index_or, slice_set, Some, if◌then◌else◌}
use Rattle.evt_types.specs.Place.{Place}
use Rattle.evt_types.specs.Plan.{Plan, lanes_of}
use Rattle.evt_types.specs.declared.event.Event.{Event}
use Rattle.evt_types.specs.declared.event.KeptEvent.{KeptEvent}
use Rattle.evt_types.specs.declared.step.Outcome.{Outcome}
use Rattle.evt_types.specs.declared.step.Outcome.TheVariants.{Forwarded, Released}
use Rattle.evt_types.specs.declared.step.Source.TheVariants.{Of}
use Rattle.evt_types.specs.declared.step.Step.{Step}
use Rattle.evt_types.specs.declared.step.Step.TheVariants.{Accept}
use Rattle.std.specs.declared.alloc.Global.{Global}
use Rattle.std.specs.declared.vec.Vec.{Vec}
use Rattle.transcripts.specs.Standing.{View, accepts_from, add_to_place, answer_place, events_of, leaving, staying}
use Rattle.transcripts.specs.Transcript.{Held}
use Rattle.transcript_judge.specs.Waiting.{events_in, nexts_in}
use Rattle.transcript_judge.specs.declared.ledger.Ledger.{Ledger}

-- lists that stand in a list; one that isn't there is empty
abbrev pub rows : {X : Type 0} → List (Vec X Global) → List (List X)
rows {X} lists = map (λ (list : Vec X Global). list.items) lists

abbrev pub row : {X : Type 0} → List (List X) → ℕ → List X
row lists n = slice_index_or lists n []

abbrev pub view_in : Plan → Ledger → View
view_in p l =
    record {
      shape = p;
      waiting = events_in l.waiting.items;
      next = nexts_in l.waiting.items;
      places = rows l.places.items;
      unanswered = rows l.unanswered.items;
      extras = l.extras.items;
      shut = l.shut;
    }

-- it has a list or a count for each queue and each lane
pub record IsSized (p : Plan) (l : Ledger) : Type 0 where
  pub waiting : length l.waiting.items ≡ length p.queues
  pub places : length l.places.items ≡ length p.queues
  pub unanswered : length l.unanswered.items ≡ lanes_of p
  pub extras : length l.extras.items ≡ lanes_of p

-- how many events an answer lets go
abbrev pub releases : Outcome → ℕ
releases (Forwarded e) = 0
releases Released = 1

-- the step by which the event is accepted
abbrev pub accept_of : KeptEvent → Step
accept_of k = Accept (k.event).queue k.event (Of k.queue k.number)

-- the first of what is held is of this queue and number
pub record IsOldest (held : List Held) (queue number : ℕ) : Type 0 where
  pub slot : ℕ
  pub first : slice_get held 0 ≡ Some (record { queue = queue; number = number; slot = slot })

-- what becomes of the places, and what is due, by whether the queue is ordered
abbrev pub opened : List (List Place) → Bool → ℕ → ℕ → List (List Place)
opened places ordered q n =
    if ordered then slice_set places q (row places q ++ record { number = n; answered = false; forwards = [] } ∷ []) else places

abbrev pub answered_in : List (List Place) → ℕ → ℕ → Outcome → List Place
answered_in places q n o = map (answer_place n o) (row places q)

abbrev pub settled : List (List Place) → Bool → ℕ → ℕ → Outcome → List (List Place)
settled places ordered q n o = if ordered then slice_set places q (staying (answered_in places q n o)) else places

abbrev pub due_by : List (List Place) → Bool → ℕ → ℕ → Outcome → List Step
due_by places ordered q n o =
    if ordered then flat_map (λ (x : Place). accepts_from q x.number x.forwards) (leaving (answered_in places q n o)) else accepts_from q n (events_of o)

abbrev pub added_to : List (List Place) → Bool → ℕ → ℕ → Event → List (List Place)
added_to places ordered q n e = if ordered then slice_set places q (map (add_to_place n e) (row places q)) else places

abbrev pub due_added : Bool → ℕ → ℕ → Event → List Step
due_added ordered q n e = if ordered then [] else accepts_from q n (e ∷ [])
