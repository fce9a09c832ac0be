-- What holds of the reorder buffers: the places of each ordered queue's, and the place of each unanswered event.
use Rattle.std.specs.Prelude.{ℕ, ◌≡◌, ◌≢◌, ◌<◌, ◌≤◌, ◌^◌, true, false, ◌==◌, List, [], length, sum_by, slice_get, slice_index, slice_index_or, Option, Some, None, All, AllPairs, if◌then◌else◌}
use Rattle.evt_types.specs.Plan.{Plan, kept_room, queue_of, is_ordered}
use Rattle.evt_types.specs.Place.{Place}
use Rattle.evt_types.specs.declared.event.Event.{Event}
use Rattle.evt_types.specs.declared.event.Numbered.{Numbered}
use Rattle.evt_types.specs.declared.step.Outcome.{Outcome}
use Rattle.evt_types.specs.declared.step.Outcome.TheVariants.{Forwarded, Released}
use Rattle.order_parts.specs.Orders.{order_at}
use Rattle.order_parts.specs.Reorder.{HasFew, Reordering, number_of}
use Rattle.order_parts.specs.declared.history.Entry.{Entry}
use Rattle.parked_queue.specs.Waits.{Waits, waits_at}

-- what a view has of a buffer
abbrev pub places_in : Reordering → List Place
places_in r = r.places

-- the unanswered events of a lane, and the one at an index among them
abbrev pub entries_at : List (List Entry) → ℕ → List Entry
entries_at us l = slice_index_or us l []

abbrev pub entry_at : List (List Entry) → ℕ → ℕ → Option Entry
entry_at us l k = slice_get (entries_at us l) k

-- how an event is answered, by what it is forwarded as
abbrev pub outcome_of : Option Event → Outcome
outcome_of None = Released
outcome_of (Some e) = Forwarded e

-- how many events are kept in the places
abbrev pub kept_of : List Place → ℕ
kept_of xs = sum_by (λ (x : Place). length x.forwards) xs

-- the places are of different numbers
abbrev pub AreDistinct : List Place → Type 0
AreDistinct xs = AllPairs (λ (x y : Place). x.number ≢ y.number) xs

-- no event of the place's number waits
abbrev pub IsGivenOf : Waits → Place → Type 0
IsGivenOf w x = All (λ (v : Numbered). v.number ≢ x.number) w.waiting

-- what the place keeps are few events, for queues that are there
pub record KeepsFew (p : Plan) (x : Place) : Type 0 where
  pub few : HasFew x
  pub named : All (λ (e : Event). e.queue < length p.queues) x.forwards

-- A queue's buffer of this depth: its places are of different numbers, each of an event that was accepted and no longer waits.
pub record IsOrder (p : Plan) (depth : ℕ) (w : Waits) (r : Reordering) : Type 0 where
  pub room : r.depth ≡ depth
  pub small : r.depth < 2 ^ 64
  pub within : length r.places ≤ r.depth
  pub first : r.first < 2 ^ 64
  pub distinct : AreDistinct r.places
  pub below : All (λ (x : Place). x.number < w.next) r.places
  pub given : All (IsGivenOf w) r.places
  pub keeps : All (KeepsFew p) r.places

-- the event's place is this one from the front, and it is open
pub record StandsAt (r : Reordering) (y : Entry) (k : ℕ) : Type 0 where
  pub shown : Place
  pub place : y.place ≡ number_of r k
  pub there : slice_get r.places k ≡ Some shown
  pub number : shown.number ≡ y.number
  pub waits : shown.answered ≡ false

-- the event has a place, which keeps no more than so many
pub record StandsIn (r : Reordering) (y : Entry) (most : ℕ) : Type 0 where
  pub index : ℕ
  pub stands : StandsAt r y index
  pub few : length stands.shown.forwards ≤ most

-- how many events were added beside the lane's entry at an index: beside the oldest as many as are counted, beside any other none
abbrev pub added_beside : List ℕ → ℕ → ℕ → ℕ
added_beside es l k = if k == 0 then slice_index es l else 0

-- an unanswered event of an ordered queue has a place there
abbrev pub HasPlace : Plan → List Reordering → Entry → ℕ → Type 0
HasPlace p rs y most = is_ordered (queue_of p y.queue).kind ≡ true → StandsIn (order_at rs y.queue) y most

abbrev pub HavePlaces : Plan → List Reordering → List (List Entry) → List ℕ → Type 0
HavePlaces p rs us es = (l k : ℕ) (y : Entry) → entry_at us l k ≡ Some y → HasPlace p rs y (added_beside es l k)

-- unanswered events of one number of an ordered queue are one
abbrev pub AreOnce : Plan → List (List Entry) → Type 0
AreOnce p us =
    (l m j k : ℕ) (y z : Entry) → entry_at us l j ≡ Some y → entry_at us m k ≡ Some z → y.queue ≡ z.queue
    → is_ordered (queue_of p y.queue).kind ≡ true → y.number ≡ z.number → (l ≡ m) × (j ≡ k)

-- Of a device: each queue has its buffer, and each unanswered event of an ordered queue has a place of its own, which keeps no more
-- than the lane counts.
pub record ArePlaces (p : Plan) (ws : List Waits) (rs : List Reordering) (us : List (List Entry)) (es : List ℕ) : Type 0 where
  pub queues : length ws ≡ length p.queues
  pub count : length rs ≡ length p.queues
  pub each : (q : ℕ) → q < length p.queues → IsOrder p (kept_room (queue_of p q)) (waits_at ws q) (order_at rs q)
  pub held : HavePlaces p rs us es
  pub once : AreOnce p us
