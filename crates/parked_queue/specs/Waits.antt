-- What waits in a queue, seen as one list, whatever holds it.
use Rattle.std.specs.Prelude.{ℕ, ◌≡◌, ◌≢◌, ◌+◌, ◌%◌, ◌<◌, ◌≤◌, ◌^◌, ◌==◌, Bool, List, [], ◌∷◌, ◌++◌, filter, map, not, length, slice_index_or, sum_by, All, AllPairs, Contains}
use Rattle.evt_types.specs.Plan.{level_of}
use Rattle.evt_types.specs.declared.event.Event.{Event}
use Rattle.evt_types.specs.declared.event.Numbered.{Numbered}
use Rattle.evt_types.specs.declared.event.Reply.{Reply}
use Rattle.parked_queue.specs.Lists.{numbered_from}
use Rattle.small_set.specs.SmallSets.{Has}
use Rattle.small_set.specs.declared.set.SmallSet.{SmallSet}

-- the events that wait, by rising number, the number of the next event, how many may wait, and how many slots there are
pub record Waits : Type 0 where
  pub waiting : List Numbered
  pub next : ℕ
  pub room : ℕ
  pub slots : ℕ

-- each is a number of slots that a queue may have
abbrev pub AreSlots : List ℕ → Type 0
AreSlots ns = All (λ n. (0 < n) × (n ≤ 64)) ns

-- the slot of an event, of so many
abbrev pub slot_of : ℕ → Numbered → ℕ
slot_of n w = w.event.flow % n

-- each number is below the later ones
abbrev pub IsRising : List Numbered → Type 0
IsRising ws = AllPairs (λ (u w : Numbered). u.number < w.number) ws

-- the numbers rise and are below the next one, the levels are 0 to 3, and at most 2^63 events have a number
pub record AreWaits (q : Waits) : Type 0 where
  pub rising : IsRising q.waiting
  pub below : All (λ (w : Numbered). w.number < q.next) q.waiting
  pub levels : All (λ (w : Numbered). level_of w.event < 4) q.waiting
  pub fits : q.next ≤ 2 ^ 63
  pub within : length q.waiting ≤ q.room
  pub some : 0 < q.slots
  pub few : q.slots ≤ 64

-- nothing waits
abbrev pub no_waits : ℕ → ℕ → Waits
no_waits slots room = record { waiting = []; next = 0; room = room; slots = slots }

abbrev pub no_waits_of : ℕ → ℕ → Waits
no_waits_of room slots = no_waits slots room

-- the queue of a number, and how many events wait in all queues
abbrev pub waits_at : List Waits → ℕ → Waits
waits_at qs q = slice_index_or qs q (no_waits 1 0)

abbrev pub count_of : Waits → ℕ
count_of q = length q.waiting

abbrev pub all_waiting : List Waits → ℕ
all_waiting qs = sum_by count_of qs

-- nothing waits in queues of so many slots each, with room for so many events in all
abbrev pub all_empty : ℕ → List ℕ → List Waits
all_empty room slots = map (no_waits_of room) slots

-- the events name this queue
abbrev pub AreNamed : ℕ → List Numbered → Type 0
AreNamed q ws = All (λ (w : Numbered). w.event.queue ≡ q) ws

-- the event waits under the next number
abbrev pub with_event : Waits → Event → Waits
with_event q e = record q { waiting = q.waiting ++ record { number = q.next; event = e } ∷ []; next = q.next + 1 }

-- the events of the replies wait under the next numbers
abbrev pub with_replies : Waits → List Reply → Waits
with_replies q rs = record q { waiting = q.waiting ++ numbered_from q.next rs; next = q.next + length rs }

-- another number
abbrev pub is_other : ℕ → Numbered → Bool
is_other n w = not (w.number == n)

-- the event of this number no longer waits
abbrev pub without_number : Waits → ℕ → Waits
without_number q n = record q { waiting = filter (is_other n) q.waiting }

-- the event waits, is of the level, its slot is allowed, and no older one is so
pub record IsFirstAllowed (v : Waits) (c : ℕ) (allowed : SmallSet) (w : Numbered) : Type 0 where
  pub waits : Contains v.waiting w
  pub level : level_of w.event ≡ c
  pub slot : Has allowed (slot_of v.slots w)
  pub first : All (λ (u : Numbered). level_of u.event ≡ c → Has allowed (slot_of v.slots u) → w.number ≤ u.number) v.waiting

-- no event of the level has an allowed slot
abbrev pub HasNoneAllowed : Waits → ℕ → SmallSet → Type 0
HasNoneAllowed v c allowed = All (λ (u : Numbered). level_of u.event ≡ c → ¬ Has allowed (slot_of v.slots u)) v.waiting

-- an event of the number is of the level and the slot
abbrev pub IsOnlyOf : Waits → ℕ → ℕ → ℕ → Type 0
IsOnlyOf v c slot n = All (λ (w : Numbered). w.number ≡ n → (level_of w.event ≡ c) × (slot_of v.slots w ≡ slot)) v.waiting

-- no event of the level waits
abbrev pub HasNoneOf : Waits → ℕ → Type 0
HasNoneOf v c = All (λ (u : Numbered). level_of u.event ≢ c) v.waiting
