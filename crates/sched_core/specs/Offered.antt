-- What is offered, and to whom.
use Rattle.std.specs.Prelude.{ℕ, ◌≡◌, ◌<◌, ◌≤◌, ◌↔◌, false, true, length}
use Rattle.transcripts.specs.Choice.{Passed, Fits, HasNoOther, IsBetterLane, WaitsIn, has_bounced, is_earlier}
use Rattle.evt_types.specs.Plan.{lanes_of, depth_of, queue_of, level_of, serves, slot_of, is_atomic, is_ordered}
use Rattle.transcripts.specs.Standing.{View, places_at, unanswered_at}
use Rattle.small_set.specs.SmallSets.{Has}
use Rattle.small_set.specs.declared.set.SmallSet.{SmallSet}
use Rattle.sched_core.specs.Inner.{slots_for}
use Rattle.evt_types.specs.declared.event.Delivery.{Delivery}
use Rattle.evt_types.specs.declared.event.Numbered.{Numbered}

-- a delivery's event with its number
abbrev pub numbered_in : Delivery → Numbered
numbered_in d = record { number = d.number; event = d.event }

-- the lane may take an event of the slot
pub record FitsSlot (v : View) (s : Passed) (q slot l : ℕ) : Type 0 where
  pub lane : l < lanes_of v.shape
  pub ready : has_bounced s l ≡ false
  pub linked : serves v.shape l q slot ≡ true
  pub room : length (unanswered_at v l) < depth_of v.shape l
  pub alone : is_atomic (queue_of v.shape q).kind ≡ true → HasNoOther v l q slot
  pub places : is_ordered (queue_of v.shape q).kind ≡ true → length (places_at v q) < (queue_of v.shape q).order

-- an ordered queue has a place for one event more
abbrev pub HasPlace : View → ℕ → Type 0
HasPlace v q = is_ordered (queue_of v.shape q).kind ≡ true → length (places_at v q) < (queue_of v.shape q).order

-- the port's lane serves the queue, isn't passed over and has room, and the queue has a place for one event more
pub record IsOpenLane (v : View) (s : Passed) (q l : ℕ) : Type 0 where
  pub lane : l < length v.shape.ports
  pub ready : has_bounced s l ≡ false
  pub linked : serves v.shape l q 0 ≡ true
  pub room : length (unanswered_at v l) < depth_of v.shape l
  pub places : is_ordered (queue_of v.shape q).kind ≡ true → length (places_at v q) < (queue_of v.shape q).order

-- these are the ports' lanes that are open to the queue
abbrev pub AreOpenLanes : View → Passed → ℕ → SmallSet → Type 0
AreOpenLanes v s q lanes = (l : ℕ) → Has lanes l ↔ IsOpenLane v s q l

-- of these lanes there is no other
abbrev pub IsOnly : SmallSet → ℕ → Type 0
IsOnly lanes l = Has lanes l × ((m : ℕ) → Has lanes m → m ≡ l)

-- one of the lanes, which may hold the slot
abbrev pub MayHold : View → SmallSet → ℕ → ℕ → ℕ → Type 0
MayHold v lanes q slot l = Has lanes l × (is_atomic (queue_of v.shape q).kind ≡ true → HasNoOther v l q slot)

-- some lane may take an event of the slot
abbrev pub IsAllowed : View → Passed → ℕ → ℕ → Type 0
IsAllowed v s q slot = (l : ℕ) × FitsSlot v s q slot l

-- none of the queue's slots is missing whose events some lane may take
abbrev pub HasAllowed : View → Passed → ℕ → SmallSet → Type 0
HasAllowed v s q slots = (slot : ℕ) → slot < slots_for v.shape q → IsAllowed v s q slot → Has slots slot

-- the slot of a waiting event of the queue
abbrev pub slot_at : View → ℕ → Numbered → ℕ
slot_at v q w = slot_of v.shape q w.event.flow

-- of the queue's level the first event whose slot is allowed
pub record IsFirstIn (v : View) (q c : ℕ) (allowed : SmallSet) (w : Numbered) : Type 0 where
  pub waits : WaitsIn v q w
  pub level : level_of w.event ≡ c
  pub slot : Has allowed (slot_at v q w)
  pub first : (u : Numbered) → WaitsIn v q u → level_of u.event ≡ c → Has allowed (slot_at v q u) → w.number ≤ u.number

-- no event of the queue's level has an allowed slot
abbrev pub HasNoneAllowedIn : View → ℕ → ℕ → SmallSet → Type 0
HasNoneAllowedIn v q c allowed = (w : Numbered) → WaitsIn v q w → level_of w.event ≡ c → ¬ Has allowed (slot_at v q w)

-- no lane may take an event of the queue's level
abbrev pub HasNoneIn : View → Passed → ℕ → ℕ → Type 0
HasNoneIn v s q c = (w : Numbered) → WaitsIn v q w → level_of w.event ≡ c → (m : ℕ) → ¬ Fits v s m q w

-- the event is of the queue's level the first that a lane may take, and the lane is the best one for it
pub record IsOfferIn (v : View) (s : Passed) (q c l : ℕ) (w : Numbered) : Type 0 where
  pub level : level_of w.event ≡ c
  pub waits : WaitsIn v q w
  pub fits : Fits v s l q w
  pub best : (m : ℕ) → Fits v s m q w → ¬ IsBetterLane v m l
  pub first : (u : Numbered) (m : ℕ) → WaitsIn v q u → level_of u.event ≡ c → Fits v s m q u → w.number ≤ u.number

-- the event is the queue's first that a lane may take, by level and then number, and the lane is the best one for it
pub record IsOfferOf (v : View) (s : Passed) (q l : ℕ) (w : Numbered) : Type 0 where
  pub waits : WaitsIn v q w
  pub fits : Fits v s l q w
  pub best : (m : ℕ) → Fits v s m q w → ¬ IsBetterLane v m l
  pub first : (u : Numbered) (m : ℕ) → WaitsIn v q u → Fits v s m q u → is_earlier u w ≡ false

-- how many unanswered events each lane has
abbrev pub loads_at : View → ℕ → ℕ
loads_at v l = length (unanswered_at v l)
