-- Choices that follow each other: a run, all for one lane, and a deal, for several lanes (own; Software Eventdev, "Scheduling Quanta").
use Rattle.std.specs.Prelude.{ℕ, ◌≡◌, ◌+◌, ◌<◌, ◌≤◌, true, false, List, [], ◌∷◌, length, map, slice_index, slice_set, All}
use Rattle.evt_types.specs.declared.event.Delivery.{Delivery}
use Rattle.evt_types.specs.declared.step.Step.{Step}
use Rattle.evt_types.specs.declared.step.Step.TheVariants.{Give}
use Rattle.evt_types.specs.Plan.{depth_of, has_flow_lanes, is_ordered, level_of, queue_of}
use Rattle.evt_types.specs.declared.event.Numbered.{Numbered}
pub use Rattle.order_parts.specs.Dealing.{times}
use Rattle.sched_core.specs.Offered.{AreOpenLanes, numbered_in, slot_at}
use Rattle.sched_core.specs.declared.offer.Offer.{Offer}
use Rattle.sched_core.specs.declared.turn.Turn.{Turn}
use Rattle.small_set.specs.SmallSets.{Has}
use Rattle.small_set.specs.declared.set.SmallSet.{SmallSet}
use Rattle.transcripts.specs.Choice.{Fits, HasNone, HasQuota, IsChoice, IsServedBefore, Passed, WaitsIn}
use Rattle.transcripts.specs.Standing.{View, after, places_at, unanswered_at}

-- what a sweep passes over, once it gave an event more of the queue
abbrev pub given_once : Passed → ℕ → Passed
given_once s q = record s { given = slice_set s.given q (slice_index s.given q + 1) }

-- the steps by which the lane is given these
abbrev pub gift_of : ℕ → Delivery → Step
gift_of l d = Give l d.queue d.number

abbrev pub gifts_of : ℕ → List Delivery → List Step
gifts_of l ds = map (gift_of l) ds

-- Each of these was the choice, for the lane, once those before it were given; and this is what the core and what is passed over become.
abbrev pub AreChoices : ℕ → View → Passed → List Delivery → View → Passed → Type 0
AreChoices l v s [] w t = (w ≡ v) × (t ≡ s)
AreChoices l v s (d ∷ ds) w t = IsChoice v s l d.queue (numbered_in d) × AreChoices l (after v (gift_of l d ∷ [])) (given_once s d.queue) ds w t

-- the steps by which these lanes are given these events, each the one at its place
abbrev pub gifts_to : List Delivery → List ℕ → List Step
gifts_to [] to = []
gifts_to (d ∷ ds) [] = []
gifts_to (d ∷ ds) (l ∷ to) = gift_of l d ∷ gifts_to ds to

-- Each of these was the choice, for the lane at its place, once those before it were given; and this is what the core and what is passed over
-- become.
abbrev pub AreDeals : View → Passed → List Delivery → List ℕ → View → Passed → Type 0
AreDeals v s [] [] w t = (w ≡ v) × (t ≡ s)
AreDeals v s [] (l ∷ to) w t = ⊥
AreDeals v s (d ∷ ds) [] w t = ⊥
AreDeals v s (d ∷ ds) (l ∷ to) w t = IsChoice v s l d.queue (numbered_in d) × AreDeals (after v (gift_of l d ∷ [])) (given_once s d.queue) ds to w t

-- the offer has its event's slot
abbrev pub HasSlot : View → Offer → Type 0
HasSlot v o = o.slot ≡ slot_at v o.delivery.queue (numbered_in o.delivery)

-- it is the choice, for a queue that the ports serve, to which just these lanes are open
pub record IsChoiceAmong (v : View) (s : Passed) (among : SmallSet) (o : Offer) : Type 0 where
  pub choice : IsChoice v s o.lane o.delivery.queue (numbered_in o.delivery)
  pub ports : has_flow_lanes v.shape o.delivery.queue ≡ false
  pub lanes : AreOpenLanes v s o.delivery.queue among

-- what a sweep passes over, once it gave so many events more of the queue
abbrev pub given_times : Passed → ℕ → ℕ → Passed
given_times s q n = record s { given = slice_set s.given q (slice_index s.given q + n) }

-- These events of the queue, no more than so many, were the choices for the lane.
pub record AreGiven (l q most : ℕ) (v : View) (s : Passed) (ds : List Delivery) (w : View) : Type 0 where
  pub choices : AreChoices l v s ds w (given_times s q (length ds))
  pub named : All (λ (d : Delivery). d.queue ≡ q) ds
  pub few : length ds ≤ most
  pub shape : w.shape ≡ v.shape

-- These events of the queue, no more than so many, were the choices for these of the lanes.
pub record AreDealtOut (q most : ℕ) (among : SmallSet) (v : View) (s : Passed) (ds : List Delivery) (to : List ℕ) (w : View) : Type 0 where
  pub choices : AreDeals v s ds to w (given_times s q (length ds))
  pub named : All (λ (d : Delivery). d.queue ≡ q) ds
  pub lanes : All (Has among) to
  pub room : (l : ℕ) → Has among l → times l to + length (unanswered_at v l) ≤ depth_of v.shape l
  pub few : length ds ≤ most
  pub shape : w.shape ≡ v.shape

-- This event of the queue was the choice, for the lane, and is given to it.
pub record IsNextGift (q : ℕ) (v : View) (s : Passed) (l : ℕ) (d : Delivery) (w : View) (t : Passed) : Type 0 where
  pub choice : IsChoice v s l d.queue (numbered_in d)
  pub named : d.queue ≡ q
  pub view : w ≡ after v (gift_of l d ∷ [])
  pub passed : t ≡ given_once s q

-- ---- how a run goes on

-- Nothing can be given of the queues that are served before this one, and of its own levels before this one.
pub record HasTurn (v : View) (s : Passed) (q c : ℕ) : Type 0 where
  pub there : q < length v.shape.queues
  pub lower : (u : Numbered) (m : ℕ) → WaitsIn v q u → level_of u.event < c → ¬ Fits v s m q u
  pub before : (r : ℕ) → r < length v.shape.queues → HasQuota v s r → IsServedBefore v.shape r q → HasNone v s r

-- it is the turn of this queue and level, which flow lanes serve
abbrev pub IsTurn : View → Passed → Turn → Type 0
IsTurn v s t = (has_flow_lanes v.shape t.queue ≡ true) × HasTurn v s t.queue t.level.number

-- So many events more may be given of the queue to the lane before a count is full that the choice asks for; until then these are the
-- lanes that are open to the queue.
pub record IsSteady (v : View) (s : Passed) (l q more : ℕ) (lanes : SmallSet) : Type 0 where
  pub quota : slice_index s.given q + more ≤ v.shape.sweep
  pub opened : 0 < more → AreOpenLanes v s q lanes
  pub room : length (unanswered_at v l) + more ≤ depth_of v.shape l
  pub places : is_ordered (queue_of v.shape q).kind ≡ true → length (places_at v q) + more ≤ (queue_of v.shape q).order

-- So many events more may be given of the queue before a count of its own is full that the choice asks for.
pub record HasLeft (v : View) (s : Passed) (q more : ℕ) : Type 0 where
  pub quota : slice_index s.given q + more ≤ v.shape.sweep
  pub places : is_ordered (queue_of v.shape q).kind ≡ true → length (places_at v q) + more ≤ (queue_of v.shape q).order
