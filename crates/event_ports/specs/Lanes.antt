-- What a port received, answered and holds: lane by lane, and in the order in which it dequeued.
use Rattle.std.specs.Prelude.{◌≡◌, ◌≢◌, ℕ, ◌+◌, ◌<◌, ◌≤◌, ◌==◌, Bool, true, false, if◌then◌else◌, List, [], ◌∷◌, ◌++◌, length, map, filter, take, drop, Option, All, count_by, sum_by}
use Rattle.std.specs.Prelude.Option.{Some, None}
use Rattle.std.specs.List.{range_with_len}
use Rattle.lists.specs.Lists.{has}
use Rattle.evt_types.specs.Additions.{extras_of}
use Rattle.evt_types.specs.Event.{pair_of, release_event}
use Rattle.evt_types.specs.declared.event.Delivery.{Delivery}
use Rattle.evt_types.specs.declared.event.Event.{Event}
use Rattle.evt_types.specs.declared.event.Op.{Op}
use Rattle.evt_types.specs.declared.event.Op.TheVariants as ops
use Rattle.evt_types.specs.declared.event.Reply.{Reply}
use Rattle.evt_types.specs.Limits.{most_extras}
use Rattle.event_answers.specs.declared.answer.Refused.{Refused}
use Rattle.event_answers.specs.declared.answer.Refused.TheVariants as answers
use Rattle.lane_rings.specs.Ends.{received_by, answered, answers_among, unanswered}
use Rattle.lane_rings.specs.Identity.{far_id}
pub use Rattle.lane_rings.specs.Refusal.{reply_of}
use Rattle.lane_rings.specs.declared.far.Far.{Far}
use Rattle.lane_rings.specs.declared.far.Refusal.{Refusal}
use Rattle.lane_rings.specs.declared.far.Refusal.TheVariants.{NothingHeld, Full, TooMany}
use Rattle.flow_claims.specs.declared.seating.Past.{Past}
use Rattle.event_ports.specs.declared.lane.Lane.{Lane}
use Rattle.event_ports.specs.declared.lane.Lane.TheVariants.{Own, Flow}
use Rattle.event_ports.specs.declared.lane.Holding.{Holding}
use Rattle.event_ports.specs.HeldRings.{Held}
use Rattle.event_ports.specs.Holds.{Hands, stint_in, IsFilledBy, received_past, answered_past, left_past, surrendered_past, received_on, answered_on, held_on}

-- the reply of a release of the port's own making
abbrev pub release_reply : Reply
release_reply = reply_of release_event

abbrev pub same_lane : Lane → Lane → Bool
same_lane Own Own = true
same_lane Own (Flow j) = false
same_lane (Flow i) Own = false
same_lane (Flow i) (Flow j) = i == j

-- what is noted of a delivery that came from the lane
abbrev pub holding_of : Lane → Delivery → Holding
holding_of l d = record { lane = l; queue = d.queue; number = d.number }

abbrev pub pair_in : Holding → ℕ × ℕ
pair_in x = (x.queue, x.number)

-- of what is held, that of one lane
abbrev pub held_of : Lane → List Holding → List Holding
held_of l xs = filter (λ x. same_lane x.lane l) xs

-- all of these came from the own lane or from one of so many flow lanes
abbrev pub AreOf : ℕ → List Holding → Type 0
AreOf n xs = length xs ≡ length (held_of Own xs) + sum_by (λ j. length (held_of (Flow j) xs)) (range_with_len 0 n)

-- the lane from which the oldest came
abbrev pub first_lane : List Holding → Option Lane
first_lane [] = None
first_lane (x ∷ xs) = Some x.lane

-- what was received from a lane of the port and answered to it, and what is unanswered of it
abbrev pub got_on : Far → Hands → Lane → List Delivery
got_on own h Own = received_by own
got_on own h (Flow j) = received_on h j

abbrev pub said_on : Far → Hands → Lane → List Reply
said_on own h Own = answered own
said_on own h (Flow j) = answered_on h j

abbrev pub open_on : Far → Hands → Lane → List Delivery
open_on own h Own = unanswered own
open_on own h (Flow j) = held_on h j

-- What is held, oldest first: what was noted. A port that notes nothing holds what is unanswered of its own lane.
abbrev pub held_in : Far → Held → List Holding
held_in own h = if h.notes then h.items else map (holding_of Own) (unanswered own)

-- what is noted of each lane is what is unanswered of it, in order
abbrev pub AreOrdered : Far → Hands → List Holding → Type 0
AreOrdered own h xs = (l : Lane) → map pair_in (held_of l xs) ≡ map pair_of (open_on own h l)

-- a port, as clauses see it: what it answered to each lane, what it received from each, and what it holds, oldest first
pub record Hand : Type 0 where
  pub said : Lane → List Reply
  pub got : Lane → List Delivery
  pub holding : List Holding

-- how many events were added to the lane since the last answer to it
abbrev pub extras_to : Option Lane → Hand → ℕ
extras_to None h = 0
extras_to (Some l) h = extras_of (h.said l)

-- How many events were added beside the oldest that is held: those that the port added to its lane since its last answer there. What
-- other ports added to a flow lane before doesn't count: each answered all that it held of the lane before it gave that back.
abbrev pub extras_in : Hand → ℕ
extras_in h = extras_to (first_lane h.holding) h

-- something is held, and beside the oldest one event more may be added
abbrev pub TakesMore : Hand → Type 0
TakesMore h = (h.holding ≢ []) × (extras_in h < most_extras)

-- nothing was submitted or received
pub record Rests (h k : Hand) : Type 0 where
  pub said : (l : Lane) → k.said l ≡ h.said l
  pub got : (l : Lane) → k.got l ≡ h.got l
  pub holding : k.holding ≡ h.holding

-- the reply was submitted to the lane; an answer is to the oldest that is held, and nothing else ends what is held
pub record Submits (lane : Lane) (r : Reply) (h k : Hand) : Type 0 where
  pub said_here : k.said lane ≡ h.said lane ++ r ∷ []
  pub said : (l : Lane) → l ≢ lane → k.said l ≡ h.said l
  pub got : (l : Lane) → k.got l ≡ h.got l
  pub holding : k.holding ≡ drop (answers_among (r ∷ [])) h.holding

abbrev pub SubmitsTo : Option Lane → Reply → Hand → Hand → Type 0
SubmitsTo None r h k = ⊥
SubmitsTo (Some l) r h k = Submits l r h k

-- the lane to which a reply goes: a NEW to the port's own, an answer to that from which the answered event came, and so what is added
-- beside that
abbrev pub lane_for : Op → List Holding → Option Lane
lane_for ops.New xs = Some Own
lane_for ops.Forward xs = first_lane xs
lane_for ops.Release xs = first_lane xs
lane_for ops.ForwardMore xs = first_lane xs

-- these were submitted, one after the other
abbrev pub SubmitsAll : List Event → Hand → Hand → Type 0
SubmitsAll [] h k = Rests h k
SubmitsAll (e ∷ es) h k = (between : Hand) × SubmitsTo (lane_for e.op h.holding) (reply_of e) h between × SubmitsAll es between k

-- deliveries were received from the lane, and are the last of what is held
pub record Takes (lane : Lane) (ds : List Delivery) (h k : Hand) : Type 0 where
  pub said : (l : Lane) → k.said l ≡ h.said l
  pub got_here : k.got lane ≡ h.got lane ++ ds
  pub got : (l : Lane) → l ≢ lane → k.got l ≡ h.got l
  pub holding : k.holding ≡ h.holding ++ map (holding_of lane) ds

-- a delivery with the lane from which it came
abbrev pub Arrival : Type 0
Arrival = Lane × Delivery

-- the port is linked to the lane
abbrev pub IsLinkedTo : List ℕ → Lane → Type 0
IsLinkedTo links Own = Unit {0}
IsLinkedTo links (Flow j) = has j links ≡ true

-- what arrived from one lane
abbrev pub from_lane : Lane → List Arrival → List Delivery
from_lane l arrived = map (λ a. a.1) (filter (λ a. same_lane a.0 l) arrived)

-- the lanes that a dequeue reads, in this order: the own lane, and the flow lanes in the order of the links
abbrev pub lanes_read : List ℕ → List Lane
lanes_read links = Own ∷ map Flow links

-- what arrived came from these lanes one after the other: all from the first lane comes first, and so on
abbrev pub ComesInOrder : List Lane → List Arrival → Type 0
ComesInOrder [] arrived = arrived ≡ []
ComesInOrder (lane ∷ lanes) arrived = (here : List Arrival) × (later : List Arrival) × (arrived ≡ here ++ later) × All (λ a. a.0 ≡ lane) here × ComesInOrder lanes later

-- Deliveries were received from these lanes, after those in `before`.
pub record ArrivesFrom (lanes : List Lane) (h k : Hand) (before after : List Delivery) : Type 0 where
  pub arrived : List Arrival
  pub deliveries : after ≡ before ++ map (λ a. a.1) arrived
  pub in_order : ComesInOrder lanes arrived
  pub said : (l : Lane) → k.said l ≡ h.said l
  pub got : (l : Lane) → k.got l ≡ h.got l ++ from_lane l arrived
  pub holding : k.holding ≡ h.holding ++ map (λ a. holding_of a.0 a.1) arrived

-- Deliveries were received, after those in `before`, each from the port's own lane or a lane to which it is linked.
pub record Arrives (links : List ℕ) (h k : Hand) (before after : List Delivery) : Type 0 where
  pub arrived : List Arrival
  pub deliveries : after ≡ before ++ map (λ a. a.1) arrived
  pub linked : All (λ a. IsLinkedTo links a.0) arrived
  pub in_order : ComesInOrder (lanes_read links) arrived
  pub said : (l : Lane) → k.said l ≡ h.said l
  pub got : (l : Lane) → k.got l ≡ h.got l ++ from_lane l arrived
  pub holding : k.holding ≡ h.holding ++ map (λ a. holding_of a.0 a.1) arrived

-- so many deliveries may be received in all, with those that were: they fit what may be held, and what a dequeue hands out
pub record HasRoomFor (most depth : ℕ) (holding : List Holding) (deliveries : List Delivery) : Type 0 where
  pub few : length deliveries ≤ most
  pub small : most ≤ 64
  pub held : length holding + most ≤ depth + length deliveries

-- nothing was received or answered
pub record IsEmptyHand (h : Hand) : Type 0 where
  pub said : (l : Lane) → h.said l ≡ []
  pub got : (l : Lane) → h.got l ≡ []
  pub holding : h.holding ≡ []

-- What was received and answered in these stints is what the port had of the flow lanes, and what they left unanswered is what it holds of them.
-- A lane of which it holds nothing was not surrendered.
pub record IsEndOf (h : Hand) (ps : List Past) : Type 0 where
  pub received : (j : ℕ) → received_past j ps ≡ h.got (Flow j)
  pub answered_is : (j : ℕ) → answered_past j ps ≡ h.said (Flow j)
  pub held : (j : ℕ) → map pair_in (held_of (Flow j) h.holding) ≡ map pair_of (left_past j ps)
  pub given_back : (j : ℕ) → held_of (Flow j) h.holding ≡ [] → surrendered_past j ps ≡ []

-- a release for each of these that came from the lane
abbrev pub releases_for : Lane → List Holding → List Reply
releases_for l xs = map (λ x. release_reply) (held_of l xs)

-- the oldest n that were held were released, each to its lane
pub record Releases (n : ℕ) (h k : Hand) : Type 0 where
  pub said : (l : Lane) → k.said l ≡ h.said l ++ releases_for l (take n h.holding)
  pub got : (l : Lane) → k.got l ≡ h.got l
  pub holding : k.holding ≡ drop n h.holding

-- the oldest n that were held were released, and then these were received
pub record Dequeues (links : List ℕ) (n : ℕ) (h k : Hand) (deliveries : List Delivery) : Type 0 where
  pub between : Hand
  pub released : Releases n h between
  pub arrived : Arrives links between k [] deliveries

-- how many of the replies to all lanes, of which so many are flow lanes, pass the test
abbrev pub counted : (Reply → Bool) → ℕ → (Lane → List Reply) → ℕ
counted P n said = count_by P (said Own) + sum_by (λ j. count_by P (said (Flow j))) (range_with_len 0 n)

-- as many replies were given to the lane as its reply ring has room for
abbrev pub IsFilledAt : Far → Hands → Option Lane → Type 0
IsFilledAt own h None = ⊥
IsFilledAt own h (Some Own) = (far_id own).room ≤ length (answered own)
IsFilledAt own h (Some (Flow j)) = IsFilledBy (stint_in h j)

-- why an answer is refused: nothing is held, or the ring of the oldest's lane is full
abbrev pub RefusesFirst : Far → Hands → List Holding → Refusal → Type 0
RefusesFirst own h xs NothingHeld = xs ≡ []
RefusesFirst own h xs TooMany = ⊥
RefusesFirst own h xs Full = (xs ≢ []) × IsFilledAt own h (first_lane xs)

-- the same in the words of a port
abbrev pub refused_by : Refusal → Refused
refused_by NothingHeld = answers.NothingHeld
refused_by TooMany = answers.TooMany
refused_by Full = answers.Full
