-- What a clause sees of a desk, and why it refuses.
use Rattle.std.specs.Prelude.{◌≡◌, ◌≢◌, ℕ, ◌+◌, ◌%◌, ◌^◌, ◌<◌, ◌≤◌, ◌⊎◌, Bool, List, [], ◌∷◌, length, map, take, slice_get, if◌then◌else◌, Option, IsFalse, IsTrue}
use Rattle.std.specs.Prelude.Option.{Some, None}
use Rattle.std.specs.Arc.{arc_value}
use Rattle.std.specs.Option.{is_some}
use Rattle.evt_types.specs.declared.event.Delivery.{Delivery}
use Rattle.evt_types.specs.declared.event.Event.{Event}
use Rattle.evt_types.specs.declared.event.Op.{Op}
use Rattle.evt_types.specs.declared.event.Op.TheVariants as ops
use Rattle.evt_types.specs.declared.event.Reply.{Reply}
use Rattle.evt_types.specs.Limits.{most_extras}
use Rattle.evt_types.specs.Operation.{costs_credit}
use Rattle.credit_pool.specs.declared.account.Account.{Account}
use Rattle.credit_pool.specs.declared.pool.Credits.{Credits}
use Rattle.credit_pool.specs.Accounts.{free_of, in_use, IsOpen, IsShut, Stays}
use Rattle.credit_pool.specs.Pool.{account}
use Rattle.event_answers.specs.declared.answer.Refused.{Refused}
use Rattle.event_answers.specs.declared.answer.Refused.TheVariants.{Stopped, BadQueue, NothingHeld, Backpressure, Raced, Full, TooMany}
use Rattle.credit_pool.specs.declared.answer.Draw.{Draw}
use Rattle.credit_pool.specs.declared.answer.Draw.TheVariants as draws
use Rattle.flow_claims.specs.declared.seating.Seating.{Seating}
use Rattle.flow_claims.specs.Seats.{stint_at}
use Rattle.event_ports.specs.declared.desk.Desk.{Desk}
use Rattle.event_ports.specs.Flows.{hands_of}
use Rattle.event_ports.specs.Holds.{Hands}
use Rattle.event_ports.specs.Lanes.{Hand, Rests, SubmitsAll, SubmitsTo, TakesMore, extras_in, lane_for, reply_of}
use Rattle.event_ports.specs.Handed.{LanesSite, lanes_site, seating_of, seen_own, hand_of, mores_of, news_of, releases_of, IsFilled}
use Rattle.event_ports.specs.Draws.{FillsWithin, HasAsked, HasCredits, HasDrawn, HasLooked, ReturnsSpare, SameSums, most_draws}
use Rattle.event_ports.specs.Queues.{AllNameQueues, NamesQueue}

-- what never changes of it
pub record DeskSite : Type 0 where
  pub pool : Credits
  pub lanes : LanesSite
  pub number : ℕ
  pub queues : ℕ
  pub implicit : Bool
  pub quantum : ℕ
  pub threshold : ℕ

abbrev pub own_site : Desk → DeskSite
own_site p =
    record {
      pool = arc_value p.pool;
      lanes = lanes_site p.lanes;
      number = p.number;
      queues = p.queues;
      implicit = p.implicit;
      quantum = p.quantum;
      threshold = p.threshold;
    }

abbrev pub account_of : Desk → Account
account_of p = account p.seat

abbrev pub pocket_of : Desk → ℕ
pocket_of p = p.pocket

-- what it submitted, received and holds
abbrev pub hand : Desk → Hand
hand p = hand_of p.lanes

-- the deliveries that it saw in the ring of its own lane and didn't receive
abbrev pub seen_by : Desk → List Delivery
seen_by p = seen_own p.lanes

-- what it has of its flow lanes: the stints of those that it holds
abbrev pub flow_hands : Desk → Hands
flow_hands p = hands_of p.lanes.flows

-- what its claim seat knows
abbrev pub claim_seating : Desk → Seating
claim_seating p = seating_of p.lanes

-- the flow lanes to which it is linked
abbrev pub links : Desk → List ℕ
links p = (own_site p).lanes.flows.links

-- how many NEWs, FORWARD_MOREs and RELEASEs it submitted, over all its lanes
abbrev pub news_by : Desk → ℕ
news_by p = news_of p.lanes

abbrev pub mores_by : Desk → ℕ
mores_by p = mores_of p.lanes

abbrev pub releases_by : Desk → ℕ
releases_by p = releases_of p.lanes

-- as many replies were given to the lane to which this operation goes as its reply ring has room for
abbrev pub was_filled : Desk → Op → Type 0
was_filled p o = IsFilled p.lanes (lane_for o (hand p).holding)

-- neither credits nor pocket changed
abbrev pub SameCredits : Desk → Desk → Type 0
SameCredits p q = (pocket_of q ≡ pocket_of p) × SameSums (account_of p) (account_of q)

-- a quantum was drawn into the pocket, where it was empty
abbrev pub Stocks : Desk → ℕ → Desk → Type 0
Stocks p pocket q =
    (pocket_of p ≢ 0 → (pocket ≡ pocket_of p) × SameSums (account_of p) (account_of q))
    × (pocket_of p ≡ 0 → (pocket ≡ (own_site p).quantum) × ((account_of q).drawn ≡ (account_of p).drawn + (own_site p).quantum) × ((account_of q).returned ≡ (account_of p).returned))

-- a NEW asked for a quantum, and was answered this
abbrev pub AsksPool : Desk → Draw → Desk → Type 0
AsksPool p answer q = HasAsked (own_site p).quantum (own_site p).threshold (account_of p) answer (account_of q)

-- a NEW had so many credits to spend
abbrev pub MaySpend : Desk → ℕ → Desk → Type 0
MaySpend p credits q = HasCredits (own_site p).quantum (own_site p).threshold (pocket_of p) (account_of p) credits (account_of q)

-- a FORWARD_MORE asked for a quantum, without a look before, and was answered this
abbrev pub DrawsPool : Desk → Draw → Desk → Type 0
DrawsPool p answer q = FillsWithin most_draws (own_site p).quantum (own_site p).threshold (account_of p) answer (account_of q)

-- a FORWARD_MORE had so many credits to spend
abbrev pub MaySpendMore : Desk → ℕ → Desk → Type 0
MaySpendMore p credits q = HasDrawn (own_site p).quantum (own_site p).threshold (pocket_of p) (account_of p) credits (account_of q)

-- What an event that is taken costs: a NEW or FORWARD_MORE one credit of the pocket, a FORWARD nothing, and a RELEASE brings one, before
-- the return rule.
abbrev pub Pays : Op → Desk → Desk → Type 0
Pays ops.New p q = Stocks p (pocket_of q + 1) q × MaySpend p (pocket_of q + 1) q
Pays ops.Forward p q = SameCredits p q × (account_of q ≡ account_of p)
Pays ops.Release p q = ReturnsSpare (own_site p).quantum ((pocket_of p + 1) % 2 ^ 64) (account_of p) (pocket_of q) (account_of q)
Pays ops.ForwardMore p q = Stocks p (pocket_of q + 1) q × MaySpendMore p (pocket_of q + 1) q

-- Why an event was refused, and what becomes of the credits: the port before, the event, the refusal and the port after.
-- Of the causes that an operation can have the first is answered, so those before it don't hold. What was read of the credits is
-- the seat's account: a NEW reads the word once, and then draws where the pocket is empty; an answer reads nothing. The causes of a
-- FORWARD_MORE come in this order: its queue, nothing held, too many, those of its draws, which it makes where the pocket is empty
-- and with no look before, and last the full ring.
abbrev pub Refuses : Desk → Event → Refused → Desk → Type 0
Refuses p e Stopped q =
    IsTrue (costs_credit e.op) × IsTrue (account_of q).saw_shut × SameCredits p q
    × (e.op ≡ ops.New → (HasLooked (account_of p) (account_of q) × IsShut (account_of q).last) ⊎ ((e.queue < (own_site p).queues) × (pocket_of p ≡ 0) × AsksPool p draws.Shut q))
    × (e.op ≡ ops.ForwardMore → (e.queue < (own_site p).queues) × TakesMore (hand p) × (pocket_of p ≡ 0) × DrawsPool p draws.Shut q)
Refuses p e BadQueue q =
    (e.op ≢ ops.Release) × ((own_site p).queues ≤ e.queue) × (e.op ≡ ops.New → IsOpen (account_of q).last) × SameCredits p q
    × (e.op ≡ ops.New → HasLooked (account_of p) (account_of q)) × (e.op ≢ ops.New → account_of q ≡ account_of p)
Refuses p e NothingHeld q =
    (e.op ≢ ops.New) × (e.op ≢ ops.Release → e.queue < (own_site p).queues) × ((hand p).holding ≡ []) × SameCredits p q × (account_of q ≡ account_of p)
Refuses p e TooMany q =
    (e.op ≡ ops.ForwardMore) × (e.queue < (own_site p).queues) × ((hand p).holding ≢ []) × (most_extras ≤ extras_in (hand p)) × SameCredits p q × (account_of q ≡ account_of p)
Refuses p e (Backpressure free) q =
    IsTrue (costs_credit e.op) × (e.queue < (own_site p).queues) × (pocket_of p ≡ 0) × IsOpen (account_of q).last × (free ≡ free_of (account_of q).last)
    × ((own_site p).threshold < in_use (account_of p).limit (account_of q).last + (own_site p).quantum) × SameCredits p q
    × (e.op ≡ ops.New → AsksPool p (draws.Short free) q) × (e.op ≡ ops.ForwardMore → TakesMore (hand p) × DrawsPool p (draws.Short free) q)
Refuses p e (Raced first second) q =
    IsTrue (costs_credit e.op) × (e.queue < (own_site p).queues) × (pocket_of p ≡ 0) × (first ≢ second) × ((account_of q).before ≡ first) × ((account_of q).last ≡ second)
    × SameCredits p q × (e.op ≡ ops.New → AsksPool p (draws.Raced first second) q) × (e.op ≡ ops.ForwardMore → TakesMore (hand p) × DrawsPool p (draws.Raced first second) q)
Refuses p e Full q =
    was_filled q e.op × (e.op ≢ ops.New → (hand p).holding ≢ []) × (e.op ≢ ops.Release → e.queue < (own_site p).queues) × (e.op ≡ ops.ForwardMore → TakesMore (hand p))
    × (IsTrue (costs_credit e.op) → Stocks p (pocket_of q) q) × (IsFalse (costs_credit e.op) → SameCredits p q × (account_of q ≡ account_of p))
    × (e.op ≡ ops.New → MaySpend p (pocket_of q) q) × (e.op ≡ ops.ForwardMore → MaySpendMore p (pocket_of q) q)

-- the pocket was empty, draws of a quantum were answered so, and nothing was drawn
pub record DrewNone (p : Desk) (answer : Draw) (q : Desk) : Type 0 where
  pub empty : pocket_of p ≡ 0
  pub asked : DrawsPool p answer q
  pub same : SameCredits p q

-- Why an event that costs a credit isn't submitted: the pocket is empty, and this is what the draws answered; or there are credits, and
-- the ring of its lane is full.
abbrev pub SpendsNone : Desk → Op → Refused → Desk → Type 0
SpendsNone p o Stopped q = IsTrue (account_of q).saw_shut × DrewNone p draws.Shut q
SpendsNone p o BadQueue q = ⊥
SpendsNone p o NothingHeld q = ⊥
SpendsNone p o (Backpressure free) q =
    IsOpen (account_of q).last × (free ≡ free_of (account_of q).last)
    × ((own_site p).threshold < in_use (account_of p).limit (account_of q).last + (own_site p).quantum) × DrewNone p (draws.Short free) q
SpendsNone p o (Raced first second) q =
    (first ≢ second) × ((account_of q).before ≡ first) × ((account_of q).last ≡ second) × DrewNone p (draws.Raced first second) q
SpendsNone p o Full q = was_filled q o × MaySpendMore p (pocket_of q) q
SpendsNone p o TooMany q = ⊥

-- the port has a stint of the flow lane open
abbrev pub holds_flow : Desk → ℕ → Bool
holds_flow p j = is_some (stint_at (hands_of p.lanes.flows).view j)

-- with implicit release a dequeue first releases all that is held
abbrev pub released_first : Desk → ℕ
released_first p = if (own_site p).implicit then length (hand p).holding else 0

-- An event was taken: what `Port::enqueue` says of one that it takes.
pub record Enqueues (e : Event) (p q : Desk) : Type 0 where
  pub site : own_site q ≡ own_site p
  pub credit : Stays (account_of p) (account_of q)
  pub submitted : SubmitsTo (lane_for e.op (hand p).holding) (reply_of e) (hand p) (hand q)
  pub pays : Pays e.op p q
  pub there : NamesQueue (own_site p).queues e
  pub unshut : e.op ≡ ops.New → IsTrue (account_of p).saw_shut → ⊥

-- the events of these replies
abbrev pub events_of : List Reply → List Event
events_of rs = map (λ (r : Reply). r.event) rs

-- these were taken, one after the other
abbrev pub EnqueuesAll : List Event → Desk → Desk → Type 0
EnqueuesAll [] p q = q ≡ p
EnqueuesAll (e ∷ es) p q = (between : Desk) × Enqueues e p between × EnqueuesAll es between q

-- an event was refused: what `Port::enqueue` says of one that it refuses
pub record Declines (e : Event) (refusal : Refused) (p q : Desk) : Type 0 where
  pub site : own_site q ≡ own_site p
  pub credit : Stays (account_of p) (account_of q)
  pub rests : Rests (hand p) (hand q)
  pub why : Refuses p e refusal q
  pub stopped : IsTrue (account_of p).saw_shut → e.op ≡ ops.New → refusal ≡ Stopped

-- what comes after the events that were taken: the end, or the next event was refused
abbrev pub EndsWith : Option Refused → List Event → ℕ → Desk → Desk → Type 0
EndsWith None events n p q = q ≡ p
EndsWith (Some refusal) events n p q = (event : Event) × (slice_get events n ≡ Some event) × Declines event refusal p q

-- Of these events the first n were taken, one after the other, and then the end or a refusal came.
pub record Bursts (p : Desk) (events : List Event) (n : ℕ) (end : Option Refused) (q : Desk) : Type 0 where
  pub between : Desk
  pub taken : EnqueuesAll (take n events) p between
  pub ends : EndsWith end events n between q

-- of these events the first n were taken, one after the other, and the next one was refused
pub record StopsAt (p : Desk) (events : List Event) (n : ℕ) (refusal : Refused) (q : Desk) : Type 0 where
  pub event : Event
  pub between : Desk
  pub is_next : slice_get events n ≡ Some event
  pub site : own_site between ≡ own_site p
  pub credit : Stays (account_of p) (account_of between)
  pub submitted : SubmitsAll (take n events) (hand p) (hand between)
  pub there : AllNameQueues (own_site p).queues (take n events)
  pub refused : Refuses between event refusal q
