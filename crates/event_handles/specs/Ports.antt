-- What the calls of a port for C answer, and what they do: all that the port's own calls say, with C's events.
use Rattle.std.specs.Prelude.{◌≡◌, ◌≢◌, ℕ, ℤ, pos, ◌+◌, ◌-◌, ◌%◌, ◌^◌, ◌<◌, ◌≤◌, ◌↔◌, ◌⊎◌, List, [], ◌∷◌, ◌++◌, length, map, min, take, drop, Option, IsTrue, IsNone, IfSome}
use Rattle.std.specs.Prelude.Option.{Some, None}
use Rattle.std.specs.List.{AllZip}
use Rattle.credit_pool.specs.Accounts.{Stays}
use Rattle.event_answers.specs.declared.answer.Refused.{Refused}
use Rattle.event_ports.specs.Claiming.{ClaimsEach}
use Rattle.event_ports.specs.Counts.{after_behind, after_burst, after_dequeue, plus}
use Rattle.event_ports.specs.Draws.{ReturnsSpare}
use Rattle.event_ports.specs.Holds.{AreDrained}
use Rattle.event_ports.specs.Lanes as lanes
use Rattle.event_ports.specs.Lanes.{Releases, SubmitsAll}
use Rattle.event_ports.specs.Ports.{Bursts, StopsAt, account_of, claim_seating, counts_of, flow_hands, hand, links, own_site, pocket_of, released_first, seen_by, was_filled}
use Rattle.event_ports.specs.Queues.{AllNameQueues}
use Rattle.event_ports.specs.declared.counts.PortCounts.{PortCounts}
use Rattle.event_ports.specs.declared.lane.Lane.TheVariants.{Own}
use Rattle.event_ports.specs.declared.port.Port.{Port}
use Rattle.event_device.specs.Device.{site_of}
use Rattle.evt_types.specs.declared.event.Delivery.{Delivery}
use Rattle.evt_types.specs.declared.event.Event.{Event}
use Rattle.evt_types.specs.declared.event.Op.TheVariants as ops
use Rattle.event_handles.specs.Events.{IsRead, written_in}
use Rattle.event_handles.specs.Numbers.{invalid, no_device, no_room}
use Rattle.event_handles.specs.Refusals.{errno_of_end}
use Rattle.event_handles.specs.declared.event.CEvent.{CEvent}
use Rattle.event_handles.specs.declared.port.Seat.{Seat}

-- ---- enqueue

-- Of these events the first n were taken, and then came the end or a refusal: all that `Port::enqueue_packed` says. The port is still the
-- same one of its device.
pub record Submits (p : Port) (events : List Event) (n : ℕ) (end : Option Refused) (q : Port) : Type 0 where
  pub own : own_site q ≡ own_site p
  pub credit : Stays (account_of p) (account_of q)
  pub site : site_of q ≡ site_of p
  pub count : n ≤ length events
  pub all : IsNone end ↔ (n ≡ length events)
  pub submitted : SubmitsAll (take n events) (hand p) (hand q)
  pub there : AllNameQueues (own_site p).queues (take n events)
  pub refused : IfSome end (λ refusal. StopsAt p events n refusal q)
  pub singly : Bursts p events n end q
  pub counted : counts_of q ≡ after_burst n end (counts_of p)
  pub taken : (counts_of q).enqueued ≡ plus (counts_of p).enqueued n

-- what is given is read, 64 events of it at most, and enqueued
pub record Enqueues (s t : Seat) (given : List CEvent) (answer : ℤ) : Type 0 where
  pub events : List Event
  pub read : AllZip IsRead (take 64 given) events
  pub n : ℕ
  pub end : Option Refused
  pub submits : Submits s.port events n end t.port
  pub answered : answer ≡ pos n
  pub why : t.why ≡ errno_of_end end
  pub kinds : t.kinds ≡ s.kinds

abbrev pub IsEnqueue : Option Seat → Option Seat → List CEvent → ℤ → Type 0
IsEnqueue (Some s) (Some t) given answer = Enqueues s t given answer
IsEnqueue (Some s) None given answer = ⊥
IsEnqueue None (Some t) given answer = ⊥
IsEnqueue None None given answer = answer ≡ no_device

-- ---- dequeue

-- At most so many deliveries came, with what is released first: all that `Port::dequeue_burst` says where it is `Ok`. The port is still
-- the same one of its device.
pub record Receives (p : Port) (max : ℕ) (deliveries : List Delivery) (q : Port) : Type 0 where
  pub own : own_site q ≡ own_site p
  pub credit : Stays (account_of p) (account_of q)
  pub site : site_of q ≡ site_of p
  pub claims : ClaimsEach (links p) (claim_seating p) (claim_seating q)
  pub received : lanes.Dequeues (links p) (released_first p) (hand p) (hand q) deliveries
  pub few : (length deliveries ≤ max) × (length (hand q).holding ≤ (own_site p).lanes.depth)
  pub drained : length deliveries < max → length (hand q).holding < (own_site p).lanes.depth → seen_by q ≡ []
  pub drained_flows : length deliveries < max → length (hand q).holding < (own_site p).lanes.depth → AreDrained (flow_hands q)
  pub own_first : length ((hand q).got Own) ≢ length ((hand p).got Own) + length deliveries → seen_by q ≡ []
  pub returned_spare : ReturnsSpare (own_site p).quantum ((pocket_of p + released_first p) % 2 ^ 64) (account_of p) (pocket_of q) (account_of q)
  pub counted : counts_of q ≡ after_dequeue (released_first p) (length deliveries) (counts_of p)

-- A reply ring had no room for all that is released first, and nothing came: all that `Port::dequeue_burst` says of `Behind`. The port
-- is still the same one of its device.
pub record FallsBehind (p : Port) (released : ℕ) (q : Port) : Type 0 where
  pub own : own_site q ≡ own_site p
  pub credit : Stays (account_of p) (account_of q)
  pub site : site_of q ≡ site_of p
  pub claims : ClaimsEach (links p) (claim_seating p) (claim_seating q)
  pub implicit : IsTrue (own_site p).implicit
  pub some_held : released < length (hand p).holding
  pub releases : Releases released (hand p) (hand q)
  pub filled : was_filled q ops.Release
  pub returned_spare : ReturnsSpare (own_site p).quantum ((pocket_of p + released) % 2 ^ 64) (account_of p) (pocket_of q) (account_of q)
  pub counted : counts_of q ≡ after_behind released (counts_of p)

-- the deliveries are written to the front of the array
pub record DequeuesSome (s t : Seat) (before after : List CEvent) (answer : ℤ) : Type 0 where
  pub deliveries : List Delivery
  pub receives : Receives s.port (length before) deliveries t.port
  pub written : after ≡ map (written_in s.kinds) deliveries ++ drop (length deliveries) before
  pub answered : answer ≡ pos (length deliveries)
  pub why : t.why ≡ pos 0
  pub kinds : t.kinds ≡ s.kinds

pub record DequeuesNone (s t : Seat) (before after : List CEvent) (answer : ℤ) : Type 0 where
  pub released : ℕ
  pub behind : FallsBehind s.port released t.port
  pub unwritten : after ≡ before
  pub answered : answer ≡ no_room
  pub why : t.why ≡ no_room
  pub kinds : t.kinds ≡ s.kinds

abbrev pub Dequeues : Seat → Seat → List CEvent → List CEvent → ℤ → Type 0
Dequeues s t before after answer = DequeuesSome s t before after answer ⊎ DequeuesNone s t before after answer

abbrev pub IsDequeue : Option Seat → Option Seat → List CEvent → List CEvent → ℤ → Type 0
IsDequeue (Some s) (Some t) before after answer = Dequeues s t before after answer
IsDequeue (Some s) None before after answer = ⊥
IsDequeue None (Some t) before after answer = ⊥
IsDequeue None None before after answer = (answer ≡ no_device) × (after ≡ before)

-- ---- what a port says of itself

-- what the last enqueue or dequeue left of why it ended
abbrev pub why_in : Option Seat → ℤ
why_in None = no_device
why_in (Some s) = s.why

-- how many events it holds
abbrev pub held_in : Option Seat → ℤ
held_in None = no_device
held_in (Some s) = pos (length (hand s.port).holding)

-- how many credits are in its pocket, which are at most the greatest number
abbrev pub pocket_in : Option Seat → ℤ
pocket_in None = no_device
pocket_in (Some s) = pos (min (pocket_of s.port) (2 ^ 63 - 1))

abbrev pub count_list : PortCounts → List ℕ
count_list c =
    c.enqueued ∷ c.dequeued ∷ c.released ∷ c.stopped ∷ c.bad_queue ∷ c.nothing_held ∷ c.backpressure ∷ c.raced ∷ c.full ∷ c.too_many ∷ c.behind ∷ []

-- Its counts are written to the front of the array, or nothing is where that is shorter.
abbrev pub Counts : Port → List ℕ → List ℕ → ℤ → Type 0
Counts p before after answer =
    (11 ≤ length before → (answer ≡ pos 0) × (after ≡ count_list (counts_of p) ++ drop 11 before))
    × (length before < 11 → (answer ≡ invalid) × (after ≡ before))

abbrev pub IsCounted : Option Seat → List ℕ → List ℕ → ℤ → Type 0
IsCounted None before after answer = (answer ≡ no_device) × (after ≡ before)
IsCounted (Some s) before after answer = Counts s.port before after answer
