-- What a call of a port does: its clauses, over the port before the call and after it.
use Rattle.std.specs.Prelude.{◌≡◌, ◌≢◌, ℕ, ◌+◌, ◌%◌, ◌^◌, ◌<◌, ◌≤◌, List, [], length, IsTrue, Result, Err, IfOk, IfErr, OnOk, MatchResult}
use Rattle.credit_pool.specs.Accounts.{Stays}
use Rattle.event_answers.specs.declared.answer.Behind.{Behind}
use Rattle.event_answers.specs.declared.answer.Refused.{Refused}
use Rattle.event_answers.specs.declared.answer.Refused.TheVariants.{Stopped}
use Rattle.event_ports.specs.Claiming.{ClaimsEach}
use Rattle.event_ports.specs.Draws.{ReturnsSpare}
use Rattle.event_ports.specs.Holds.{AreDrained}
use Rattle.event_ports.specs.Lanes.{Dequeues, Releases, Rests, SubmitsTo, lane_for, reply_of}
use Rattle.event_ports.specs.Ports.{Pays, Refuses, account_of, claim_seating, flow_hands, hand, links, own_site, pocket_of, released_first, seen_by, was_filled}
use Rattle.event_ports.specs.declared.lane.Lane.TheVariants.{Own}
use Rattle.event_ports.specs.declared.port.Port.{Port}
use Rattle.evt_types.specs.declared.event.Delivery.{Delivery}
use Rattle.evt_types.specs.declared.event.Event.{Event}
use Rattle.evt_types.specs.declared.event.Op.TheVariants as ops

-- The port enqueued the event, or refused it: what was taken was submitted and paid for; what was refused changed nothing that was
-- submitted or is held.
pub record IsEnqueue (p : Port) (e : Event) (outcome : Result (Unit {0}) Refused) (q : Port) : Type 0 where
  pub site : own_site q ≡ own_site p
  pub credit : Stays (account_of p) (account_of q)
  pub submitted : MatchResult outcome (λ _. SubmitsTo (lane_for e.op (hand p).holding) (reply_of e) (hand p) (hand q)) (λ _. Rests (hand p) (hand q))
  pub pays : OnOk outcome (Pays e.op p q)
  pub refused : IfErr outcome (λ f. Refuses p e f q)
  pub stopped : IsTrue (account_of p).saw_shut → e.op ≡ ops.New → outcome ≡ Err Stopped

-- The port dequeued at most so many events, of those that its lanes had, after it released what is released first and claimed each
-- linked flow lane once at most, and saw its own lane and those that it holds empty where fewer came than may; or its reply rings hadn't room for all
-- releases, and it received nothing.
pub record IsDequeue (p : Port) (max : ℕ) (outcome : Result (List Delivery) Behind) (q : Port) : Type 0 where
  pub site : own_site q ≡ own_site p
  pub credit : Stays (account_of p) (account_of q)
  pub claims : ClaimsEach (links p) (claim_seating p) (claim_seating q)
  pub ok : IfOk outcome (λ deliveries. Dequeues (links p) (released_first p) (hand p) (hand q) deliveries)
  pub few : IfOk outcome (λ deliveries. (length deliveries ≤ max) × (length (hand q).holding ≤ (own_site p).lanes.depth))
  pub drained : IfOk outcome (λ deliveries. length deliveries < max → length (hand q).holding < (own_site p).lanes.depth → seen_by q ≡ [])
  pub drained_flows : IfOk outcome (λ deliveries. length deliveries < max → length (hand q).holding < (own_site p).lanes.depth → AreDrained (flow_hands q))
  pub own_first : IfOk outcome (λ deliveries. length ((hand q).got Own) ≢ length ((hand p).got Own) + length deliveries → seen_by q ≡ [])
  pub behind : IfErr outcome (λ b. IsTrue (own_site p).implicit × (b.released < length (hand p).holding) × Releases b.released (hand p) (hand q) × was_filled q ops.Release)
  pub returned_spare : MatchResult outcome
      (λ _. ReturnsSpare (own_site p).quantum ((pocket_of p + released_first p) % 2 ^ 64) (account_of p) (pocket_of q) (account_of q))
      (λ b. ReturnsSpare (own_site p).quantum ((pocket_of p + b.released) % 2 ^ 64) (account_of p) (pocket_of q) (account_of q))
