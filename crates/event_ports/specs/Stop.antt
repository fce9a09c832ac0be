-- All ports of a device taken together, once none works any more, and what the flow lanes' ends have then.
use Rattle.std.specs.Prelude.{◌≡◌, ℕ, ◌+◌, ◌<◌, ◌≤◌, ◌++◌, Bool, true, List, [], ◌∷◌, length, All, Contains, map, count_by, slice_get, sum_by, Some}
use Rattle.std.specs.List.{range_with_len}
use Rattle.evt_types.specs.Operation.{is_new_reply}
use Rattle.evt_types.specs.declared.event.Reply.{Reply}
use Rattle.lane_rings.specs.Ends.{received_by, answered, held_list, unanswered}
use Rattle.lane_rings.specs.declared.far.Far.{Far}
use Rattle.flow_claims.specs.declared.seating.Past.{Past}
use Rattle.flow_claims.specs.Ends.{IsEnd}
use Rattle.flow_claims.specs.Lists.{no_lists}
use Rattle.flow_claims.specs.Stints.{IsDone, IsFinal, IsRecordFrom, answered_in_all, below, last_end, left_in, received_in_all, times}
use Rattle.flow_claims.specs.declared.seating.Seating.{Seating}
use Rattle.flow_claims.specs.Seats.{HoldsNone}
use Rattle.event_ports.specs.declared.port.Port.{Port}
use Rattle.event_ports.specs.Holds.{answered_past, left_past, AreLinked}
use Rattle.event_ports.specs.Handed.{flow_count}
use Rattle.event_ports.specs.Lanes.{AreOf, IsEndOf, pair_in, held_of}
use Rattle.event_ports.specs.Ports.{own_site, account_of, pocket_of, hand, links, mores_by, news_by, releases_by}
use Rattle.event_ports.specs.declared.rest.Rest.{Rest}
use Rattle.event_ports.specs.declared.lane.Lane.TheVariants.{Own, Flow}
use Rattle.credit_pool.specs.declared.pool.Credits.{Credits}
use Rattle.credit_pool.specs.declared.pool.CreditSeat.{CreditSeat}
use Rattle.credit_pool.specs.Pockets.{IsPocket}
use Rattle.credit_pool.specs.Pool as credits
use Rattle.flow_claims.specs.declared.claims.Claims.{Claims}
use Rattle.flow_claims.specs.declared.claims.ClaimSeat.{ClaimSeat}
use Rattle.flow_claims.specs.Claims.{seating, port_of, IsSeatOf}
use Rattle.lane_rings.specs.Identity.{far_id}
use Rattle.lists.specs.Lists.{has}

-- no NEW is among the replies in finished stints of a flow lane
abbrev pub HasNoNew : List Past → Type 0
HasNoNew ps = (j : ℕ) → count_by is_new_reply (answered_past j ps) ≡ 0

-- how many of the replies in finished stints of so many flow lanes pass the test
abbrev pub counted_past : (Reply → Bool) → ℕ → List Past → ℕ
counted_past P n ps = sum_by (λ j. count_by P (answered_past j ps)) (range_with_len 0 n)

-- each stint's port is linked to its lane
abbrev pub AreLinkedBy : (ℕ → ℕ → Bool) → List Past → Type 0
AreLinkedBy linked ps = All (λ p. linked p.port p.lane ≡ true) ps

-- the ends of the flow lanes, once all seats are one
abbrev pub AreEnds : List Far → List Past → ℕ → (ℕ → Far) → Type 0
AreEnds lanes finished n ends = (j : ℕ) → j < n → IsEnd lanes finished j (ends j)

-- What a flow lane's end has was received and answered by ports that are linked to the lane, stint by stint: its record is all of these
-- stints that are the lane's, each once and at its number. What they left unanswered is what is unanswered at the end. One that gave the
-- lane back left nothing, and after one that surrendered it none came, so that what is unanswered is what the last one left.
pub record IsShared (linked : ℕ → ℕ → Bool) (finished : List Past) (lane : ℕ) (far : Far) : Type 0 where
  pub past : List Past
  pub recorded : IsRecordFrom lane 0 no_lists past
  pub linked_ports : All (λ p. linked p.port lane ≡ true) past
  pub received : received_by far ≡ received_in_all past
  pub answered_is : answered far ≡ answered_in_all past
  pub in_record : All (λ p. p.lane ≡ lane → slice_get past p.number ≡ Some p) finished
  pub among : All (Contains finished) past
  pub once : (number : ℕ) → times lane number finished ≡ below number (length past)
  pub left : left_past lane finished ≡ unanswered far
  pub done : All IsDone past
  pub final : IsFinal past
  pub last : unanswered far ≡ left_in (last_end no_lists past)

-- The finished stints of a port came to those that a seat had: they are what it received from flow lanes and answered to them, and of
-- lanes to which it is linked.
pub record Joins (port : Port) (before after : Seating) : Type 0 where
  pub stints : List Past
  pub finished : after.finished ≡ before.finished ++ stints
  pub lists : IsEndOf (hand port) stints
  pub linked : AreLinked (own_site port).number (links port) stints
  pub parts : after.parts ≡ before.parts + (own_site port).lanes.flows.parts
  pub none_open : HoldsNone after

-- Of these stints the first are a port's, which are what it received from flow lanes and answered to them, and of lanes to which it is
-- linked; so are the others of other ports.
pub record FirstStints (port : Port) (others : List Past → Type 0) (all : List Past) : Type 0 where
  pub its : List Past
  pub rest : List Past
  pub both : all ≡ its ++ rest
  pub lists : IsEndOf (hand port) its
  pub linked : AreLinked (own_site port).number (links port) its
  pub others_are : others rest

-- these are the stints of the ports, one port's after the other's
abbrev pub AreStintsOf : List Port → List Past → Type 0
AreStintsOf [] all = all ≡ []
AreStintsOf (p ∷ ps) all = FirstStints p (AreStintsOf ps) all

-- the port's seats are of these credits and claims
pub record IsPortOf (pool : Credits) (claims : Claims) (p : Port) : Type 0 where
  pub pool_is : (own_site p).pool ≡ pool
  pub claims_are : (own_site p).lanes.flows.claims ≡ claims

-- what the port drew and what it released paid for what it returned, its NEWs and its FORWARD_MOREs, and the rest is in its pocket
abbrev pub IsPaid : Port → Type 0
IsPaid p = IsPocket (pocket_of p) ((account_of p).drawn + releases_by p) ((account_of p).returned + news_by p + mores_by p)

-- all that the port holds is of its own lane or of a flow lane that is there
abbrev pub IsCounted : Port → Type 0
IsCounted p = AreOf (flow_count (own_site p).lanes) (hand p).holding

-- how many of a port's replies to so many flow lanes pass the test
abbrev pub flows_in : (Reply → Bool) → ℕ → Port → ℕ
flows_in P n p = sum_by (λ j. count_by P ((hand p).said (Flow j))) (range_with_len 0 n)

-- the lanes to which the port is linked are those that the test gives it
abbrev pub LinksAgree : (ℕ → ℕ → Bool) → Port → Type 0
LinksAgree linked p = (j : ℕ) → has j (links p) ≡ true → linked (own_site p).number j ≡ true

-- The seats of all these ports were joined into one credit seat and one claim seat.
pub record IsJoined (pool : Credits) (claims : Claims) (credit : CreditSeat) (claim : ClaimSeat) (ports : List Port) (credits_after : CreditSeat) (claims_after : ClaimSeat) : Type 0 where
  pub credit_of : credits.IsSeatOf pool credits_after
  pub claim_of : IsSeatOf claims claims_after × (port_of claims_after ≡ port_of claim)
  pub none_open : HoldsNone (seating claims_after)
  pub drawn : (credits.account credits_after).drawn ≡ (credits.account credit).drawn + sum_by (λ p. (account_of p).drawn) ports
  pub returned : (credits.account credits_after).returned ≡ (credits.account credit).returned + sum_by (λ p. (account_of p).returned) ports
  pub parts : (credits.account credits_after).parts ≡ (credits.account credit).parts + sum_by (λ p. (account_of p).parts) ports
  pub bit : (credits.account credits_after).set_shut ≡ (credits.account credit).set_shut
  pub flow_parts : (seating claims_after).parts ≡ (seating claim).parts + sum_by (λ p. (own_site p).lanes.flows.parts) ports
  pub stints : List Past
  pub finished : (seating claims_after).finished ≡ (seating claim).finished ++ stints
  pub ports_are : AreStintsOf ports stints
  pub counted_is : (P : Reply → Bool) (n : ℕ) → counted_past P n (seating claims_after).finished ≡ counted_past P n (seating claim).finished + sum_by (flows_in P n) ports
  pub held : (j : ℕ) → length (left_past j (seating claims_after).finished) ≡ length (left_past j (seating claim).finished) + sum_by (λ p. length (held_of (Flow j) (hand p).holding)) ports
  pub no_new : HasNoNew (seating claim).finished → HasNoNew (seating claims_after).finished
  pub linked : (linked : ℕ → ℕ → Bool) → All (LinksAgree linked) ports → AreLinkedBy linked (seating claim).finished → AreLinkedBy linked (seating claims_after).finished

-- what is left of each of these ports, in their order
pub record AreLeft (ports : List Port) (rests : List Rest) : Type 0 where
  pub numbers : map (λ r. r.number) rests ≡ map (λ p. (own_site p).number) ports
  pub lanes : map (λ r. far_id r.own) rests ≡ map (λ p. (own_site p).lanes.own) ports
  pub received : map (λ r. received_by r.own) rests ≡ map (λ p. (hand p).got Own) ports
  pub answered_is : map (λ r. answered r.own) rests ≡ map (λ p. (hand p).said Own) ports
  pub held : map (λ r. r.held.items) rests ≡ map (λ p. (hand p).holding) ports
  pub ordered : map (λ r. held_list r.own) rests ≡ map (λ p. map pair_in (held_of Own (hand p).holding)) ports
  pub pockets : map (λ r. r.pocket) rests ≡ map pocket_of ports
  -- no port held more than it might
  pub within : All (λ p. length (hand p).holding ≤ (own_site p).lanes.depth) ports
