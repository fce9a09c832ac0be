-- What a clause sees of a port's lanes.
use Rattle.std.specs.Prelude.{◌≡◌, ◌≢◌, ◌+◌, ◌<◌, ℕ, true, List, [], ◌++◌, length, drop, Option}
use Rattle.lists.specs.Lists.{has}
use Rattle.evt_types.specs.Operation.{is_more_reply, is_new_reply, is_release_reply}
use Rattle.evt_types.specs.declared.event.Delivery.{Delivery}
use Rattle.evt_types.specs.declared.event.Reply.{Reply}
use Rattle.lists.specs.Counts.{count}
use Rattle.lane_rings.specs.Ends.{answered, received_by, seen_deliveries}
use Rattle.lane_rings.specs.Identity.{far_id, LaneId}
use Rattle.lane_rings.specs.declared.far.Refusal.{Refusal}
use Rattle.flow_claims.specs.declared.seating.Seating.{Seating}
use Rattle.flow_claims.specs.Claims.{lanes_of}
use Rattle.event_ports.specs.declared.lane.Lane.{Lane}
use Rattle.event_ports.specs.declared.lane.Lane.TheVariants.{Own, Flow}
use Rattle.event_ports.specs.declared.lanes.Lanes.{Lanes}
use Rattle.event_ports.specs.Flows.{FlowSite, flow_site, hands_of}
use Rattle.event_ports.specs.Holds.{Hands}
use Rattle.event_ports.specs.Lanes.{Hand, held_in, said_on, got_on, counted, IsFilledAt, RefusesFirst}

-- what never changes of a port's lanes: the own one, the flow lanes, and how much may be held
pub record LanesSite : Type 0 where
  pub own : LaneId
  pub flows : FlowSite
  pub depth : ℕ

abbrev pub lanes_site : Lanes → LanesSite
lanes_site a = record { own = far_id a.own; flows = flow_site a.flows; depth = a.order.capacity }

-- the flow lanes to which the port is linked
abbrev pub links_of : Lanes → List ℕ
links_of a = (flow_site a.flows).links

-- how many flow lanes there are
abbrev pub flow_count : LanesSite → ℕ
flow_count p = length (lanes_of p.flows.claims)

abbrev pub hand_of : Lanes → Hand
hand_of a = record { said = said_on a.own (hands_of a.flows); got = got_on a.own (hands_of a.flows); holding = held_in a.own a.order }

-- what the port's claim seat knows
abbrev pub seating_of : Lanes → Seating
seating_of a = (hands_of a.flows).view

-- what the port has of its flow lanes
abbrev pub flow_hands : Lanes → Hands
flow_hands a = hands_of a.flows

-- the deliveries that the port saw in the ring of its own lane and didn't receive
abbrev pub seen_own : Lanes → List Delivery
seen_own a = seen_deliveries a.own

-- deliveries came from a flow lane only where no more was seen in the ring of the own lane
abbrev pub OwnFirst : Lanes → Lanes → List Delivery → Type 0
OwnFirst a b came = length ((hand_of b).got Own) ≢ length ((hand_of a).got Own) + length came → seen_own b ≡ []

-- the port may receive from the lane: its own one, or a flow lane to which it is linked
abbrev pub IsReadable : LanesSite → Lane → Type 0
IsReadable p Own = Unit {0}
IsReadable p (Flow j) = (j < flow_count p) × (has j p.flows.links ≡ true)

-- how many NEWs, FORWARD_MOREs and RELEASEs were submitted, over all lanes
abbrev pub news_of : Lanes → ℕ
news_of a = counted is_new_reply (flow_count (lanes_site a)) (hand_of a).said

abbrev pub mores_of : Lanes → ℕ
mores_of a = counted is_more_reply (flow_count (lanes_site a)) (hand_of a).said

abbrev pub releases_of : Lanes → ℕ
releases_of a = counted is_release_reply (flow_count (lanes_site a)) (hand_of a).said

-- one reply more was submitted, or none
pub record CountsOne (r : Reply) (a b : Lanes) : Type 0 where
  pub news : news_of b ≡ news_of a + count (is_new_reply r)
  pub mores : mores_of b ≡ mores_of a + count (is_more_reply r)
  pub releases : releases_of b ≡ releases_of a + count (is_release_reply r)

pub record CountsNone (a b : Lanes) : Type 0 where
  pub news : news_of b ≡ news_of a
  pub mores : mores_of b ≡ mores_of a
  pub releases : releases_of b ≡ releases_of a

-- these answers went to the own lane, one after the other, each to the oldest that was held
pub record AnswersRow (rs : List Reply) (a b : Lanes) : Type 0 where
  pub site : lanes_site b ≡ lanes_site a
  pub flows : b.flows ≡ a.flows
  pub got : received_by b.own ≡ received_by a.own
  pub said : answered b.own ≡ answered a.own ++ rs
  pub holding : (hand_of b).holding ≡ drop (length rs) (hand_of a).holding

-- these NEWs went to the own lane, one after the other
pub record BringsRow (rs : List Reply) (a b : Lanes) : Type 0 where
  pub site : lanes_site b ≡ lanes_site a
  pub flows : b.flows ≡ a.flows
  pub got : received_by b.own ≡ received_by a.own
  pub said : answered b.own ≡ answered a.own ++ rs
  pub holding : (hand_of b).holding ≡ (hand_of a).holding

-- as many replies were given to the lane as its reply ring has room for
abbrev pub IsFilled : Lanes → Option Lane → Type 0
IsFilled a lane = IsFilledAt a.own (hands_of a.flows) lane

abbrev pub RefusesOldest : Lanes → Refusal → Type 0
RefusesOldest a refusal = RefusesFirst a.own (hands_of a.flows) (hand_of a).holding refusal
