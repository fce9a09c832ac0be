-- What a port has of its flow lanes: a entry for each lane, with the stint where the port holds the lane, and the seat's view.
use Rattle.std.specs.Prelude.{◌≡◌, ◌≢◌, ℕ, ◌<◌, ◌≤◌, ◌==◌, List, [], ◌∷◌, ◌++◌, length, drop, filter, flat_map, count_by, true, false, if◌then◌else◌, Option, All, slice_index_or}
use Rattle.std.specs.Prelude.Option.{Some, None}
use Rattle.std.specs.Option.{ForNone, ForSome, is_some}
use Rattle.lists.specs.Lists.{has}
use Rattle.evt_types.specs.Additions.{extras_of, more_after}
use Rattle.evt_types.specs.Operation.{is_new_reply}
use Rattle.evt_types.specs.declared.event.Delivery.{Delivery}
use Rattle.evt_types.specs.declared.event.Reply.{Reply}
use Rattle.lane_rings.specs.Ends.{answered, answers_among, seen_deliveries, unanswered}
use Rattle.lane_rings.specs.Identity.{far_id}
use Rattle.flow_claims.specs.declared.claim.Stint.{Stint}
use Rattle.flow_claims.specs.declared.claims.Claims.{Claims}
use Rattle.flow_claims.specs.declared.claims.ClaimSeat.{ClaimSeat}
use Rattle.flow_claims.specs.declared.seating.Past.{Past}
use Rattle.flow_claims.specs.declared.seating.Seating.{Seating}
use Rattle.flow_claims.specs.Claims.{seating, port_of, lanes_of, IsSeatOf}
use Rattle.flow_claims.specs.Open.{IsOpen, received_so_far, answered_so_far}
use Rattle.flow_claims.specs.Seats.{stint_at, IsPorts}
use Rattle.flow_claims.specs.Stints.{left_in, received_in_all, answered_in_all}

-- what stands at the entry of a lane; past the last there is nothing
abbrev pub entry_at : List (Option Stint) → ℕ → Option Stint
entry_at stints lane = slice_index_or stints lane None

-- the stint is open in the seat, of the lane whose entry it has, and the port is linked to the lane
pub record IsHeldAt (links : List ℕ) (v : Seating) (lane : ℕ) (stint : Stint) : Type 0 where
  pub lane_is : stint.lane ≡ lane
  pub open_is : IsOpen v stint
  pub linked : has lane links ≡ true

-- the seat has a stint of the lane open exactly where the lane's entry has it
pub record IsEntry (links : List ℕ) (v : Seating) (lane : ℕ) (entry : Option Stint) : Type 0 where
  pub free : ForNone entry (stint_at v lane ≡ None)
  pub held : ForSome entry (IsHeldAt links v lane)

-- The seat belongs to the claims and to a port. Each entry has what the seat has of its lane, and each stint, open or finished, is of
-- the seat's port and of a lane to which that is linked.
pub record AreFlows (claims : Claims) (seat : ClaimSeat) (stints : List (Option Stint)) (links : List ℕ) : Type 0 where
  pub seat_of : IsSeatOf claims seat
  pub port : port_of seat < 254
  pub entries : length stints ≡ length (lanes_of claims)
  pub links_exist : All (λ lane. lane < length (lanes_of claims)) links
  pub each : (lane : ℕ) → IsEntry links (seating seat) lane (entry_at stints lane)
  pub ports : IsPorts (port_of seat) (seating seat)
  pub linked : All (λ p. has p.lane links ≡ true) (seating seat).finished

-- each of these stints is the port's, of a lane to which it is linked
abbrev pub AreLinked : ℕ → List ℕ → List Past → Type 0
AreLinked port links ps = All (λ p. (p.port ≡ port) × (has p.lane links ≡ true)) ps

-- the finished stints of a lane
abbrev pub stints_at : ℕ → List Past → List Past
stints_at lane ps = filter (λ p. p.lane == lane) ps

-- what was received and answered in these
abbrev pub received_past : ℕ → List Past → List Delivery
received_past lane ps = received_in_all (stints_at lane ps)

abbrev pub answered_past : ℕ → List Past → List Reply
answered_past lane ps = answered_in_all (stints_at lane ps)

-- the finished stints by which the lane was surrendered
abbrev pub surrendered_past : ℕ → List Past → List Past
surrendered_past lane ps = filter (λ p. p.surrendered) (stints_at lane ps)

-- what a stint that surrendered its lane left unanswered; one that gave it back left nothing
abbrev pub left_by : Past → List Delivery
left_by p = if p.surrendered then left_in p.end else []

-- what the finished stints of a lane left unanswered
abbrev pub left_past : ℕ → List Past → List Delivery
left_past lane ps = flat_map left_by (stints_at lane ps)

-- what was received and answered in the open stint so far, and what is unanswered of it
abbrev pub received_now : Seating → Option Stint → List Delivery
received_now v None = []
received_now v (Some stint) = received_so_far v stint

abbrev pub answered_now : Seating → Option Stint → List Reply
answered_now v None = []
answered_now v (Some stint) = answered_so_far v stint

abbrev pub held_now : Option Stint → List Delivery
held_now None = []
held_now (Some stint) = unanswered stint.far

-- how many events were added beside the oldest that is unanswered of it: by the lane's end, so with all that was given before the stint
abbrev pub extras_now : Option Stint → ℕ
extras_now None = 0
extras_now (Some stint) = extras_of (answered stint.far)

-- what a port has of its flow lanes
pub record Hands : Type 0 where
  pub view : Seating
  pub stints : List (Option Stint)

abbrev pub stint_in : Hands → ℕ → Option Stint
stint_in h lane = entry_at h.stints lane

-- what the port received from the lane and answered to it, in all its stints one after the other, and what it holds of it
abbrev pub received_on : Hands → ℕ → List Delivery
received_on h lane = received_past lane h.view.finished ++ received_now h.view (stint_in h lane)

abbrev pub answered_on : Hands → ℕ → List Reply
answered_on h lane = answered_past lane h.view.finished ++ answered_now h.view (stint_in h lane)

abbrev pub held_on : Hands → ℕ → List Delivery
held_on h lane = held_now (stint_in h lane)

abbrev pub extras_on : Hands → ℕ → ℕ
extras_on h lane = extras_now (stint_in h lane)

-- What was added beside held events the port added: a stint begins with nothing unanswered, and so with nothing that was added.
pub record AddedAll (h : Hands) : Type 0 where
  pub each : (lane : ℕ) → extras_on h lane ≡ extras_of (answered_on h lane)

-- what was left unanswered of the lane, and what is held of it
abbrev pub left_on : Hands → ℕ → List Delivery
left_on h lane = left_past lane h.view.finished ++ held_on h lane

-- each lane that was held before was given back
abbrev pub GaveBack : Hands → Type 0
GaveBack h = (lane : ℕ) → surrendered_past lane h.view.finished ≡ []

-- no lane was surrendered
abbrev pub NoneSurrendered : Hands → Hands → Type 0
NoneSurrendered h k = (lane : ℕ) → surrendered_past lane k.view.finished ≡ surrendered_past lane h.view.finished

-- a lane that isn't held is neither surrendered nor held later
abbrev pub LeavesFree : Hands → Hands → Type 0
LeavesFree h k = (lane : ℕ) → stint_in h lane ≡ None → (stint_in k lane ≡ None) × (surrendered_past lane k.view.finished ≡ surrendered_past lane h.view.finished)

-- no lane is held of which nothing is unanswered
abbrev pub AreIdle : Hands → Type 0
AreIdle h = (lane : ℕ) → held_on h lane ≡ [] → is_some (stint_in h lane) ≡ false

-- no NEW was submitted to a flow lane
abbrev pub HaveNoNew : Hands → Type 0
HaveNoNew h = (lane : ℕ) → count_by is_new_reply (answered_on h lane) ≡ 0

-- no more is seen in the ring of the stint's lane, unless as many are unanswered of it as its depth allows
abbrev pub IsDrained : Option Stint → Type 0
IsDrained None = Unit {0}
IsDrained (Some stint) = length (unanswered stint.far) < (far_id stint.far).depth → seen_deliveries stint.far ≡ []

-- nor in that of any lane that is held
abbrev pub AreDrained : Hands → Type 0
AreDrained h = (lane : ℕ) → IsDrained (stint_in h lane)

-- as many replies were given to the lane of the stint as its reply ring has room for, by all ports that held it
abbrev pub IsFilledBy : Option Stint → Type 0
IsFilledBy None = ⊥
IsFilledBy (Some stint) = (far_id stint.far).room ≤ length (answered stint.far)

-- the lists of each lane stay
pub record Same (h k : Hands) : Type 0 where
  pub received : (lane : ℕ) → received_on k lane ≡ received_on h lane
  pub answered_is : (lane : ℕ) → answered_on k lane ≡ answered_on h lane
  pub held : (lane : ℕ) → held_on k lane ≡ held_on h lane
  pub extras : (lane : ℕ) → extras_on k lane ≡ extras_on h lane
  pub given_back : NoneSurrendered h k

-- But for what is held: a lane may be surrendered, and what is unanswered of it is left.
pub record Kept (h k : Hands) : Type 0 where
  pub received : (lane : ℕ) → received_on k lane ≡ received_on h lane
  pub answered_is : (lane : ℕ) → answered_on k lane ≡ answered_on h lane
  pub left : (lane : ℕ) → left_on k lane ≡ left_on h lane
  pub free : LeavesFree h k

-- those of other lanes
pub record SameBut (lane : ℕ) (h k : Hands) : Type 0 where
  pub received : (j : ℕ) → j ≢ lane → received_on k j ≡ received_on h j
  pub answered_is : (j : ℕ) → j ≢ lane → answered_on k j ≡ answered_on h j
  pub held : (j : ℕ) → j ≢ lane → held_on k j ≡ held_on h j
  pub extras : (j : ℕ) → j ≢ lane → extras_on k j ≡ extras_on h j

-- deliveries came from the lane
pub record Gets (lane : ℕ) (ds : List Delivery) (h k : Hands) : Type 0 where
  pub others : SameBut lane h k
  pub received : received_on k lane ≡ received_on h lane ++ ds
  pub answered_is : answered_on k lane ≡ answered_on h lane
  pub held : held_on k lane ≡ held_on h lane ++ ds
  pub extras : extras_on k lane ≡ extras_on h lane
  pub given_back : NoneSurrendered h k

-- and stand behind what was in the array
pub record Brings (lane : ℕ) (h : Hands) (old : List Delivery) (k : Hands) (new : List Delivery) : Type 0 where
  pub came : List Delivery
  pub array : new ≡ old ++ came
  pub gets : Gets lane came h k

-- a reply went to the lane; an answer is to the oldest delivery that is held of it
pub record Says (lane : ℕ) (r : Reply) (h k : Hands) : Type 0 where
  pub others : SameBut lane h k
  pub received : received_on k lane ≡ received_on h lane
  pub answered_is : answered_on k lane ≡ answered_on h lane ++ r ∷ []
  pub held : held_on k lane ≡ drop (answers_among (r ∷ [])) (held_on h lane)
  pub extras : extras_on k lane ≡ more_after (extras_on h lane) r
  pub given_back : NoneSurrendered h k

-- What a seat that holds no lane has of the lanes is what the port had; the lanes that it held were surrendered, and what it held of them is left.
pub record Ends (h : Hands) (v : Seating) : Type 0 where
  pub received : (lane : ℕ) → received_past lane v.finished ≡ received_on h lane
  pub answered_is : (lane : ℕ) → answered_past lane v.finished ≡ answered_on h lane
  pub left : (lane : ℕ) → left_past lane v.finished ≡ left_on h lane
  pub free : (lane : ℕ) → stint_in h lane ≡ None → surrendered_past lane v.finished ≡ surrendered_past lane h.view.finished

-- nothing was received from any lane or answered to it, and no lane is held
pub record AreEmpty (h : Hands) : Type 0 where
  pub received : (lane : ℕ) → received_on h lane ≡ []
  pub answered_is : (lane : ℕ) → answered_on h lane ≡ []
  pub held : (lane : ℕ) → is_some (stint_in h lane) ≡ false
  pub given_back : GaveBack h
