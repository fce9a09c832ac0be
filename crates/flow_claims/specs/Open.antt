-- A stint that is open in a seat, and what was received and answered in it so far.
use Rattle.std.specs.Prelude.{◌≡◌, ℕ, List, length, drop, Option}
use Rattle.std.specs.Prelude.Option.{Some, None}
use Rattle.evt_types.specs.declared.event.Delivery.{Delivery}
use Rattle.evt_types.specs.declared.event.Reply.{Reply}
use Rattle.lane_rings.specs.Ends.{received_by, answered}
use Rattle.flow_claims.specs.declared.claim.Stint.{Stint}
use Rattle.flow_claims.specs.declared.seating.Begun.{Begun}
use Rattle.flow_claims.specs.declared.seating.LaneLists.{LaneLists}
use Rattle.flow_claims.specs.declared.seating.Seating.{Seating}
use Rattle.flow_claims.specs.Lists.{lists_of, no_lists, GoesOn, IsOf}
use Rattle.flow_claims.specs.Seats.{stint_at}

-- the number of an open stint, where there is one
abbrev pub number_in : Option Begun → Option ℕ
number_in None = None
number_in (Some b) = Some b.number

-- the lists with which it began
abbrev pub start_in : Option Begun → LaneLists
start_in None = no_lists
start_in (Some b) = b.start

-- The seat has the stint open, and the stint has the end that its claim gave: the lane's, with lists that go on from the start's.
pub record IsOpen (v : Seating) (stint : Stint) : Type 0 where
  pub number : number_in (stint_at v stint.lane) ≡ Some stint.number
  pub goes_on : GoesOn (start_in (stint_at v stint.lane)) (lists_of stint.far)
  pub of_lane : IsOf v.lanes stint.lane stint.far

-- what was received and answered in an open stint so far
abbrev pub received_so_far : Seating → Stint → List Delivery
received_so_far v stint = drop (length (start_in (stint_at v stint.lane)).received) (received_by stint.far)

abbrev pub answered_so_far : Seating → Stint → List Reply
answered_so_far v stint = drop (length (start_in (stint_at v stint.lane)).answered) (answered stint.far)

-- how many stints the seat has open
abbrev pub open_count : Seating → ℕ
open_count v = length v.held
