-- What a seat must be to try for a lane, and what a try leaves of it.
use Rattle.std.specs.Prelude.{◌≡◌, ◌<◌}
use Rattle.flow_claims.specs.Seats.{HoldsNone}
use Rattle.flow_claims.specs.Claims.{seating, port_of, IsSeatOf}
use Rattle.flow_claims.specs.declared.claims.Claims.{Claims}
use Rattle.flow_claims.specs.declared.claims.ClaimSeat.{ClaimSeat}

-- the seat of a port that may claim, and holds no lane
abbrev pub IsIdle : Claims → ClaimSeat → Type 0
IsIdle claims seat = IsSeatOf claims seat × (port_of seat < 254) × HoldsNone (seating seat)

-- it is the same port's still, holds no lane, and has as many parts
abbrev pub StaysIdle : Claims → ClaimSeat → ClaimSeat → Type 0
StaysIdle claims before after =
    IsSeatOf claims after × (port_of after ≡ port_of before) × HoldsNone (seating after) × ((seating after).parts ≡ (seating before).parts)
