-- What a clause sees of the claims and of a seat.
use Rattle.std.specs.Prelude.{◌≡◌, ℕ, List}
use Rattle.atomic_table.specs.Seated.{TableId}
use Rattle.lane_rings.specs.declared.far.Far.{Far}
use Rattle.flow_claims.specs.declared.seating.Seating.{Seating}
use Rattle.flow_claims.specs.declared.claims.Claims.{Claims}
use Rattle.flow_claims.specs.declared.claims.ClaimSeat.{ClaimSeat}

-- what the seat knows
abbrev pub seating : ClaimSeat → Seating
seating seat = seat.seat.me.0

-- the port that the seat belongs to; 254 where it belongs to none
abbrev pub port_of : ClaimSeat → ℕ
port_of seat = seat.port

-- the ends of the lanes, as they were handed over
abbrev pub lanes_of : Claims → List Far
lanes_of claims = claims.table.shared.key.value.items

-- which claims these are
abbrev pub claims_id : Claims → TableId
claims_id claims = claims.table.shared.table_id

-- the seat belongs to the claims
abbrev pub IsSeatOf : Claims → ClaimSeat → Type 0
IsSeatOf claims seat = (seat.seat.table_id ≡ claims_id claims) × ((seating seat).lanes ≡ lanes_of claims)
