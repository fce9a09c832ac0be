use Rattle.std.proofs.Common.{◌≡◌, ℕ, Some, map, take, slice_get, vec_capacity}
use Rattle.lane_rings.specs.Identity.{far_id}
use Rattle.lane_rings.specs.declared.far.Far.{Far}
use Rattle.flow_claims.specs.Ends.{IsEnd}
use Rattle.flow_claims.specs.Claims.{lanes_of, claims_id}
use Rattle.flow_claims.proofs.claims.Claims.close.Given as goal

abbrev pub invariant-loop-lane : goal.invariant-loop-lane
invariant-loop-lane l =
    (l.seat.table_id ≡ claims_id l.self) × (l.seat.me.0.lanes ≡ lanes_of l.self)
    × (l.seat.me.0.parts ≡ 64) × (l.seat.me.0.closed ≡ l.lane)
    × (l.seat.me.0.held ≡ l.initial.seat.me.0.held) × (l.seat.me.0.finished ≡ l.initial.seat.me.0.finished)
    × (map far_id l.into.items ≡ take l.lane (map far_id (lanes_of l.self)))
    × ((lane : ℕ) (far : Far) → slice_get l.into.items lane ≡ Some far → IsEnd (lanes_of l.self) l.initial.seat.me.0.finished lane far)
    × (vec_capacity l.into ≡ vec_capacity l.initial.into)
