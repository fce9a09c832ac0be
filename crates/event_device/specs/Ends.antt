-- The ends of the lanes that are made.
use Rattle.std.specs.Prelude.{◌≡◌, ℕ, List, [], ◌++◌, map, All}
use Rattle.std.specs.List.{range_with_len}
use Rattle.evt_types.specs.Plan.{Plan, depth_of, replies_of}
use Rattle.flow_claims.specs.Laws.{IsUnused}
use Rattle.lane_rings.specs.Ends.{hidden_offers, offered, taken}
use Rattle.lane_rings.specs.Identity.{far_id, near_id}
use Rattle.lane_rings.specs.declared.far.Far.{Far}
use Rattle.lane_rings.specs.declared.near.Near.{Near}
use Rattle.event_device.specs.Device.{depth_in, room_in}

-- nothing was offered to the lane or taken from it
abbrev pub IsUnusedNear : Near → Type 0
IsUnusedNear near = (offered near ≡ []) × (taken near ≡ []) × (hidden_offers near ≡ [])

-- To the scheduler's ends were added those of so many lanes, from a number on, and these are the holders' ends of the same lanes:
-- as deep as the plan says, and not used.
pub record AreAdded (p : Plan) (from count : ℕ) (before after : List Near) (fars : List Far) : Type 0 where
  pub lanes : map near_id after ≡ map near_id before ++ map far_id fars
  pub depths : map depth_in (map far_id fars) ≡ map (depth_of p) (range_with_len from count)
  pub rooms : map room_in (map far_id fars) ≡ map (replies_of p) (range_with_len from count)
  pub unused : All IsUnused fars
  pub unused_near : All IsUnusedNear before → All IsUnusedNear after
