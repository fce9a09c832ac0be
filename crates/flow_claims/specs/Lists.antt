-- The lists of a lane, with which stints begin and end.
use Rattle.std.specs.Prelude.{◌≡◌, [], ◌++◌, length, drop, slice_get, map, ℕ, List}
use Rattle.std.specs.Prelude.Option.{Some}
use Rattle.lane_rings.specs.Ends.{received_by, answered}
use Rattle.lane_rings.specs.Identity.{far_id}
use Rattle.lane_rings.specs.declared.far.Far.{Far}
use Rattle.flow_claims.specs.declared.seating.LaneLists.{LaneLists}

-- the lists of the lane of an end
abbrev pub lists_of : Far → LaneLists
lists_of far = record { received = received_by far; answered = answered far }

-- those of a lane from which nothing was received or answered
abbrev pub no_lists : LaneLists
no_lists = record { received = []; answered = [] }

-- each of the later lists begins with the earlier one
abbrev pub GoesOn : LaneLists → LaneLists → Type 0
GoesOn earlier later =
    (later.received ≡ earlier.received ++ drop (length earlier.received) later.received)
    × (later.answered ≡ earlier.answered ++ drop (length earlier.answered) later.answered)

-- the end is that of the lane
abbrev pub IsOf : List Far → ℕ → Far → Type 0
IsOf lanes lane far = slice_get (map far_id lanes) lane ≡ Some (far_id far)
