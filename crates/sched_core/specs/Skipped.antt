-- What a sweep passes over: when it begins, and as sets.
use Rattle.std.specs.Prelude.{ℕ, ◌/◌, ◌%◌, Bool, ◌==◌, false, List, map, replicate}
use Rattle.std.specs.Int.{bit_at}
use Rattle.std.specs.List.{range_with_len}
use Rattle.evt_types.specs.declared.shape.TheConstants.{MAX_LANES, MAX_QUEUES}
use Rattle.small_set.specs.SmallSets.{set_at}
use Rattle.small_set.specs.declared.set.SmallSet.{SmallSet}
use Rattle.transcripts.specs.Choice.{Passed}

-- no lane's ring has refused a delivery, and of no queue an event was given
abbrev pub nothing_passed : Passed
nothing_passed = record { bounced = replicate MAX_LANES false; given = replicate MAX_QUEUES 0 }

-- whether a lane is in one of the sets, each of which has the next 64 lanes
abbrev pub has_lane : List SmallSet → ℕ → Bool
has_lane sets l = bit_at (set_at sets (l / 64)).bits (l % 64) == 1

-- for each lane whether it is in one of the sets
unfoldable pub lanes_in : List SmallSet → List Bool
lanes_in sets = map (has_lane sets) (range_with_len 0 MAX_LANES)
