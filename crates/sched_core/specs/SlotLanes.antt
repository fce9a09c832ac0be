-- The flow lane of each slot.
use Rattle.std.specs.Prelude.{ℕ, ◌≡◌, ◌<◌, ◌≤◌, ◌*◌, ◌/◌, ◌%◌, true, List, length, slice_index_or, Option, Some, None, if◌then◌else◌}
use Rattle.evt_types.specs.Plan.{Plan, is_flows, lanes_of, serves}

-- the flow lane that serves the slot, or none where none does
abbrev pub IsSlotLane : Plan → ℕ → ℕ → Option ℕ → Type 0
IsSlotLane p q slot None = (l : ℕ) → l < lanes_of p → length p.ports ≤ l → ¬ (serves p l q slot ≡ true)
IsSlotLane p q slot (Some l) = (l < lanes_of p) × (serves p l q slot ≡ true)

-- there are 64 for each queue where flow lanes serve the device, else none
abbrev pub slot_lane_count : Plan → ℕ
slot_lane_count p = if is_flows p.serving then length p.queues * 64 else 0

-- the flow lanes of the first slots, 64 for each queue
pub record AreSlotLanes (p : Plan) (n : ℕ) (lanes : List (Option ℕ)) : Type 0 where
  pub count : length lanes ≡ n
  pub each : (k : ℕ) (d : Option ℕ) → k < length lanes → IsSlotLane p (k / 64) (k % 64) (slice_index_or lanes k d)
