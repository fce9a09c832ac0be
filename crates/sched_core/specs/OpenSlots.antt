-- The slots whose flow lanes may have room.
use Rattle.std.specs.Prelude.{ℕ, ◌≡◌, ◌<◌, true, List, length, slice_index_or}
use Rattle.evt_types.specs.Plan.{Plan, has_flow_lanes, serves}
use Rattle.order_parts.specs.Histories.{HasRoom}
use Rattle.order_parts.specs.History.{Entries}
use Rattle.small_set.specs.SmallSets.{Has}
use Rattle.small_set.specs.declared.set.SmallSet.{SmallSet}

-- where flow lanes serve a queue, each of its slots whose lane has room is in the queue's set, and perhaps others are
pub record AreOpenSlots (p : Plan) (ls : List Entries) (sets : List SmallSet) : Type 0 where
  pub count : length sets ≡ length p.queues
  pub each : (q slot l : ℕ) (d : SmallSet) → q < length sets → slot < 64 → has_flow_lanes p q ≡ true → serves p l q slot ≡ true → HasRoom ls l → Has (slice_index_or sets q d) slot

-- each queue's set has all slots
pub record HaveAllSlots (p : Plan) (sets : List SmallSet) : Type 0 where
  pub count : length sets ≡ length p.queues
  pub each : (q slot : ℕ) (d : SmallSet) → q < length sets → slot < 64 → Has (slice_index_or sets q d) slot

-- the slot that the flow lane serves is in its queue's set now, and what was in a set still is
pub record IsOpened (p : Plan) (l : ℕ) (was now : List SmallSet) : Type 0 where
  pub count : length now ≡ length was
  pub there : (q slot : ℕ) (d : SmallSet) → q < length now → has_flow_lanes p q ≡ true → serves p l q slot ≡ true → Has (slice_index_or now q d) slot
  pub still : (q slot : ℕ) (d : SmallSet) → q < length now → Has (slice_index_or was q d) slot → Has (slice_index_or now q d) slot
