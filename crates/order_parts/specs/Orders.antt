-- The reorder buffers of a device's queues: one of a queue that restores no order has no places, and no room for any.
use Rattle.std.specs.Prelude.{ℕ, ◌≡◌, ◌<◌, ◌-◌, Bool, ◌==◌, ◌||◌, List, length, nat_lt, min, slice_index_or, Option, Some, None, All, if◌then◌else◌}
use Rattle.evt_types.specs.declared.event.Event.{Event}
use Rattle.order_parts.specs.Reorder.{Reordering, empty, after_hand, after_add, after_resolve, without_first}
use Rattle.order_parts.specs.declared.all_orders.AllOrders.TheInside.{Inside}

-- the buffer of a queue
abbrev pub order_at : List Reordering → ℕ → Reordering
order_at rs q = slice_index_or rs q (empty 0)

-- what is seen of a queue's buffer
abbrev pub shown : Option Reordering → Reordering
shown None = empty 0
shown (Some r) = r

-- a queue's buffer, where it has one, has room for some places
abbrev pub IsBufferOf : Option Reordering → Type 0
IsBufferOf None = Unit {0}
IsBufferOf (Some r) = 0 < r.depth

pub record AreOrders (a : Inside) : Type 0 where
  pub buffers : All IsBufferOf a.queues.items

-- the buffer's queue restores an order
abbrev pub is_restoring : Reordering → Bool
is_restoring r = nat_lt 0 r.depth

-- there is a place for one more event, or it needs none
abbrev pub has_place : Reordering → Bool
has_place r = r.depth == 0 || nat_lt (length r.places) r.depth

-- of so many events, how many have a place or need none
abbrev pub places_for : Reordering → ℕ → ℕ
places_for r n = if is_restoring r then min (r.depth - length r.places) n else n

-- an event more was handed out, an event was added beside one, and an event answered
abbrev pub handed : Reordering → ℕ → Reordering
handed r n = if is_restoring r then after_hand r n else r

abbrev pub added_in : Reordering → ℕ → Event → Reordering
added_in r place e = if is_restoring r then after_add r place e else r

abbrev pub resolved_in : Reordering → ℕ → Option Event → Reordering
resolved_in r place e = if is_restoring r then after_resolve r place e else r

-- so many of the oldest places leave
abbrev pub left_in : Reordering → ℕ → Reordering
left_in r n = if is_restoring r then without_first r n else r

-- a queue's new buffer, with room for so many
pub record IsBuffer (n : ℕ) (o : Option Reordering) : Type 0 where
  pub empty : shown o ≡ empty n
  pub room : IsBufferOf o
