-- The pins of an atomic queue's slots: how many unanswered events of a slot there are, and the lane on which they stand.
use Rattle.std.specs.Prelude.{ℕ, ◌≡◌, ◌<◌, ◌+◌, ◌-◌, ◌%◌, Bool, ◌&&◌, ◌||◌, ◌==◌, nat_lt, List, slice_index_or, Option, Some, None, if◌then◌else◌}
use Rattle.order_parts.specs.declared.pins.Hold.{Hold}

-- how many unanswered events of the slot there are, and the last lane that was given one
pub record Pin : Type 0 where
  pub count : ℕ
  pub lane : ℕ

abbrev pub pin_of : Hold → Pin
pin_of h = record { count = h.count; lane = h.lane }

-- a slot of which nothing was given yet
abbrev pub free : Pin
free = record { count = 0; lane = 0 }

abbrev pub pin_at : List Pin → ℕ → Pin
pin_at ps s = slice_index_or ps s free

-- the slot has no unanswered event, or the lane has them
abbrev pub may_pin : Pin → ℕ → Bool
may_pin p l = p.count == 0 || p.lane == l

-- the lane that has the slot's unanswered events, where there are any
abbrev pub holder_of : Pin → Option ℕ
holder_of p = if p.count == 0 then None else Some p.lane

-- so many events on the lane
abbrev pub pin_on : ℕ → ℕ → Pin
pin_on n l = record { count = n; lane = l }

-- one event more, on the lane
abbrev pub pinned : Pin → ℕ → Pin
pinned p l = record { count = p.count + 1; lane = l }

-- one event fewer; the lane stays
abbrev pub unpinned : Pin → Pin
unpinned p = record { count = p.count - 1; lane = p.lane }

-- unanswered events of the slot stand on the lane
abbrev pub IsOn : Pin → ℕ → Type 0
IsOn x l = (0 < x.count) × (x.lane ≡ l)

-- the same as a test
abbrev pub is_on : ℕ → Pin → Bool
is_on l x = nat_lt 0 x.count && (x.lane == l)

-- the number under which the slots of a lane are noted: each of the first lanes has its own
abbrev pub cell_of : ℕ → ℕ
cell_of l = l % 64
