-- The rows of a reorder buffer: the events that each place keeps.
use Rattle.std.specs.Prelude.{ℕ, ◌≡◌, ◌*◌, ◌<◌, ◌≤◌, false, All, Option, Some, None, length, sum_by}
use Rattle.evt_types.specs.Limits.{most_extras, most_forwards}
use Rattle.order_parts.specs.declared.reorder.Handed.{Handed}
use Rattle.order_parts.specs.declared.reorder.Reorder.TheInside.{Inside}

-- a place has no more events than fit in its row; while it is unanswered, there is room for the forward
pub record KeepsFew (h : Handed) : Type 0 where
  pub few : h.kept ≤ most_forwards
  pub fewer : h.answered ≡ false → h.kept ≤ most_extras

-- how many events a place keeps, where there is one
abbrev pub kept_by : Option Handed → ℕ
kept_by None = 0
kept_by (Some h) = h.kept

-- there is a row for each place that there may be, and none has more events than fit; how many all have is counted
pub record HasRows (a : Inside) : Type 0 where
  pub size : length a.rows.items ≡ most_forwards * a.ring.capacity
  pub start : 0 < a.ring.capacity → a.first_row < a.ring.capacity
  pub places : length a.ring.items ≤ a.ring.capacity
  pub few : All KeepsFew a.ring.items
  pub count : a.kept ≡ sum_by (λ (h : Handed). h.kept) a.ring.items
