-- What waits, one list after the other.
use Rattle.std.specs.Prelude.{ℕ, List}
use Rattle.std.specs.List.{flat_map, range_with_len}
use Rattle.evt_types.specs.declared.event.Numbered.{Numbered}
use Rattle.parked_queue.specs.Parted.{Parted, list_in, list_count}

-- the events of the first lists, so many, one list after the other
abbrev pub parts_of : Parted → ℕ → List Numbered
parts_of v n = flat_map (λ k. list_in v k) (range_with_len 0 n)

-- the events of all lists
abbrev pub all_parts : Parted → List Numbered
all_parts v = parts_of v (list_count v.waits.slots)
