-- Events of a lane that are released together, whichever places of an ordered queue they have.
use Rattle.std.specs.Prelude.{ℕ, List, None, fold, length, sum_by, take_while, if◌then◌else◌}
use Rattle.evt_types.specs.Place.{Place}
use Rattle.order_parts.specs.Orders.{is_restoring}
use Rattle.order_parts.specs.Reorder.{Reordering, after_resolve, without_first}
use Rattle.order_parts.specs.declared.history.Entry.{Entry}

-- how many events the places keep
abbrev pub kept_in_places : List Place → ℕ
kept_in_places xs = sum_by (λ (x : Place). length x.forwards) xs

-- the place of the entry's event is answered by its release, and so is that of each of these
abbrev pub released_one : Reordering → Entry → Reordering
released_one r y = after_resolve r y.place None

abbrev pub released_all : Reordering → List Entry → Reordering
released_all r ys = fold released_one r ys

-- the places that are answered, from the oldest on, leave
abbrev pub answered_front : List Place → List Place
answered_front xs = take_while (λ (x : Place). x.answered) xs

abbrev pub without_answered : Reordering → Reordering
without_answered r = without_first r (length (answered_front r.places))

-- these events are released, and then the places leave
abbrev pub released_in : Reordering → List Entry → Reordering
released_in r ys = if is_restoring r then without_answered (released_all r ys) else r
