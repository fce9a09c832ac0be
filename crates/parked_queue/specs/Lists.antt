-- Many lists of waiting events, and how many events they may have in all.
use Rattle.std.specs.Prelude.{ℕ, ◌+◌, ◌==◌, Bool, false, List, [], ◌∷◌, ◌++◌, length, drop, Option, Some, None, replicate, slice_set, slice_index_or, sum_by}
use Rattle.evt_types.specs.Delivered.{delivered}
use Rattle.evt_types.specs.declared.event.Delivery.{Delivery}
use Rattle.evt_types.specs.declared.event.Event.{Event}
use Rattle.evt_types.specs.declared.event.Numbered.{Numbered}
use Rattle.evt_types.specs.declared.event.Reply.{Reply}

-- the lists, each oldest first
pub record Lists : Type 0 where
  pub room : ℕ
  pub lists : List (List Numbered)

abbrev pub list_at : Lists → ℕ → List Numbered
list_at v k = slice_index_or v.lists k []

-- how many events are in all lists
abbrev pub total_of : Lists → ℕ
total_of v = sum_by length v.lists

-- so many lists with no events
abbrev pub all_empty : ℕ → ℕ → Lists
all_empty n room = record { room = room; lists = replicate n [] }

-- another list instead of one; the others stay
abbrev pub with_list : Lists → ℕ → List Numbered → Lists
with_list v k xs = record v { lists = slice_set v.lists k xs }

-- the event is the last one of the list
abbrev pub with_last : Lists → ℕ → Numbered → Lists
with_last v k w = with_list v k (list_at v k ++ w ∷ [])

-- the oldest event of the list is gone; where the list is empty, nothing changes
abbrev pub without_first : Lists → ℕ → Lists
without_first v k = with_list v k (drop 1 (list_at v k))

-- the event is there and has the number
abbrev pub has_number : ℕ → Option Numbered → Bool
has_number n None = false
has_number n (Some w) = w.number == n

-- the event under a number
abbrev pub numbered : ℕ → Event → Numbered
numbered n e = record { number = n; event = e }

-- the events of the replies, under numbers from this one on
abbrev pub numbered_from : ℕ → List Reply → List Numbered
numbered_from n [] = []
numbered_from n (r ∷ rs) = numbered n r.event ∷ numbered_from (n + 1) rs

-- these are the last ones of the list
abbrev pub with_row : Lists → ℕ → List Numbered → Lists
with_row v k ws = with_list v k (list_at v k ++ ws)

-- the event as it is delivered by the queue that it names
abbrev pub named_delivery : Numbered → Delivery
named_delivery w = delivered w.event w.number

-- the queue's event as it is delivered
abbrev pub delivery_of : ℕ → Numbered → Delivery
delivery_of q w = record { event = w.event; queue = q; number = w.number }
