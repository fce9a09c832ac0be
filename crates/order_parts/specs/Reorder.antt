-- The reorder buffer of an ordered queue: a place for each open number, in hand-out order.
use Rattle.std.specs.Prelude.{ℕ, zero, suc, ◌≡◌, ◌+◌, ◌-◌, ◌*◌, ◌%◌, ◌^◌, ◌≤◌, Bool, true, false, not, nat_lt, List, [], ◌∷◌, ◌++◌, length, map, take, drop, slice_get, slice_set, slice_index_or, Option, Some, None, option_to_list, if◌then◌else◌}
use Rattle.arrayvec.specs.ArrayVec.{ArrayVec}
use Rattle.evt_types.specs.Place.{Place}
use Rattle.evt_types.specs.declared.event.Event.{Event}
use Rattle.evt_types.specs.declared.event.Numbered.{Numbered}
use Rattle.evt_types.specs.Limits.{most_extras, most_forwards}
use Rattle.order_parts.specs.declared.reorder.Handed.{Handed}

-- the places, oldest first; the number of the first one, of which the next ones count on modulo 2 ^ 64; how many there may be
pub record Reordering : Type 0 where
  pub first : ℕ
  pub places : List Place
  pub depth : ℕ

-- a place has no more events than an event may be passed on as; while it is unanswered, no more than may be added
pub record HasFew (x : Place) : Type 0 where
  pub few : length x.forwards ≤ most_forwards
  pub fewer : x.answered ≡ false → length x.forwards ≤ most_extras

-- ---- how the fields hold a place

-- the place of these fields, which keeps these events
abbrev pub place_of : List Event → Handed → Place
place_of kept h = record { number = h.number; answered = h.answered; forwards = kept }

-- the places, where `row i n` is what the first n events in the row of the i-th place are
abbrev pub places_by : (ℕ → ℕ → List Event) → List Handed → List Place
places_by row [] = []
places_by row (h ∷ hs) = place_of (row 0 h.kept) h ∷ places_by (λ i. row (suc i)) hs

-- where a row that is below 2 * n is, around the end of n rows
unfoldable pub wrapped : ℕ → ℕ → ℕ
wrapped n row = if nat_lt row n then row else (row - n)

-- the first m events of a row
unfoldable pub in_row : List Event → ℕ → ℕ → List Event
in_row all row m = take m (drop (most_forwards * row) all)

-- the rows of the places, of which the oldest has the row `first`
abbrev pub rows_from : List Event → ℕ → ℕ → ℕ → ℕ → List Event
rows_from all n first i m = in_row all (wrapped n (first + i)) m

-- ---- the calls

abbrev pub empty : ℕ → Reordering
empty n = record { first = 0; places = []; depth = n }

-- the number of the i-th place
abbrev pub number_of : Reordering → ℕ → ℕ
number_of r i = (r.first + i) % 2 ^ 64

-- the number of the place that the next event gets
abbrev pub next_number : Reordering → ℕ
next_number r = number_of r (length r.places)

-- an event's place while it is unanswered
abbrev pub open_place : ℕ → Place
open_place n = record { number = n; answered = false; forwards = [] }

abbrev pub after_hand : Reordering → ℕ → Reordering
after_hand r n = record r { places = r.places ++ open_place n ∷ [] }

-- how far behind the first the place of this number is
abbrev pub index_of : Reordering → ℕ → ℕ
index_of r p = (p + (2 ^ 64 - r.first)) % 2 ^ 64

-- the place of this number
abbrev pub place_at : Reordering → ℕ → Option Place
place_at r p = slice_get r.places (index_of r p)

-- there is such a place, and it is unresolved
abbrev pub is_open : Option Place → Bool
is_open None = false
is_open (Some x) = not x.answered

-- the place is answered, by a forward as the event or by a release; what was added stays before it
abbrev pub resolved : Place → Option Event → Place
resolved x e = record { number = x.number; answered = true; forwards = x.forwards ++ option_to_list e }

-- the place of this number; where there is none, an open one without events
abbrev pub place_or_open : Reordering → ℕ → Place
place_or_open r p = slice_index_or r.places (index_of r p) (open_place 0)

-- an event more was added beside the event of the place
abbrev pub with_added : Place → Event → Place
with_added x e = record { number = x.number; answered = x.answered; forwards = x.forwards ++ e ∷ [] }

abbrev pub after_add : Reordering → ℕ → Event → Reordering
after_add r p e = record r { places = slice_set r.places (index_of r p) (with_added (place_or_open r p) e) }

-- the place keeps an event more, and is answered or not
abbrev pub with_kept : Place → Event → Bool → Place
with_kept x e answered = record { number = x.number; answered = answered; forwards = x.forwards ++ e ∷ [] }

abbrev pub after_keep : Reordering → ℕ → Event → Bool → Reordering
after_keep r p e answered = record r { places = slice_set r.places (index_of r p) (with_kept (place_or_open r p) e answered) }

abbrev pub after_resolve : Reordering → ℕ → Option Event → Reordering
after_resolve r p e =
    record r { places = slice_set r.places (index_of r p) (resolved (slice_index_or r.places (index_of r p) (open_place 0)) e) }

-- what the place keeps, under its event's number
abbrev pub kept_of : Place → List Numbered
kept_of x = map (λ (e : Event). record { number = x.number; event = e }) x.forwards

-- the oldest place, where it is answered
abbrev pub oldest_answered : List Place → Option Place
oldest_answered [] = None
oldest_answered (x ∷ xs) = if x.answered then Some x else None

-- the place that left with an event's number and what the event was passed on as
abbrev pub left : ℕ × ArrayVec Event → Place
left r = record { number = r.0; answered = true; forwards = r.1.items }

-- the same, where nothing was added: it was passed on as the event, or as nothing
abbrev pub left_plain : ℕ → Bool → Event → Place
left_plain n passed e = record { number = n; answered = true; forwards = if passed then e ∷ [] else [] }

-- the place behind the oldest is the first
abbrev pub without_oldest : Reordering → Reordering
without_oldest r = record r { first = number_of r 1; places = drop 1 r.places }

-- the buffer without so many of its oldest places
abbrev pub without_first : Reordering → ℕ → Reordering
without_first r zero = r
without_first r (suc n) = without_first (without_oldest r) n

-- there is such a place, and it is answered
abbrev pub is_done : Option Place → Bool
is_done None = false
is_done (Some x) = x.answered

abbrev pub after_leaving : Reordering → Option Place → Reordering
after_leaving r None = r
after_leaving r (Some x) = without_oldest r

-- it leaves, and the place behind it is the first
abbrev pub after_leave : Reordering → Reordering
after_leave r = after_leaving r (oldest_answered r.places)
