-- For how long an event that was got is held for certain.
use Rattle.std.specs.Prelude.{ℕ, ◌≡◌, ◌+◌, ◌*◌, ◌<◌, Bool, true, false, not, List, [], ◌∷◌, ◌++◌, length, map, filter, nat_lt, nat_le, Option, Some, None, slice_get, slice_set, slice_index_or, if◌then◌else◌}
use Rattle.std.specs.declared.alloc.Global.{Global}
use Rattle.std.specs.declared.vec.Vec.{Vec}
use Rattle.evt_types.specs.Limits.{most_slots}
use Rattle.evt_types.specs.Plan.{Plan, queue_of, is_atomic, slot_of}
use Rattle.evt_types.specs.declared.event.Event.{Event}
use Rattle.history_judge.specs.Breaches.{may_get}
use Rattle.history_judge.specs.Histories.{answers, got_before, is_answered}
use Rattle.history_judge.specs.declared.holds.Hold.{Hold}
use Rattle.history_judge.specs.declared.seen.Deed.{Deed}
use Rattle.history_judge.specs.declared.seen.Deed.TheVariants.{Sent, Got}
use Rattle.history_judge.specs.declared.seen.Seen.{Seen}

-- ---- times of answers

-- lists that stand in a list; one that isn't there is empty
abbrev pub rows : List (Vec ℕ Global) → List (List ℕ)
rows lists = map (λ (list : Vec ℕ Global). list.items) lists

abbrev pub row : List (List ℕ) → ℕ → List ℕ
row lists n = slice_index_or lists n []

-- when the calls of the port's answers began
abbrev pub answer_times : List Seen → ℕ → List ℕ
answer_times hs l = map (λ (s : Seen). s.began) (filter (is_answered l) hs)

-- for each of so many ports these times
pub record AreTimes (ports : ℕ) (hs : List Seen) (lists : List (Vec ℕ Global)) : Type 0 where
  pub sized : length lists ≡ ports
  pub each : (l : ℕ) → l < ports → row (rows lists) l ≡ answer_times hs l

abbrev pub is_answer_entry : Seen → Bool
is_answer_entry s = answers s.deed

abbrev pub noted : List (List ℕ) → Seen → List (List ℕ)
noted lists s = if is_answer_entry s then slice_set lists s.port (row lists s.port ++ s.began ∷ []) else lists

-- when the port's answer of this number began
abbrev pub until_in : List (Vec ℕ Global) → ℕ → ℕ → Option ℕ
until_in lists l n = slice_get (row (rows lists) l) n

-- ---- holds

-- whether what ends then, or never, ends after t
abbrev pub ends_after : ℕ → Option ℕ → Bool
ends_after t None = true
ends_after t (Some u) = nat_lt t u

-- whether what ends at the first of these doesn't end before the second
abbrev pub lasts_as : Option ℕ → Option ℕ → Bool
lasts_as None u = true
lasts_as (Some t) None = false
lasts_as (Some t) (Some u) = nat_le u t

abbrev pub no_hold : Option Hold
no_hold = None

-- the cells: some for each queue, one for each slot that it may have
abbrev pub cell_count : Plan → ℕ
cell_count p = length p.queues * most_slots

abbrev pub cell_of : Plan → Event → ℕ
cell_of p e = e.queue * most_slots + slot_of p e.queue e.flow

-- the hold of an entry that got an event of an atomic queue
abbrev pub hold_got : Plan → ℕ → ℕ → ℕ → Option ℕ → Deed → Option Hold
hold_got p i l since until (Sent r) = None
hold_got p i l since until (Got e) =
    if is_atomic (queue_of p e.queue).kind then Some (record { at = i; port = l; cell = cell_of p e; since = since; until = until }) else None

abbrev pub hold_in : Plan → Seen → ℕ → ℕ → List (Vec ℕ Global) → Option Hold
hold_in p s i n times = hold_got p i s.port s.ended (until_in times s.port n) s.deed

-- the hold is that of the entry at its place
pub record IsHoldOf (p : Plan) (hs : List Seen) (h : Hold) : Type 0 where
  pub seen : Seen
  pub entry : slice_get hs h.at ≡ Some seen
  pub event : Event
  pub got : seen.deed ≡ Got event
  pub atomic : is_atomic (queue_of p event.queue).kind ≡ true
  pub port : h.port ≡ seen.port
  pub cell : h.cell ≡ cell_of p event
  pub since : h.since ≡ seen.ended
  pub until : h.until ≡ slice_get (answer_times hs seen.port) (got_before hs seen.port h.at)

-- whether the entry got what its port may not get
abbrev pub got_badly : Plan → ℕ → Deed → Bool
got_badly p l (Sent r) = false
got_badly p l (Got e) = not (may_get p l e)

abbrev pub got_wrongly : Plan → Seen → Bool
got_wrongly p s = got_badly p s.port s.deed
