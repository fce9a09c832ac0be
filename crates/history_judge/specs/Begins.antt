-- When the first call began that enqueued an event of a value.
use Rattle.std.specs.Prelude.{ℕ, ◌≡◌, Bool, false, not, ◌&&◌, ◌||◌, List, nat_le, nat_lt, Option, Some, None, if◌then◌else◌}
use Rattle.std.specs.BTreeMap.{BTreeMap, get}
use Rattle.evt_types.specs.declared.event.Event.{Event}
use Rattle.history_judge.specs.Left.{value_cmp, value_of}
use Rattle.history_judge.specs.Values.{is_same_but, sends_value, times_begun}
use Rattle.history_judge.specs.declared.seen.Deed.{Deed}
use Rattle.history_judge.specs.declared.seen.Deed.TheVariants.{Sent, Got}
use Rattle.history_judge.specs.declared.seen.Seen.{Seen}
use Rattle.history_judge.specs.declared.values.Value.{Value}

abbrev pub is_by : ℕ → Option ℕ → Bool
is_by t None = false
is_by t (Some began) = nat_le began t

-- whether the map has a time for the event's value that isn't after t
abbrev pub has_begun : BTreeMap Value ℕ → Event → ℕ → Bool
has_begun m e t = is_by t (get value_cmp m (value_of e))

-- n has this time for the event's value, and for each other what m has
abbrev pub BeginsAt : BTreeMap Value ℕ → BTreeMap Value ℕ → Event → ℕ → Type 0
BeginsAt m n e began = (f : Event) (t : ℕ) → has_begun n f t ≡ (if is_same_but f e then nat_le began t else has_begun m f t)

-- n has as well what the entry sent
abbrev pub BeginsMore : BTreeMap Value ℕ → BTreeMap Value ℕ → Seen → Type 0
BeginsMore m n s = (e : Event) (t : ℕ) → has_begun n e t ≡ (has_begun m e t || (sends_value e s.deed && nat_le s.began t))

-- the times are those of what these entries sent
abbrev pub AreBegun : List Seen → BTreeMap Value ℕ → Type 0
AreBegun hs m = (e : Event) (t : ℕ) → has_begun m e t ≡ nat_lt 0 (times_begun hs e t)

abbrev pub gets_early : BTreeMap Value ℕ → ℕ → Deed → Bool
gets_early m t (Sent r) = false
gets_early m t (Got e) = not (has_begun m e t)

abbrev pub got_early : BTreeMap Value ℕ → Seen → Bool
got_early m s = gets_early m s.ended s.deed
