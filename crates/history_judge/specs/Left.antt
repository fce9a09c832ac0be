-- How many events of each value are left: they were sent, and not got by the first entries.
use Rattle.std.specs.Prelude.{ℕ, ◌≡◌, ◌+◌, cond, List, if◌then◌else◌}
use Rattle.std.specs.BTreeMap.{BTreeMap, get}
use Rattle.std.specs.Map.{count_at}
use Rattle.std.specs.Ordering.{nat_cmp, ordering_then}
use Rattle.std.specs.declared.cmp.Ordering.{Ordering}
use Rattle.evt_types.specs.declared.event.Event.{Event}
use Rattle.history_judge.specs.Values.{gets_value, is_same_but, sends_value, times_got, times_sent}
use Rattle.history_judge.specs.declared.seen.Deed.TheVariants.{Got}
use Rattle.history_judge.specs.declared.seen.Seen.{Seen}
use Rattle.history_judge.specs.declared.values.Value.{Value}

-- what is kept of the event
abbrev pub value_of : Event → Value
value_of e = record { flow = e.flow; sub_type = e.sub_type; event_type = e.event_type; queue = e.queue; priority = e.priority; payload = e.payload }

-- the order of values, field by field
abbrev pub value_cmp : Value → Value → Ordering
value_cmp x y =
    ordering_then (nat_cmp x.flow y.flow) (ordering_then (nat_cmp x.sub_type y.sub_type) (ordering_then (nat_cmp x.event_type y.event_type)
    (ordering_then (nat_cmp x.queue y.queue) (ordering_then (nat_cmp x.priority y.priority) (nat_cmp x.payload y.payload)))))

-- how many are left of the event's value
abbrev pub left_for : BTreeMap Value ℕ → Event → ℕ
left_for m e = count_at (get value_cmp m) (value_of e)

-- n has so many of the event's value, and of each other what m has
abbrev pub HasLeft : BTreeMap Value ℕ → BTreeMap Value ℕ → Event → ℕ → Type 0
HasLeft m n e count = (f : Event) → left_for n f ≡ (if is_same_but f e then count else left_for m f)

-- n has one more of what the entry sent
abbrev pub IsOneMore : BTreeMap Value ℕ → BTreeMap Value ℕ → Seen → Type 0
IsOneMore m n s = (e : Event) → left_for n e ≡ left_for m e + cond (sends_value e s.deed) 1 0

-- n has one less of what the entry got
abbrev pub IsOneLess : BTreeMap Value ℕ → BTreeMap Value ℕ → Seen → Type 0
IsOneLess m n s = (e : Event) → left_for m e ≡ left_for n e + cond (gets_value e s.deed) 1 0

-- of what the entry got none is left
pub record IsLacking (m : BTreeMap Value ℕ) (s : Seen) : Type 0 where
  pub event : Event
  pub got : s.deed ≡ Got event
  pub none : left_for m event ≡ 0

-- what these entries sent is left
abbrev pub AreAllSent : List Seen → BTreeMap Value ℕ → Type 0
AreAllSent hs m = (e : Event) → left_for m e ≡ times_sent hs e

-- what the whole history sent is left, but for what its first entries got
abbrev pub AreLeft : List Seen → ℕ → BTreeMap Value ℕ → Type 0
AreLeft hs i m = (e : Event) → times_sent hs e ≡ left_for m e + times_got hs e i
