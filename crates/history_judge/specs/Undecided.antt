-- What a history leaves open.
use Rattle.std.specs.Prelude.{ℕ, ◌≡◌, ◌+◌, ◌≤◌, Bool, true, false, cond, List, [], length, nat_le, nat_lt, count_by, take, Option, Some, None, if◌then◌else◌}
use Rattle.std.specs.BTreeMap.{BTreeMap}
use Rattle.evt_types.specs.Operation.{is_release_reply}
use Rattle.evt_types.specs.declared.event.Event.{Event}
use Rattle.lists.specs.Lists.{with_past}
use Rattle.history_judge.specs.Histories.{gets}
use Rattle.history_judge.specs.Left.{AreAllSent, left_for}
use Rattle.history_judge.specs.Values.{gets_value, times_got, times_sent}
use Rattle.history_judge.specs.declared.seen.Deed.{Deed}
use Rattle.history_judge.specs.declared.seen.Deed.TheVariants.{Sent, Got}
use Rattle.history_judge.specs.declared.seen.Seen.{Seen}
use Rattle.history_judge.specs.declared.values.Value.{Value}

-- the event that was enqueued; with a RELEASE none is
abbrev pub sent_event : Deed → Option Event
sent_event (Sent r) = if is_release_reply r then None else Some r.event
sent_event (Got e) = None

-- whether there is an event, and it passes the test
abbrev pub passes : (Event → Bool) → Option Event → Bool
passes test None = false
passes test (Some e) = test e

-- whether an event was enqueued that passes the test
abbrev pub sends_such : (Event → Bool) → Deed → Bool
sends_such test d = passes test (sent_event d)

-- ---- events of one value

-- whether more than one event of its value was enqueued in the whole history
abbrev pub is_alike : List Seen → Event → Bool
is_alike hs e = nat_lt 1 (times_sent hs e)

-- how many such events were enqueued
abbrev pub alike : List Seen → ℕ
alike hs = count_by (λ (s : Seen). sends_such (is_alike hs) s.deed) hs

-- ---- events that weren't dequeued

-- Of the events of one value those that were enqueued first count as dequeued, as many as were dequeued in the whole history. Whether one
-- that is enqueued behind these entries is left over: they enqueued as many of its value already.
abbrev pub is_over : List Seen → List Seen → Event → Bool
is_over hs past e = nat_le (times_got hs e (length hs)) (times_sent past e)

abbrev pub over : List Seen → List Seen → Seen → Option Seen
over hs past s = if sends_such (is_over hs past) s.deed then Some s else None

abbrev pub left_over : List Seen → List Seen → List Seen
left_over hs seen = with_past (over hs) [] seen

-- how many events are left over
abbrev pub undelivered : List Seen → ℕ
undelivered hs = length (left_over hs hs)

-- how many events were enqueued, and how many dequeued
abbrev pub events_sent : List Seen → ℕ
events_sent hs = count_by (λ (s : Seen). sends_such (λ e. true) s.deed) hs

abbrev pub events_got : List Seen → ℕ
events_got hs = count_by (λ (s : Seen). gets s.deed) hs

-- ---- counts by values

-- n has one more of what the entry got
abbrev pub IsOneGot : BTreeMap Value ℕ → BTreeMap Value ℕ → Seen → Type 0
IsOneGot m n s = (e : Event) → left_for n e ≡ left_for m e + cond (gets_value e s.deed) 1 0

-- what the first entries got
abbrev pub AreGot : List Seen → ℕ → BTreeMap Value ℕ → Type 0
AreGot hs i m = (e : Event) → left_for m e ≡ times_got hs e i

abbrev pub counts_over : BTreeMap Value ℕ → BTreeMap Value ℕ → Event → Bool
counts_over got before e = nat_le (left_for got e) (left_for before e)

abbrev pub counts_alike : BTreeMap Value ℕ → Event → Bool
counts_alike sent e = nat_lt 1 (left_for sent e)

-- what the first entries sent of each value, and how many of their events are left over
pub record AreOpen (hs : List Seen) (i : ℕ) (before : BTreeMap Value ℕ) (count : ℕ) : Type 0 where
  pub sent : AreAllSent (take i hs) before
  pub few : count ≤ i
  pub same : count ≡ length (left_over hs (take i hs))

-- how many of the first entries sent an event of a value that others have
abbrev pub AreAlike : List Seen → ℕ → ℕ → Type 0
AreAlike hs i count = count ≡ count_by (λ (s : Seen). sends_such (is_alike hs) s.deed) (take i hs)
