-- Whether the ports hold more events for certain than may be inside, as it is found entry by entry.
use Rattle.std.specs.Prelude.{ℕ, ◌≡◌, ◌+◌, ◌-◌, ◌<◌, ◌≤◌, Bool, true, ◌&&◌, List, length, nat_le, nat_lt, count_by, sum_by, AllPairs, Some, slice_get, slice_index_or}
use Rattle.std.specs.List.{range_with_len}
use Rattle.std.specs.declared.alloc.Global.{Global}
use Rattle.std.specs.declared.vec.Vec.{Vec}
use Rattle.evt_types.specs.Plan.{Plan, bound_of}
use Rattle.history_judge.specs.Histories.{answers_begun, gets, got_before}
use Rattle.history_judge.specs.Holds.{row, rows}
use Rattle.history_judge.specs.declared.seen.Seen.{Seen}

-- ---- times

abbrev pub AreRising : List ℕ → Type 0
AreRising times = AllPairs (λ x y. x ≤ y) times

-- how many of the times aren't after t
abbrev pub past : List ℕ → ℕ → ℕ
past times t = count_by (λ x. nat_le x t) times

-- each port's times rise
abbrev pub AllRise : List (Vec ℕ Global) → Type 0
AllRise lists = (l : ℕ) → l < length lists → AreRising (row (rows lists) l)

-- for each port a number of its times that aren't after t, though there may be more
pub record AreKnownPast (lists : List (Vec ℕ Global)) (t : ℕ) (known : List ℕ) : Type 0 where
  pub sized : length known ≡ length lists
  pub each : (l : ℕ) → l < length lists → slice_index_or known l 0 ≤ past (row (rows lists) l) t

-- ---- ports

-- what the port holds at t for certain, which got so many, where these are the times at which the ports' answers began
abbrev pub held_by : List ℕ → List (Vec ℕ Global) → ℕ → ℕ → ℕ
held_by got times t l = slice_index_or got l 0 - past (row (rows times) l) t

-- whether the entry is a dequeue, and when it ended the ports held more than the bound
abbrev pub exceeds : ℕ → Seen → List ℕ → List (Vec ℕ Global) → Bool
exceeds bound s got times = gets s.deed && nat_lt bound (sum_by (held_by got times s.ended) (range_with_len 0 (length got)))

-- what the port holds at t for certain of the events that it got before the n-th entry
abbrev pub held_before : List Seen → ℕ → ℕ → ℕ → ℕ
held_before hs n t l = got_before hs l n - answers_begun hs l t

-- Of the events that the ports got, up to and with the i-th entry, they held more for certain when it ended than may be inside.
pub record IsCrowdedBy (p : Plan) (hs : List Seen) (i : ℕ) : Type 0 where
  pub seen : Seen
  pub entry : slice_get hs i ≡ Some seen
  pub got : gets seen.deed ≡ true
  pub more : bound_of p < sum_by (held_before hs (i + 1) seen.ended) (range_with_len 0 (length p.ports))

-- the counts of the entries before the i-th, with none of which the ports held too many, and for each port a number of its answers that
-- began by the end of each entry from the i-th on
pub record AreCountedUp (p : Plan) (hs : List Seen) (i : ℕ) (got begun : List ℕ) : Type 0 where
  pub ports : length got ≡ length p.ports
  pub counts : (l : ℕ) → l < length p.ports → slice_index_or got l 0 ≡ got_before hs l i
  pub sized : length begun ≡ length p.ports
  pub by_then : (l j : ℕ) (s : Seen) → l < length p.ports → i ≤ j → slice_get hs j ≡ Some s → slice_index_or begun l 0 ≤ answers_begun hs l s.ended
  pub none : (j : ℕ) → j < i → ¬ IsCrowdedBy p hs j
