-- Which histories are judged.
use Rattle.std.specs.Prelude.{ℕ, ◌≡◌, ◌<◌, ◌≤◌, Bool, true, false, not, ◌&&◌, ◌||◌, List, ◌==◌, nat_lt, nat_le, length, Option, Some, None, slice_get, slice_index_or, ◌⊎◌}
use Rattle.evt_types.specs.Plan.{Plan, is_flows}
use Rattle.history_judge.specs.declared.fault.HistoryFault.{HistoryFault}
use Rattle.history_judge.specs.declared.fault.HistoryFault.TheVariants.{Flows, Port, Order, Unsorted, Memory}
use Rattle.history_judge.specs.declared.seen.Seen.{Seen}

-- the i-th entry names none of so many ports
pub record IsUnknown (ports : ℕ) (hs : List Seen) (i : ℕ) : Type 0 where
  pub seen : Seen
  pub entry : slice_get hs i ≡ Some seen
  pub missing : ports ≤ seen.port

-- it ended before one that stands before it
pub record IsUnsorted (hs : List Seen) (i : ℕ) : Type 0 where
  pub seen : Seen
  pub entry : slice_get hs i ≡ Some seen
  pub place : ℕ
  pub earlier : place < i
  pub before : Seen
  pub there : slice_get hs place ≡ Some before
  pub ends : seen.ended < before.ended

-- whether two entries of a port, in this order, are of two calls of which the second follows the first, or of one call
abbrev pub follows : Seen → Seen → Bool
follows s u = nat_le s.ended u.began || ((s.began == u.began) && (s.ended == u.ended))

-- an entry of its port stands before it and isn't followed by it
pub record IsOverlapped (hs : List Seen) (i : ℕ) (seen : Seen) : Type 0 where
  pub place : ℕ
  pub earlier : place < i
  pub before : Seen
  pub there : slice_get hs place ≡ Some before
  pub port : before.port ≡ seen.port
  pub refused : follows before seen ≡ false

-- it ended before it began, or the port's calls didn't follow one another
pub record IsOutOfOrder (hs : List Seen) (i : ℕ) : Type 0 where
  pub seen : Seen
  pub entry : slice_get hs i ≡ Some seen
  pub refused : (seen.ended < seen.began) ⊎ IsOverlapped hs i seen

-- why a history isn't judged; want of memory has no such cause
abbrev pub IsRefused : Plan → List Seen → HistoryFault → Type 0
IsRefused p hs Flows = is_flows p.serving ≡ true
IsRefused p hs (Port i) = IsUnknown (length p.ports) hs i
IsRefused p hs (Order i) = IsOutOfOrder hs i
IsRefused p hs (Unsorted i) = IsUnsorted hs i
IsRefused p hs Memory = ⊥

-- ---- the last entry of each port

abbrev pub follows_last : Option Seen → Seen → Bool
follows_last None u = true
follows_last (Some s) u = follows s u

abbrev pub misplaced : List (Option Seen) → Seen → Bool
misplaced last u = nat_lt u.ended u.began || not (follows_last (slice_index_or last u.port None) u)

-- u is the port's last entry before the i-th: it follows each of them
pub record IsLastOf (hs : List Seen) (i l : ℕ) (u : Seen) : Type 0 where
  pub place : ℕ
  pub earlier : place < i
  pub there : slice_get hs place ≡ Some u
  pub port : u.port ≡ l
  pub each : (j : ℕ) (s : Seen) → j < i → slice_get hs j ≡ Some s → s.port ≡ l → follows s u ≡ true

abbrev pub IsLast : List Seen → ℕ → ℕ → Option Seen → Type 0
IsLast hs i l None = (j : ℕ) (s : Seen) → j < i → slice_get hs j ≡ Some s → s.port ≡ l → ⊥
IsLast hs i l (Some u) = IsLastOf hs i l u

pub record AreLast (ports : ℕ) (hs : List Seen) (i : ℕ) (last : List (Option Seen)) : Type 0 where
  pub sized : length last ≡ ports
  pub each : (l : ℕ) → l < ports → IsLast hs i l (slice_index_or last l None)
  pub ordered : (j : ℕ) → j < i → ¬ IsOutOfOrder hs j
