-- How the judge stands at the entries that it has gone through.
use Rattle.std.specs.Prelude.{ℕ, ◌≡◌, ◌+◌, ◌<◌, true, not, cond, ◌&&◌, List, ◌==◌, length, Option, Some, None, slice_set, slice_index_or, if◌then◌else◌}
use Rattle.std.specs.declared.alloc.Global.{Global}
use Rattle.std.specs.declared.vec.Vec.{Vec}
use Rattle.evt_types.specs.Fault.{IsWithinLimits}
use Rattle.evt_types.specs.Plan.{Plan}
use Rattle.history_judge.specs.Breaches.{IsTogether, IsUnlinked}
use Rattle.history_judge.specs.Entries.{IsOutOfOrder, IsUnknown, IsUnsorted}
use Rattle.history_judge.specs.Histories.{got_before, gets}
use Rattle.history_judge.specs.Holds.{AreTimes, IsHoldOf, cell_count, ends_after, lasts_as}
use Rattle.history_judge.specs.declared.holds.Hold.{Hold}
use Rattle.history_judge.specs.declared.seen.Seen.{Seen}
use Rattle.history_judge.specs.declared.watch.Watch.{Watch}

-- the history is one that is judged, each port got what it may get, and these are the times of its answers
pub record IsFit (p : Plan) (hs : List Seen) (times : List (Vec ℕ Global)) : Type 0 where
  pub within : IsWithinLimits p
  pub known : (i : ℕ) → ¬ IsUnknown (length p.ports) hs i
  pub ordered : (i : ℕ) → ¬ IsOutOfOrder hs i
  pub sorted : (i : ℕ) → ¬ IsUnsorted hs i
  pub linked : (i : ℕ) → ¬ IsUnlinked p hs i
  pub noted : AreTimes (length p.ports) hs times

-- the port's count with the entry
abbrev pub counted : List ℕ → Seen → List ℕ
counted got s = slice_set got s.port (slice_index_or got s.port 0 + cond (gets s.deed) 1 0)

-- the place of the first hold, if both, of two ports, last beyond the start of the second
abbrev pub met : Option Hold → Hold → Option ℕ
met None h = None
met (Some g) h =
    if (not (g.port == h.port) && ends_after h.since g.until) && ends_after h.since h.until then Some g.at else None

-- the one that lasts longer
abbrev pub longer : Option Hold → Hold → Hold
longer None h = h
longer (Some g) h = if lasts_as g.until h.until then g else h

-- a hold that lasts as long is kept for its cell
pub record IsOutlasted (latest : List (Option Hold)) (h : Hold) : Type 0 where
  pub hold : Hold
  pub there : slice_index_or latest h.cell None ≡ Some hold
  pub lasts : lasts_as hold.until h.until ≡ true

-- what is kept for a cell is the hold of an entry before the i-th, of this cell
pub record IsKept (p : Plan) (hs : List Seen) (i c : ℕ) (h : Hold) : Type 0 where
  pub hold : IsHoldOf p hs h
  pub cell : h.cell ≡ c
  pub before : h.at < i

-- The counts are those of the entries before the i-th; for each cell one of their holds is kept that lasts longest; no two of them
-- are held together.
pub record IsWatched (p : Plan) (hs : List Seen) (i : ℕ) (got : List ℕ) (latest : List (Option Hold)) : Type 0 where
  pub ports : length got ≡ length p.ports
  pub counts : (l : ℕ) → l < length p.ports → slice_index_or got l 0 ≡ got_before hs l i
  pub cells : length latest ≡ cell_count p
  pub kept : (c : ℕ) (h : Hold) → slice_index_or latest c None ≡ Some h → IsKept p hs i c h
  pub outlasted : (h : Hold) → IsHoldOf p hs h → h.at < i → IsOutlasted latest h
  pub apart : (j k : ℕ) → j < i → k < i → ¬ IsTogether p hs j k

abbrev pub IsAt : Plan → List Seen → ℕ → Watch → Type 0
IsAt p hs i w = IsWatched p hs i w.got.items w.latest.items
