-- Whether a port holds more events for certain than its depth.
use Rattle.std.specs.Prelude.{ℕ, ◌≡◌, ◌-◌, ◌<◌, Bool, ◌&&◌, List, length, nat_le, slice_index_or}
use Rattle.std.specs.declared.alloc.Global.{Global}
use Rattle.std.specs.declared.vec.Vec.{Vec}
use Rattle.evt_types.specs.Plan.{Plan, depth_of}
use Rattle.history_judge.specs.Breaches.{IsOverfull}
use Rattle.history_judge.specs.Histories.{gets, got_before}
use Rattle.history_judge.specs.Holds.{ends_after, until_in}
use Rattle.history_judge.specs.declared.seen.Seen.{Seen}

-- whether the entry got an event, its port has so many before it, and the answer hadn't begun by which no more than its depth would be left
abbrev pub exceeds : Plan → Seen → ℕ → List (Vec ℕ Global) → Bool
exceeds p s n times = gets s.deed && (nat_le (depth_of p s.port) n && ends_after s.ended (until_in times s.port (n - depth_of p s.port)))

-- the counts of the entries before the i-th, of which none is overfull
pub record AreCounted (p : Plan) (hs : List Seen) (i : ℕ) (got : List ℕ) : Type 0 where
  pub ports : length got ≡ length p.ports
  pub counts : (l : ℕ) → l < length p.ports → slice_index_or got l 0 ≡ got_before hs l i
  pub none : (j : ℕ) → j < i → ¬ IsOverfull p hs j
