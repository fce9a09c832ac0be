-- Events that are added beside a held one, among the replies of a lane's holder (own).
use Rattle.std.specs.Prelude.{ℕ, ◌≡◌, ◌+◌, ◌<◌, true, List, fold, take, slice_get, count_by, Some, if◌then◌else◌}
use Rattle.evt_types.specs.Operation.{is_answer, is_more_reply}
use Rattle.evt_types.specs.declared.event.Reply.{Reply}
use Rattle.evt_types.specs.Limits.{most_extras}

-- how many were added since the last answer, after one reply more
abbrev pub more_after : ℕ → Reply → ℕ
more_after n r = if is_answer r then 0 else (if is_more_reply r then n + 1 else n)

-- how many were added since the last of the answers
abbrev pub extras_of : List Reply → ℕ
extras_of rs = fold more_after 0 rs

-- Of a holder who received so many deliveries: each event was added while something was held, and as one of few beside it.
pub record AreBeside (n : ℕ) (rs : List Reply) : Type 0 where
  pub each : (k : ℕ) (r : Reply) → slice_get rs k ≡ Some r → is_more_reply r ≡ true
      → (count_by is_answer (take k rs) < n) × (extras_of (take k rs) < most_extras)
