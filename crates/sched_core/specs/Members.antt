-- The members of a set, and lists that have a set for each queue.
use Rattle.std.specs.Prelude.{ℕ, ◌≡◌, ◌<◌, ◌↔◌, List, length, slice_index_or}
use Rattle.small_set.specs.SmallSets.{Has}
use Rattle.small_set.specs.declared.set.SmallSet.{SmallSet}

-- its members are those of the first numbers that are so
abbrev pub AreThose : (ℕ → Type 0) → ℕ → SmallSet → Type 0
AreThose IsSo n set = (k : ℕ) → Has set k ↔ ((k < n) × IsSo k)

-- for each of the first queues a set, of those of the first numbers that are so for the queue
pub record AreSets (IsSo : ℕ → ℕ → Type 0) (m n : ℕ) (sets : List SmallSet) : Type 0 where
  pub count : length sets ≡ n
  pub each : (q : ℕ) (d : SmallSet) → q < length sets → AreThose (IsSo q) m (slice_index_or sets q d)
