-- The order in which queues are served: by priority, then number.
use Rattle.std.specs.Prelude.{ℕ, ◌<◌, List, length}
use Rattle.evt_types.specs.Plan.{Plan, queue_of}
use Rattle.small_set.specs.SmallSets.{Has}
use Rattle.small_set.specs.declared.set.SmallSet.{SmallSet}
use Rattle.sched_core.specs.Members.{AreSets, AreThose}
use Rattle.transcripts.specs.Choice.{IsServedBefore}

-- r is of a priority that is served before that of q
abbrev pub IsAhead : Plan → ℕ → ℕ → Type 0
IsAhead p q r = (queue_of p r).priority < (queue_of p q).priority

-- these are the queues of a priority that is served before the queue's
abbrev pub AreAheadOf : Plan → ℕ → SmallSet → Type 0
AreAheadOf p q queues = AreThose (IsAhead p q) (length p.queues) queues

-- for each of the first queues those of a priority that is served before
abbrev pub AreAhead : Plan → ℕ → List SmallSet → Type 0
AreAhead p n sets = AreSets (IsAhead p) (length p.queues) n sets

-- of these queues the one that is served first
pub record IsServedFirst (p : Plan) (queues : SmallSet) (q : ℕ) : Type 0 where
  pub there : Has queues q
  pub first : (r : ℕ) → Has queues r → ¬ IsServedBefore p r q
