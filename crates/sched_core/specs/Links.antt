-- The ports' lanes that serve the queues.
use Rattle.std.specs.Prelude.{ℕ, ◌≡◌, true, List, length}
use Rattle.evt_types.specs.Plan.{Plan, serves}
use Rattle.small_set.specs.declared.set.SmallSet.{SmallSet}
use Rattle.sched_core.specs.Members.{AreSets, AreThose}

-- the port's lane serves the queue
abbrev pub Serves : Plan → ℕ → ℕ → Type 0
Serves p q l = serves p l q 0 ≡ true

-- these are the ports' lanes that serve the queue
abbrev pub AreLinksOf : Plan → ℕ → SmallSet → Type 0
AreLinksOf p q lanes = AreThose (Serves p q) (length p.ports) lanes

-- for each of the first queues the ports' lanes that serve it
abbrev pub AreLinks : Plan → ℕ → List SmallSet → Type 0
AreLinks p n links = AreSets (Serves p) (length p.ports) n links
