-- What holds of every run: exclusion of the slots of atomic queues over the hands, and the order of what is received of them.
use Rattle.std.specs.Prelude.{ℕ, ◌≡◌, ◌≢◌, Bool, true, List, ◌==◌, map, filter, filter_map, All, Option, Some, None, if◌then◌else◌}
use Rattle.evt_types.specs.Plan.{Plan, queue_of, is_atomic}
use Rattle.evt_types.specs.declared.event.Numbered.{Numbered}
use Rattle.evt_types.specs.declared.step.Step.{Step}
use Rattle.transcripts.specs.Lawful.{IsPrefix, AreApart, is_of_flow}
use Rattle.transcripts.specs.Transcript.{Held, held_at, entered, hand, named_at, slot_at}
use Rattle.world_laws.specs.World.{World, in_hand}

-- ---- exclusion

-- a lane's hand, with the slots of its events
abbrev pub held_in : Plan → World → ℕ → List Held
held_in p w l = map (held_at p w.log) (in_hand w l)

-- the events of one slot of an atomic queue that are in hands are in one lane's
abbrev pub IsHeldAlone : Plan → World → Type 0
IsHeldAlone p w =
    (q : ℕ) → is_atomic (queue_of p q).kind ≡ true → (l m : ℕ) → l ≢ m → All (λ (x : Held). All (AreApart q x) (held_in p w m)) (held_in p w l)

-- ---- order

-- the queue's numbers among (queue, number) pairs, and its events
abbrev pub number_in : ℕ → ℕ × ℕ → Option ℕ
number_in q x = if x.0 == q then Some x.1 else None

abbrev pub numbers_in : ℕ → List (ℕ × ℕ) → List ℕ
numbers_in q xs = filter_map (number_in q) xs

abbrev pub events_in : List Step → ℕ → List (ℕ × ℕ) → List Numbered
events_in T q xs = filter_map (named_at T q) (numbers_in q xs)

-- of each flow and level of an atomic queue the received events are the first accepted ones, in accepted order
abbrev pub AreReceivedAsAccepted : Plan → List Step → List (ℕ × ℕ) → Type 0
AreReceivedAsAccepted p T xs =
    (q : ℕ) → is_atomic (queue_of p q).kind ≡ true → (f c : ℕ) → IsPrefix (filter (is_of_flow f c) (events_in T q xs)) (filter (is_of_flow f c) (entered T q))

-- whether the number's event is of the slot
abbrev pub is_of_slot : Plan → List Step → ℕ → ℕ → ℕ → Bool
is_of_slot p T q slot n = slot_at p T q n == slot

-- of each slot of an atomic queue the received events are the first given ones, in the order of their Gives
abbrev pub AreReceivedAsGiven : Plan → List Step → List (ℕ × ℕ) → Type 0
AreReceivedAsGiven p T xs =
    (q : ℕ) → is_atomic (queue_of p q).kind ≡ true → (slot : ℕ) → IsPrefix (filter (is_of_slot p T q slot) (numbers_in q xs)) (filter (is_of_slot p T q slot) (hand T q))
