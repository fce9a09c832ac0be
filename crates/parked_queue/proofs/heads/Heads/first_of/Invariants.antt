use Rattle.std.proofs.Common.{◌≡◌, ℕ, ◌≤◌, ◌⊎◌}
use Rattle.small_set.specs.SmallSets.{Has, weight}
use Rattle.parked_queue.specs.Heads.{no_head, number_at}
use Rattle.parked_queue.proofs.heads.Heads.first_of.Given as goal

abbrev pub invariant-loop-slot : goal.invariant-loop-slot
invariant-loop-slot l =
    record {
      there : (k : ℕ) → Has l.left k → Has l.fn.slots k;
      within : l.best ≤ no_head;
      one : (l.best ≡ no_head) ⊎ (Has l.fn.slots l.first × (number_at l.fn.self l.first ≡ l.best));
      least : (k : ℕ) → Has l.fn.slots k → (¬ Has l.left k) → l.best ≤ number_at l.fn.self k;
    }

abbrev pub decreases-loop-slot : goal.decreases-loop-slot
decreases-loop-slot l = weight l.left
