use Rattle.std.specs.Prelude.{◌≡◌, ℕ}
use Rattle.order_parts.specs.Dealing.{loads_in}
use Rattle.small_set.specs.SmallSets.{Has, weight}
use Rattle.order_parts.proofs.round.Round.next.Given as goal

abbrev pub invariant-loop-lane : goal.invariant-loop-lane
invariant-loop-lane l =
    record {
      same : l.self.fewest ≡ l.fn.self.fewest;
      among : (m : ℕ) → Has l.left m → Has l.lanes m;
      fewest : (m : ℕ) → Has l.lanes m → loads_in l.histories m ≡ l.fewest → Has l.left m;
    }

abbrev pub decreases-loop-lane : goal.decreases-loop-lane
decreases-loop-lane l = weight l.left
