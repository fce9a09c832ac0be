-- The queue that is served first, found from the lowest number by priority.
use Rattle.std.proofs.Common.{◌≡◌, ℕ, ◌<◌, ◌≤◌, inl, inr, length, get_or, sym, ap, subst, arith}
use Rattle.std.specs.Prelude.{◌↔◌}
use Rattle.evt_types.specs.Plan.{Plan, queue_of}
use Rattle.small_set.specs.SmallSets.{Has, IsEmpty, IsFirst}
use Rattle.small_set.specs.declared.set.SmallSet.{SmallSet}
use Rattle.sched_core.specs.Service.{AreAheadOf, IsAhead, IsServedFirst}
use Rattle.sched_core.specs.View.{view_in, IsCore}
use Rattle.sched_core.specs.declared.state.Core.TheInside.{Inside}
use Rattle.transcripts.specs.Choice.{IsServedBefore}
use Rattle.transcripts.specs.Standing.{View}

-- what the core keeps of a queue
pub ahead_here : (a : Inside) (v : View) (q : ℕ) (set : SmallSet) → view_in a ≡ v → IsCore a → q < length v.shape.queues → set ≡ get_or a.ahead.items q set → AreAheadOf v.shape q set
ahead_here a v q set is core here at =
    let count : length a.shape.queues ≡ length v.shape.queues = ap (λ (u : View). length u.shape.queues) is in
    subst (λ (u : View). AreAheadOf u.shape q set) is (subst (AreAheadOf a.shape q) (sym at) (core.ahead.each q set (omega (arith, here, count, core.ahead.count))))

-- one of the queues, and of those of its priority the lowest
pub record IsLowest (p : Plan) (queues : SmallSet) (q : ℕ) : Type 0 where
  pub there : Has queues q
  pub lowest : (r : ℕ) → Has queues r → (queue_of p r).priority ≡ (queue_of p q).priority → q ≤ r

-- those of the queues that are of a priority before that of q
module _ (p : Plan) (queues ahead both : SmallSet) (q : ℕ) (within : (r : ℕ) → Has queues r → r < length p.queues) (are : AreAheadOf p q ahead) (meet : (r : ℕ) → Has both r ↔ (Has queues r × Has ahead r)) where
  pub is_before : (r : ℕ) → Has both r → IsAhead p q r
  is_before r has = ((are r).0 ((meet r).0 has).1).1

  pub lowest_before : (r : ℕ) → IsFirst both r → IsLowest p queues r
  lowest_before r first =
      record {
        there = ((meet r).0 first.there).0;
        lowest = λ k has same. let before : IsAhead p q r = is_before r first.there in first.first k ((meet k).1 (has, (are k).1 (within k has, omega (arith, before, same))));
      }

  pub served_first : IsEmpty both → IsLowest p queues q → IsServedFirst p queues q
  served_first none here = record { there = here.there; first = never }
    where
      never : (r : ℕ) → Has queues r → ¬ IsServedBefore p r q
      never r has (inl less) = none r ((meet r).1 (has, (are r).1 (within r has, less)))
      never r has (inr same) = let lt = same.1 in let le = here.lowest r has same.0 in omega arith
