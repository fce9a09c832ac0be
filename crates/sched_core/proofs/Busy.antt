-- What waits in a queue.
use Rattle.std.proofs.Common.{◌≡◌, ℕ, ◌<◌, ◌≤◌, List, [], length, get_or, ◌⊎◌, inl, inr, sym, ap, ◌∙◌, subst}
use Rattle.std.specs.Prelude.{map}
use Rattle.std.proofs.lemmas.Bool.{cases_lt}
use Rattle.std.proofs.lemmas.List.{get_or_default, get_or_past, get_or-map, length-map}
use Rattle.transcripts.specs.Standing.{waiting_at}
use Rattle.parked_queue.specs.Waits.{Waits, no_waits, waits_at}
use Rattle.sched_core.specs.View.{view_in, waiting_in}
use Rattle.sched_core.specs.declared.state.Core.TheInside.{Inside}

pub waits_is : (qs : List Waits) (i : ℕ) → i < length qs → waits_at qs i ≡ get_or qs i (waits_at qs i)
waits_is qs i h = get_or_default qs i (no_waits 1 0) (waits_at qs i) h

-- nothing waits in a queue that isn't there
pub past_queues : (qs : List Waits) (q : ℕ) → length qs ≤ q → (waits_at qs q).waiting ≡ []
past_queues qs q past = ap waiting_in (get_or_past qs q (no_waits 1 0) past)

-- what waits in a queue of the core
pub waiting_there : (a : Inside) (q : ℕ) → waiting_at (view_in a) q ≡ (waits_at a.queues q).waiting
waiting_there a q = by_case (cases_lt q (length a.queues))
  where
    by_case : (q < length a.queues) ⊎ (length a.queues ≤ q) → waiting_at (view_in a) q ≡ (waits_at a.queues q).waiting
    by_case (inl h) = get_or-map waiting_in a.queues q (no_waits 1 0) [] h
    by_case (inr past) = get_or_past (map waiting_in a.queues) q [] (subst (λ n. n ≤ q) (sym (length-map a.queues waiting_in)) past) ∙ sym (past_queues a.queues q past)
