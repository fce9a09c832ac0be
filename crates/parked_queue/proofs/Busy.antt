-- The word of the queues in which something waits.
use Rattle.std.proofs.Common.{◌≡◌, ℕ, zero, suc, ◌<◌, ◌≤◌, List, [], ◌∷◌, length, set, ⊎_elim, refl, ap, ◌∙◌, subst, arith}
use Rattle.std.proofs.lemmas.Bool.{cases_eq}
use Rattle.std.proofs.lemmas.List.{get_or-set_other, get_or-set_same, length-map, length-set}
use Rattle.small_set.specs.SmallSets.{Has, IsEmpty, SameBut}
use Rattle.small_set.specs.declared.set.SmallSet.{SmallSet}
use Rattle.parked_queue.specs.Busy.{AreBusy}
use Rattle.parked_queue.specs.Waits.{Waits, all_empty, no_waits, no_waits_of, waits_at}

-- nothing waits in any queue
pub busy_new : (room : ℕ) (slots : List ℕ) (none : SmallSet) → length slots ≤ 64 → IsEmpty none → AreBusy (all_empty room slots) none
busy_new room slots none few empty =
    let a = length-map slots (no_waits_of room) in
    record {
      few = omega arith;
      there = λ q has. absurd (empty q has);
      rest = λ q never. nothing slots q;
    }
  where
    nothing : (ss : List ℕ) (q : ℕ) → (waits_at (all_empty room ss) q).waiting ≡ []
    nothing [] q = refl
    nothing (s ∷ ss) zero = refl
    nothing (s ∷ ss) (suc q) = nothing ss q

-- a queue is another, and it alone may come or go
pub busy_set : (qs : List Waits) (q : ℕ) (w : Waits) (was now : SmallSet) → AreBusy qs was → q < length qs → SameBut q was now → ((¬ Has now q) → w.waiting ≡ []) → AreBusy (set qs q w) now
busy_set qs q w was now are lt others none =
    let long = length-set qs q w in
    record {
      few = let few = are.few in omega arith;
      there = λ k has. ⊎_elim (λ e. omega (arith, lt, long, e)) (λ ne. let less = are.there k ((others k ne).0 has) in omega (arith, long)) (cases_eq k q);
      rest = λ k never. ⊎_elim
          (λ e. ap (λ j. (waits_at (set qs q w) j).waiting) e ∙ (ap (λ (x : Waits). x.waiting) (get_or-set_same qs q w (no_waits 1 0) lt) ∙ none (subst (λ j. ¬ Has now j) e never)))
          (λ ne. ap (λ (x : Waits). x.waiting) (get_or-set_other qs q k w (no_waits 1 0) ne) ∙ are.rest k (λ has. never ((others k ne).1 has)))
          (cases_eq k q);
    }
