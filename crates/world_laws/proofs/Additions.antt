-- Events that were added beside held ones, among a holder's replies: what held where one was added, and that who received nothing
-- added nothing.
use Rattle.std.specs.Prelude.{ℕ, ◌≡◌, ◌<◌, true, false, cond, List, ◌∷◌, ◌++◌, length, count_by, Some, slice_get}
use Rattle.std.proofs.Common.{refl, subst, arith, ⊎_elim, get_or}
use Rattle.std.proofs.lemmas.Bool.{cases_Bool, cond-false}
use Rattle.std.proofs.lemmas.List.{take_at}
use Rattle.std.proofs.lemmas.Option.{slice_get-get_or}
use Rattle.evt_types.specs.Additions.{AreBeside, extras_of}
use Rattle.evt_types.specs.Operation.{is_answer, is_more_reply}
use Rattle.evt_types.specs.declared.event.Reply.{Reply}
use Rattle.evt_types.specs.declared.event.TheConstants.{MAX_EXTRAS}
use Rattle.lists.proofs.Parts.{slice_get_after}
use Rattle.lists.proofs.Sums.{sum_of_none}

pub beside_at : (n : ℕ) (rs : List Reply) (r : Reply) (later : List Reply) → AreBeside n (rs ++ r ∷ later) → is_more_reply r ≡ true
    → (count_by is_answer rs < n) × (extras_of rs < MAX_EXTRAS)
beside_at n rs r later h adds =
    subst (λ us. (count_by is_answer us < n) × (extras_of us < MAX_EXTRAS)) (take_at rs (r ∷ later) (length rs) refl)
    (h.each (length rs) r (slice_get_after rs later r (rs ++ r ∷ later) refl) adds)

pub none_added : (rs : List Reply) → AreBeside 0 rs → count_by is_more_reply rs ≡ 0
none_added rs h = sum_of_none (λ (r : Reply). cond (is_more_reply r) 1 0) rs (λ k d lt. cond-false {A = ℕ} (is_more_reply (get_or rs k d)) 1 0 (plain k (get_or rs k d) (slice_get-get_or rs k d lt)))
  where
    plain : (k : ℕ) (r : Reply) → slice_get rs k ≡ Some r → is_more_reply r ≡ false
    plain k r there = ⊎_elim (λ adds. let few = (h.each k r there adds).0 in absurd (omega arith)) (λ other. other) (cases_Bool (is_more_reply r))
