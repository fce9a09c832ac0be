-- Lanes on which nothing is unanswered.
use Rattle.std.proofs.Common.{◌≡◌, ℕ, ◌+◌, ◌<◌, ◌≤◌, List, [], ◌∷◌, ◌++◌, length, get_or, ◌⊎◌, inl, inr, refl, sym, ap, ◌∙◌, subst, arith}
use Rattle.std.proofs.lemmas.Bool.{cases_lt}
use Rattle.std.proofs.lemmas.List.{length_push, get_or_append_left, get_or_push}
use Rattle.std.proofs.lemmas.List.Elements.{All-nil, All-push}
use Rattle.evt_types.specs.Plan.{Plan, depth_of}
use Rattle.order_parts.specs.History.{Entries}
use Rattle.order_parts.specs.Histories.{AreEmptyLanes, IsBare, IsEmptyLane}

pub lanes_none : (p : Plan) → AreEmptyLanes p 0 []
lanes_none p = record { count = refl; room = λ k d h. absurd (omega arith); empty = All-nil IsBare }

pub lanes_more : (p : Plan) (n : ℕ) (ls : List Entries) (l : Entries) → AreEmptyLanes p n ls → IsEmptyLane (depth_of p n) l → AreEmptyLanes p (n + 1) (ls ++ l ∷ [])
lanes_more p n ls l all empty =
    record {
      count = length_push ls l ∙ ap (λ m. m + 1) all.count;
      room = λ k d h. by_case k d (subst (λ m. k < m) (length_push ls l) h) (cases_lt k (length ls));
      empty = All-push IsBare ls l all.empty (ap (λ (x : Entries). x.entries) empty);
    }
  where
    by_case : (k : ℕ) (d : Entries) → k < length ls + 1 → (k < length ls) ⊎ (length ls ≤ k) → (get_or (ls ++ l ∷ []) k d).capacity ≡ depth_of p k
    by_case k d h (inl lt) = ap (λ (x : Entries). x.capacity) (get_or_append_left ls (l ∷ []) d k lt) ∙ all.room k d lt
    by_case k d h (inr le) =
        let here : length ls ≡ k = omega arith in
        ap (λ (x : Entries). x.capacity) (get_or_push ls l d k here ∙ empty) ∙ ap (depth_of p) (sym all.count ∙ here)
