-- Pins of which nothing is unanswered.
use Rattle.std.proofs.Common.{◌≡◌, ℕ, ◌+◌, ◌<◌, ◌≤◌, List, [], ◌∷◌, ◌++◌, length, replicate, ◌⊎◌, inl, inr, ap, ◌∙◌, subst, sym, arith}
use Rattle.std.proofs.lemmas.Bool.{cases_lt}
use Rattle.std.proofs.lemmas.List.{length_push, get_or_append_left, get_or_push}
use Rattle.evt_types.specs.Plan.{Plan}
use Rattle.order_parts.specs.Pins.{Pin, free}
use Rattle.order_parts.specs.QueuePins.{AreFreePins, pins_at, slots_of}

pub pins_more : (p : Plan) (n : ℕ) (ps : List (List Pin)) (x : List Pin) → AreFreePins p n ps → x ≡ replicate (slots_of p n) free → AreFreePins p (n + 1) (ps ++ x ∷ [])
pins_more p n ps x are new =
    record {
      count = length_push ps x ∙ ap (λ m. m + 1) are.count;
      slots = λ q lt. by_case q lt (cases_lt q (length ps));
    }
  where
    by_case : (q : ℕ) → q < n + 1 → (q < length ps) ⊎ (length ps ≤ q) → pins_at (ps ++ x ∷ []) q ≡ replicate (slots_of p q) free
    by_case q lt (inl low) = get_or_append_left ps (x ∷ []) [] q low ∙ are.slots q (subst (λ m. q < m) are.count low)
    by_case q lt (inr past) =
        let here : length ps ≡ q = omega (arith, are.count) in
        get_or_push ps x [] q here ∙ new ∙ ap (λ m. replicate (slots_of p m) free) (sym are.count ∙ here)
