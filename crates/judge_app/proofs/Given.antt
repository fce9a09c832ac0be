-- What was given before a step that can be gone on with, and the first of it that passes.
use Rattle.std.proofs.Common.{◌≡◌, ℕ, suc, ◌+◌, ◌<◌, Bool, false, cond, ◌==◌, List, [], ◌∷◌, length, get_or, drop, All, Some, refl, sym, ap, ◌∙◌, add-one}
use Rattle.std.proofs.Math.Seq.{drop-cons}
use Rattle.std.specs.List.{find}
use Rattle.std.proofs.lemmas.Bool.{cond_both}
use Rattle.std.proofs.lemmas.List.Elements.{All-nil, All-cons, All-head, All-tail}
use Rattle.evt_types.specs.Plan.{Plan}
use Rattle.evt_types.specs.declared.step.Step.{Step}
use Rattle.lists.specs.Lists.{upto}
use Rattle.transcripts.specs.Transcript.{accepted, hand}
use Rattle.transcript_judge.specs.Fronts.{IsFront}
use Rattle.transcript_judge.proofs.Fronts.{front_clauses}

All-upto : (P : ℕ → Type 0) (n : ℕ) (xs : List ℕ) → All P xs → All P (upto n xs)
All-upto P n [] all = all
All-upto P n (m ∷ ms) all =
    All-cons P m (cond (m == n) [] (upto n ms)) (All-head P m ms all)
    (cond_both (m == n) [] (upto n ms) (All P) (λ _. All-nil P) (λ _. All-upto P n ms (All-tail P m ms all)))

-- what is given was accepted
pub given_below : (p : Plan) (T : List Step) (q n : ℕ) → IsFront p T → All (λ m. m < length (accepted T q)) (upto n (hand T q))
given_below p T q n front = All-upto (λ m. m < length (accepted T q)) n (hand T q) ((front_clauses p T front).once.accepted q)

-- two tests that agree on a list find one item
pub find_agree : {X : Type 0} (p q : X → Bool) (xs : List X) → All (λ x. p x ≡ q x) xs → find p xs ≡ find q xs
find_agree p q [] all = refl
find_agree p q (x ∷ xs) all =
    ap (λ b. cond b (Some x) (find p xs)) (All-head (λ y. p y ≡ q y) x xs all)
    ∙ ap (λ o. cond (q x) (Some x) o) (find_agree p q xs (All-tail (λ y. p y ≡ q y) x xs all))

-- one number more that doesn't pass
pub find_more : (p : ℕ → Bool) (xs : List ℕ) (i : ℕ) → i < length xs → p (get_or xs i 0) ≡ false → find p (drop (i + 1) xs) ≡ find p (drop i xs)
find_more p xs i lt fails =
    sym (ap (find p) (drop-cons xs i 0 lt) ∙ (ap (λ b. cond b (Some (get_or xs i 0)) (find p (drop (suc i) xs))) fails ∙ ap (λ k. find p (drop k xs)) (sym (add-one i))))
