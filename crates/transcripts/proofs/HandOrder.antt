-- The order of a hand-out: the numbers from which events were accepted never step back in it, they step forward where no event was
-- added, and of a front that is answered nothing is kept.
use Rattle.std.proofs.Common.{◌≡◌, ◌≢◌, ℕ, zero, suc, ◌<◌, ◌≤◌, Bool, true, false, ◌||◌, ◌==◌, List, [], ◌∷◌, take, take_while, get_or, All, AllPairs, Contains, Some, slice_get, ◌⊎◌, inl, inr, ⊎_elim, sym, ap, ◌∙◌, subst, arith}
use Rattle.std.proofs.lemmas.Bool.{cases_Bool, cases_eq, false≢true, cond-true, cond-false}
use Rattle.std.proofs.lemmas.List.Elements.{All-nil, All-cons, All-head, All-tail, All-weaker, All-take}
use Rattle.std.proofs.lemmas.List.Sums.{take_while-cons}
use Rattle.std.proofs.lemmas.Option.{none-some, same_Some, slice_get_within, get_or_from_slice_get}
use Rattle.evt_types.specs.Plan.{Plan, queue_of, is_ordered}
use Rattle.lists.specs.Lists.{has}
use Rattle.transcripts.specs.Transcript.{hand, sources, kept_of, is_answered}
use Rattle.lists.specs.Lists.{upto}
use Rattle.transcripts.specs.Lawful.{Lawful}
use Rattle.transcripts.specs.Laws.{AddsNone, IsAnsweredTo, KeepsNoneTo, NeverStepsBack, StepsForward}
use Rattle.evt_types.specs.declared.step.Step.{Step}
use Rattle.lists.proofs.Lists.{eqb_same, eqb_other, has-Contains}
use Rattle.lists.proofs.Fronts.{tagged_nil}
use Rattle.lists.proofs.Once.{once_place}
use Rattle.transcripts.proofs.Overdue.{late_of, late_ordered, late_plain, settled_overdue}
use Rattle.transcripts.proofs.Once.{Single-allowed}
use Rattle.transcripts.proofs.Sources.{accepted_once}
use Rattle.transcripts.proofs.Whole.{Known-allowed, steps-Lawful}

-- ---- lists

-- of different numbers, one as far as another stands before it
before_it : (m n i j : ℕ) (xs : List ℕ) → m ≢ n → AllPairs (λ a b. a ≢ b) xs → has m (upto n xs) ≡ true → slice_get xs i ≡ Some m → slice_get xs j ≡ Some n → i < j
before_it m n i j [] apart once h at_m at_n = absurd (none-some m at_m)
before_it m n zero zero (x ∷ xs) apart once h at_m at_n = absurd (apart (sym (same_Some x m at_m) ∙ same_Some x n at_n))
before_it m n zero (suc j) (x ∷ xs) apart once h at_m at_n = omega arith
before_it m n (suc i) zero (x ∷ xs) apart once h at_m at_n =
    let last : x ≡ n = same_Some x n at_n in
    let alone : upto n (x ∷ xs) ≡ x ∷ [] = ap (λ ys. x ∷ ys) (cond-true (x == n) [] (upto n xs) (ap (λ y. y == n) last ∙ eqb_same n)) in
    absurd (false≢true (sym (ap (λ b. b || false) (eqb_other x m (λ e. apart (sym e ∙ last)))) ∙ (ap (has m) (sym alone) ∙ h)))
before_it m n (suc i) (suc j) (x ∷ xs) apart once h at_m at_n =
    let later : i < j =
    before_it m n i j xs apart (λ a b d lt within. once (suc a) (suc b) d (omega arith) (omega arith))
    (subst (λ b. (b || has m (upto n xs)) ≡ true) (eqb_other x m (other m i at_m))
    (ap (λ ys. has m (x ∷ ys)) (sym (cond-false (x == n) [] (upto n xs) (eqb_other x n (other n j at_n)))) ∙ h)) at_m at_n in
    omega arith
  where
    other : (y k : ℕ) → slice_get xs k ≡ Some y → x ≢ y
    other y k at_y e =
        once 0 (suc k) x (omega arith) (omega (arith, slice_get_within xs k y at_y)) (e ∙ sym (get_or_from_slice_get xs k y x at_y))

-- what holds of the front that passes holds of the first k, where they pass
All-front_taken : (p : ℕ → Bool) (P : ℕ → Type 0) (k : ℕ) (xs : List ℕ) → All (λ n. p n ≡ true) (take k xs) → All P (take_while p xs) → All P (take k xs)
All-front_taken p P zero xs passes all = All-nil P
All-front_taken p P (suc k) [] passes all = All-nil P
All-front_taken p P (suc k) (x ∷ xs) passes all =
    let here : p x ≡ true = All-head (λ n. p n ≡ true) x (take k xs) passes in
    let front : All P (x ∷ take_while p xs) = subst (All P) (take_while-cons p x xs ∙ cond-true (p x) (x ∷ take_while p xs) [] here) all in
    All-cons P x (take k xs) (All-head P x (take_while p xs) front)
    (All-front_taken p P k xs (All-tail (λ n. p n ≡ true) x (take k xs) passes) (All-tail P x (take_while p xs) front))

-- ---- the laws

pub sources_handed : (p : Plan) (T : List Step) (q : ℕ) → Lawful p T → All (Contains (hand T q)) (sources T q)
sources_handed p T q h =
    All-weaker (λ n. has n (hand T q) ≡ true) (Contains (hand T q)) (has-Contains (hand T q)) (sources T q)
    ((Single-allowed p T (steps-Lawful p T h).steps).facts.sources q)

-- of two sources the later one stands no earlier in the hand-out
in_hand_order : (p : Plan) (T : List Step) (q : ℕ) → is_ordered (queue_of p q).kind ≡ true → Lawful p T
    → AllPairs (λ m n. has m (upto n (hand T q)) ≡ true) (sources T q)
in_hand_order p T q ordered h = ((Known-allowed p T (steps-Lawful p T h).steps).order.ordered q ordered).order

hand_once : (p : Plan) (T : List Step) (q : ℕ) → Lawful p T → AllPairs (λ m n. m ≢ n) (hand T q)
hand_once p T q h = (Single-allowed p T (steps-Lawful p T h).steps).facts.once q

pub sources_in_hand_order : (p : Plan) (T : List Step) (q : ℕ) → is_ordered (queue_of p q).kind ≡ true → Lawful p T → NeverStepsBack T q
sources_in_hand_order p T q ordered h a b d lt within i j at_m at_n = ⊎_elim same before (cases_eq m n)
  where
    m : ℕ
    m = get_or (sources T q) a d

    n : ℕ
    n = get_or (sources T q) b d

    same : m ≡ n → i ≤ j
    same e =
        let one : i ≡ j = once_place (hand T q) n i j (hand_once p T q h) (at_m ∙ ap Some e) at_n in
        omega arith

    before : m ≢ n → i ≤ j
    before apart =
        let less : i < j = before_it m n i j (hand T q) apart (hand_once p T q h) (in_hand_order p T q ordered h a b d lt within) at_m at_n in
        omega arith

pub sources_step_forward : (p : Plan) (T : List Step) (q : ℕ) → is_ordered (queue_of p q).kind ≡ true → AddsNone T → Lawful p T → StepsForward T q
sources_step_forward p T q ordered adds h a b d lt within i j at_m at_n =
    before_it (get_or (sources T q) a d) (get_or (sources T q) b d) i j (hand T q) (accepted_once p T q adds h a b d lt within) (hand_once p T q h)
    (in_hand_order p T q ordered h a b d lt within) at_m at_n

pub answered_keeps_none : (p : Plan) (T : List Step) (q k : ℕ) → Lawful p T → IsAnsweredTo T q k → KeepsNoneTo T q k
answered_keeps_none p T q k h answered = by_kind (cases_Bool (is_ordered (queue_of p q).kind))
  where
    none : All (λ n. kept_of T q n ≡ []) (late_of p T q)
    none = tagged_nil (kept_of T q) (late_of p T q) (settled_overdue p T h.prompt.end q)

    by_kind : (is_ordered (queue_of p q).kind ≡ true) ⊎ (is_ordered (queue_of p q).kind ≡ false) → KeepsNoneTo T q k
    by_kind (inl ordered) =
        All-front_taken (is_answered T q) (λ n. kept_of T q n ≡ []) k (hand T q) answered
        (subst (All (λ n. kept_of T q n ≡ [])) (late_ordered p T q ordered) none)
    by_kind (inr plain) =
        All-take (λ n. kept_of T q n ≡ []) k (hand T q) (subst (All (λ n. kept_of T q n ≡ [])) (late_plain p T q plain) none)
