-- What an event that is added beside an unanswered one makes of a queue: of what its numbers were passed on as, of its places and of its
-- overdue events.
use Rattle.std.proofs.Common.{◌≡◌, ◌≢◌, ℕ, true, false, ◌==◌, List, [], ◌∷◌, ◌++◌, length, map, drop, take_while, get_or, All, Some, ◌⊎◌, inl, inr, refl, sym, ap, ◌∙◌, subst}
use Rattle.std.proofs.lemmas.Bool.{cases_eq, false≢true, cond-true, cond-false}
use Rattle.std.proofs.lemmas.List.Elements.{All-weaker}
use Rattle.evt_types.specs.Plan.{Plan, queue_of, is_ordered}
use Rattle.transcripts.specs.Transcript.{next_pair, is_pair, is_answered, forwards, hand, taken, kept_of, open_of}
use Rattle.lists.specs.Lists.{from_first}
use Rattle.transcripts.specs.Lawful.{IsSettled}
use Rattle.transcripts.specs.Allowed.{AllowedAfter}
use Rattle.evt_types.specs.Place.{Place}
use Rattle.transcripts.specs.Standing.{place_at, places, add_to_place}
use Rattle.evt_types.specs.declared.event.Event.{Event}
use Rattle.evt_types.specs.declared.step.Step.{Step}
use Rattle.evt_types.specs.declared.step.Step.TheVariants.{More}
use Rattle.lists.proofs.Lists.{eqb_same, eqb_other, map_agree, from_first-agree}
use Rattle.lists.proofs.Fronts.{tag, tagged, front_passes, tagged_agree}
use Rattle.transcripts.proofs.Account.{taken_allowed}
use Rattle.transcripts.proofs.AnsweredPlaces.{kept_grows, map_twice, place_same, places_ordered, places_stay, plain_overdue, was_open}
use Rattle.transcripts.proofs.Facts.{Facts-allowed, next_pair_is_given}
use Rattle.transcripts.proofs.Overdue.{late_of, overdue, late_ordered, late_stays, overdue_stays, settled_overdue}
use Rattle.transcripts.proofs.Pushes.{more_forwards, more_forwards_other, is_pair-queue, is_pair-number, hand-none, taken-none, is_answered-none}

-- ---- what is passed on

more_kept_other : (P : List Step) (l : ℕ) (e : Event) (x : ℕ × ℕ) (q n : ℕ) → next_pair P l ≡ Some x → is_pair q n x ≡ false
    → kept_of (P ++ More l e ∷ []) q n ≡ kept_of P q n
more_kept_other P l e x q n next other =
    ap (λ es. drop (length es) (forwards (P ++ More l e ∷ []) q n)) (taken-none P q n (More l e) refl)
    ∙ ap (drop (length (taken P q n))) (more_forwards_other P l e x q n next other)

-- ---- places

pub more_places_other : (p : Plan) (P : List Step) (l : ℕ) (e : Event) (x : ℕ × ℕ) (q : ℕ) → next_pair P l ≡ Some x → x.0 ≢ q
    → places p (P ++ More l e ∷ []) q ≡ places p P q
more_places_other p P l e x q next differs =
    places_stay p P (P ++ More l e ∷ []) q (hand-none P q (More l e) refl) (λ n. is_answered-none P q n (More l e) refl)
    (λ n. more_forwards_other P l e x q n next (is_pair-queue q n x differs))

-- the place of the unanswered event, and the others
add_place_is : (P : List Step) (l : ℕ) (e : Event) (x : ℕ × ℕ) (m : ℕ) → next_pair P l ≡ Some x
    → add_to_place x.1 e (place_at P x.0 m) ≡ place_at (P ++ More l e ∷ []) x.0 m
add_place_is P l e x m next = by_number (cases_eq m x.1)
  where
    T : List Step
    T = P ++ More l e ∷ []

    same_answers : (n : ℕ) → is_answered T x.0 n ≡ is_answered P x.0 n
    same_answers n = is_answered-none P x.0 n (More l e) refl

    new : Place
    new = record { number = x.1; answered = is_answered P x.0 m; forwards = forwards P x.0 m ++ e ∷ [] }

    by_number : (m ≡ x.1) ⊎ (m ≢ x.1) → add_to_place x.1 e (place_at P x.0 m) ≡ place_at T x.0 m
    by_number (inl same) =
        cond-true (m == x.1) new (place_at P x.0 m) (ap (λ k. k == x.1) same ∙ eqb_same x.1)
        ∙ (ap (λ k. record { number = x.1; answered = is_answered P x.0 k; forwards = forwards P x.0 k ++ e ∷ [] }) same
        ∙ (ap (λ es. record { number = x.1; answered = is_answered P x.0 x.1; forwards = es }) (sym (more_forwards P l e x next))
        ∙ (ap (λ b. record { number = x.1; answered = b; forwards = forwards T x.0 x.1 }) (sym (same_answers x.1)) ∙ ap (place_at T x.0) (sym same))))
    by_number (inr differs) =
        cond-false (m == x.1) new (place_at P x.0 m) (eqb_other m x.1 differs)
        ∙ sym (place_same P T x.0 m (same_answers m) (more_forwards_other P l e x x.0 m next (is_pair-number x.0 m x (λ k. differs (sym k)))))

more_open : (P : List Step) (l : ℕ) (e : Event) (q : ℕ) → open_of (P ++ More l e ∷ []) q ≡ open_of P q
unfolding open_of
more_open P l e q =
    ap (from_first (is_answered (P ++ More l e ∷ []) q)) (hand-none P q (More l e) refl)
    ∙ from_first-agree (is_answered (P ++ More l e ∷ []) q) (is_answered P q) (hand P q) (λ n. is_answered-none P q n (More l e) refl)

pub more_places : (p : Plan) (P : List Step) (l : ℕ) (e : Event) (x : ℕ × ℕ) → next_pair P l ≡ Some x → is_ordered (queue_of p x.0).kind ≡ true
    → places p (P ++ More l e ∷ []) x.0 ≡ map (add_to_place x.1 e) (places p P x.0)
more_places p P l e x next ordered =
    let T : List Step = P ++ More l e ∷ [] in
    places_ordered p T x.0 ordered
    ∙ (ap (map (place_at T x.0)) (more_open P l e x.0)
    ∙ (map_agree (place_at T x.0) (λ m. add_to_place x.1 e (place_at P x.0 m)) (open_of P x.0)
    (λ k d lt. sym (add_place_is P l e x (get_or (open_of P x.0) k d) next))
    ∙ (sym (map_twice (add_to_place x.1 e) (place_at P x.0) (open_of P x.0)) ∙ ap (map (add_to_place x.1 e)) (sym (places_ordered p P x.0 ordered)))))

-- ---- the overdue events, where none were before

pub more_overdue_other : (p : Plan) (P : List Step) (l : ℕ) (e : Event) (x : ℕ × ℕ) (q : ℕ) → IsSettled p P → next_pair P l ≡ Some x → x.0 ≢ q
    → overdue p (P ++ More l e ∷ []) q ≡ []
more_overdue_other p P l e x q settled next differs =
    overdue_stays p P q (More l e) refl (λ n. is_answered-none P q n (More l e) refl)
    (λ n. more_kept_other P l e x q n next (is_pair-queue q n x differs))
    ∙ settled_overdue p P settled q

-- where no order is restored, the event itself
pub more_overdue_plain : (p : Plan) (P : List Step) (l : ℕ) (e : Event) (x : ℕ × ℕ) → AllowedAfter p [] P → IsSettled p P → next_pair P l ≡ Some x
    → is_ordered (queue_of p x.0).kind ≡ false → overdue p (P ++ More l e ∷ []) x.0 ≡ tag x.1 (e ∷ [])
more_overdue_plain p P l e x all settled next plain =
    plain_overdue p P (More l e) x (e ∷ []) all settled (next_pair_is_given p P l x (Facts-allowed p P all) next) plain refl
    (kept_grows P (More l e) x.0 x.1 (e ∷ []) (taken_allowed p P all x.0 x.1) refl (more_forwards P l e x next))
    (λ n other. more_kept_other P l e x x.0 n next other)

-- of an ordered queue none: the event waits for the answer that it was added before
pub more_overdue_ordered : (p : Plan) (P : List Step) (l : ℕ) (e : Event) (x : ℕ × ℕ) → AllowedAfter p [] P → IsSettled p P → next_pair P l ≡ Some x
    → is_ordered (queue_of p x.0).kind ≡ true → overdue p (P ++ More l e ∷ []) x.0 ≡ []
more_overdue_ordered p P l e x all settled next ordered =
    ap (tagged (kept_of T q)) (late_stays p P q (More l e) refl (λ n. is_answered-none P q n (More l e) refl))
    ∙ (tagged_agree (kept_of T q) (kept_of P q) (late_of p P q) same_kept ∙ settled_overdue p P settled q)
  where
    q : ℕ
    q = x.0

    T : List Step
    T = P ++ More l e ∷ []

    apart : (n : ℕ) → is_answered P q n ≡ true → x.1 ≢ n
    apart n answered same = false≢true (sym (was_open p P l x all next) ∙ (ap (is_answered P q) same ∙ answered))

    same_kept : All (λ n. kept_of T q n ≡ kept_of P q n) (late_of p P q)
    same_kept =
        subst (All (λ n. kept_of T q n ≡ kept_of P q n)) (sym (late_ordered p P q ordered))
        (All-weaker (λ n. is_answered P q n ≡ true) (λ n. kept_of T q n ≡ kept_of P q n)
        (λ n answered. more_kept_other P l e x q n next (is_pair-number q n x (apart n answered))) (take_while (is_answered P q) (hand P q))
        (front_passes (is_answered P q) (hand P q)))
