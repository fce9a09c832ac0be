-- What an answer makes of a queue: of what its numbers were passed on as, of its places and of its overdue events.
use Rattle.std.proofs.Common.{◌≡◌, ◌≢◌, ℕ, ◌<◌, ◌≤◌, true, false, cond, ◌==◌, List, [], ◌∷◌, ◌++◌, length, map, drop, take_while, flat_map, get_or, All, Option, Some, None, ◌⊎◌, inl, inr, ⊎_elim, refl, sym, ap, ◌∙◌, subst}
use Rattle.std.proofs.lemmas.Bool.{cases_eq, false≢true, cond-true, cond-false}
use Rattle.std.proofs.lemmas.List.Elements.{All-nil, All-head, All-weaker}
use Rattle.std.proofs.lemmas.List.{drop-append-le}
use Rattle.std.proofs.lemmas.Option.{cond_some}
use Rattle.evt_types.specs.Plan.{Plan, queue_of, is_ordered}
use Rattle.lists.specs.Lists.{has}
use Rattle.transcripts.specs.Transcript.{unanswered, next_pair, is_pair, is_answered, sends, sent, sent_for, forwards, given_of, hand, taken_in, taken, kept_of, open_of}
use Rattle.lists.specs.Lists.{from_first}
use Rattle.transcripts.specs.Lawful.{IsFormed, IsSettled}
use Rattle.transcripts.specs.Allowed.{Allowed, AllowedAfter}
use Rattle.evt_types.specs.Place.{Place}
use Rattle.transcripts.specs.Standing.{place_at, places, events_of, answer_place, leaving, staying, accepts_from}
use Rattle.evt_types.specs.Operation.{passes_on}
use Rattle.evt_types.specs.declared.event.Event.{Event}
use Rattle.evt_types.specs.declared.step.Outcome.{Outcome}
use Rattle.evt_types.specs.declared.step.Outcome.TheVariants.{Forwarded}
use Rattle.evt_types.specs.declared.step.Source.TheVariants.{Of}
use Rattle.evt_types.specs.declared.step.Step.{Step}
use Rattle.evt_types.specs.declared.step.Step.TheVariants.{Accept, Done, More}
use Rattle.transcripts.proofs.Account.{taken_allowed}
use Rattle.transcripts.proofs.Facts.{AllowedAfter_keeps, next_pair_is_given}
use Rattle.lists.proofs.Lists.{eqb_same, eqb_other, map_agree, from_first-agree, All-has, All-option, All-weaker_all}
use Rattle.lists.proofs.Fronts.{tag, tagged, front_passes, front-map, rest-map, front_after, rest_after, has_each, has_front, tagged-append, tagged_agree, tagged_none, tagged_nil, tagged_single, map-tagged, flat_map-map}
use Rattle.transcripts.proofs.Overdue.{overdue, late_ordered, late_plain, overdue_stays, settled_overdue, untaken, open_untaken}
use Rattle.transcripts.proofs.Pushes.{Sends, sends_is, done_forwards, done_forwards_other, is_pair-queue, is_pair-number, hand-none, taken-none, forwards-none, forwards-sends, is_answered-more, is_answered-same, is_answered-other, unanswered-next}
use Rattle.transcripts.proofs.Once.{Single-allowed}
use Rattle.transcripts.proofs.Whole.{Known-allowed}

-- ---- what is passed on

-- an event that is passed on names a queue that is there
abbrev pub IsForward : Plan → Event → Type 0
IsForward p e = (e.queue < length p.queues) × (passes_on e.op ≡ true)

sends_formed : (p : Plan) (P : List Step) (s : Step) (x : ℕ × ℕ) (e : Event) → Sends P s x e → IsFormed p s → IsForward p e
sends_formed p P s x e sending formed = ⊎_elim done more sending.is
  where
    done : s ≡ Done sending.lane (Forwarded e) → IsForward p e
    done is = let form = (subst (IsFormed p) is formed).1 in (form.0, ap passes_on form.1)

    more : s ≡ More sending.lane e → IsForward p e
    more is = let form = (subst (IsFormed p) is formed).1 in (form.0, ap passes_on form.1)

abbrev AreForwards : Plan → List Step → Type 0
AreForwards p T = (q n : ℕ) → All (IsForward p) (forwards T q n)

forwards_push : (p : Plan) (P : List Step) (s : Step) → AreForwards p P → Allowed p P s → AreForwards p (P ++ s ∷ [])
forwards_push p P s h a q n = by_case (sends P s) refl
  where
    by_case : (o : Option ((ℕ × ℕ) × Event)) → sends P s ≡ o → All (IsForward p) (forwards (P ++ s ∷ []) q n)
    by_case None e = subst (All (IsForward p)) (sym (forwards-none P q n s e)) (h q n)
    by_case (Some y) e =
        let formed : IsForward p y.1 = sends_formed p P s y.0 y.1 (sends_is P s y.0 y.1 e) a.formed in
        subst (All (IsForward p)) (sym (forwards-sends P q n s y e))
        (All-option (IsForward p) (forwards P q n) (sent_for q n y) (h q n)
        (λ d k. subst (IsForward p) ((cond_some (is_pair q n y.0) y.1 d k).1) formed))

forwards_none : (p : Plan) → AreForwards p []
unfolding forwards sent
forwards_none p q n = All-nil (IsForward p)

pub forwards_formed : (p : Plan) (T : List Step) → AllowedAfter p [] T → (q n : ℕ) → All (IsForward p) (forwards T q n)
forwards_formed p T all = AllowedAfter_keeps p (AreForwards p) (forwards_push p) [] T (forwards_none p) all

done_kept_other : (P : List Step) (l : ℕ) (o : Outcome) (x : ℕ × ℕ) (q n : ℕ) → next_pair P l ≡ Some x → is_pair q n x ≡ false
    → kept_of (P ++ Done l o ∷ []) q n ≡ kept_of P q n
done_kept_other P l o x q n next other =
    ap (λ es. drop (length es) (forwards (P ++ Done l o ∷ []) q n)) (taken-none P q n (Done l o) refl)
    ∙ ap (drop (length (taken P q n))) (done_forwards_other P l o x q n next other)

-- ---- places

pub place_same : (P T : List Step) (q n : ℕ) → is_answered T q n ≡ is_answered P q n → forwards T q n ≡ forwards P q n → place_at T q n ≡ place_at P q n
place_same P T q n e f =
    ap (λ b. record { number = n; answered = b; forwards = forwards T q n }) e ∙ ap
    (λ es. record { number = n; answered = is_answered P q n; forwards = es }) f

-- the places of a queue of which nothing is given, answered or passed on
pub places_stay : (p : Plan) (P T : List Step) (q : ℕ) → hand T q ≡ hand P q → ((n : ℕ) → is_answered T q n ≡ is_answered P q n)
    → ((n : ℕ) → forwards T q n ≡ forwards P q n) → places p T q ≡ places p P q
unfolding open_of
places_stay p P T q same_hand same_answers same_forwards =
    ap (λ xs. cond (is_ordered (queue_of p q).kind) xs [])
    (ap (λ ns. map (place_at T q) (from_first (is_answered T q) ns)) same_hand
    ∙ (ap (map (place_at T q)) (from_first-agree (is_answered T q) (is_answered P q) (hand P q) same_answers)
    ∙ map_agree (place_at T q) (place_at P q) (from_first (is_answered P q) (hand P q))
    (λ k d lt. let n = get_or (from_first (is_answered P q) (hand P q)) k d in place_same P T q n (same_answers n) (same_forwards n))))

pub places_ordered : (p : Plan) (T : List Step) (q : ℕ) → is_ordered (queue_of p q).kind ≡ true → places p T q ≡ map (place_at T q) (open_of T q)
places_ordered p T q h = cond-true (is_ordered (queue_of p q).kind) (map (place_at T q) (open_of T q)) [] h

pub places_plain : (p : Plan) (T : List Step) (q : ℕ) → is_ordered (queue_of p q).kind ≡ false → places p T q ≡ []
places_plain p T q h = cond-false (is_ordered (queue_of p q).kind) (map (place_at T q) (open_of T q)) [] h

pub done_places_other : (p : Plan) (P : List Step) (l : ℕ) (o : Outcome) (x : ℕ × ℕ) (q : ℕ) → next_pair P l ≡ Some x → x.0 ≢ q
    → places p (P ++ Done l o ∷ []) q ≡ places p P q
done_places_other p P l o x q next differs =
    places_stay p P (P ++ Done l o ∷ []) q (hand-none P q (Done l o) refl)
    (λ n. is_answered-other P q n (Done l o) x next (is_pair-queue q n x differs))
    (λ n. done_forwards_other P l o x q n next (is_pair-queue q n x differs))

-- the answered place, and the others
answer_place_is : (P : List Step) (l : ℕ) (o : Outcome) (x : ℕ × ℕ) (m : ℕ) → next_pair P l ≡ Some x
    → answer_place x.1 o (place_at P x.0 m) ≡ place_at (P ++ Done l o ∷ []) x.0 m
answer_place_is P l o x m next = by_number (cases_eq m x.1)
  where
    T : List Step
    T = P ++ Done l o ∷ []

    new : Place
    new = record { number = x.1; answered = true; forwards = forwards P x.0 m ++ events_of o }

    by_number : (m ≡ x.1) ⊎ (m ≢ x.1) → answer_place x.1 o (place_at P x.0 m) ≡ place_at T x.0 m
    by_number (inl same) =
        cond-true (m == x.1) new (place_at P x.0 m) (ap (λ k. k == x.1) same ∙ eqb_same x.1)
        ∙ (ap (λ k. record { number = x.1; answered = true; forwards = forwards P x.0 k ++ events_of o }) same
        ∙ (ap (λ es. record { number = x.1; answered = true; forwards = es }) (sym (done_forwards P l o x next))
        ∙ (ap (λ b. record { number = x.1; answered = b; forwards = forwards T x.0 x.1 }) (sym (is_answered-same P x.0 x.1 (Done l o) next))
        ∙ ap (place_at T x.0) (sym same))))
    by_number (inr differs) =
        let other : is_pair x.0 m x ≡ false = is_pair-number x.0 m x (λ e. differs (sym e)) in
        cond-false (m == x.1) new (place_at P x.0 m) (eqb_other m x.1 differs)
        ∙ sym (place_same P T x.0 m (is_answered-other P x.0 m (Done l o) x next other) (done_forwards_other P l o x x.0 m next other))

pub map_twice : {X Y : Type 0} (f : X → Y) (g : ℕ → X) (ns : List ℕ) → map f (map g ns) ≡ map (λ n. f (g n)) ns
map_twice f g [] = refl
map_twice f g (n ∷ ns) = ap (λ ys. f (g n) ∷ ys) (map_twice f g ns)

-- the places with the answer, those that leave among them too
pub answered_is : (p : Plan) (P : List Step) (l : ℕ) (o : Outcome) (x : ℕ × ℕ) → next_pair P l ≡ Some x → is_ordered (queue_of p x.0).kind ≡ true
    → map (answer_place x.1 o) (places p P x.0) ≡ map (place_at (P ++ Done l o ∷ []) x.0) (open_of P x.0)
answered_is p P l o x next ordered =
    ap (map (answer_place x.1 o)) (places_ordered p P x.0 ordered)
    ∙ (map_twice (answer_place x.1 o) (place_at P x.0) (open_of P x.0)
    ∙ map_agree (λ m. answer_place x.1 o (place_at P x.0 m)) (place_at (P ++ Done l o ∷ []) x.0) (open_of P x.0)
    (λ k d lt. answer_place_is P l o x (get_or (open_of P x.0) k d) next))

pub done_open : (P : List Step) (l : ℕ) (o : Outcome) (q : ℕ)
    → open_of (P ++ Done l o ∷ []) q ≡ from_first (is_answered (P ++ Done l o ∷ []) q) (open_of P q)
unfolding open_of
done_open P l o q =
    ap (from_first (is_answered (P ++ Done l o ∷ []) q)) (hand-none P q (Done l o) refl)
    ∙ rest_after (is_answered P q) (is_answered (P ++ Done l o ∷ []) q) (hand P q) (λ n. is_answered-more P q n (Done l o))

-- the places that stay
pub done_places : (p : Plan) (P : List Step) (l : ℕ) (o : Outcome) (x : ℕ × ℕ) → next_pair P l ≡ Some x → is_ordered (queue_of p x.0).kind ≡ true
    → places p (P ++ Done l o ∷ []) x.0 ≡ staying (map (answer_place x.1 o) (places p P x.0))
done_places p P l o x next ordered =
    let T : List Step = P ++ Done l o ∷ [] in
    places_ordered p T x.0 ordered
    ∙ (ap (map (place_at T x.0)) (done_open P l o x.0)
    ∙ (sym (rest-map (λ (y : Place). y.answered) (place_at T x.0) (open_of P x.0)) ∙ ap staying (sym (answered_is p P l o x next ordered))))

-- ---- the events that a queue's answered places leave

-- a kept event is accepted
abbrev pub accept_from : ℕ → ℕ × Event → Step
accept_from q y = Accept (y.1).queue y.1 (Of q y.0)

pub leaving_accepts : (p : Plan) (P : List Step) (l : ℕ) (o : Outcome) (x : ℕ × ℕ) → next_pair P l ≡ Some x → is_ordered (queue_of p x.0).kind ≡ true
    → flat_map (λ (y : Place). accepts_from x.0 y.number y.forwards) (leaving (map (answer_place x.1 o) (places p P x.0)))
    ≡ map (accept_from x.0) (tagged (forwards (P ++ Done l o ∷ []) x.0) (take_while (is_answered (P ++ Done l o ∷ []) x.0) (open_of P x.0)))
leaving_accepts p P l o x next ordered =
    let T : List Step = P ++ Done l o ∷ [] in
    let accepts : Place → List Step = λ y. accepts_from x.0 y.number y.forwards in
    let front : List ℕ = take_while (is_answered T x.0) (open_of P x.0) in
    ap (λ ys. flat_map accepts (leaving ys)) (answered_is p P l o x next ordered)
    ∙ (ap (flat_map accepts) (front-map (λ (y : Place). y.answered) (place_at T x.0) (open_of P x.0))
    ∙ (flat_map-map accepts (place_at T x.0) front ∙ sym (map-tagged (accept_from x.0) (forwards T x.0) front)))

-- ---- the overdue events, where none were before

pub was_open : (p : Plan) (P : List Step) (l : ℕ) (x : ℕ × ℕ) → AllowedAfter p [] P → next_pair P l ≡ Some x → is_answered P x.0 x.1 ≡ false
was_open p P l x all next =
    All-head (λ (z : ℕ × ℕ). is_answered P z.0 z.1 ≡ false) x (drop 1 (unanswered P l))
    (subst (All (λ (z : ℕ × ℕ). is_answered P z.0 z.1 ≡ false)) (unanswered-next P l x next) ((Single-allowed p P all).once.unended l))

-- what a step adds to what a number is passed on as is kept behind the rest
pub kept_grows : (P : List Step) (s : Step) (q n : ℕ) (es : List Event) → length (taken P q n) ≤ length (forwards P q n) → taken_in q n s ≡ None
    → forwards (P ++ s ∷ []) q n ≡ forwards P q n ++ es → kept_of (P ++ s ∷ []) q n ≡ kept_of P q n ++ es
kept_grows P s q n es fewer none more =
    ap (λ ds. drop (length ds) (forwards (P ++ s ∷ []) q n)) (taken-none P q n s none)
    ∙ (ap (drop (length (taken P q n))) more ∙ drop-append-le (length (taken P q n)) (forwards P q n) es fewer)

-- where no order is restored and nothing is overdue: what a step adds to what is kept of one number
pub plain_overdue : (p : Plan) (P : List Step) (s : Step) (x : ℕ × ℕ) (es : List Event) → AllowedAfter p [] P → IsSettled p P
    → has x.1 (hand P x.0) ≡ true → is_ordered (queue_of p x.0).kind ≡ false → given_of x.0 s ≡ None
    → kept_of (P ++ s ∷ []) x.0 x.1 ≡ kept_of P x.0 x.1 ++ es
    → ((n : ℕ) → is_pair x.0 n x ≡ false → kept_of (P ++ s ∷ []) x.0 n ≡ kept_of P x.0 n)
    → overdue p (P ++ s ∷ []) x.0 ≡ tag x.1 es
plain_overdue p P s x es all settled given plain no_give here others =
    let T : List Step = P ++ s ∷ [] in
    let none : All (λ n. kept_of P x.0 n ≡ []) (hand P x.0) =
    tagged_nil (kept_of P x.0) (hand P x.0) (ap (tagged (kept_of P x.0)) (sym (late_plain p P x.0 plain)) ∙ settled_overdue p P settled x.0) in
    ap (tagged (kept_of T x.0)) (late_plain p T x.0 plain ∙ hand-none P x.0 s no_give)
    ∙ tagged_single (kept_of T x.0) (hand P x.0) x.1 es ((Single-allowed p P all).facts.once x.0) given
    (here ∙ ap (λ ds. ds ++ es) (All-has (λ n. kept_of P x.0 n ≡ []) x.1 (hand P x.0) none given))
    (λ k d lt differs. others (get_or (hand P x.0) k d) (is_pair-number x.0 (get_or (hand P x.0) k d) x (λ e. differs (sym e))) ∙ none k d lt)

pub done_overdue_other : (p : Plan) (P : List Step) (l : ℕ) (o : Outcome) (x : ℕ × ℕ) (q : ℕ) → IsSettled p P → next_pair P l ≡ Some x → x.0 ≢ q
    → overdue p (P ++ Done l o ∷ []) q ≡ []
done_overdue_other p P l o x q settled next differs =
    overdue_stays p P q (Done l o) refl (λ n. is_answered-other P q n (Done l o) x next (is_pair-queue q n x differs))
    (λ n. done_kept_other P l o x q n next (is_pair-queue q n x differs))
    ∙ settled_overdue p P settled q

-- where no order is restored, the event itself
pub done_overdue_plain : (p : Plan) (P : List Step) (l : ℕ) (o : Outcome) (x : ℕ × ℕ) → AllowedAfter p [] P → IsSettled p P → next_pair P l ≡ Some x
    → is_ordered (queue_of p x.0).kind ≡ false → overdue p (P ++ Done l o ∷ []) x.0 ≡ tag x.1 (events_of o)
done_overdue_plain p P l o x all settled next plain =
    plain_overdue p P (Done l o) x (events_of o) all settled (next_pair_is_given p P l x (Single-allowed p P all).facts next) plain refl
    (kept_grows P (Done l o) x.0 x.1 (events_of o) (taken_allowed p P all x.0 x.1) refl (done_forwards P l o x next))
    (λ n other. done_kept_other P l o x x.0 n next other)

-- of an ordered queue, what the places that leave were passed on as
pub done_overdue_ordered : (p : Plan) (P : List Step) (l : ℕ) (o : Outcome) (x : ℕ × ℕ) → AllowedAfter p [] P → IsSettled p P → next_pair P l ≡ Some x
    → is_ordered (queue_of p x.0).kind ≡ true
    → overdue p (P ++ Done l o ∷ []) x.0 ≡ tagged (forwards (P ++ Done l o ∷ []) x.0)
    (take_while (is_answered (P ++ Done l o ∷ []) x.0) (open_of P x.0))
unfolding open_of
done_overdue_ordered p P l o x all settled next ordered =
    ap (tagged (kept_of T q)) (late_ordered p T q ordered ∙ (ap (take_while (is_answered T q)) (hand-none P q (Done l o) refl)
    ∙ front_after (is_answered P q) (is_answered T q) (hand P q) (λ n. is_answered-more P q n (Done l o))))
    ∙ (tagged-append (kept_of T q) front leaves
    ∙ (ap (λ ys. ys ++ tagged (kept_of T q) leaves) (tagged_none (kept_of T q) front front_none) ∙ tagged_agree (kept_of T q)
    (forwards T q) leaves all_kept))
  where
    q : ℕ
    q = x.0

    T : List Step
    T = P ++ Done l o ∷ []

    front : List ℕ
    front = take_while (is_answered P q) (hand P q)

    leaves : List ℕ
    leaves = take_while (is_answered T q) (from_first (is_answered P q) (hand P q))

    front_none : All (λ n. kept_of T q n ≡ []) front
    front_none =
        All-weaker_all (λ n. is_answered P q n ≡ true) (λ n. kept_of P q n ≡ []) (λ n. kept_of T q n ≡ []) front
        (front_passes (is_answered P q) (hand P q))
        (λ n answered none. done_kept_other P l o x q n next
        (is_pair-number q n x (λ e. false≢true (sym (was_open p P l x all next) ∙ (ap (is_answered P q) e ∙ answered)))) ∙ none)
        (tagged_nil (kept_of P q) front (ap (tagged (kept_of P q)) (sym (late_ordered p P q ordered)) ∙ settled_overdue p P settled q))

    all_kept : All (λ n. kept_of T q n ≡ forwards T q n) leaves
    all_kept =
        All-weaker (λ n. has n leaves ≡ true) (λ n. kept_of T q n ≡ forwards T q n)
        (λ n in'. ap (λ es. drop (length es) (forwards T q n)) (taken-none P q n (Done l o) refl
        ∙ untaken P q n (open_untaken P q n ((Single-allowed p P all).facts.once q) ((Known-allowed p P all).order.ordered q ordered)
        (has_front (is_answered T q) n (from_first (is_answered P q) (hand P q)) in')))) leaves (has_each leaves)
