-- What holds of the places of an ordered queue wherever a core stands: they have different numbers, each was passed on as five events at
-- most and as four where it waits for its answer, and each unanswered event has one that waits.
use Rattle.std.proofs.Common.{◌≡◌, ◌≢◌, ℕ, zero, suc, ◌+◌, ◌<◌, ◌≤◌, true, false, cond, ◌==◌, List, [], ◌∷◌, ◌++◌, length, map, set, take_while, get_or, All, AllPairs, Contains, ⊎_elim, refl, sym, ap, ◌∙◌, subst, arith}
use Rattle.std.proofs.lemmas.Bool.{false≢true, cond-true, cond-false, cond_both}
use Rattle.std.proofs.lemmas.List.{length-append, length-map, get_or-append-add}
use Rattle.std.proofs.lemmas.List.Elements.{All-nil, All-head, All-tail, All-contains, All-drop, All-map, Contains-append_right}
use Rattle.transcripts.specs.Allowed.{AllowedAfter}
use Rattle.evt_types.specs.Plan.{Plan, queue_of, lanes_of, is_ordered}
use Rattle.lists.specs.Lists.{has}
use Rattle.transcripts.specs.Standing.{View, Stands, places, place_at, places_at, unanswered_at, events_of, answer_place, add_to_place}
use Rattle.evt_types.specs.Place.{Place}
use Rattle.transcripts.specs.Transcript.{out, answers, unanswered, unanswered_slots, Held, held_at, hand, is_answered, forwards, open_of}
use Rattle.lists.specs.Lists.{from_first}
use Rattle.evt_types.specs.declared.event.Event.{Event}
use Rattle.evt_types.specs.declared.event.TheConstants.{MAX_EXTRAS, MAX_FORWARDS}
use Rattle.evt_types.specs.declared.step.Outcome.{Outcome}
use Rattle.evt_types.specs.declared.step.Step.{Step}
use Rattle.transcripts.proofs.AnsweredPlaces.{places_ordered}
use Rattle.transcripts.proofs.Facts.{IsGiven, Facts}
use Rattle.lists.proofs.Lists.{eqb_same, eqb_other, has-Contains}
use Rattle.lists.proofs.Fronts.{front_and_rest, front_or_rest, front_passes}
use Rattle.transcripts.proofs.Once.{Single, Single-allowed}
use Rattle.transcripts.proofs.Whole.{Known-allowed, steps-Lawful}
use Rattle.transcripts.proofs.WholeStands.{places_is, unanswered_is}

-- ---- lists

AllPairs-back : {X : Type 0} (R : X → X → Type 0) (xs ys : List X) → AllPairs R (xs ++ ys) → AllPairs R ys
AllPairs-back R xs ys all i j d lt within =
    let long = length-append xs ys in
    subst (λ x. R x (get_or ys j d)) (get_or-append-add xs ys i d)
    (subst (R (get_or (xs ++ ys) (length xs + i) d)) (get_or-append-add xs ys j d)
    (all (length xs + i) (length xs + j) d (omega arith) (omega arith)))

Contains-map : {X Y : Type 0} (f : X → Y) (xs : List X) (x : X) → Contains xs x → Contains (map f xs) (f x)
Contains-map f [] x c = absurd (no_place c.0 c.1)
  where
    no_place : (k : ℕ) → k < 0 → ⊥
    no_place k lt = omega arith
Contains-map f (y ∷ ys) x (zero, within, is) = (zero, omega arith, ap f is)
Contains-map f (y ∷ ys) x (suc k, within, is) = Contains-append_right (f y ∷ []) (map f ys) (f x) (Contains-map f ys x (k, omega arith, is))

-- ---- one place changes

abbrev pub Differ : Place → Place → Type 0
Differ x y = x.number ≢ y.number

-- of places those of the number change alone, as g says
pub record ChangesOnly (n : ℕ) (f g : Place → Place) : Type 0 where
  pub here : (x : Place) → x.number ≡ n → f x ≡ g x
  pub others : (x : Place) → x.number ≢ n → f x ≡ x

-- where no place has the number none changes
pub changes_none : (n : ℕ) (f g : Place → Place) (ps : List Place) → ChangesOnly n f g → All (λ (y : Place). y.number ≢ n) ps → map f ps ≡ ps
changes_none n f g [] only all = refl
changes_none n f g (y ∷ ps) only all =
    ap (λ z. z ∷ map f ps) (only.others y (All-head (λ (z : Place). z.number ≢ n) y ps all))
    ∙ ap (λ zs. y ∷ zs) (changes_none n f g ps only (All-tail (λ (z : Place). z.number ≢ n) y ps all))

-- of places with different numbers one changes
changes_at : (n : ℕ) (f g : Place → Place) (ps : List Place) (i : ℕ) (d : Place) → ChangesOnly n f g → AllPairs Differ ps → i < length ps
    → (get_or ps i d).number ≡ n → map f ps ≡ set ps i (g (get_or ps i d))
changes_at n f g [] i d only differ within is = absurd (omega arith)
changes_at n f g (x ∷ ps) zero d only differ within is =
    ap (λ y. y ∷ map f ps) (only.here x is)
    ∙ ap (λ ys. g x ∷ ys) (changes_none n f g ps only (λ k e lt same. differ 0 (suc k) e (omega arith) (omega arith) (is ∙ sym same)))
changes_at n f g (x ∷ ps) (suc i) d only differ within is =
    let apart : x.number ≢ n = λ same. differ 0 (suc i) d (omega arith) (omega arith) (same ∙ sym is) in
    ap (λ y. y ∷ map f ps) (only.others x apart)
    ∙ ap (λ ys. x ∷ ys) (changes_at n f g ps i d only (λ j k e lt in'. differ (suc j) (suc k) e (omega arith) (omega arith)) (omega arith) is)

changes_if : (n : ℕ) (g : Place → Place) → ChangesOnly n (λ x. cond (x.number == n) (g x) x) g
changes_if n g =
    record {
      here = λ x is. cond-true (x.number == n) (g x) x (ap (λ m. m == n) is ∙ eqb_same n);
      others = λ x other. cond-false (x.number == n) (g x) x (eqb_other x.number n other);
    }

-- an answer changes the place of its number alone, and so does an event that is added
pub answer_only : (n : ℕ) (o : Outcome) → ChangesOnly n (answer_place n o) (λ x. record { number = n; answered = true; forwards = x.forwards ++ events_of o })
answer_only n o = changes_if n (λ x. record { number = n; answered = true; forwards = x.forwards ++ events_of o })

pub add_only : (n : ℕ) (e : Event) → ChangesOnly n (add_to_place n e) (λ x. record { number = n; answered = x.answered; forwards = x.forwards ++ e ∷ [] })
add_only n e = changes_if n (λ x. record { number = n; answered = x.answered; forwards = x.forwards ++ e ∷ [] })

pub answer_at : (ps : List Place) (i n : ℕ) (o : Outcome) (d : Place) → AllPairs Differ ps → i < length ps → (get_or ps i d).number ≡ n
    → map (answer_place n o) ps ≡ set ps i (record { number = n; answered = true; forwards = (get_or ps i d).forwards ++ events_of o })
answer_at ps i n o d differ within is = changes_at n (answer_place n o) _ ps i d (answer_only n o) differ within is

pub add_at : (ps : List Place) (i n : ℕ) (e : Event) (d : Place) → AllPairs Differ ps → i < length ps → (get_or ps i d).number ≡ n
    → map (add_to_place n e) ps
    ≡ set ps i (record { number = n; answered = (get_or ps i d).answered; forwards = (get_or ps i d).forwards ++ e ∷ [] })
add_at ps i n e d differ within is = changes_at n (add_to_place n e) _ ps i d (add_only n e) differ within is

-- ---- the places of a lawful transcript

allowed_of : (v : View) (T : List Step) → Stands T v → AllowedAfter v.shape [] T
allowed_of v T stands = (steps-Lawful v.shape T stands.lawful).steps

single_of : (v : View) (T : List Step) → Stands T v → Single v.shape T
single_of v T stands = Single-allowed v.shape T (allowed_of v T stands)

facts_of : (v : View) (T : List Step) → Stands T v → Facts v.shape T
facts_of v T stands = (single_of v T stands).facts

-- what holds of each open number's place holds of each place
each_place : (p : Plan) (T : List Step) (q : ℕ) (P : Place → Type 0) → ((n : ℕ) → P (place_at T q n)) → All P (places p T q)
each_place p T q P holds =
    cond_both (is_ordered (queue_of p q).kind) (map (place_at T q) (open_of T q)) [] (All P)
    (λ _. All-map P (place_at T q) (open_of T q) (λ k d lt. holds (get_or (open_of T q) k d))) (λ _. All-nil P)

open_once : (T : List Step) (q : ℕ) → AllPairs (λ m n. m ≢ n) (hand T q) → AllPairs (λ m n. m ≢ n) (open_of T q)
unfolding open_of
open_once T q once =
    AllPairs-back (λ m n. m ≢ n) (take_while (is_answered T q) (hand T q)) (from_first (is_answered T q) (hand T q))
    (subst (AllPairs (λ m n. m ≢ n)) (sym (front_and_rest (is_answered T q) (hand T q))) once)

places_once : (T : List Step) (q : ℕ) (ns : List ℕ) → AllPairs (λ m n. m ≢ n) ns → AllPairs Differ (map (place_at T q) ns)
places_once T q ns once i j d lt within same =
    let inside : j < length ns = omega (arith, within, length-map ns (place_at T q)) in
    once i j 0 lt inside (sym (number_at ns i d (omega arith)) ∙ (same ∙ number_at ns j d inside))
  where
    number_at : (ms : List ℕ) (k : ℕ) (e : Place) → k < length ms → (get_or (map (place_at T q) ms) k e).number ≡ get_or ms k 0
    number_at [] k e h = absurd (omega arith)
    number_at (m ∷ ms) zero e h = refl
    number_at (m ∷ ms) (suc k) e h = number_at ms k e (omega arith)

pub places_differ : (v : View) (T : List Step) (q : ℕ) → Stands T v → q < length v.shape.queues → AllPairs Differ (places_at v q)
places_differ v T q stands h =
    subst (AllPairs Differ) (sym (places_is v T q stands h))
    (cond_both (is_ordered (queue_of v.shape q).kind) (map (place_at T q) (open_of T q)) [] (AllPairs Differ)
    (λ _. places_once T q (open_of T q) (open_once T q ((facts_of v T stands).once q))) (λ _ i j d lt within. absurd (omega arith)))

-- a number that waits for its answer was passed on as four events at most
unanswered_few : (p : Plan) (T : List Step) (q n : ℕ) → Single p T → is_answered T q n ≡ false → length (forwards T q n) ≤ MAX_EXTRAS
unanswered_few p T q n known waits =
    ⊎_elim (λ none. omega (arith, ap length none))
    (λ held. omega (arith, ap length (known.once.first held.0 (q, n) held.1), known.extras.few held.0)) (known.once.unsent q n waits)

-- a place has five events at most, and four while it waits for its answer
pub place_forwards : (v : View) (T : List Step) (q : ℕ) → Stands T v → q < length v.shape.queues
    → All (λ (x : Place). (length x.forwards ≤ MAX_FORWARDS) × (x.answered ≡ false → length x.forwards ≤ MAX_EXTRAS)) (places_at v q)
place_forwards v T q stands h =
    let known : Single v.shape T = single_of v T stands in
    subst (All (λ (x : Place). (length x.forwards ≤ MAX_FORWARDS) × (x.answered ≡ false → length x.forwards ≤ MAX_EXTRAS)))
    (sym (places_is v T q stands h))
    (each_place v.shape T q (λ (x : Place). (length x.forwards ≤ MAX_FORWARDS) × (x.answered ≡ false → length x.forwards ≤ MAX_EXTRAS))
    (λ n. (known.once.few q n, λ waits. unanswered_few v.shape T q n known waits)))

-- no ordered queue has more places than its order
pub places_fit : (v : View) (T : List Step) (q : ℕ) → Stands T v → q < length v.shape.queues → is_ordered (queue_of v.shape q).kind ≡ true
    → length (places_at v q) ≤ (queue_of v.shape q).order
places_fit v T q stands h ordered =
    subst (λ n. n ≤ (queue_of v.shape q).order)
    (sym (ap length (places_is v T q stands h ∙ places_ordered v.shape T q ordered) ∙ length-map (open_of T q) (place_at T q)))
    ((Known-allowed v.shape T (allowed_of v T stands)).places q ordered)

held_queues : (p : Plan) (T : List Step) (l : ℕ) → Facts p T → All (λ (x : ℕ × ℕ). x.0 < length p.queues) (unanswered T l)
unfolding unanswered
held_queues p T l f = All-drop (λ (x : ℕ × ℕ). x.0 < length p.queues) (length (answers T l)) (out T l) (f.queues l)

held_given : (p : Plan) (T : List Step) (l : ℕ) → Facts p T → All (IsGiven T) (unanswered T l)
unfolding unanswered
held_given p T l f = All-drop (IsGiven T) (length (answers T l)) (out T l) (f.out l)

-- a place of the number waits for its answer
pub record HasOpenPlace (ps : List Place) (n : ℕ) : Type 0 where
  pub place : Place
  pub there : Contains ps place
  pub number : place.number ≡ n
  pub waits : place.answered ≡ false

-- an event that a lane holds of an ordered queue has a place there that waits for its answer
pub held_has_place : (v : View) (T : List Step) (l : ℕ) (h : Held) → Stands T v → l < lanes_of v.shape → Contains (unanswered_at v l) h
    → is_ordered (queue_of v.shape h.queue).kind ≡ true
    → (h.queue < length v.shape.queues) × HasOpenPlace (places_at v h.queue) h.number
unfolding open_of
held_has_place v T l h stands lane holds ordered = All-contains P (unanswered_slots v.shape T l) h each
    (subst (λ hs. Contains hs h) (unanswered_is v T l stands lane) holds) ordered
  where
    P : Held → Type 0
    P k = is_ordered (queue_of v.shape k.queue).kind ≡ true → (k.queue < length v.shape.queues) × HasOpenPlace (places_at v k.queue) k.number

    f : Facts v.shape T
    f = facts_of v T stands

    -- an unanswered pair's number is open
    is_open : (x : ℕ × ℕ) → is_answered T x.0 x.1 ≡ false → has x.1 (hand T x.0) ≡ true → has x.1 (from_first (is_answered T x.0) (hand T x.0)) ≡ true
    is_open x waits in' =
        ⊎_elim
        (λ front. absurd (false≢true (sym waits ∙ All-contains (λ m. is_answered T x.0 m ≡ true) (take_while (is_answered T x.0) (hand T x.0)) x.1
        (front_passes (is_answered T x.0) (hand T x.0)) (has-Contains (take_while (is_answered T x.0) (hand T x.0)) x.1 front))))
        (λ rest. rest) (front_or_rest (is_answered T x.0) x.1 (hand T x.0) in')

    pair : (x : ℕ × ℕ) → x.0 < length v.shape.queues → is_answered T x.0 x.1 ≡ false → has x.1 (hand T x.0) ≡ true → P (held_at v.shape T x)
    pair x there waits in' is = (
      there,
      record {
        place = place_at T x.0 x.1;
        there = subst (λ ps. Contains ps (place_at T x.0 x.1)) (sym (places_is v T x.0 stands there ∙ places_ordered v.shape T x.0 is))
            (Contains-map (place_at T x.0) (open_of T x.0) x.1 (has-Contains (open_of T x.0) x.1 (is_open x waits in')));
        number = refl;
        waits = waits;
      },
    )

    each : All P (unanswered_slots v.shape T l)
    each =
        All-map P (held_at v.shape T) (unanswered T l)
        (λ k d lt. pair (get_or (unanswered T l) k d) (held_queues v.shape T l f k d lt) ((single_of v T stands).once.unended l k d lt)
        (held_given v.shape T l f k d lt))
