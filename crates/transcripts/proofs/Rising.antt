-- An atomic queue's events of one flow and level are answered in the order of their numbers: they are given so, and those that are
-- unanswered at a time stand on one lane. So an event that is accepted as it is passed on comes from no lower number than those before it.
use Rattle.std.proofs.Common.{◌≡◌, ◌≢◌, ℕ, zero, suc, ◌+◌, ◌<◌, ◌≤◌, Bool, true, false, cond, ◌&&◌, ◌==◌, List, [], ◌∷◌, ◌++◌, length, map, drop, get_or, filter, All, AllPairs, Contains, Option, Some, None, slice_get, filter_map, ◌⊎◌, inl, inr, ⊎_elim, refl, sym, eq-eqb, ap, ◌∙◌, subst, arith, append-nil}
use Rattle.std.specs.List.{cons_option}
use Rattle.std.proofs.lemmas.Bool.{cases_Bool, cases_eq, false≢true, and_from, and_parts}
use Rattle.std.proofs.lemmas.List.{length-append, get_or_append_left, get_or-append-add, get_or_default}
use Rattle.std.proofs.lemmas.List.Elements.{All-nil, All-cons, All-drop, All-head, All-tail, All-weaker, Contains-append_right}
use Rattle.std.proofs.lemmas.List.Kept.{AllPairs-filter}
use Rattle.std.proofs.lemmas.Option.{none-some, same_Some}
use Rattle.evt_types.specs.Plan.{Plan, queue_of, level_of, slot_of, is_atomic, is_ordered}
use Rattle.lists.specs.Lists.{has}
use Rattle.transcripts.specs.Transcript.{accepted, accepted_in, entered, event_at, slot_at, slot_if, given_to, out, answer_of, answers, unanswered, Held, held_at, unanswered_slots, next_pair, ends, is_pair, is_answered, hand, waiting, named, named_at, given, taken, source_in, sources}
use Rattle.transcripts.specs.Lawful.{is_of_flow, keeps_order, keeps_some, keeps_with, AreApart}
use Rattle.transcripts.specs.Allowed.{Allowed, AllowedAfter, MayAcceptOf, MayGiveNumber}
use Rattle.evt_types.specs.declared.event.Event.{Event}
use Rattle.evt_types.specs.declared.event.Kind.{Kind}
use Rattle.evt_types.specs.declared.event.Kind.TheVariants.{Ordered, Atomic, Parallel}
use Rattle.evt_types.specs.declared.event.Numbered.{Numbered}
use Rattle.evt_types.specs.declared.step.Outcome.{Outcome}
use Rattle.evt_types.specs.declared.step.Outcome.TheVariants.{Released}
use Rattle.evt_types.specs.declared.step.Step.{Step}
use Rattle.evt_types.specs.declared.step.Step.TheVariants.{Accept, Give, Done, More, Turned, Bounced, Shut}
use Rattle.transcripts.proofs.Facts.{IsGiven, Facts, AllowedAfter-push, AllowedAfter_keeps, given_is_accepted, next_pair_is_given, not_answered}
use Rattle.transcripts.proofs.Flows.{key-flow}
use Rattle.lists.proofs.Lists.{eqb_same, eqb_is, All-option, All-weaker_all, AllPairs-option, AllPairs-drop, AllPairs-weaker_all, Contains-filter, has-Contains, slice_get-some}
use Rattle.transcripts.proofs.Pushes.{given_to_is, answer_of-same, answer_of-other, answer_of_is, source_in_is, is_pair_is, event_at-none, event_at-more, unanswered-push, unanswered-next, next_pair-some, next_pair-stays, done_count, sources-push, is_answered-more, is_answered-none, is_answered-same, is_answered-other, ends_is}
use Rattle.transcripts.proofs.Once.{Once, Single-allowed}
use Rattle.transcripts.proofs.Waits.{entered-rises, waiting_at}
use Rattle.transcripts.proofs.Whole.{Known, Known-allowed}

-- ---- what keeps its order

-- a kind is one of the three
pub kind_is_one : (k : Kind) → is_atomic k ≡ true → is_ordered k ≡ false
kind_is_one Ordered h = absurd (false≢true h)
kind_is_one Atomic h = refl
kind_is_one Parallel h = refl

-- events that keep their order have one level and, in an atomic queue, one flow
keeps_parts : (p : Plan) (q : ℕ) (d e : Event) → is_atomic (queue_of p q).kind ≡ true → keeps_order p q d e ≡ true
    → (d.flow ≡ e.flow) × (level_of d ≡ level_of e)
keeps_parts p q d e atomic h =
    let parts = by_case (level_of d == level_of e) (is_ordered (queue_of p q).kind) (is_atomic (queue_of p q).kind) (d.flow == e.flow)
    (kind_is_one (queue_of p q).kind atomic) h in
    (eqb_is d.flow e.flow parts.1, eqb_is (level_of d) (level_of e) parts.0)
  where
    by_case : (a b c f : Bool) → b ≡ false → cond a (cond b true (c && f)) false ≡ true → (a ≡ true) × (f ≡ true)
    by_case false b c f other k = absurd (false≢true k)
    by_case true true c f other k = absurd (false≢true (sym other))
    by_case true false c f other k = (refl, (and_parts c f k).1)

-- two numbers that keep their order have events that do
keeps_events : (p : Plan) (T : List Step) (q m n : ℕ) (d e : Event) → event_at T q m ≡ Some d → event_at T q n ≡ Some e → keeps_with p T q m n ≡ true
    → keeps_order p q d e ≡ true
keeps_events p T q m n d e is is' h =
    sym (ap (λ o. keeps_some p q o (event_at T q n)) is ∙ ap (keeps_some p q (Some d)) is') ∙ h

-- two items, one of each part of a list
across : {X : Type 0} (R : X → X → Type 0) (xs ys : List X) (x y : X) → AllPairs R (xs ++ ys) → Contains xs x → Contains ys y → R x y
across R xs ys x y all c d =
    let low : c.0 < length xs = c.1 in
    let high : d.0 < length ys = d.1 in
    let long = length-append xs ys in
    subst (λ z. R z y) (get_or_append_left xs ys x c.0 c.1 ∙ c.2)
    (subst (R (get_or (xs ++ ys) c.0 x)) (get_or-append-add xs ys d.0 x ∙ (get_or_default ys d.0 x y d.1 ∙ d.2))
    (all c.0 (length xs + d.0) x (omega arith) (omega arith)))

Contains-some : {X Y : Type 0} (h : X → Option Y) (xs : List X) (x : X) (y : Y) → Contains xs x → h x ≡ Some y → Contains (filter_map h xs) y
Contains-some h [] x y c e = absurd (no_place c.0 c.1)
  where
    no_place : (k : ℕ) → k < 0 → ⊥
    no_place k lt = omega arith
Contains-some h (z ∷ zs) x y (zero, within, is) e =
    subst (λ o. Contains (cons_option o (filter_map h zs)) y) (sym (ap h is ∙ e)) (zero, omega arith, refl)
Contains-some h (z ∷ zs) x y (suc k, within, is) e = later (h z) (Contains-some h zs x y (k, omega arith, is) e)
  where
    later : (o : Option _) → Contains (filter_map h zs) y → Contains (cons_option o (filter_map h zs)) y
    later None c = c
    later (Some u) c = Contains-append_right (u ∷ []) (filter_map h zs) y c

-- of an atomic queue what is given comes before what waits, where they keep their order
given_below : (p : Plan) (T : List Step) (q m : ℕ) (w : Numbered) → Known p T → is_atomic (queue_of p q).kind ≡ true → has m (hand T q) ≡ true
    → Contains (waiting T q) w → keeps_with p T q m w.number ≡ true → m < w.number
given_below p T q m w known atomic in' waits keeps =
    let there = slice_get-some (accepted T q) m (given_is_accepted p T q m known.facts in') in
    let u : Numbered = record { number = m; event = there.0 } in
    let key : Numbered → Bool = is_of_flow w.event.flow (level_of w.event) in
    let parts = keeps_parts p q there.0 w.event atomic (keeps_events p T q m w.number there.0 w.event there.1 (waiting_at T q w waits) keeps) in
    let u_is : key u ≡ true = and_from (there.0.flow == w.event.flow) (level_of there.0 == level_of w.event)
    (eq-eqb there.0.flow w.event.flow parts.0) (eq-eqb (level_of there.0) (level_of w.event) parts.1) in
    let w_is : key w ≡ true = and_from (w.event.flow == w.event.flow) (level_of w.event == level_of w.event) (eqb_same w.event.flow)
    (eqb_same (level_of w.event)) in
    across (λ (a b : Numbered). a.number < b.number) (filter key (given T q)) (filter key (waiting T q)) u w
    (subst (AllPairs (λ (a b : Numbered). a.number < b.number)) (sym (known.flow q key (key-flow p q w.event.flow (level_of w.event) atomic)))
    (AllPairs-filter (λ (a b : Numbered). a.number < b.number) key (entered T q) (entered-rises T q)))
    (Contains-filter key (given T q) u (Contains-some (named_at T q) (hand T q) m u (has-Contains (hand T q) m in') (ap (named m) there.1)) u_is)
    (Contains-filter key (waiting T q) w waits w_is)

-- ---- the order of answers

abbrev Rises : Plan → List Step → ℕ × ℕ → ℕ × ℕ → Type 0
Rises p T x y = x.0 ≡ y.0 → is_atomic (queue_of p y.0).kind ≡ true → keeps_with p T y.0 x.1 y.1 ≡ true → x.1 ≤ y.1

-- no answered number that keeps its order with the pair's is above it
abbrev IsNotPassed : Plan → List Step → ℕ × ℕ → Type 0
IsNotPassed p T y = (m : ℕ) → is_atomic (queue_of p y.0).kind ≡ true → is_answered T y.0 m ≡ true → keeps_with p T y.0 m y.1 ≡ true → m ≤ y.1

-- the number is answered, or it is a lane's turn to answer it
abbrev IsSource : List Step → ℕ → ℕ → Type 0
IsSource T q m = (is_answered T q m ≡ true) ⊎ ((l : ℕ) × (next_pair T l ≡ Some (q, m)))

pub record Rising (p : Plan) (T : List Step) : Type 0 where
  pub allowed : AllowedAfter p [] T
  pub lanes : (l : ℕ) → AllPairs (Rises p T) (unanswered T l)
  pub answered : (l : ℕ) → All (IsNotPassed p T) (unanswered T l)
  pub sources : (q : ℕ) → All (IsSource T q) (sources T q)

Rising-none : (p : Plan) → Rising p []
unfolding unanswered out answers sources
Rising-none p = record {
  allowed = tt;
  lanes = λ l i j d lt within. absurd (omega arith);
  answered = λ l k d lt. absurd (omega arith);
  sources = λ q k d lt. absurd (omega arith);
}

-- an answered number is in hand
answered_is_given : (p : Plan) (T : List Step) (q n : ℕ) → Facts p T → is_answered T q n ≡ true → has n (hand T q) ≡ true
answered_is_given p T q n f h =
    ⊎_elim (λ yes. yes) (λ no. absurd (false≢true (sym (not_answered p T q n f no) ∙ h))) (cases_Bool (has n (hand T q)))

unanswered_is_given : (p : Plan) (T : List Step) (l : ℕ) → Facts p T → All (IsGiven T) (unanswered T l)
unfolding unanswered
unanswered_is_given p T l f = All-drop (IsGiven T) (length (answers T l)) (out T l) (f.out l)

-- what keeps its order does so after one more step
keeps_stays : (p : Plan) (P : List Step) (q m n : ℕ) (s : Step) → Facts p P → has m (hand P q) ≡ true → has n (hand P q) ≡ true
    → keeps_with p (P ++ s ∷ []) q m n ≡ keeps_with p P q m n
keeps_stays p P q m n s f h k =
    ap (λ o. keeps_some p q o (event_at (P ++ s ∷ []) q n)) (event_at-more P q m s (given_is_accepted p P q m f h))
    ∙ ap (keeps_some p q (event_at P q m)) (event_at-more P q n s (given_is_accepted p P q n f k))

All-of_map : {X Y : Type 0} (P : Y → Type 0) (f : X → Y) (xs : List X) → All P (map f xs) → All (λ x. P (f x)) xs
All-of_map P f [] all = All-nil (λ x. P (f x))
All-of_map P f (x ∷ xs) all = All-cons (λ y. P (f y)) x xs (All-head P (f x) (map f xs) all) (All-of_map P f xs (All-tail P (f x) (map f xs) all))

-- the pair that an answer ends comes no later than the others of its flow and level
ended_rises : (p : Plan) (P : List Step) (l : ℕ) (o : Outcome) (x : ℕ × ℕ) → Rising p P → next_pair P l ≡ Some x → (m : ℕ)
    → All (Rises p P x) (drop (done_count m (Done l o)) (unanswered P m))
ended_rises p P l o x h next m = by_lane (cases_eq m l)
  where
    known : Known p P
    known = Known-allowed p P h.allowed

    first : unanswered P l ≡ x ∷ drop 1 (unanswered P l)
    first = unanswered-next P l x next

    in_hand : (y : ℕ × ℕ) → IsGiven P y → (e : Event) × (event_at P y.0 y.1 ≡ Some e)
    in_hand y in' = slice_get-some (accepted P y.0) y.1 (given_is_accepted p P y.0 y.1 known.facts in')

    x_in : IsGiven P x
    x_in = All-head (IsGiven P) x (drop 1 (unanswered P l)) (subst (All (IsGiven P)) first (unanswered_is_given p P l known.facts))

    -- another lane has none of that flow
    other_lane : l ≢ m → (y : ℕ × ℕ) → IsGiven P y → (is_atomic (queue_of p x.0).kind ≡ true → AreApart x.0 (held_at p P x) (held_at p P y))
        → Rises p P x y
    other_lane differs y y_in apart same atomic keeps =
        let d = in_hand x x_in in
        let e = in_hand y y_in in
        let d_is : event_at P y.0 x.1 ≡ Some d.0 = ap (λ r. event_at P r x.1) (sym same) ∙ d.1 in
        let parts = keeps_parts p y.0 d.0 e.0 atomic (keeps_events p P y.0 x.1 y.1 d.0 e.0 d_is e.1 keeps) in
        let slots : slot_at p P x.0 x.1 ≡ slot_at p P y.0 y.1 =
        ap (slot_if p x.0) d.1 ∙ (ap (λ r. slot_of p r (d.0).flow) same ∙ (ap (slot_of p y.0) parts.0 ∙ sym (ap (slot_if p y.0) e.1))) in
        absurd (apart (subst (λ r. is_atomic (queue_of p r).kind ≡ true) (sym same) atomic) refl (sym same) slots)

    by_lane : (m ≡ l) ⊎ (m ≢ l) → All (Rises p P x) (drop (done_count m (Done l o)) (unanswered P m))
    by_lane (inl same) =
        let pairs : AllPairs (Rises p P) (x ∷ drop 1 (unanswered P l)) = subst (AllPairs (Rises p P)) first (h.lanes l) in
        let one : done_count l (Done l o) ≡ 1 = ap (λ u. length (cons_option u [])) (answer_of-same l o) in
        subst (λ i. All (Rises p P x) (drop (done_count i (Done l o)) (unanswered P i))) (sym same)
        (subst (λ c. All (Rises p P x) (drop c (unanswered P l))) (sym one) (λ k d lt. pairs 0 (suc k) d (omega arith) (omega arith)))
    by_lane (inr differs) =
        All-drop (Rises p P x) (done_count m (Done l o)) (unanswered P m)
        (All-weaker_all (IsGiven P) (λ y. is_atomic (queue_of p x.0).kind ≡ true → AreApart x.0 (held_at p P x) (held_at p P y)) (Rises p P x)
        (unanswered P m)
        (unanswered_is_given p P m known.facts) (λ y in' apart. other_lane (λ e. differs (sym e)) y in' apart)
        (λ k d lt atomic. All-of_map (AreApart x.0 (held_at p P x)) (held_at p P) (unanswered P m)
        (All-head (λ (z : Held). All (AreApart x.0 z) (unanswered_slots p P m)) (held_at p P x) (map (held_at p P) (drop 1 (unanswered P l)))
        (subst (λ us. All (λ (z : Held). All (AreApart x.0 z) (unanswered_slots p P m)) (map (held_at p P) us)) first
        (known.alone x.0 atomic l m (λ e. differs (sym e))))) k d lt))

Rising-push : (p : Plan) (P : List Step) (s : Step) → Rising p P → Allowed p P s → Rising p (P ++ s ∷ [])
Rising-push p P s h a = record {
  allowed = AllowedAfter-push p [] P s h.allowed a;
  lanes =
      λ l. rw (more l) (AllPairs-drop (Rises p T) (done_count l s) (unanswered P l ++ cons_option (given_to l s) [])
      (AllPairs-option (Rises p T) (unanswered P l) (given_to l s)
      (AllPairs-weaker_all (IsGiven P) (Rises p P) (Rises p T) (unanswered P l) (unanswered_is_given p P l f) rises_stays (h.lanes l)) (new_last l)));
  answered = λ l. rw (more l) (passed s refl l);
  sources =
      λ q. rw (sources-push P q s) (All-option (IsSource T q) (sources P q) (source_in q s)
      (All-weaker (IsSource P q) (IsSource T q) (λ m k. source_stays q m k) (sources P q) (h.sources q)) (new_source q));
}
  where
    T : List Step
    T = P ++ s ∷ []

    known : Known p P
    known = Known-allowed p P h.allowed

    f : Facts p P
    f = known.facts

    more : (l : ℕ) → unanswered T l ≡ drop (done_count l s) (unanswered P l ++ cons_option (given_to l s) [])
    more l = unanswered-push P l s (f.answers l)

    rises_stays : (x y : ℕ × ℕ) → IsGiven P x → IsGiven P y → Rises p P x y → Rises p T x y
    rises_stays x y x_in y_in rises same atomic keeps =
        rises same atomic (sym (keeps_stays p P y.0 x.1 y.1 s f (subst (λ r. has x.1 (hand P r) ≡ true) same x_in) y_in) ∙ keeps)

    -- a given number is below one that the step gives
    below_new : (l : ℕ) (x : ℕ × ℕ) (m : ℕ) → given_to l s ≡ Some x → is_atomic (queue_of p x.0).kind ≡ true → has m (hand P x.0) ≡ true
        → keeps_with p T x.0 m x.1 ≡ true → m ≤ x.1
    below_new l x m e atomic in' keeps =
        let give = given_to_is l s x e in
        let may : MayGiveNumber p P l x.0 x.1 = (subst (Allowed p P) give a).needs in
        let same : (n : ℕ) → event_at T x.0 n ≡ event_at P x.0 n = λ n. event_at-none P x.0 n s (ap (accepted_in x.0) give) in
        let old : keeps_with p P x.0 m may.0.number ≡ true =
        subst (λ n. keeps_with p P x.0 m n ≡ true) (sym may.1)
        (sym (ap (λ o. keeps_some p x.0 o (event_at T x.0 x.1)) (same m) ∙ ap (keeps_some p x.0 (event_at P x.0 m)) (same x.1)) ∙ keeps) in
        let lt : m < may.0.number = given_below p P x.0 m may.0 known atomic in' may.2.once old in
        omega (arith, lt, may.1)

    new_last : (l : ℕ) (x : ℕ × ℕ) → given_to l s ≡ Some x → All (λ y. Rises p T y x) (unanswered P l)
    new_last l x e =
        All-weaker (IsGiven P) (λ y. Rises p T y x)
        (λ y in' same atomic keeps. below_new l x y.1 e atomic (subst (λ r. has y.1 (hand P r) ≡ true) same in') keeps)
        (unanswered P l) (unanswered_is_given p P l f)

    -- a pair that was there, where the same are answered
    old_stays : (y : ℕ × ℕ) → IsGiven P y → IsNotPassed p P y → (m : ℕ) → is_atomic (queue_of p y.0).kind ≡ true → is_answered P y.0 m ≡ true
        → keeps_with p T y.0 m y.1 ≡ true → m ≤ y.1
    old_stays y in' not m atomic done keeps =
        not m atomic done (sym (keeps_stays p P y.0 m y.1 s f (answered_is_given p P y.0 m f done) in') ∙ keeps)

    -- the step answers nothing, or the pair x
    quiet : ((l : ℕ) → answer_of l s ≡ None) → ends P s ≡ None → (l : ℕ) → All (IsNotPassed p T) (unanswered P l ++ cons_option (given_to l s) [])
    quiet none no_end l =
        All-option (IsNotPassed p T) (unanswered P l) (given_to l s)
        (All-weaker_all (IsGiven P) (IsNotPassed p P) (IsNotPassed p T) (unanswered P l) (unanswered_is_given p P l f)
        (λ y in' not m atomic done keeps. old_stays y in' not m atomic (sym (is_answered-none P y.0 m s no_end) ∙ done) keeps) (h.answered l))
        (λ x e m atomic done keeps. below_new l x m e atomic (answered_is_given p P x.0 m f (sym (is_answered-none P x.0 m s no_end) ∙ done)) keeps)

    left : (l : ℕ) → ((m : ℕ) → answer_of m s ≡ None) → ends P s ≡ None
        → All (IsNotPassed p T) (drop (done_count l s) (unanswered P l ++ cons_option (given_to l s) []))
    left l none no_end = All-drop (IsNotPassed p T) (done_count l s) (unanswered P l ++ cons_option (given_to l s) []) (quiet none no_end l)

    ended_in : (x : ℕ × ℕ) → ends P s ≡ Some x → has x.1 (hand P x.0) ≡ true
    ended_in x e = let done = ends_is P s x e in next_pair_is_given p P done.0 x f done.3

    -- a pair that is left when the pair x is answered
    still : (x y : ℕ × ℕ) → ends P s ≡ Some x → IsGiven P y → IsNotPassed p P y → Rises p P x y → IsNotPassed p T y
    still x y e in' not rises m atomic done keeps =
        ⊎_elim
        (λ same. let parts = is_pair_is y.0 m x same in
        let low : x.1 ≤ y.1 = rises parts.0 atomic (ap (λ n. keeps_with p P y.0 n y.1) parts.1
        ∙ (sym (keeps_stays p P y.0 m y.1 s f (subst (λ n. has n (hand P y.0) ≡ true) parts.1
        (subst (λ r. has x.1 (hand P r) ≡ true) parts.0 (ended_in x e))) in') ∙ keeps)) in
        omega (arith, low, parts.1))
        (λ other. old_stays y in' not m atomic (sym (is_answered-other P y.0 m s x e other) ∙ done) keeps)
        (cases_Bool (is_pair y.0 m x))

    answers_one : (m : ℕ) (o : Outcome) → s ≡ Done m o → (l : ℕ)
        → All (IsNotPassed p T) (drop (done_count l s) (unanswered P l ++ cons_option (given_to l s) []))
    answers_one m o is l =
        let may : Allowed p P (Done m o) = subst (Allowed p P) is a in
        let next = next_pair-some P m may.needs in
        let same : unanswered P l ++ cons_option (given_to l s) [] ≡ unanswered P l =
        ap (λ t. unanswered P l ++ cons_option (given_to l t) []) is ∙ append-nil (unanswered P l) in
        let rises : All (Rises p P next.0) (drop (done_count l s) (unanswered P l)) =
        subst (λ t. All (Rises p P next.0) (drop (done_count l t) (unanswered P l))) (sym is) (ended_rises p P m o next.0 h next.1 l) in
        let in' : All (IsGiven P) (drop (done_count l s) (unanswered P l)) = All-drop (IsGiven P) (done_count l s) (unanswered P l)
        (unanswered_is_given p P l f) in
        let not : All (IsNotPassed p P) (drop (done_count l s) (unanswered P l)) = All-drop (IsNotPassed p P) (done_count l s) (unanswered P l)
        (h.answered l) in
        subst (λ us. All (IsNotPassed p T) (drop (done_count l s) us)) (sym same)
        (λ k d lt. still next.0 (get_or (drop (done_count l s) (unanswered P l)) k d) (ap (ends P) is ∙ next.1) (in' k d lt) (not k d lt)
        (rises k d lt))

    passed : (t : Step) → s ≡ t → (l : ℕ) → All (IsNotPassed p T) (drop (done_count l s) (unanswered P l ++ cons_option (given_to l s) []))
    passed (Accept q e c) is l = left l (λ m. ap (answer_of m) is) (ap (ends P) is)
    passed (Done m o) is l = answers_one m o is l
    passed s is l = left l (λ k. ap (answer_of k) is) (ap (ends P) is)

    source_stays : (q m : ℕ) → IsSource P q m → IsSource T q m
    source_stays q m (inl done) = inl (is_answered-more P q m s done)
    source_stays q m (inr held) = by_answer (answer_of held.0 s) refl
      where
        by_answer : (o : Option Outcome) → answer_of held.0 s ≡ o → IsSource T q m
        by_answer None e = inr (held.0, next_pair-stays P held.0 s (q, m) e held.1)
        by_answer (Some o) e = inl (is_answered-same P q m s (ap (ends P) (answer_of_is held.0 s o e) ∙ held.1))

    new_source : (q n : ℕ) → source_in q s ≡ Some n → IsSource T q n
    new_source q n e =
        let accept = source_in_is q s n e in
        let may : MayAcceptOf p P accept.1 q n = (subst (Allowed p P) accept.2 a).needs in
        let once : Once P = (Single-allowed p P h.allowed).once in
        source_stays q n
        (⊎_elim (λ yes. inl yes) (λ no. ⊎_elim
        (λ none. absurd (none-some accept.1 (ap (λ es. slice_get es (length (taken P q n))) (sym none) ∙ may.origin)))
        (λ held. inr held) (once.unsent q n no)) (cases_Bool (is_answered P q n)))

Rising-allowed : (p : Plan) (T : List Step) → AllowedAfter p [] T → Rising p T
Rising-allowed p T all = AllowedAfter_keeps p (Rising p) (Rising-push p) [] T (Rising-none p) all

-- ---- what follows

-- what an atomic queue's pair that the lane answers next is passed on as may be accepted: it comes from no lower number
pub next_rises : (p : Plan) (T : List Step) (l : ℕ) (x : ℕ × ℕ) → AllowedAfter p [] T → next_pair T l ≡ Some x
    → is_atomic (queue_of p x.0).kind ≡ true
    → All (λ m. keeps_with p T x.0 m x.1 ≡ true → m ≤ x.1) (sources T x.0)
next_rises p T l x all next atomic = All-weaker (IsSource T x.0) (λ m. keeps_with p T x.0 m x.1 ≡ true → m ≤ x.1) low (sources T x.0) (h.sources x.0)
  where
    h : Rising p T
    h = Rising-allowed p T all

    first : unanswered T l ≡ x ∷ drop 1 (unanswered T l)
    first = unanswered-next T l x next

    not : IsNotPassed p T x
    not = All-head (IsNotPassed p T) x (drop 1 (unanswered T l)) (subst (All (IsNotPassed p T)) first (h.answered l))

    -- another lane's turn to answer: its pair comes no later than this one
    other_turn : (k m : ℕ) → k ≢ l → next_pair T k ≡ Some (x.0, m) → Rises p T (x.0, m) x
    other_turn k m differs at_k =
        let left : All (Rises p T (x.0, m)) (unanswered T l) =
        subst (λ c. All (Rises p T (x.0, m)) (drop c (unanswered T l))) (ap (λ o. length (cons_option o [])) (answer_of-other l k Released differs))
        (ended_rises p T k Released (x.0, m) h at_k l) in
        All-head (Rises p T (x.0, m)) x (drop 1 (unanswered T l)) (subst (All (Rises p T (x.0, m))) first left)

    low : (m : ℕ) → IsSource T x.0 m → keeps_with p T x.0 m x.1 ≡ true → m ≤ x.1
    low m (inl done) keeps = not m atomic done keeps
    low m (inr held) keeps = by_lane (cases_eq held.0 l)
      where
        by_lane : (held.0 ≡ l) ⊎ (held.0 ≢ l) → m ≤ x.1
        by_lane (inl same) =
            let this : ◌≡◌ {A = ℕ × ℕ} (x.0, m) x = same_Some (x.0, m) x (sym held.1 ∙ (ap (next_pair T) same ∙ next)) in
            omega (arith, ap (λ (y : ℕ × ℕ). y.1) this)
        by_lane (inr differs) = other_turn held.0 m differs held.1 refl atomic keeps
