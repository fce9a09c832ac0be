-- The view of a transcript with one more step, whatever the kinds of its queues.
use Rattle.std.proofs.Common.{◌≡◌, ◌≢◌, ℕ, ◌+◌, ◌<◌, Bool, true, false, cond, not, ◌==◌, List, [], ◌∷◌, ◌++◌, length, map, drop, set, get_or, filter, slice_get, Contains, Some, None, ◌⊎◌, inl, inr, ⊎_elim, refl, sym, ap, ◌∙◌, subst, append-nil}
use Rattle.std.specs.List.{cons_option}
use Rattle.std.proofs.lemmas.Bool.{cases_Bool, cases_eq, cond-true, cond-false, cond_both, or_right}
use Rattle.std.proofs.lemmas.List.{length_push, map-append}
use Rattle.evt_types.specs.Plan.{Plan, queue_of, lanes_of, is_ordered, queues, lanes}
use Rattle.lists.specs.Lists.{has}
use Rattle.transcripts.specs.Standing.{View, view_of, places, place_at, places_at, waiting_at, next_at, unanswered_at, extras_at, oldest_at, after_accept, after_give, after_done, after_more, places_after, places_with, add_to_place, slot_in, event_in, answer_place, answered_places, staying}
use Rattle.evt_types.specs.Place.{Place}
use Rattle.transcripts.specs.Transcript.{accepted_in, accepted, answer_of, held_at, slot_at, slot_if, open_of, is_answered, ends, sends, forwards, add_more, extras, out, answers, unanswered, unanswered_slots, next_pair, Held, hand, waiting, given_to, given_of, has_shut, is_shut}
use Rattle.evt_types.specs.declared.event.Event.{Event}
use Rattle.evt_types.specs.declared.event.Numbered.{Numbered}
use Rattle.evt_types.specs.declared.step.Outcome.{Outcome}
use Rattle.evt_types.specs.declared.step.Source.{Source}
use Rattle.evt_types.specs.declared.step.Step.{Step}
use Rattle.evt_types.specs.declared.step.Step.TheVariants.{Accept, Give, Done, More, Shut}
use Rattle.transcripts.proofs.AddedPlaces.{more_places, more_places_other}
use Rattle.transcripts.proofs.AnsweredPlaces.{places_stay, places_ordered, places_plain, done_places, done_places_other}
use Rattle.transcripts.proofs.Facts.{Facts, unanswered_is_accepted, next_pair-queue, no_forwards, not_answered}
use Rattle.lists.proofs.Lists.{map_agree}
use Rattle.transcripts.proofs.Pushes.{accepted-some, accepted-none, accepted_in-same, accepted_in-other, given_of-same, given_of-other, given_to-same, given_to-other, answer_of-same, answer_of-other, unanswered_slots-push, unanswered-next, extras-push, extras-more, extras-more_other, extras-done, extras-done_other, brings, has_shut-none, has_shut-push, slot_at-none, hand-none, forwards-none, is_answered-none, open_of-some}
use Rattle.lists.proofs.Ranges.{mapped_at, mapped_same, mapped_changed}
use Rattle.transcripts.proofs.ViewLists.{event_in_some}
use Rattle.transcripts.proofs.Waits.{waiting-none, waiting-give, waiting-accepts, waiting-rises, waiting_is_not_given, waiting_at as accepted_at}

-- ---- the parts of a view

pub waiting_of_view : (p : Plan) (T : List Step) (q : ℕ) → q < length p.queues → waiting_at (view_of p T) q ≡ waiting T q
unfolding view_of
waiting_of_view p T q h = mapped_at (waiting T) (length p.queues) q [] h

pub next_of_view : (p : Plan) (T : List Step) (q : ℕ) → q < length p.queues → next_at (view_of p T) q ≡ length (accepted T q)
unfolding view_of
next_of_view p T q h = mapped_at (λ r. length (accepted T r)) (length p.queues) q 0 h

pub places_of_view : (p : Plan) (T : List Step) (q : ℕ) → q < length p.queues → places_at (view_of p T) q ≡ places p T q
unfolding view_of
places_of_view p T q h = mapped_at (places p T) (length p.queues) q [] h

pub unanswered_of_view : (p : Plan) (T : List Step) (l : ℕ) → l < lanes_of p → unanswered_at (view_of p T) l ≡ unanswered_slots p T l
unfolding view_of
unanswered_of_view p T l h = mapped_at (unanswered_slots p T) (lanes_of p) l [] h

pub extras_of_view : (p : Plan) (T : List Step) (l : ℕ) → l < lanes_of p → extras_at (view_of p T) l ≡ length (extras T l)
unfolding view_of
extras_of_view p T l h = mapped_at (λ m. length (extras T m)) (lanes_of p) l 0 h

pub shape_of_view : (p : Plan) (T : List Step) → (view_of p T).shape ≡ p
unfolding view_of
shape_of_view p T = refl

pub shut_of_view : (p : Plan) (T : List Step) → (view_of p T).shut ≡ has_shut T
unfolding view_of
shut_of_view p T = refl

-- the lane's oldest unanswered event is that of the pair that it answers next
pub oldest_of_view : (p : Plan) (T : List Step) (l : ℕ) (x : ℕ × ℕ) → l < lanes_of p → next_pair T l ≡ Some x
    → oldest_at (view_of p T) l ≡ Some (held_at p T x)
oldest_of_view p T l x h next =
    ap (λ (hs : List Held). slice_get hs 0) (unanswered_of_view p T l h ∙ ap (map (held_at p T)) (unanswered-next T l x next))

-- two views with the same parts
same_parts : (p : Plan) (w w' : List (List Numbered)) (n n' : List ℕ) (r r' : List (List Place)) (u u' : List (List Held)) (m m' : List ℕ)
    (b b' : Bool) → w ≡ w' → n ≡ n' → r ≡ r' → u ≡ u' → m ≡ m' → b ≡ b'
    → ◌≡◌ {A = View} (record { shape = p; waiting = w; next = n; places = r; unanswered = u; extras = m; shut = b })
    (record { shape = p; waiting = w'; next = n'; places = r'; unanswered = u'; extras = m'; shut = b' })
same_parts p w w' n n' r r' u u' m m' b b' e f g h i j = cc

-- ---- what a step leaves as it was

-- a step that neither gives nor answers
same_places : (p : Plan) (P : List Step) (s : Step) → ((q : ℕ) → given_of q s ≡ None) → ends P s ≡ None → sends P s ≡ None
    → map (places p (P ++ s ∷ [])) (queues p) ≡ map (places p P) (queues p)
same_places p P s none no_end no_send =
    mapped_same (places p P) (places p (P ++ s ∷ [])) (length p.queues)
    (λ q _. places_stay p P (P ++ s ∷ []) q (hand-none P q s (none q)) (λ n. is_answered-none P q n s no_end) (λ n. forwards-none P q n s no_send))

same_waiting : (p : Plan) (P : List Step) (s : Step) → ((q : ℕ) → accepted_in q s ≡ None) → ((q : ℕ) → given_of q s ≡ None)
    → map (waiting (P ++ s ∷ [])) (queues p) ≡ map (waiting P) (queues p)
same_waiting p P s no_accept no_give = mapped_same (waiting P) (waiting (P ++ s ∷ [])) (length p.queues)
    (λ r _. waiting-none P r s (no_accept r) (no_give r))

same_next : (p : Plan) (P : List Step) (s : Step) → ((q : ℕ) → accepted_in q s ≡ None)
    → map (λ r. length (accepted (P ++ s ∷ []) r)) (queues p) ≡ map (λ r. length (accepted P r)) (queues p)
same_next p P s no_accept =
    mapped_same (λ r. length (accepted P r)) (λ r. length (accepted (P ++ s ∷ []) r)) (length p.queues)
    (λ r _. ap length (accepted-none P r s (no_accept r)))

same_lane : (p : Plan) (T : List Step) (s : Step) (l : ℕ) → Facts p T → answer_of l s ≡ None → given_to l s ≡ None
    → unanswered_slots p (T ++ s ∷ []) l ≡ unanswered_slots p T l
same_lane p T s l f no_answer no_give =
    unanswered_slots-push p T l s (f.answers l) (unanswered_is_accepted p T l f)
    ∙ (ap (λ o. drop (length (cons_option o [])) (unanswered_slots p T l ++ brings p T l s)) no_answer
    ∙ (ap (λ o. unanswered_slots p T l ++ map (held_at p (T ++ s ∷ [])) (cons_option o [])) no_give ∙ append-nil (unanswered_slots p T l)))

same_lanes : (p : Plan) (T : List Step) (s : Step) → Facts p T → ((l : ℕ) → answer_of l s ≡ None) → ((l : ℕ) → given_to l s ≡ None)
    → map (unanswered_slots p (T ++ s ∷ [])) (lanes p) ≡ map (unanswered_slots p T) (lanes p)
same_lanes p T s f no_answer no_give =
    mapped_same (unanswered_slots p T) (unanswered_slots p (T ++ s ∷ [])) (lanes_of p) (λ m _. same_lane p T s m f (no_answer m) (no_give m))

-- a step that neither answers nor adds
same_extras : (p : Plan) (T : List Step) (s : Step) → ((l : ℕ) → add_more l (extras T l) s ≡ extras T l)
    → map (λ l. length (extras (T ++ s ∷ []) l)) (lanes p) ≡ map (λ l. length (extras T l)) (lanes p)
same_extras p T s leaves =
    mapped_same (λ l. length (extras T l)) (λ l. length (extras (T ++ s ∷ []) l)) (lanes_of p) (λ l _. ap length (extras-push T l s ∙ leaves l))

-- the lane that answers
answered_lane : (p : Plan) (T : List Step) (l : ℕ) (o : Outcome) → Facts p T
    → unanswered_slots p (T ++ Done l o ∷ []) l ≡ drop 1 (unanswered_slots p T l)
answered_lane p T l o f =
    unanswered_slots-push p T l (Done l o) (f.answers l) (unanswered_is_accepted p T l f)
    ∙ (ap (λ a. drop (length (cons_option a [])) (unanswered_slots p T l ++ [])) (answer_of-same l o) ∙ ap (drop 1)
    (append-nil (unanswered_slots p T l)))

-- the lane that is given an event
holding_lane : (p : Plan) (T : List Step) (l q n : ℕ) → Facts p T
    → unanswered_slots p (T ++ Give l q n ∷ []) l ≡ unanswered_slots p T l ++ record { queue = q; number = n; slot = slot_at p (T ++ Give l q n ∷ []) q n } ∷ []
holding_lane p T l q n f =
    unanswered_slots-push p T l (Give l q n) (f.answers l) (unanswered_is_accepted p T l f)
    ∙ ap (λ o. unanswered_slots p T l ++ map (held_at p (T ++ Give l q n ∷ [])) (cons_option o [])) (given_to-same l q n)

-- the places of the queue that an event is given of
given_places : (p : Plan) (T : List Step) (l q n : ℕ) → Facts p T → has n (hand T q) ≡ false → is_ordered (queue_of p q).kind ≡ true
    → places p (T ++ Give l q n ∷ []) q ≡ places p T q ++ record { number = n; answered = false; forwards = [] } ∷ []
given_places p T l q n f fresh ordered =
    let s : Step = Give l q n in
    let S : List Step = T ++ s ∷ [] in
    let open_answers : is_answered S q n ≡ false = is_answered-none T q n s refl ∙ not_answered p T q n f fresh in
    let none : forwards S q n ≡ [] = forwards-none T q n s refl ∙ no_forwards p T q n f fresh in
    places_ordered p S q ordered
    ∙ (ap (map (place_at S q)) (open_of-some T q s n (given_of-same l q n) refl (not_answered p T q n f fresh))
    ∙ (map-append (place_at S q) (open_of T q) (n ∷ [])
    ∙ (ap (λ ps. ps ++ place_at S q n ∷ []) (map_agree (place_at S q) (place_at T q) (open_of T q) (λ k d lt. old (get_or (open_of T q) k d)) ∙ sym
    (places_ordered p T q ordered))
    ∙ (ap (λ b. places p T q ++ record { number = n; answered = b; forwards = forwards S q n } ∷ []) open_answers
    ∙ ap (λ es. places p T q ++ record { number = n; answered = false; forwards = es } ∷ []) none))))
  where
    old : (m : ℕ) → place_at (T ++ Give l q n ∷ []) q m ≡ place_at T q m
    old m =
        ap (λ b. record { number = m; answered = b; forwards = forwards (T ++ Give l q n ∷ []) q m }) (is_answered-none T q m (Give l q n) refl)
        ∙ ap (λ es. record { number = m; answered = is_answered T q m; forwards = es }) (forwards-none T q m (Give l q n) refl)

-- ---- one step more

-- an event is accepted, of whatever source
pub view_accept : (p : Plan) (T : List Step) (q : ℕ) (e : Event) (c : Source) → Facts p T → q < length p.queues
    → view_of p (T ++ Accept q e c ∷ []) ≡ after_accept (view_of p T) q e
unfolding view_of
view_accept p T q e c f h =
    let s : Step = Accept q e c in
    same_parts p _ _ _ _ _ _ _ _ _ _ _ _
    (mapped_changed (waiting T) (waiting (T ++ s ∷ [])) (length p.queues) q
    (waiting_at (view_of p T) q ++ record { number = next_at (view_of p T) q; event = e } ∷ []) h
    (waiting-accepts T q s e (f.given q) (accepted_in-same q e c) refl
    ∙ sym (ap (λ ws. ws ++ record { number = next_at (view_of p T) q; event = e } ∷ []) (waiting_of_view p T q h) ∙ ap
    (λ n. waiting T q ++ record { number = n; event = e } ∷ []) (next_of_view p T q h)))
    (λ r differs. waiting-none T r s (accepted_in-other r q e c (λ same. differs (sym same))) refl))
    (mapped_changed (λ r. length (accepted T r)) (λ r. length (accepted (T ++ s ∷ []) r)) (length p.queues) q (next_at (view_of p T) q + 1) h
    (ap length (accepted-some T q s e (accepted_in-same q e c)) ∙ (length_push (accepted T q) e ∙ sym (ap (λ n. n + 1) (next_of_view p T q h))))
    (λ r differs. ap length (accepted-none T r s (accepted_in-other r q e c (λ same. differs (sym same))))))
    (same_places p T s (λ r. refl) refl refl)
    (same_lanes p T s f (λ m. refl) (λ m. refl))
    (same_extras p T s (λ m. refl))
    (has_shut-none T s refl)

pub view_give : (p : Plan) (T : List Step) (l q : ℕ) (w : Numbered) → Facts p T → l < lanes_of p → q < length p.queues → Contains (waiting T q) w
    → view_of p (T ++ Give l q w.number ∷ []) ≡ after_give (view_of p T) l q w.number
unfolding view_of
view_give p T l q w f in_lanes h c =
    same_parts p _ _ _ _ _ _ _ _ _ _ _ _
    (mapped_changed (waiting T) (waiting S) (length p.queues) q (filter (λ (u : Numbered). not (u.number == n)) (waiting_at v q)) h
    (waiting-give T l q n ∙ sym (ap (filter (λ (u : Numbered). not (u.number == n))) (waiting_of_view p T q h)))
    (λ r differs. waiting-none T r s refl (given_of-other l r q n (λ same. differs (sym same)))))
    (same_next p T s (λ r. refl))
    (by_kind (cases_Bool (is_ordered (queue_of p q).kind)))
    (mapped_changed (unanswered_slots p T) (unanswered_slots p S) (lanes_of p) l (unanswered_at v l ++ held ∷ []) in_lanes
    (holding_lane p T l q n f
    ∙ (ap (λ i. unanswered_slots p T l ++ record { queue = q; number = n; slot = i } ∷ [])
    (slot_at-none p T q n s refl ∙ (ap (slot_if p q) (accepted_at T q w c) ∙ sym (ap (slot_in v q) waits)))
    ∙ sym (ap (λ us. us ++ held ∷ []) (unanswered_of_view p T l in_lanes))))
    (λ m differs. same_lane p T s m f refl (given_to-other m l q n (λ same. differs (sym same)))))
    (same_extras p T s (λ m. refl))
    (has_shut-none T s refl)
  where
    n : ℕ
    n = w.number

    s : Step
    s = Give l q n

    S : List Step
    S = T ++ s ∷ []

    v : View
    v = view_of p T

    waits : event_in (waiting_at v q) n ≡ Some w.event
    waits = ap (λ ws. event_in ws n) (waiting_of_view p T q h) ∙ event_in_some (waiting T q) w (waiting-rises T q) c

    held : Held
    held = record { queue = q; number = n; slot = slot_in v q (event_in (waiting_at v q) n) }

    new : Place
    new = record { number = n; answered = false; forwards = [] }

    other_places : (r : ℕ) → q ≢ r → places p S r ≡ places p T r
    other_places r differs = places_stay p T S r (hand-none T r s (given_of-other l r q n differs)) (λ m. is_answered-none T r m s refl)
        (λ m. forwards-none T r m s refl)

    by_kind : (is_ordered (queue_of p q).kind ≡ true) ⊎ (is_ordered (queue_of p q).kind ≡ false)
        → map (places p S) (queues p) ≡ cond (is_ordered (queue_of p q).kind) (set (map (places p T) (queues p)) q (places_at v q ++ new ∷ []))
        (map (places p T) (queues p))
    by_kind (inl ordered) =
        mapped_changed (places p T) (places p S) (length p.queues) q (places_at v q ++ new ∷ []) h
        (given_places p T l q n f (waiting_is_not_given T q w c) ordered ∙ ap (λ ps. ps ++ new ∷ []) (sym (places_of_view p T q h)))
        (λ r differs. other_places r (λ same. differs (sym same)))
        ∙ sym (cond-true (is_ordered (queue_of p q).kind) (set (map (places p T) (queues p)) q (places_at v q ++ new ∷ []))
        (map (places p T) (queues p)) ordered)
    by_kind (inr plain) =
        mapped_same (places p T) (places p S) (length p.queues)
        (λ r _. ⊎_elim (λ same. subst (λ k. places p S k ≡ places p T k) same (places_plain p S q plain ∙ sym (places_plain p T q plain)))
        (λ differs. other_places r differs) (cases_eq q r))
        ∙ sym (cond-false (is_ordered (queue_of p q).kind) (set (map (places p T) (queues p)) q (places_at v q ++ new ∷ []))
        (map (places p T) (queues p)) plain)

-- a step that changes the places of one queue alone, where that restores an order
one_queues_places : (p : Plan) (T S : List Step) (q : ℕ) (rest : List Place) → q < length p.queues
    → (is_ordered (queue_of p q).kind ≡ true → places p S q ≡ rest) → ((r : ℕ) → q ≢ r → places p S r ≡ places p T r)
    → map (places p S) (queues p) ≡ cond (is_ordered (queue_of p q).kind) (set (map (places p T) (queues p)) q rest) (map (places p T) (queues p))
one_queues_places p T S q rest there here others = by_kind (cases_Bool (is_ordered (queue_of p q).kind))
  where
    changed : List (List Place)
    changed = set (map (places p T) (queues p)) q rest

    by_kind : (is_ordered (queue_of p q).kind ≡ true) ⊎ (is_ordered (queue_of p q).kind ≡ false)
        → map (places p S) (queues p) ≡ cond (is_ordered (queue_of p q).kind) changed (map (places p T) (queues p))
    by_kind (inl ordered) =
        mapped_changed (places p T) (places p S) (length p.queues) q rest there (here ordered) (λ r differs. others r (λ same. differs (sym same)))
        ∙ sym (cond-true (is_ordered (queue_of p q).kind) changed (map (places p T) (queues p)) ordered)
    by_kind (inr plain) =
        mapped_same (places p T) (places p S) (length p.queues)
        (λ r _. ⊎_elim (λ same. subst (λ k. places p S k ≡ places p T k) same (places_plain p S q plain ∙ sym (places_plain p T q plain)))
        (others r) (cases_eq q r))
        ∙ sym (cond-false (is_ordered (queue_of p q).kind) changed (map (places p T) (queues p)) plain)

-- the lane's oldest event is answered
pub view_done : (p : Plan) (T : List Step) (l : ℕ) (o : Outcome) (x : ℕ × ℕ) → Facts p T → l < lanes_of p → next_pair T l ≡ Some x
    → view_of p (T ++ Done l o ∷ []) ≡ after_done (view_of p T) l o
unfolding view_of
view_done p T l o x f h next =
    same_parts p _ _ _ _ _ _ _ _ _ _ _ _
    (same_waiting p T s (λ r. refl) (λ r. refl))
    (same_next p T s (λ r. refl))
    (changed ∙ ap (λ a. places_after v a o) (sym (oldest_of_view p T l x h next)))
    (mapped_changed (unanswered_slots p T) (unanswered_slots p S) (lanes_of p) l (drop 1 (unanswered_at v l)) h
    (answered_lane p T l o f ∙ sym (ap (drop 1) (unanswered_of_view p T l h)))
    (λ m differs. same_lane p T s m f (answer_of-other m l o (λ same. differs (sym same))) refl))
    (mapped_changed (λ m. length (extras T m)) (λ m. length (extras S m)) (lanes_of p) l 0 h (ap length (extras-done T l o))
    (λ m differs. ap length (extras-done_other T m l o (λ same. differs (sym same)))))
    (has_shut-none T s refl)
  where
    s : Step
    s = Done l o

    S : List Step
    S = T ++ s ∷ []

    v : View
    v = view_of p T

    there : x.0 < length p.queues
    there = next_pair-queue p T l x f next

    rest : List Place
    rest = staying (answered_places v x.0 x.1 o)

    changed : map (places p S) (queues p) ≡ cond (is_ordered (queue_of p x.0).kind) (set (map (places p T) (queues p)) x.0 rest)
        (map (places p T) (queues p))
    changed =
        one_queues_places p T S x.0 rest there
        (λ ordered. done_places p T l o x next ordered ∙ ap (λ ps. staying (map (answer_place x.1 o) ps)) (sym (places_of_view p T x.0 there)))
        (λ r differs. done_places_other p T l o x r next differs)

-- an event is added beside the lane's oldest
pub view_more : (p : Plan) (T : List Step) (l : ℕ) (e : Event) (x : ℕ × ℕ) → Facts p T → l < lanes_of p → next_pair T l ≡ Some x
    → view_of p (T ++ More l e ∷ []) ≡ after_more (view_of p T) l e
unfolding view_of
view_more p T l e x f h next =
    same_parts p _ _ _ _ _ _ _ _ _ _ _ _
    (same_waiting p T s (λ r. refl) (λ r. refl))
    (same_next p T s (λ r. refl))
    (changed ∙ ap (λ a. places_with v a e) (sym (oldest_of_view p T l x h next)))
    (same_lanes p T s f (λ m. refl) (λ m. refl))
    (mapped_changed (λ m. length (extras T m)) (λ m. length (extras S m)) (lanes_of p) l (extras_at v l + 1) h
    (ap length (extras-more T l e) ∙ (length_push (extras T l) e ∙ sym (ap (λ n. n + 1) (extras_of_view p T l h))))
    (λ m differs. ap length (extras-more_other T m l e (λ same. differs (sym same)))))
    (has_shut-none T s refl)
  where
    s : Step
    s = More l e

    S : List Step
    S = T ++ s ∷ []

    v : View
    v = view_of p T

    there : x.0 < length p.queues
    there = next_pair-queue p T l x f next

    grown : List Place
    grown = map (add_to_place x.1 e) (places_at v x.0)

    changed : map (places p S) (queues p) ≡ cond (is_ordered (queue_of p x.0).kind) (set (map (places p T) (queues p)) x.0 grown)
        (map (places p T) (queues p))
    changed =
        one_queues_places p T S x.0 grown there
        (λ ordered. more_places p T l e x next ordered ∙ ap (map (add_to_place x.1 e)) (sym (places_of_view p T x.0 there)))
        (λ r differs. more_places_other p T l e x r next differs)

-- a step that neither brings nor ends an event
pub view_same : (p : Plan) (T : List Step) (s : Step) → Facts p T → ((q : ℕ) → accepted_in q s ≡ None) → ((q : ℕ) → given_of q s ≡ None)
    → ends T s ≡ None → sends T s ≡ None → ((l : ℕ) → answer_of l s ≡ None) → ((l : ℕ) → given_to l s ≡ None)
    → ((l : ℕ) → add_more l (extras T l) s ≡ extras T l) → is_shut s ≡ false → view_of p (T ++ s ∷ []) ≡ view_of p T
unfolding view_of
view_same p T s f no_accept no_number no_end no_send no_answer no_give no_more no_shut =
    same_parts p _ _ _ _ _ _ _ _ _ _ _ _ (same_waiting p T s no_accept no_number) (same_next p T s no_accept) (same_places p T s no_number no_end no_send)
    (same_lanes p T s f no_answer no_give) (same_extras p T s no_more) (has_shut-none T s no_shut)

pub view_shut : (p : Plan) (T : List Step) → Facts p T → view_of p (T ++ Shut ∷ []) ≡ record (view_of p T) { shut = true }
unfolding view_of
view_shut p T f =
    same_parts p _ _ _ _ _ _ _ _ _ _ _ _ (same_waiting p T Shut (λ q. refl) (λ q. refl)) (same_next p T Shut (λ q. refl))
    (same_places p T Shut (λ q. refl) refl refl)
    (same_lanes p T Shut f (λ l. refl) (λ l. refl)) (same_extras p T Shut (λ l. refl)) (has_shut-push T Shut ∙ or_right (has_shut T) true refl)

-- ---- nothing has happened

pub waiting_at_none : (q : ℕ) → waiting [] q ≡ []
unfolding waiting accepted
waiting_at_none q = refl

pub accepted_at_none : (q : ℕ) → accepted [] q ≡ []
unfolding accepted
accepted_at_none q = refl

pub places_at_none : (p : Plan) (q : ℕ) → places p [] q ≡ []
unfolding open_of hand
places_at_none p q = cond_both (is_ordered (queue_of p q).kind) [] [] (λ ps. ps ≡ []) (λ _. refl) (λ _. refl)

pub unanswered_at_none : (p : Plan) (l : ℕ) → unanswered_slots p [] l ≡ []
unfolding unanswered out answers
unanswered_at_none p l = refl

pub extras_at_none : (l : ℕ) → extras [] l ≡ []
unfolding extras
extras_at_none l = refl
