-- How many steps a reply takes: two at most beside the kept events that leave. And how many events are kept: no more than five for
-- each place of the ordered queues.
use Rattle.std.proofs.Common.{◌≡◌, ◌≢◌, ℕ, suc, ◌+◌, ◌*◌, ◌<◌, ◌≤◌, Bool, true, false, cond, ◌==◌, List, [], ◌∷◌, ◌++◌, length, map, drop, set, flat_map, get_or, All, AllPairs, Contains, Option, Some, None, sum_by, ◌⊎◌, inl, inr, refl, sym, ap, ◌∙◌, arith}
use Rattle.std.specs.List.{prefix_len}
use Rattle.std.proofs.lemmas.Bool.{cases_eq, cond-true, cond-false, false≢true}
use Rattle.std.proofs.lemmas.List.{length-append, length_push, length-map, length-take-le}
use Rattle.std.proofs.lemmas.List.Concat.{length-flat_map}
use Rattle.std.proofs.lemmas.List.Elements.{All-head, All-tail}
use Rattle.std.proofs.lemmas.List.FromFn.{length-map-range_with_len}
use Rattle.std.proofs.lemmas.List.Sums.{prefix_len-le-length, sum_by-cons, sum_by-le, sum_by-set, sum_by-take-drop}
use Rattle.std.proofs.lemmas.Option.{slice_get_within, get_or_from_slice_get}
use Rattle.evt_types.specs.Plan.{queue_of, lanes_of, is_ordered, kept_room}
use Rattle.transcripts.specs.Standing.{View, Stands, view_of, places, places_at, unanswered_at, oldest_at, kept_in, events_of, answer_place, answered_places, leaving, staying, accepts_from, accepts_of, answer_steps, more_steps, added_of, add_to_place, steps_by, steps_of, places_after, places_with, after_done, after_more, after_step, after}
use Rattle.evt_types.specs.Place.{Place}
use Rattle.transcripts.specs.Transcript.{Held, is_from_of}
use Rattle.evt_types.specs.declared.draft.QueueDraft.{QueueDraft}
use Rattle.evt_types.specs.declared.event.Event.{Event}
use Rattle.evt_types.specs.declared.event.TheConstants.{MAX_FORWARDS}
use Rattle.evt_types.specs.declared.event.Kind.TheVariants.{Parallel}
use Rattle.evt_types.specs.declared.event.Op.{Op}
use Rattle.evt_types.specs.declared.event.Op.TheVariants as ops
use Rattle.evt_types.specs.declared.step.Outcome.{Outcome}
use Rattle.evt_types.specs.declared.step.Outcome.TheVariants.{Forwarded, Released}
use Rattle.evt_types.specs.declared.step.Source.TheVariants.{New, Of}
use Rattle.evt_types.specs.declared.step.Step.{Step}
use Rattle.evt_types.specs.declared.step.Step.TheVariants.{Accept, Give, Done, More, Turned, Bounced, Shut}
use Rattle.transcripts.proofs.AnsweredPlaces.{places_plain}
use Rattle.transcripts.proofs.PlaceFacts.{ChangesOnly, Differ, add_only, answer_only, changes_none, places_differ, place_forwards, places_fit, held_has_place}
use Rattle.transcripts.proofs.Pushes.{events_few}
use Rattle.transcripts.proofs.Replies.{accepts_of-of, added_of-of}
use Rattle.lists.proofs.Sums.{sum_agree}
use Rattle.transcripts.proofs.WholeStands.{places_is}

-- ---- sums

-- each term is at most the one at its place in the other list
sums_below : {X Y : Type 0} (f : X → ℕ) (g : Y → ℕ) (d : X) (e : Y) (xs : List X) (ys : List Y) → length xs ≡ length ys
    → ((k : ℕ) → k < length xs → f (get_or xs k d) ≤ g (get_or ys k e)) → sum_by f xs ≤ sum_by g ys
sums_below f g d e [] ys same below = omega arith
sums_below f g d e (x ∷ xs) [] same below = absurd (omega (arith, same))
sums_below f g d e (x ∷ xs) (y ∷ ys) same below =
    let rest = sums_below f g d e xs ys (omega (arith, same)) (λ k lt. below (suc k) (omega arith)) in
    let here : f x ≤ g y = below 0 (omega arith) in
    omega (arith, sum_by-cons f x xs, sum_by-cons g y ys)

-- each term a number of times
sum_times : {X : Type 0} (c : ℕ) (f : X → ℕ) (xs : List X) → sum_by (λ x. c * f x) xs ≡ c * sum_by f xs
sum_times c f [] = omega arith
sum_times c f (x ∷ xs) =
    let both : c * sum_by f (x ∷ xs) ≡ c * (f x + sum_by f xs) = ap (λ n. c * n) (sum_by-cons f x xs) in
    omega (arith, sum_by-cons (λ y. c * f y) x xs, both, sum_times c f xs)

-- ---- what places were passed on as

abbrev sent_as : Place → ℕ
sent_as x = length x.forwards

abbrev sent_by : List Place → ℕ
sent_by ps = sum_by sent_as ps

-- the places that leave, and those that stay
left_and_stayed : (ps : List Place) → sent_by (leaving ps) + sent_by (staying ps) ≡ sent_by ps
left_and_stayed ps =
    let k : ℕ = prefix_len (λ (x : Place). x.answered) ps in
    let same : length (leaving ps) ≡ k = length-take-le k ps (prefix_len-le-length (λ (x : Place). x.answered) ps) in
    ap (λ n. sent_by (leaving ps) + sent_by (drop n ps)) same ∙ sum_by-take-drop sent_as ps k

-- an event is accepted for each that the places were passed on as
accepts_count : (q : ℕ) (ps : List Place) → length (flat_map (λ (x : Place). accepts_from q x.number x.forwards) ps) ≡ sent_by ps
accepts_count q ps =
    length-flat_map (λ (x : Place). accepts_from q x.number x.forwards) ps
    ∙ sum_agree (λ (x : Place). length (accepts_from q x.number x.forwards)) sent_as ps (λ k d lt. length-map (get_or ps k d).forwards _)

-- where of places with different numbers one changes, which one event more at most was passed on as
changed_few : (n : ℕ) (f g : Place → Place) (ps : List Place) → ChangesOnly n f g → ((x : Place) → sent_as (g x) ≤ sent_as x + 1) → AllPairs Differ ps
    → sent_by (map f ps) ≤ sent_by ps + 1
changed_few n f g [] only one differ = omega arith
changed_few n f g (x ∷ ps) only one differ =
    by_number (changed_few n f g ps only one (λ i j d lt within. differ (suc i) (suc j) d (omega arith) (omega arith))) (cases_eq x.number n)
  where
    by_number : sent_by (map f ps) ≤ sent_by ps + 1 → (x.number ≡ n) ⊎ (x.number ≢ n) → sent_by (map f (x ∷ ps)) ≤ sent_by (x ∷ ps) + 1
    by_number more (inl is) =
        let others : map f ps ≡ ps = changes_none n f g ps only (λ k d lt e. differ 0 (suc k) d (omega arith) (omega arith) (is ∙ sym e)) in
        omega (arith, sum_by-cons sent_as (f x) (map f ps), ap sent_as (only.here x is), one x, ap sent_by others, sum_by-cons sent_as x ps)
    by_number more (inr other) =
        omega (arith, sum_by-cons sent_as (f x) (map f ps), ap sent_as (only.others x other), more, sum_by-cons sent_as x ps)

-- an answer adds one event at most
answered_few : (n : ℕ) (o : Outcome) (ps : List Place) → AllPairs Differ ps → sent_by (map (answer_place n o) ps) ≤ sent_by ps + 1
answered_few n o ps differ =
    changed_few n (answer_place n o) _ ps (answer_only n o) (λ x. omega (arith, length-append x.forwards (events_of o), events_few o)) differ

-- and so does an addition
added_few : (n : ℕ) (e : Event) (ps : List Place) → AllPairs Differ ps → sent_by (map (add_to_place n e) ps) ≤ sent_by ps + 1
added_few n e ps differ = changed_few n (add_to_place n e) _ ps (add_only n e) (λ x. omega (arith, length_push x.forwards e)) differ

-- ---- what is kept

-- an event that was passed on and is accepted leaves the places as they are
accept_keeps : (v : View) (s : Step) → is_from_of s ≡ true → (after_step v s).places ≡ v.places
accept_keeps v (Give l q n) h = absurd (false≢true h)
accept_keeps v (Done l o) h = absurd (false≢true h)
accept_keeps v (More l e) h = absurd (false≢true h)
accept_keeps v s h = refl

accepts_keep : (v : View) (steps : List Step) → All (λ s. is_from_of s ≡ true) steps → (after v steps).places ≡ v.places
accepts_keep v [] all = refl
accepts_keep v (s ∷ steps) all =
    accepts_keep (after_step v s) steps (All-tail (λ t. is_from_of t ≡ true) s steps all)
    ∙ accept_keeps v s (All-head (λ t. is_from_of t ≡ true) s steps all)

-- ---- what the bounds need of a view

-- An ordered queue has no more places than its order, of different numbers, each passed on as five events at most; another has none.
-- What a lane's oldest event is to answer is of a queue that is there.
pub record AreSound (v : View) : Type 0 where
  pub long : length v.places ≡ length v.shape.queues
  pub differ : (q : ℕ) → q < length v.shape.queues → AllPairs Differ (places_at v q)
  pub few : (q : ℕ) → q < length v.shape.queues → All (λ (x : Place). length x.forwards ≤ MAX_FORWARDS) (places_at v q)
  pub fit : (q : ℕ) → q < length v.shape.queues → length (places_at v q) ≤ kept_room (queue_of v.shape q)
  pub there : (l : ℕ) (h : Held) → l < lanes_of v.shape → is_ordered (queue_of v.shape h.queue).kind ≡ true → oldest_at v l ≡ Some h → h.queue < length v.shape.queues

-- no more events are kept than five for each place of the ordered queues
pub sound_kept : (v : View) → AreSound v → kept_in v ≤ MAX_FORWARDS * sum_by kept_room v.shape.queues
sound_kept v sound =
    let most : kept_in v ≤ sum_by (λ (q : QueueDraft). MAX_FORWARDS * kept_room q) v.shape.queues =
    sums_below sent_by (λ (q : QueueDraft). MAX_FORWARDS * kept_room q) []
    (record { kind = Parallel; priority = 0; slots = 0; order = 0; single = false }) v.places v.shape.queues sound.long
    (λ q lt. let there : q < length v.shape.queues = omega (arith, sound.long) in
    omega (arith, sum_by-le sent_as MAX_FORWARDS (places_at v q) (sound.few q there), sound.fit q there)) in
    omega (arith, most, sum_times MAX_FORWARDS kept_room v.shape.queues)

-- ---- the steps of a reply

-- the lane's oldest event is answered
answer_few : (v : View) (l : ℕ) (o : Outcome) → AreSound v → l < lanes_of v.shape
    → length (answer_steps v l o) + kept_in (after v (answer_steps v l o)) ≤ kept_in v + 2
answer_few v l o sound lane =
    omega (
      arith,
      ap (sum_by sent_by) (accepts_keep (after_done v l o) (accepts_of v (oldest_at v l) o) (accepts_of-of v (oldest_at v l) o)),
      by_oldest (oldest_at v l) refl,
    )
  where
    -- of an ordered queue: its places that leave are accepted, and the others stay
    restored : (h : Held) → oldest_at v l ≡ Some h → is_ordered (queue_of v.shape h.queue).kind ≡ true
        → length (flat_map (λ (x : Place). accepts_from h.queue x.number x.forwards) (leaving (answered_places v h.queue h.number o)))
        + sum_by sent_by (set v.places h.queue (staying (answered_places v h.queue h.number o))) ≤ kept_in v + 1
    restored h is ordered =
        let there : h.queue < length v.shape.queues = sound.there l h lane ordered is in
        let answered : List Place = answered_places v h.queue h.number o in
        omega (
          arith,
          accepts_count h.queue (leaving answered),
          sum_by-set sent_by v.places h.queue (staying answered) [] (omega (arith, sound.long)),
          left_and_stayed answered,
          answered_few h.number o (places_at v h.queue) (sound.differ h.queue there),
        )

    by_oldest : (h : Option Held) → oldest_at v l ≡ h → length (accepts_of v h o) + sum_by sent_by (places_after v h o) ≤ kept_in v + 1
    by_oldest None is = omega arith
    by_oldest (Some h) is = by_kind (is_ordered (queue_of v.shape h.queue).kind) refl
      where
        accepts : List Step
        accepts = flat_map (λ (x : Place). accepts_from h.queue x.number x.forwards) (leaving (answered_places v h.queue h.number o))

        stays : List (List Place)
        stays = set v.places h.queue (staying (answered_places v h.queue h.number o))

        by_kind : (b : Bool) → is_ordered (queue_of v.shape h.queue).kind ≡ b
            → length (cond b accepts (accepts_from h.queue h.number (events_of o))) + sum_by sent_by (cond b stays v.places) ≤ kept_in v + 1
        by_kind true ordered = restored h is ordered
        by_kind false plain = omega (arith, length-map (events_of o) (λ (e : Event). Accept e.queue e (Of h.queue h.number)), events_few o)

-- an event is added: it goes into a place, or it is accepted
more_few : (v : View) (l : ℕ) (e : Event) → AreSound v → l < lanes_of v.shape
    → length (more_steps v l e) + kept_in (after v (more_steps v l e)) ≤ kept_in v + 2
more_few v l e sound lane =
    omega (
      arith,
      ap (sum_by sent_by) (accepts_keep (after_more v l e) (added_of v (oldest_at v l) e) (added_of-of v (oldest_at v l) e)),
      by_oldest (oldest_at v l) refl,
    )
  where
    by_oldest : (h : Option Held) → oldest_at v l ≡ h → length (added_of v h e) + sum_by sent_by (places_with v h e) ≤ kept_in v + 1
    by_oldest None is = omega arith
    by_oldest (Some h) is = by_kind (is_ordered (queue_of v.shape h.queue).kind) refl
      where
        by_kind : (b : Bool) → is_ordered (queue_of v.shape h.queue).kind ≡ b → length (cond b [] (accepts_from h.queue h.number (e ∷ [])))
            + sum_by sent_by (cond b (set v.places h.queue (map (add_to_place h.number e) (places_at v h.queue))) v.places) ≤ kept_in v + 1
        by_kind true ordered =
            let there : h.queue < length v.shape.queues = sound.there l h lane ordered is in
            let grown : List Place = map (add_to_place h.number e) (places_at v h.queue) in
            omega (
              arith,
              sum_by-set sent_by v.places h.queue grown [] (omega (arith, sound.long)),
              added_few h.number e (places_at v h.queue) (sound.differ h.queue there),
            )
        by_kind false plain = omega arith

reply_few : (v : View) (l : ℕ) (e : Event) → AreSound v → l < lanes_of v.shape → (o : Op)
    → length (steps_by o v l e) + kept_in (after v (steps_by o v l e)) ≤ kept_in v + 2
reply_few v l e sound lane ops.New = by_shut v.shut
  where
    by_shut : (b : Bool)
        → length (cond b (Turned l e ∷ []) (Accept e.queue e (New l) ∷ [])) + kept_in (after v (cond b (Turned l e ∷ []) (Accept e.queue e (New l) ∷ [])))
        ≤ kept_in v + 2
    by_shut true = omega arith
    by_shut false = omega arith
reply_few v l e sound lane ops.Forward = answer_few v l (Forwarded e) sound lane
reply_few v l e sound lane ops.Release = answer_few v l Released sound lane
reply_few v l e sound lane ops.ForwardMore = more_few v l e sound lane

-- the steps of a reply and the events that are kept after them are two at most beside those that were kept
pub sound_steps : (v : View) (l : ℕ) (e : Event) → AreSound v → l < lanes_of v.shape
    → length (steps_of v l e) + kept_in (after v (steps_of v l e)) ≤ kept_in v + 2
sound_steps v l e sound lane = reply_few v l e sound lane e.op

-- ---- a view that stands at a transcript

places_long : (v : View) (T : List Step) → Stands T v → length v.places ≡ length v.shape.queues
unfolding view_of
places_long v T stands =
    ap (λ (u : View). length u.places) stands.holds ∙ length-map-range_with_len (places v.shape T) 0 (length v.shape.queues)

stands_fit : (v : View) (T : List Step) (q : ℕ) → Stands T v → q < length v.shape.queues → (b : Bool) → is_ordered (queue_of v.shape q).kind ≡ b
    → length (places_at v q) ≤ cond b (queue_of v.shape q).order 0
stands_fit v T q stands h true ordered = places_fit v T q stands h ordered
stands_fit v T q stands h false plain = omega (arith, ap length (places_is v T q stands h ∙ places_plain v.shape T q plain))

stands_sound : (v : View) (T : List Step) → Stands T v → AreSound v
stands_sound v T stands =
    record {
      long = places_long v T stands;
      differ = λ q h. places_differ v T q stands h;
      few = λ q h k d lt. (place_forwards v T q stands h k d lt).0;
      fit = λ q h. stands_fit v T q stands h (is_ordered (queue_of v.shape q).kind) refl;
      there = λ l h lane ordered is.
          let oldest : Contains (unanswered_at v l) h = (0, slice_get_within (unanswered_at v l) 0 h is, get_or_from_slice_get (unanswered_at v l) 0 h h is) in
          (held_has_place v T l h stands lane oldest ordered).0;
    }

pub kept_fit : (v : View) (T : List Step) → Stands T v → kept_in v ≤ MAX_FORWARDS * sum_by kept_room v.shape.queues
kept_fit v T stands = sound_kept v (stands_sound v T stands)

pub steps_fit : (v : View) (T : List Step) (l : ℕ) (e : Event) → Stands T v → l < lanes_of v.shape
    → length (steps_of v l e) + kept_in (after v (steps_of v l e)) ≤ kept_in v + 2
steps_fit v T l e stands lane = sound_steps v l e (stands_sound v T stands) lane
