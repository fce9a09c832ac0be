-- A core after a call: its view, and that what holds of each core holds of it.
use Rattle.std.proofs.Common.{◌≡◌, ◌≢◌, ℕ, ◌+◌, ◌*◌, ◌<◌, ◌≤◌, Bool, true, false, ◌^◌, List, [], ◌∷◌, ◌++◌, length, map, set, get_or, All, Contains, Some, Vec, Global, sum, sum_by, slice_get, ◌⊎◌, inl, inr, refl, sym, ap, ◌∙◌, subst, arith}
use Rattle.std.proofs.lemmas.Bool.{cases_Bool, cases_eq, cond-true, cond-false}
use Rattle.std.proofs.lemmas.List.{length-set, length-map, length_push, map-set, get_or-map, get_or-set_same, get_or-set_other, get_or_default}
use Rattle.std.proofs.lemmas.List.Elements.{All-set}
use Rattle.std.proofs.lemmas.List.Sums.{sum_by-le, sum_by-set, sum-map, get_or-le-sum_by}
use Rattle.std.proofs.lemmas.Option.{same_Some}
use Rattle.transcripts.proofs.ViewLists.{event_in_at, event_in_some}
use Rattle.lists.proofs.Sums.{sum_of_map}
use Rattle.evt_types.specs.Fault.{IsWithinLimits}
use Rattle.evt_types.specs.declared.shape.TheConstants.{MAX_ORDER, MAX_QUEUES}
use Rattle.evt_types.specs.Plan.{Plan, is_ordered, kept_room, depth_of, bound_of, lanes_of}
use Rattle.transcripts.specs.Standing.{View, event_in, inside_of, entries_of, kept_in, waiting_at, next_at, places_at, unanswered_at, after_accept}
use Rattle.evt_types.specs.Place.{Place}
use Rattle.transcripts.specs.Transcript.{Held}
use Rattle.evt_types.specs.declared.draft.QueueDraft.{QueueDraft}
use Rattle.evt_types.specs.declared.event.Event.{Event}
use Rattle.evt_types.specs.declared.event.Numbered.{Numbered}
use Rattle.order_parts.specs.Reorder.{Reordering, empty}
use Rattle.sched_core.proofs.OrderMoves.{accepted_places}
use Rattle.sched_core.specs.Inner.{IsQueueOf, HaveSlots, unplaced, slots_for}
use Rattle.order_parts.specs.Histories.{HaveRoom}
use Rattle.sched_core.specs.Ordered.{ArePlaces, kept_of, places_in}
use Rattle.order_parts.specs.Orders.{order_at}
use Rattle.order_parts.specs.Pins.{Pin}
use Rattle.sched_core.specs.Pinned.{ArePins}
use Rattle.sched_core.specs.OpenSlots.{AreOpenSlots}
use Rattle.small_set.specs.declared.set.SmallSet.{SmallSet}
use Rattle.sched_core.specs.View.{waiting_in, next_in, unanswered_in, entries_in, view_in, IsCore}
use Rattle.order_parts.specs.declared.history.Entry.{Entry}
use Rattle.order_parts.specs.History.{Entries}
use Rattle.parked_queue.specs.Waits.{Waits, AreWaits, no_waits, with_event, waits_at, all_waiting}
use Rattle.sched_core.specs.declared.state.Core.TheInside.{Inside}

-- ---- a queue and a lane that change

-- how many wait in all, with one queue changed
pub waiting_sum : (qs : List Waits) (i : ℕ) (old new : Waits) → i < length qs → old ≡ get_or qs i old → sum_by (λ (xs : List Numbered). length xs) (map waiting_in (set qs i new)) + length old.waiting ≡ sum_by (λ (xs : List Numbered). length xs) (map waiting_in qs) + length new.waiting
waiting_sum qs i old new h is =
    ap (λ n. n + length old.waiting) (sum_of_map (λ (xs : List Numbered). length xs) waiting_in (set qs i new))
    ∙ (ap (λ (q : Waits). sum_by (λ x. length (waiting_in x)) (set qs i new) + length q.waiting) is
    ∙ (sum_by-set (λ x. length (waiting_in x)) qs i new old h
    ∙ ap (λ n. n + length new.waiting) (sym (sum_of_map (λ (xs : List Numbered). length xs) waiting_in qs))))

pub next_sum : (qs : List Waits) (i : ℕ) (old new : Waits) → i < length qs → old ≡ get_or qs i old → sum (map next_in (set qs i new)) + old.next ≡ sum (map next_in qs) + new.next
next_sum qs i old new h is =
    ap (λ n. n + old.next) (sum-map next_in (set qs i new))
    ∙ (ap (λ (q : Waits). sum_by next_in (set qs i new) + q.next) is
    ∙ (sum_by-set next_in qs i new old h
    ∙ ap (λ n. n + new.next) (sym (sum-map next_in qs))))

pub held_sum : (ls : List Entries) (i : ℕ) (old new : Entries) → i < length ls → old ≡ get_or ls i old → sum_by (λ (xs : List Held). length xs) (map unanswered_in (set ls i new)) + length (unanswered_in old) ≡ sum_by (λ (xs : List Held). length xs) (map unanswered_in ls) + length (unanswered_in new)
held_sum ls i old new h is =
    ap (λ n. n + length (unanswered_in old)) (sum_of_map (λ (xs : List Held). length xs) unanswered_in (set ls i new))
    ∙ (ap (λ (l : Entries). sum_by (λ x. length (unanswered_in x)) (set ls i new) + length (unanswered_in l)) is
    ∙ (sum_by-set (λ x. length (unanswered_in x)) ls i new old h
    ∙ ap (λ n. n + length (unanswered_in new)) (sym (sum_of_map (λ (xs : List Held). length xs) unanswered_in ls))))

-- how many are kept in all, with one buffer changed
kept_sum : (rs : List Reordering) (q : ℕ) (new : Reordering) → q < length rs
    → sum_by kept_of (map places_in (set rs q new)) + kept_of (order_at rs q).places ≡ sum_by kept_of (map places_in rs) + kept_of new.places
kept_sum rs q new h =
    ap (λ n. n + kept_of (order_at rs q).places) (sum_of_map kept_of places_in (set rs q new))
    ∙ (sum_by-set (λ r. kept_of (places_in r)) rs q new (empty 0) h
    ∙ ap (λ n. n + kept_of new.places) (sym (sum_of_map kept_of places_in rs)))

pub kept_after : (a b : Inside) (q : ℕ) (new : Reordering) → b.orders ≡ set a.orders q new → q < length a.orders
    → kept_in (view_in b) + kept_of (order_at a.orders q).places ≡ kept_in (view_in a) + kept_of new.places
kept_after a b q new is h = ap (λ rs. sum_by kept_of (map places_in rs) + kept_of (order_at a.orders q).places) is ∙ kept_sum a.orders q new h

-- the view at the queue and the lane
pub places_here : (a : Inside) (q : ℕ) → IsCore a → q < length a.shape.queues → places_at (view_in a) q ≡ (order_at a.orders q).places
places_here a q core h = let count = core.places.count in get_or-map places_in a.orders q (empty 0) [] (omega arith)

pub places_there : (a : Inside) (v : View) (q : ℕ) → IsCore a → view_in a ≡ v → q < length v.shape.queues → q < length v.places
places_there a v q core same h =
    let long : length v.places ≡ length a.orders = ap (λ (u : View). length u.places) (sym same) ∙ length-map a.orders places_in in
    let queues : length v.shape.queues ≡ length a.shape.queues = ap (λ (u : View). length u.shape.queues) (sym same) in
    let count = core.places.count in
    omega arith

-- the core has the view's lanes
pub lane_there : (a : Inside) (v : View) (l : ℕ) → IsCore a → view_in a ≡ v → l < lanes_of v.shape → l < length a.lanes
lane_there a v l core same h =
    let lane : l < lanes_of a.shape = subst (λ (u : View). l < lanes_of u.shape) (sym same) h in
    omega (arith, lane, core.lanes)

pub limits_here : (a : Inside) (v : View) → IsCore a → view_in a ≡ v → IsWithinLimits v.shape
limits_here a v core same = subst (λ (u : View). IsWithinLimits u.shape) same core.limits

-- the view's queues are the core's
pub queue_there : (a : Inside) (v : View) (q : ℕ) → view_in a ≡ v → q < length v.shape.queues → q < length a.shape.queues
queue_there a v q same h = subst (λ (u : View). q < length u.shape.queues) (sym same) h

pub waiting_here : (a : Inside) (i : ℕ) (old : Waits) → i < length a.queues → old ≡ get_or a.queues i old → waiting_at (view_in a) i ≡ old.waiting
waiting_here a i old h is = get_or-map waiting_in a.queues i old [] h ∙ ap waiting_in (sym is)

pub next_here : (a : Inside) (i : ℕ) (old : Waits) → i < length a.queues → old ≡ get_or a.queues i old → next_at (view_in a) i ≡ old.next
next_here a i old h is = get_or-map next_in a.queues i old 0 h ∙ ap next_in (sym is)

pub unanswered_here : (a : Inside) (i : ℕ) (old : Entries) → i < length a.lanes → old ≡ get_or a.lanes i old → unanswered_at (view_in a) i ≡ unanswered_in old
unanswered_here a i old h is = get_or-map unanswered_in a.lanes i old [] h ∙ ap unanswered_in (sym is)

pub in_view : (a : Inside) (i : ℕ) → i < length a.lanes → i < length (map unanswered_in a.lanes)
in_view a i h = subst (λ n. i < n) (sym (length-map a.lanes unanswered_in)) h

-- the oldest event of the lane is the view's
pub first_here : (a : Inside) (i : ℕ) (old : Entries) (y : Entry) → i < length a.lanes → old ≡ get_or a.lanes i old → slice_get old.entries 0 ≡ Some y → slice_get (unanswered_at (view_in a) i) 0 ≡ Some (unplaced y)
first_here a i old y h is oldest = ap (λ us. slice_get us 0) (unanswered_here a i old h is) ∙ first_of old.entries oldest
  where
    first_of : (ys : List Entry) → slice_get ys 0 ≡ Some y → slice_get (map unplaced ys) 0 ≡ Some (unplaced y)
    first_of [] is_first = absurd cc
    first_of (x ∷ ys) is_first = let e : x ≡ y = cc in ap (λ z. Some (unplaced z)) e

pub queue_here : (a : Inside) (i : ℕ) (old : Waits) → IsCore a → i < length a.queues → old ≡ get_or a.queues i old → IsQueueOf (bound_of a.shape) old
queue_here a i old core h is = subst (IsQueueOf (bound_of a.shape)) (sym is) (core.sound i old h)

-- a list keeps what holds of each element where one is written that has the same of it
each_set : {A : Type 0} (f : A → ℕ) (g : ℕ → ℕ) (xs : List A) (i : ℕ) (old new : A) → i < length xs → old ≡ get_or xs i old → f new ≡ f old
    → ((k : ℕ) (d : A) → k < length xs → f (get_or xs k d) ≡ g k) → (k : ℕ) (d : A) → k < length (set xs i new) → f (get_or (set xs i new) k d) ≡ g k
each_set f g xs i old new h is same each k d lt = by_case (cases_eq k i)
  where
    by_case : (k ≡ i) ⊎ (k ≢ i) → f (get_or (set xs i new) k d) ≡ g k
    by_case (inl e) = ap f (ap (λ n. get_or (set xs i new) n d) e ∙ get_or-set_same xs i new d h) ∙ (same ∙ (ap f is ∙ (each i old h ∙ ap g (sym e))))
    by_case (inr differs) = ap f (get_or-set_other xs i k new d differs) ∙ each k d (subst (λ n. k < n) (length-set xs i new) lt)

-- the room of a lane whose capacity stays
pub room_set : (p : Plan) (ls : List Entries) (i : ℕ) (old new : Entries) → i < length ls → old ≡ get_or ls i old → new.capacity ≡ old.capacity → HaveRoom p ls → HaveRoom p (set ls i new)
room_set p = each_set (λ (l : Entries). l.capacity) (depth_of p)

-- the slots of a queue that keeps them
pub slots_set : (p : Plan) (qs : List Waits) (i : ℕ) (old new : Waits) → i < length qs → old ≡ get_or qs i old → new.slots ≡ old.slots → HaveSlots p qs → HaveSlots p (set qs i new)
slots_set p = each_set (λ (q : Waits). q.slots) (slots_for p)

-- ---- a core of which parts change

-- the queues of a configuration, each with its room and its slots
pub record AreQueues (p : Plan) (qs : List Waits) : Type 0 where
  pub count : length qs ≡ length p.queues
  pub sound : All (IsQueueOf (bound_of p)) qs
  pub slots : HaveSlots p qs

pub queues_here : (a : Inside) → IsCore a → AreQueues a.shape a.queues
queues_here a core = record { count = core.queues; sound = core.sound; slots = core.slots }

-- the counts are those of the view, and within their bounds
pub record AreCounts (a : Inside) : Type 0 where
  pub inside : a.inside ≡ inside_of (view_in a)
  pub within : inside_of (view_in a) ≤ bound_of a.shape
  pub entries : a.entries ≡ entries_of (view_in a)
  pub few : entries_of (view_in a) ≤ 2 ^ 63

-- with other parts that are right it is a core still
pub core_with : (a : Inside) (qs : List Waits) (rs : List Reordering) (ls : List Entries) (es : Vec ℕ Global) (ps : List (List Pin)) (n m : ℕ) (os : Vec SmallSet Global) → IsCore a → AreQueues a.shape qs
    → length ls ≡ lanes_of a.shape → HaveRoom a.shape ls → length es.items ≡ lanes_of a.shape → ArePins a.shape (map unanswered_in ls) ps → ArePlaces a.shape qs rs (map entries_in ls) es.items
    → AreOpenSlots a.shape ls os.items → AreCounts (record a { queues = qs; orders = rs; lanes = ls; extras = es; pins = ps; inside = n; entries = m })
    → IsCore (record a { queues = qs; orders = rs; lanes = ls; extras = es; pins = ps; open_slots = os; inside = n; entries = m })
core_with a qs rs ls es ps n m os core queues lanes room extras pins places open_slots counts =
    record {
      limits = core.limits;
      queues = queues.count;
      lanes = lanes;
      extras = extras;
      sound = queues.sound;
      slots = queues.slots;
      room = room;
      pins = pins;
      inside = counts.inside;
      within = counts.within;
      bound = core.bound;
      small = core.small;
      log_room = core.log_room;
      entries = counts.entries;
      few = counts.few;
      links = core.links;
      ahead = core.ahead;
      slot_lanes = core.slot_lanes;
      open_slots = open_slots;
      places = places;
    }

-- so it is with other open slots that are right
pub core_open : (a : Inside) (os : Vec SmallSet Global) → IsCore a → AreOpenSlots a.shape a.lanes os.items → IsCore (record a { open_slots = os })
core_open a os core open_slots =
    core_with a a.queues a.orders a.lanes a.extras a.pins a.inside a.entries os core (queues_here a core) core.lanes core.room core.extras core.pins core.places open_slots
    (record { inside = core.inside; within = core.within; entries = core.entries; few = core.few })

-- ---- an event is accepted

pub fits_queue : (a : Inside) (i : ℕ) (old : Waits) → IsCore a → i < length a.queues → old ≡ get_or a.queues i old → inside_of (view_in a) < bound_of a.shape → all_waiting a.queues < old.room
fits_queue a i old core h is room =
    let e : sum_by (λ (xs : List Numbered). length xs) (map waiting_in a.queues) ≡ all_waiting a.queues = sum_of_map (λ (xs : List Numbered). length xs) waiting_in a.queues in
    let cap : old.room ≡ bound_of a.shape = (queue_here a i old core h is).room in
    omega arith

pub fits_number : (a : Inside) (i : ℕ) (old : Waits) → i < length a.queues → old ≡ get_or a.queues i old → old.next ≤ entries_of (view_in a)
fits_number a i old h is =
    let le : old.next ≤ sum_by next_in a.queues = subst (λ (q : Waits). q.next ≤ sum_by next_in a.queues) (sym is) (get_or-le-sum_by next_in a.queues i old h) in
    let e : sum (map next_in a.queues) ≡ sum_by next_in a.queues = sum-map next_in a.queues in
    omega arith

-- the queue is the one that the invariant of the places speaks of
pub waits_here_is : (qs : List Waits) (i : ℕ) (old : Waits) → i < length qs → old ≡ get_or qs i old → waits_at qs i ≡ old
waits_here_is qs i old h is = get_or_default qs i (no_waits 1 0) old h ∙ sym is

pub core_accepts : (a : Inside) (i : ℕ) (old new : Waits) (e : Event) → IsCore a → inside_of (view_in a) < bound_of a.shape → entries_of (view_in a) < 2 ^ 63 → i < length a.queues → old ≡ get_or a.queues i old
    → new ≡ with_event old e → AreWaits new
    → IsCore (record a { queues = set a.queues i new; inside = a.inside + 1; entries = a.entries + 1 })
core_accepts a i old new e core fits fewer h is value waits =
    let more : length new.waiting ≡ length old.waiting + 1 = ap (λ (q : Waits). length q.waiting) value ∙ length_push old.waiting (record { number = old.next; event = e }) in
    let next : new.next ≡ old.next + 1 = ap (λ (q : Waits). q.next) value in
    let more_wait = waiting_sum a.queues i old new h is in
    let numbers = next_sum a.queues i old new h is in
    core_with a (set a.queues i new) a.orders a.lanes a.extras a.pins (a.inside + 1) (a.entries + 1) a.open_slots core
    (record {
      count = length-set a.queues i new ∙ core.queues;
      sound = All-set (IsQueueOf (bound_of a.shape)) a.queues i new (record { room = ap (λ (q : Waits). q.room) value ∙ (queue_here a i old core h is).room; waits = waits }) core.sound;
      slots = slots_set a.shape a.queues i old new h is (ap (λ (q : Waits). q.slots) value) core.slots;
    }) core.lanes core.room core.extras core.pins
    (subst (λ q. ArePlaces a.shape (set a.queues i q) a.orders (map entries_in a.lanes) a.extras.items) (ap (λ q. with_event q e) (waits_here_is a.queues i old h is) ∙ sym value)
    (accepted_places a.shape a.queues a.orders (map entries_in a.lanes) a.extras.items i e core.places (omega arith)))
    core.open_slots (record { inside = omega arith; within = omega arith; entries = omega arith; few = omega arith })

-- two views of one shape with the same parts
pub same_parts : (p : Plan) (w w' : List (List Numbered)) (n n' : List ℕ) (r r' : List (List Place)) (u u' : List (List Held)) (x x' : List ℕ) (b : Bool) → w ≡ w' → n ≡ n' → r ≡ r' → u ≡ u' → x ≡ x'
    → ◌≡◌ {A = View} (record { shape = p; waiting = w; next = n; places = r; unanswered = u; extras = x; shut = b }) (record { shape = p; waiting = w'; next = n'; places = r'; unanswered = u'; extras = x'; shut = b })
same_parts p w w' n n' r r' u u' x x' b e f g h i = cc

pub view_accepts : (a : Inside) (i : ℕ) (old new : Waits) (e : Event) → i < length a.queues → old ≡ get_or a.queues i old → new ≡ with_event old e
    → view_in (record a { queues = set a.queues i new; inside = a.inside + 1; entries = a.entries + 1 }) ≡ after_accept (view_in a) i e
view_accepts a i old new e h is value =
    same_parts a.shape _ _ _ _ (map places_in a.orders) _ (map unanswered_in a.lanes) _ a.extras.items _ a.shut
    (map-set waiting_in a.queues i new ∙ ap (set (map waiting_in a.queues) i)
    (ap (λ (q : Waits). q.waiting) value ∙ sym (ap (λ ws. ws ++ record { number = next_at (view_in a) i; event = e } ∷ []) (waiting_here a i old h is) ∙ ap (λ n. old.waiting ++ record { number = n; event = e } ∷ []) (next_here a i old h is))))
    (map-set next_in a.queues i new ∙ ap (set (map next_in a.queues) i) (ap (λ (q : Waits). q.next) value ∙ sym (ap (λ n. n + 1) (next_here a i old h is))))
    refl refl refl

-- one event more is inside, and one more accepted
pub accept_counts : (a : Inside) (i : ℕ) (old new : Waits) (e : Event) (v : View) → IsCore a → view_in a ≡ v → inside_of (view_in a) < bound_of a.shape → entries_of (view_in a) < 2 ^ 63 → i < length a.queues → old ≡ get_or a.queues i old
    → new ≡ with_event old e → AreWaits new
    → (inside_of (view_in (record a { queues = set a.queues i new; inside = a.inside + 1; entries = a.entries + 1 })) ≡ inside_of v + 1)
    × (entries_of (view_in (record a { queues = set a.queues i new; inside = a.inside + 1; entries = a.entries + 1 })) ≡ entries_of v + 1)
accept_counts a i old new e v core same fits fewer h is value waits =
    let after = core_accepts a i old new e core fits fewer h is value waits in
    (sym after.inside ∙ ap (λ n. n + 1) (core.inside ∙ ap inside_of same), sym after.entries ∙ ap (λ n. n + 1) (core.entries ∙ ap entries_of same))

-- ---- what the conditions say

-- what waits in the view waits in the queue
pub waits_here : (a : Inside) (i : ℕ) (old : Waits) (w : Numbered) → i < length a.queues → old ≡ get_or a.queues i old → Contains (waiting_at (view_in a) i) w → Contains old.waiting w
waits_here a i old w h is waits = subst (λ ws. Contains ws w) (waiting_here a i old h is) waits

-- what waits alone has its number
pub only_event : (a : Inside) (i : ℕ) (old : Waits) (w : Numbered) → IsCore a → i < length a.queues → old ≡ get_or a.queues i old → Contains (waiting_at (view_in a) i) w → All (λ (u : Numbered). u.number ≡ w.number → u.event ≡ w.event) old.waiting
only_event a i old w core h is waits k d lt same =
    let rises = (queue_here a i old core h is).waits.rising in
    let u : Numbered = get_or old.waiting k d in
    let mine : event_in old.waiting w.number ≡ Some w.event = event_in_some old.waiting w rises (waits_here a i old w h is waits) in
    let other : event_in old.waiting u.number ≡ Some u.event = event_in_at old.waiting k d rises lt in
    same_Some u.event w.event (sym other ∙ (ap (event_in old.waiting) same ∙ mine))

-- the ordered queues have no more places than this
pub few_kept : (p : Plan) → IsWithinLimits p → sum_by kept_room p.queues ≤ MAX_QUEUES * MAX_ORDER
few_kept p limits =
    let all : sum_by kept_room p.queues ≤ length p.queues * MAX_ORDER = sum_by-le kept_room MAX_ORDER p.queues (λ k d h. by_kind (get_or p.queues k d) (limits.orders k d h) (cases_Bool (is_ordered (get_or p.queues k d).kind))) in
    let few = limits.queue_count in
    omega arith
  where
    by_kind : (q : QueueDraft) → (is_ordered q.kind ≡ true → (1 ≤ q.order) × (q.order ≤ MAX_ORDER)) → (is_ordered q.kind ≡ true) ⊎ (is_ordered q.kind ≡ false) → kept_room q ≤ MAX_ORDER
    by_kind q within (inl ordered) = subst (λ n. n ≤ MAX_ORDER) (sym (cond-true (is_ordered q.kind) q.order 0 ordered)) (within ordered).1
    by_kind q within (inr plain) = subst (λ n. n ≤ MAX_ORDER) (sym (cond-false (is_ordered q.kind) q.order 0 plain)) (omega arith)
