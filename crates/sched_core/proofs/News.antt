-- A core in which nothing has happened.
use Rattle.std.proofs.Common.{◌≡◌, ℕ, ◌+◌, ◌<◌, ◌≤◌, ◌^◌, false, true, Bool, cond, List, [], ◌∷◌, ◌++◌, length, map, replicate, All, get_or, Option, Vec, Global, refl, sym, ap, ◌∙◌, subst, arith}
use Rattle.std.proofs.lemmas.List.{get_or-map, get_or-replicate, length-map, length-replicate, map-append}
use Rattle.std.proofs.lemmas.List.Elements.{All-nil, All-map, All-weaker}
use Rattle.std.proofs.lemmas.List.FromFn.{fill_by_all, length-map-range_with_len}
use Rattle.std.proofs.lemmas.List.Sums.{sum-map}
use Rattle.std.specs.List.{range_with_len, sum, sum_by}
use Rattle.lists.proofs.Ranges.{mapped_at, range_more}
use Rattle.lists.proofs.Sums.{sum_of_map, sum_of_none}
use Rattle.transcripts.proofs.WholeViews.{waiting_at_none, accepted_at_none, unanswered_at_none, places_at_none}
use Rattle.evt_types.specs.Fault.{IsWithinLimits}
use Rattle.evt_types.specs.Plan.{Plan, level_of, kept_room, lanes_of, bound_of, queue_of, is_atomic}
use Rattle.evt_types.specs.Place.{Place}
use Rattle.transcripts.specs.Standing.{view_of, places}
use Rattle.transcripts.specs.Sweep.{sweep_room}
use Rattle.transcripts.specs.Transcript.{Held, waiting, accepted, extras, unanswered_slots}
use Rattle.evt_types.specs.declared.draft.QueueDraft.{QueueDraft}
use Rattle.evt_types.specs.declared.event.Numbered.{Numbered}
use Rattle.order_parts.specs.Pins.{Pin}
use Rattle.order_parts.specs.Reorder.{Reordering, empty}
use Rattle.sched_core.proofs.OrderFacts.{new_places, order_small}
use Rattle.sched_core.specs.Ordered.{kept_of, places_in}
use Rattle.order_parts.specs.Orders.{order_at}
use Rattle.sched_core.specs.Inner.{IsQueueOf, AreEmptyQueues, unplaced, queue_slots, slots_for}
use Rattle.order_parts.specs.Histories.{IsBare, AreEmptyLanes}
use Rattle.sched_core.specs.Links.{AreLinks}
use Rattle.sched_core.specs.Service.{AreAhead}
use Rattle.order_parts.specs.QueuePins.{AreFreePins}
use Rattle.sched_core.specs.SlotLanes.{AreSlotLanes, slot_lane_count}
use Rattle.small_set.specs.declared.set.SmallSet.{SmallSet}
use Rattle.sched_core.proofs.OpenSlots.{all_open}
use Rattle.sched_core.specs.OpenSlots.{HaveAllSlots}
use Rattle.sched_core.specs.View.{waiting_in, next_in, unanswered_in, entries_in, view_in, IsCore}
use Rattle.order_parts.specs.declared.history.Entry.{Entry}
use Rattle.order_parts.specs.History.{Entries}
use Rattle.parked_queue.specs.Waits.{Waits, AreWaits, all_empty, no_waits, no_waits_of}
use Rattle.sched_core.proofs.Cores.{same_parts}
use Rattle.sched_core.proofs.Pinned.{pins_new}

-- ---- empty queues

pub slots_more : (p : Plan) (n : ℕ) (ss : List ℕ) (s : ℕ) → ss ≡ queue_slots p n → s ≡ slots_for p n → ss ++ s ∷ [] ≡ queue_slots p (n + 1)
slots_more p n ss s are is =
    ap (λ xs. xs ++ s ∷ []) are
    ∙ (ap (λ m. queue_slots p n ++ m ∷ []) is ∙ (sym (map-append (slots_for p) (range_with_len 0 n) (n ∷ [])) ∙ ap (map (slots_for p)) (sym (range_more n))))

-- queues of these slots, with room for as many events as may be inside
pub queues_new : (p : Plan) (ss : List ℕ) (room : ℕ) (qs : List Waits) → ss ≡ queue_slots p (length p.queues) → room ≡ bound_of p → qs ≡ all_empty room ss → AreEmptyQueues p (length p.queues) qs
queues_new p ss room qs are is e =
    let long = ap length e in
    let same = length-map ss (no_waits_of room) in
    let count = ap length are in
    let all = length-map-range_with_len (slots_for p) 0 (length p.queues) in
    record {
      count = omega arith;
      empty = λ k d lt.
          ap (λ xs. get_or xs k d) e
          ∙ (get_or-map (no_waits_of room) ss k 0 d (omega arith)
          ∙ (ap (λ m. no_waits m room) (ap (λ xs. get_or xs k 0) are ∙ mapped_at (slots_for p) (length p.queues) k 0 (omega arith)) ∙ ap (no_waits (slots_for p k)) is));
    }

-- ---- the core

none_wait : (n b : ℕ) → 0 < n → n ≤ 64 → AreWaits (no_waits n b)
none_wait n b some few =
    record {
      rising = λ i j d lt within. absurd (omega arith);
      below = All-nil (λ (w : Numbered). w.number < 0);
      levels = All-nil (λ (w : Numbered). level_of w.event < 4);
      fits = omega arith;
      within = omega arith;
      some = some;
      few = few;
    }

-- there is a slot of each queue, and no more than a set may have members
pub slots_range : (p : Plan) (q : ℕ) → IsWithinLimits p → q < length p.queues → (1 ≤ slots_for p q) × (slots_for p q ≤ 64)
slots_range p q limits h = by_kind (is_atomic (queue_of p q).kind) refl
  where
    by_kind : (b : Bool) → is_atomic (queue_of p q).kind ≡ b → (1 ≤ cond b (queue_of p q).slots 1) × (cond b (queue_of p q).slots 1 ≤ 64)
    by_kind true atomic = limits.slots q _ h atomic
    by_kind false plain = (omega arith, omega arith)

empty_is_queue : (p : Plan) (k : ℕ) (q : Waits) → IsWithinLimits p → k < length p.queues → q ≡ no_waits (slots_for p k) (bound_of p) → IsQueueOf (bound_of p) q
empty_is_queue p k q limits h empty = let range = slots_range p k limits h in subst (IsQueueOf (bound_of p)) (sym empty) (record { room = refl; waits = none_wait (slots_for p k) (bound_of p) (omega (arith, range.0)) range.1 })

nothing_waits : (p : Plan) (qs : List Waits) (n : ℕ) → AreEmptyQueues p n qs → sum_by (λ (xs : List Numbered). length xs) (map waiting_in qs) ≡ 0
nothing_waits p qs n empty = sum_of_map (λ (xs : List Numbered). length xs) waiting_in qs ∙ sum_of_none (λ x. length (waiting_in x)) qs (λ k d lt. ap (λ (x : Waits). length x.waiting) (empty.empty k d lt))

nothing_numbered : (p : Plan) (qs : List Waits) (n : ℕ) → AreEmptyQueues p n qs → sum (map next_in qs) ≡ 0
nothing_numbered p qs n empty = sum-map next_in qs ∙ sum_of_none next_in qs (λ k d lt. ap (λ (x : Waits). x.next) (empty.empty k d lt))

-- the buffers of a device in which nothing has happened
abbrev pub new_orders : Plan → List Reordering
new_orders p = map (λ (q : QueueDraft). empty (kept_room q)) p.queues

no_places : (p : Plan) → All (λ (ps : List Place). ps ≡ []) (map places_in (new_orders p))
no_places p = All-map (λ (ps : List Place). ps ≡ []) places_in (new_orders p) (All-map (λ (r : Reordering). places_in r ≡ []) (λ (q : QueueDraft). empty (kept_room q)) p.queues (λ k d h. refl))

nothing_kept : (p : Plan) → sum_by kept_of (map places_in (new_orders p)) ≡ 0
nothing_kept p = sum_of_none kept_of (map places_in (new_orders p)) (All-weaker (λ (ps : List Place). ps ≡ []) (λ ps. kept_of ps ≡ 0) (λ ps e. ap kept_of e) (map places_in (new_orders p)) (no_places p))

fresh_order : (p : Plan) (q : ℕ) → q < length p.queues → order_at (new_orders p) q ≡ empty (kept_room (queue_of p q))
fresh_order p q h = get_or-map (λ (d : QueueDraft). empty (kept_room d)) p.queues q _ (empty 0) h

nothing_held : (ls : List Entries) (p : Plan) (n : ℕ) → AreEmptyLanes p n ls → sum_by (λ (xs : List Held). length xs) (map unanswered_in ls) ≡ 0
nothing_held ls p n empty = sum_of_map (λ (xs : List Held). length xs) unanswered_in ls ∙ sum_of_none (λ x. length (unanswered_in x)) ls (All-weaker IsBare (λ (l : Entries). length (unanswered_in l) ≡ 0) (λ l e. ap (λ (ys : List Entry). length (map unplaced ys)) e) ls empty.empty)

pub core_new : (p : Plan) (qs : List Waits) (ls : List Entries) (es : Vec ℕ Global) (ps : List (List Pin)) (ks hs : Vec SmallSet Global) (os : Vec (Option ℕ) Global) (ss : Vec SmallSet Global) → IsWithinLimits p → bound_of p < 2 ^ 64 → AreEmptyQueues p (length p.queues) qs → AreEmptyLanes p (lanes_of p) ls → es.items ≡ replicate (lanes_of p) 0 → AreFreePins p (length p.queues) ps → AreLinks p (length p.queues) ks.items → AreAhead p (length p.queues) hs.items → AreSlotLanes p (slot_lane_count p) os.items → HaveAllSlots p ss.items
    → IsCore (record { shape = p; queues = qs; orders = new_orders p; lanes = ls; extras = es; pins = ps; links = ks; ahead = hs; slot_lanes = os; open_slots = ss; bound = bound_of p; log_room = sweep_room p; inside = 0; entries = 0; shut = false })
core_new p qs ls es ps ks hs os ss limits small queues lanes none pins links ahead slot_lanes open_slots =
    let waits = nothing_waits p qs (length p.queues) queues in
    let numbers = nothing_numbered p qs (length p.queues) queues in
    let kept = nothing_kept p in
    let held = nothing_held ls p (lanes_of p) lanes in
    record {
      limits = limits;
      bound = refl;
      log_room = refl;
      small = small;
      queues = queues.count;
      lanes = lanes.count;
      extras = ap length none ∙ length-replicate (lanes_of p) 0;
      sound = λ k d lt. empty_is_queue p k _ limits (omega (arith, lt, queues.count)) (queues.empty k d lt);
      slots = λ k d lt. ap (λ (x : Waits). x.slots) (queues.empty k d lt);
      room = lanes.room;
      pins = pins_new p (map unanswered_in ls) ps pins (All-map (λ us. us ≡ []) unanswered_in ls (All-weaker IsBare (λ (l : Entries). unanswered_in l ≡ []) (λ l e. ap (map unplaced) e) ls lanes.empty));
      inside = omega arith;
      within = omega arith;
      entries = omega arith;
      few = omega arith;
      links = links;
      ahead = ahead;
      slot_lanes = slot_lanes;
      open_slots = all_open p ls ss.items open_slots;
      places =
          new_places p qs (new_orders p) (map entries_in ls) es.items queues.count (length-map p.queues (λ (q : QueueDraft). empty (kept_room q))) (fresh_order p) (λ q h. order_small p q limits.orders h)
          (All-map (λ (ys : List Entry). ys ≡ []) entries_in ls lanes.empty);
    }

pub view_new : (p : Plan) (qs : List Waits) (ls : List Entries) (es : Vec ℕ Global) (ps : List (List Pin)) (ks hs : Vec SmallSet Global) (os : Vec (Option ℕ) Global) (ss : Vec SmallSet Global) → AreEmptyQueues p (length p.queues) qs → AreEmptyLanes p (lanes_of p) ls → es.items ≡ replicate (lanes_of p) 0 → view_in (record { shape = p; queues = qs; orders = new_orders p; lanes = ls; extras = es; pins = ps; links = ks; ahead = hs; slot_lanes = os; open_slots = ss; bound = bound_of p; log_room = sweep_room p; inside = 0; entries = 0; shut = false }) ≡ view_of p []
unfolding view_of extras
view_new p qs ls es ps ks hs os ss queues lanes none =
    same_parts p _ _ _ _ _ _ _ _ _ _ false
    (fill_by_all (waiting []) (map waiting_in qs) (length p.queues) [] (length-map qs waiting_in ∙ queues.count) (λ k h. get_or_empty k h ∙ sym (waiting_at_none k)))
    (fill_by_all (λ q. length (accepted [] q)) (map next_in qs) (length p.queues) 0 (length-map qs next_in ∙ queues.count) (λ k h. get_or_zero k h ∙ sym (ap length (accepted_at_none k))))
    (fill_by_all (places p []) (map places_in (new_orders p)) (length p.queues) [] (long places_in) (λ k h. no_places p k [] (subst (λ n. k < n) (sym (long places_in)) h) ∙ sym (places_at_none p k)))
    (fill_by_all (unanswered_slots p []) (map unanswered_in ls) (lanes_of p) [] (length-map ls unanswered_in ∙ lanes.count) (λ k h. none_held k h ∙ sym (unanswered_at_none p k)))
    (fill_by_all (λ l. length (extras [] l)) es.items (lanes_of p) 0 (ap length none ∙ length-replicate (lanes_of p) 0) (λ k h. ap (λ xs. get_or xs k 0) none ∙ get_or-replicate (lanes_of p) k 0 0 h))
  where
    long : (f : Reordering → List Place) → length (map f (new_orders p)) ≡ length p.queues
    long f = length-map (new_orders p) f ∙ length-map p.queues (λ (q : QueueDraft). empty (kept_room q))

    get_or_empty : (k : ℕ) → k < length p.queues → get_or (map waiting_in qs) k [] ≡ []
    get_or_empty k h =
        All-map (λ ws. ws ≡ []) waiting_in qs (λ i d lt. ap (λ (x : Waits). x.waiting) (queues.empty i d lt))
        k [] (subst (λ n. k < n) (sym (length-map qs waiting_in ∙ queues.count)) h)

    get_or_zero : (k : ℕ) → k < length p.queues → get_or (map next_in qs) k 0 ≡ 0
    get_or_zero k h =
        All-map (λ n. n ≡ 0) next_in qs (λ i d lt. ap (λ (x : Waits). x.next) (queues.empty i d lt))
        k 0 (subst (λ n. k < n) (sym (length-map qs next_in ∙ queues.count)) h)

    none_held : (k : ℕ) → k < lanes_of p → get_or (map unanswered_in ls) k [] ≡ []
    none_held k h =
        All-map (λ us. us ≡ []) unanswered_in ls (All-weaker IsBare (λ (l : Entries). unanswered_in l ≡ []) (λ l e. ap (map unplaced) e) ls lanes.empty)
        k [] (subst (λ n. k < n) (sym (length-map ls unanswered_in ∙ lanes.count)) h)

-- the core as its parts were made, each known by an equation: so that no large goal has to be rewritten
pub core_made : (p : Plan) (ds : List QueueDraft) (rs : List Reordering) (b r : ℕ) (qs : List Waits) (ls : List Entries) (es : Vec ℕ Global) (ps : List (List Pin)) (ks hs : Vec SmallSet Global) (os : Vec (Option ℕ) Global) (ss : Vec SmallSet Global) → ds ≡ p.queues → rs ≡ map (λ (q : QueueDraft). empty (kept_room q)) ds → b ≡ bound_of p → r ≡ sweep_room p → IsWithinLimits p → b < 18446744073709551616 → AreEmptyQueues p (length p.queues) qs → AreEmptyLanes p (lanes_of p) ls → es.items ≡ replicate (lanes_of p) 0 → AreFreePins p (length p.queues) ps → AreLinks p (length p.queues) ks.items → AreAhead p (length p.queues) hs.items → AreSlotLanes p (slot_lane_count p) os.items → HaveAllSlots p ss.items
    → IsCore (record { shape = p; queues = qs; orders = rs; lanes = ls; extras = es; pins = ps; links = ks; ahead = hs; slot_lanes = os; open_slots = ss; bound = b; log_room = r; inside = 0; entries = 0; shut = false })
core_made p ds rs b r qs ls es ps ks hs os ss drafts orders bound room limits small queues lanes none pins links ahead slot_lanes open_slots =
    rw (orders, drafts, bound, room) (core_new p qs ls es ps ks hs os ss limits (subst (λ n. n < 18446744073709551616) bound small) queues lanes none pins links ahead slot_lanes open_slots)

pub view_made : (p : Plan) (ds : List QueueDraft) (rs : List Reordering) (b r : ℕ) (qs : List Waits) (ls : List Entries) (es : Vec ℕ Global) (ps : List (List Pin)) (ks hs : Vec SmallSet Global) (os : Vec (Option ℕ) Global) (ss : Vec SmallSet Global) → ds ≡ p.queues → rs ≡ map (λ (q : QueueDraft). empty (kept_room q)) ds → AreEmptyQueues p (length p.queues) qs → AreEmptyLanes p (lanes_of p) ls → es.items ≡ replicate (lanes_of p) 0 → view_in (record { shape = p; queues = qs; orders = rs; lanes = ls; extras = es; pins = ps; links = ks; ahead = hs; slot_lanes = os; open_slots = ss; bound = b; log_room = r; inside = 0; entries = 0; shut = false }) ≡ view_of p []
view_made p ds rs b r qs ls es ps ks hs os ss drafts orders queues lanes none =
    rw (orders, drafts) (view_new p qs ls es ps ks hs os ss queues lanes none)
