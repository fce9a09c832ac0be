-- A core after an event is added beside a lane's oldest one: its view, and that what holds of each core holds of it.
use Rattle.std.proofs.Common.{◌≡◌, ℕ, ◌+◌, ◌<◌, ◌≤◌, ◌^◌, Bool, true, false, cond, ◌&&◌, nat_lt, List, [], length, map, set, get_or, slice_index, Some, slice_get, refl, sym, ap, ◌∙◌, subst, arith}
use Rattle.std.proofs.lemmas.Bool.{and_parts, cond-true, cond-false, ltb-true}
use Rattle.std.proofs.lemmas.List.{get_or_read, length-set, map-set, set-get_or}
use Rattle.evt_types.specs.Plan.{queue_of, bound_of, lanes_of, is_ordered, kept_room}
use Rattle.evt_types.specs.Place.{Place}
use Rattle.evt_types.specs.declared.event.Event.{Event}
use Rattle.evt_types.specs.declared.event.TheConstants.{MAX_EXTRAS}
use Rattle.transcripts.specs.Standing.{View, inside_of, entries_of, extras_at, may_add, may_answer, may_forward, oldest_at, places_at, unanswered_at, add_to_place, places_with, after_more}
use Rattle.std.specs.Vec.{with_item}
use Rattle.order_parts.proofs.Roomy.{lane_is}
use Rattle.order_parts.specs.Histories.{lane_in}
use Rattle.order_parts.specs.Reorder.{Reordering, empty, after_add, place_or_open}
use Rattle.order_parts.specs.declared.history.Entry.{Entry}
use Rattle.parked_queue.specs.Waits.{waits_at}
use Rattle.sched_core.proofs.Added.{add_adds, add_keeps}
use Rattle.sched_core.proofs.Answering.{oldest_entry, oldest_first, oldest_order, oldest_queue, restores_here}
use Rattle.sched_core.proofs.Cores.{core_with, first_here, kept_after, lane_there, places_here, queue_there, queues_here, same_parts}
use Rattle.sched_core.proofs.OrderMoves.{added_place, added_plain, place_has_room}
use Rattle.sched_core.specs.Inner.{unplaced}
use Rattle.sched_core.specs.Ordered.{ArePlaces, IsOrder, StandsIn, entry_at, kept_of, places_in}
use Rattle.order_parts.specs.Orders.{order_at, added_in, is_restoring}
use Rattle.sched_core.specs.View.{waiting_in, next_in, unanswered_in, entries_in, view_in, IsCore}
use Rattle.sched_core.specs.declared.state.Core.TheInside.{Inside}

-- ---- when an event may be added

record IsAddable (v : View) (l q : ℕ) : Type 0 where
  pub some : 0 < length (unanswered_at v l)
  pub queue : q < length v.shape.queues
  pub entries : entries_of v < 2 ^ 63
  pub few : extras_at v l < MAX_EXTRAS
  pub room : inside_of v < bound_of v.shape

addable : (v : View) (l q : ℕ) → may_add v l q ≡ true → IsAddable v l q
addable v l q may =
    let both = and_parts (may_forward v l q) (nat_lt (extras_at v l) MAX_EXTRAS && nat_lt (inside_of v) (bound_of v.shape)) may in
    let forward = and_parts (may_answer v l) (nat_lt q (length v.shape.queues) && nat_lt (entries_of v) (2 ^ 63)) both.0 in
    let there = and_parts (nat_lt q (length v.shape.queues)) (nat_lt (entries_of v) (2 ^ 63)) forward.1 in
    let room = and_parts (nat_lt (extras_at v l) MAX_EXTRAS) (nat_lt (inside_of v) (bound_of v.shape)) both.1 in
    record {
      some = ltb-true 0 (length (unanswered_at v l)) forward.0;
      queue = ltb-true q (length v.shape.queues) there.0;
      entries = ltb-true (entries_of v) (2 ^ 63) there.1;
      few = ltb-true (extras_at v l) MAX_EXTRAS room.0;
      room = ltb-true (inside_of v) (bound_of v.shape) room.1;
    }

-- ---- what it makes of a core

-- the buffers and the counts after it
abbrev pub added_orders : List Reordering → Entry → Event → List Reordering
added_orders rs y e = set rs y.queue (added_in (order_at rs y.queue) y.place e)

abbrev pub one_more : List ℕ → ℕ → List ℕ
one_more es i = set es i (slice_index es i + 1)

-- how many events are kept more: one, in a buffer
abbrev kept_one : Bool → ℕ
kept_one b = cond b 1 0

kept_few : (b : Bool) → kept_one b ≤ 1
kept_few true = omega arith
kept_few false = omega arith

counted_on : (b : Bool) (n : ℕ) → cond b (n + 1) n ≡ n + kept_one b
counted_on true n = refl
counted_on false n = omega arith

record IsAdded (a : Inside) (i : ℕ) (y : Entry) (e : Event) (b : Bool) : Type 0 where
  restoring : is_restoring (order_at a.orders y.queue) ≡ b
  places : ArePlaces a.shape a.queues (added_orders a.orders y e) (map entries_in a.lanes) (one_more a.extras.items i)
  kept : kept_of (added_in (order_at a.orders y.queue) y.place e).places ≡ kept_of (order_at a.orders y.queue).places + kept_one b
  shown : (added_in (order_at a.orders y.queue) y.place e).places ≡ cond b (map (add_to_place y.number e) (order_at a.orders y.queue).places) (order_at a.orders y.queue).places

added_by : (a : Inside) (i : ℕ) (y : Entry) (e : Event) → IsCore a → i < length a.lanes → entry_at (map entries_in a.lanes) i 0 ≡ Some y → y.queue < length a.shape.queues
    → slice_index a.extras.items i < MAX_EXTRAS → e.queue < length a.shape.queues → IsAdded a i y e (is_ordered (queue_of a.shape y.queue).kind)
added_by a i y e core h oldest there few named = by_kind (is_ordered (queue_of a.shape y.queue).kind) refl
  where
    us : List (List Entry)
    us = map entries_in a.lanes

    n : ℕ
    n = slice_index a.extras.items i

    r : Reordering
    r = order_at a.orders y.queue

    counted : i < length a.extras.items
    counted = let lanes = core.lanes in let extras = core.extras in omega arith

    by_kind : (b : Bool) → is_ordered (queue_of a.shape y.queue).kind ≡ b → IsAdded a i y e b
    by_kind true ordered =
        let restoring : is_restoring r ≡ true = restores_here a y.queue core there ∙ ordered in
        let now : added_in r y.place e ≡ after_add r y.place e = cond-true (is_restoring r) (after_add r y.place e) r restoring in
        let order : IsOrder a.shape (kept_room (queue_of a.shape y.queue)) (waits_at a.queues y.queue) r = core.places.each y.queue there in
        let stands : StandsIn r y n = core.places.held i 0 y oldest ordered in
        record {
          restoring = restoring;
          places = subst (λ s. ArePlaces a.shape a.queues (set a.orders y.queue s) us (one_more a.extras.items i)) (sym now)
              (added_place a.shape a.queues a.orders us a.extras.items i y e core.places counted oldest ordered few named);
          kept = ap (λ (s : Reordering). kept_of s.places) now ∙ add_keeps a.shape (kept_room (queue_of a.shape y.queue)) (waits_at a.queues y.queue) r y n e order stands;
          shown = ap (λ (s : Reordering). s.places) now ∙ add_adds a.shape (kept_room (queue_of a.shape y.queue)) (waits_at a.queues y.queue) r y n e order stands;
        }
    by_kind false plain =
        let restoring : is_restoring r ≡ false = restores_here a y.queue core there ∙ plain in
        let now : added_in r y.place e ≡ r = cond-false (is_restoring r) (after_add r y.place e) r restoring in
        record {
          restoring = restoring;
          places = subst (λ rs. ArePlaces a.shape a.queues rs us (one_more a.extras.items i)) (sym (ap (set a.orders y.queue) now ∙ set-get_or a.orders y.queue (empty 0)))
              (added_plain a.shape a.queues a.orders us a.extras.items i core.places counted);
          kept = ap (λ (s : Reordering). kept_of s.places) now ∙ omega arith;
          shown = ap (λ (s : Reordering). s.places) now;
        }

-- ---- an event is added beside a lane's oldest

module _ (a : Inside) (v : View) (i : ℕ) (y : Entry) (core : IsCore a) (same : view_in a ≡ v) (lane : i < lanes_of v.shape) (oldest : slice_get (lane_in a.lanes i).entries 0 ≡ Some y) (e : Event) (allowed : may_add v i e.queue ≡ true) where
  h : i < length a.lanes
  h = lane_there a v i core same lane

  may : IsAddable (view_in a) i e.queue
  may = addable (view_in a) i e.queue (subst (λ u. may_add u i e.queue ≡ true) (sym same) allowed)

  first : entry_at (map entries_in a.lanes) i 0 ≡ Some y
  first = oldest_entry a.lanes i (lane_in a.lanes i) y h (lane_is a.lanes i h) oldest

  there : y.queue < length a.shape.queues
  there = queue_there a v y.queue same (oldest_queue a v i y core same lane oldest)

  done : IsAdded a i y e (is_ordered (queue_of a.shape y.queue).kind)
  done = added_by a i y e core h first there may.few may.queue

  -- there is room for it
  pub add_room : is_restoring (order_at a.orders y.queue) ≡ true → length (place_or_open (order_at a.orders y.queue) y.place).forwards < MAX_EXTRAS
  add_room restoring =
      place_has_room a.shape a.queues a.orders (map entries_in a.lanes) a.extras.items i y core.places first
      (sym (restores_here a y.queue core there) ∙ restoring) may.few

  written : (x : ℕ) → x ≡ get_or a.extras.items i x → (with_item a.extras i (x + 1)).items ≡ one_more a.extras.items i
  written x read = ap (λ n. set a.extras.items i (n + 1)) (get_or_read a.extras.items i x (omega (arith, h, core.lanes, core.extras)) read 0)

  pub core_adds : (x : ℕ) (b : Bool) → x ≡ get_or a.extras.items i x → b ≡ is_restoring (order_at a.orders y.queue)
      → IsCore (record a { orders = added_orders a.orders y e; extras = with_item a.extras i (x + 1); inside = cond b (a.inside + 1) a.inside; entries = cond b (a.entries + 1) a.entries })
  core_adds x b read restores =
      let r : Reordering = order_at a.orders y.queue in
      let kept_now : kept_one b ≡ kept_one (is_ordered (queue_of a.shape y.queue).kind) = ap kept_one (restores ∙ done.restoring) in
      let once : kept_one (is_ordered (queue_of a.shape y.queue).kind) ≤ 1 = kept_few (is_ordered (queue_of a.shape y.queue).kind) in
      let counted = counted_on b a.inside in
      let entered = counted_on b a.entries in
      let keeps = kept_after a (record a { orders = added_orders a.orders y e; extras = with_item a.extras i (x + 1); inside = cond b (a.inside + 1) a.inside; entries = cond b (a.entries + 1) a.entries }) y.queue (added_in r y.place e) refl (oldest_order a v i y core same lane oldest) in
      let kept = done.kept in
      let room = may.room in
      let fewer = may.entries in
      core_with a a.queues (added_orders a.orders y e) a.lanes (with_item a.extras i (x + 1)) a.pins (cond b (a.inside + 1) a.inside) (cond b (a.entries + 1) a.entries) a.open_slots core (queues_here a core) core.lanes core.room
      (length-set a.extras.items i (x + 1) ∙ core.extras) core.pins
      (subst (ArePlaces a.shape a.queues (added_orders a.orders y e) (map entries_in a.lanes)) (sym (written x read)) done.places)
      core.open_slots (record { inside = omega arith; within = omega arith; entries = omega arith; few = omega arith })

  -- ---- its view

  pub view_adds : (x n m : ℕ) → x ≡ get_or a.extras.items i x
      → view_in (record a { orders = added_orders a.orders y e; extras = with_item a.extras i (x + 1); inside = n; entries = m }) ≡ after_more v i e
  view_adds x n m read =
      same_parts a.shape (map waiting_in a.queues) _ (map next_in a.queues) _ _ _ (map unanswered_in a.lanes) _ _ _ a.shut refl refl
      (map-set places_in a.orders y.queue (added_in r y.place e) ∙ (by_kind (is_ordered (queue_of a.shape y.queue).kind) refl done.shown ∙ sym (ap (λ z. places_with (view_in a) z e) (first_here a i (lane_in a.lanes i) y h (lane_is a.lanes i h) oldest))))
      refl (written x read)
      ∙ ap (λ u. after_more u i e) same
    where
      r : Reordering
      r = order_at a.orders y.queue

      here : places_at (view_in a) y.queue ≡ r.places
      here = places_here a y.queue core there

      by_kind : (c : Bool) → is_ordered (queue_of a.shape y.queue).kind ≡ c → (added_in r y.place e).places ≡ cond c (map (add_to_place y.number e) r.places) r.places
          → set (map places_in a.orders) y.queue (added_in r y.place e).places ≡ places_with (view_in a) (Some (unplaced y)) e
      by_kind true ordered shown =
          ap (set (map places_in a.orders) y.queue) (shown ∙ sym (ap (map (add_to_place y.number e)) here))
          ∙ sym (cond-true (is_ordered (queue_of a.shape y.queue).kind) _ (map places_in a.orders) ordered)
      by_kind false plain shown =
          ap (set (map places_in a.orders) y.queue) (shown ∙ sym here)
          ∙ (set-get_or (map places_in a.orders) y.queue []
          ∙ sym (cond-false (is_ordered (queue_of a.shape y.queue).kind) _ (map places_in a.orders) plain))

  -- where no order is restored, as many are inside and entered as before
  pub add_leaves : is_ordered (queue_of v.shape y.queue).kind ≡ false → (inside_of (after_more v i e) < bound_of v.shape) × (entries_of (after_more v i e) < 2 ^ 63)
  add_leaves plain =
      let before = addable v i e.queue allowed in
      let still : places_with v (oldest_at v i) e ≡ v.places = ap (λ x. places_with v x e) (oldest_first a v i y core same lane oldest) ∙ cond-false (is_ordered (queue_of v.shape y.queue).kind) _ v.places plain in (
        subst (λ n. n < bound_of v.shape) (sym (ap (λ (ps : List (List Place)). inside_of (record v { places = ps })) still)) before.room,
        subst (λ n. n < 2 ^ 63) (sym (ap (λ (ps : List (List Place)). entries_of (record v { places = ps })) still)) before.entries,
      )
