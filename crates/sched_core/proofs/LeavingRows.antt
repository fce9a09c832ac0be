-- A row of the lane's oldest events that leaves its queue: as the code finds it, and the core that it leaves.
use Rattle.std.proofs.Common.{◌≡◌, ◌⊎◌, inl, inr, ℕ, zero, suc, ◌+◌, ◌-◌, ◌<◌, ◌≤◌, ◌^◌, Bool, true, false, List, [], ◌∷◌, All, Some, Vec, Global, ap, arith, drop, length, map, refl, set, get_or, slice_get, slice_index, subst, sym, take, ◌∙◌}
use Rattle.std.proofs.lemmas.Bool.{cases_lt}
use Rattle.std.proofs.lemmas.List.{length-take-le, set-get_or, take-append-drop, take-map}
use Rattle.std.proofs.lemmas.Option.{none-some, slice_get-get_or, slice_get_within}
use Rattle.evt_types.specs.Plan.{is_ordered, kept_room, lanes_of, queue_of}
use Rattle.order_parts.proofs.Roomy.{lane_is}
use Rattle.order_parts.specs.Histories.{lane_in}
use Rattle.order_parts.specs.History as histories
use Rattle.order_parts.specs.History.{Entries}
use Rattle.order_parts.specs.InTurn.{AreInTurn}
use Rattle.order_parts.specs.Orders.{is_restoring, left_in, order_at}
use Rattle.order_parts.specs.Pins.{Pin}
use Rattle.order_parts.specs.QueuePins.{pins_at}
use Rattle.order_parts.specs.Reorder.{Reordering, is_done, number_of}
use Rattle.order_parts.specs.Unpinned.{IsOfQueue, without_entries}
use Rattle.order_parts.specs.declared.history.Entry.{Entry}
use Rattle.parked_queue.specs.Waits.{waits_at}
use Rattle.sched_core.proofs.Answering.{entries_here, restores_here}
use Rattle.sched_core.proofs.AtFront.{index_at, waits_at_index}
use Rattle.sched_core.proofs.Cores.{lane_there, queue_there}
use Rattle.sched_core.proofs.Forwarded.{leave_kept}
use Rattle.sched_core.proofs.Released.{AreAtFront, HasReleased, held_few, released, unanswered_are, without}
use Rattle.sched_core.specs.Inner.{unplaced}
use Rattle.sched_core.specs.OpenSlots.{IsOpened}
use Rattle.sched_core.specs.Ordered.{StandsIn, added_beside, entry_at}
use Rattle.sched_core.specs.Rows.{LeaveInTurn}
use Rattle.sched_core.specs.View.{IsCore, entries_in, view_in}
use Rattle.sched_core.specs.declared.state.Core.TheInside.{Inside}
use Rattle.small_set.specs.declared.set.SmallSet.{SmallSet}
use Rattle.step_log.specs.Rows.{release_steps}
use Rattle.transcripts.specs.Standing.{View, after, entries_of, inside_of, kept_in, unanswered_at}

-- ---- the front, as the code sees it

in_take : (n : ℕ) (xs : List Entry) (k : ℕ) (y : Entry) → slice_get (take n xs) k ≡ Some y → slice_get xs k ≡ Some y
in_take zero xs k y at = absurd (none-some y at)
in_take (suc n) [] k y at = at
in_take (suc n) (x ∷ xs) zero y at = at
in_take (suc n) (x ∷ xs) (suc k) y at = in_take n xs k y at

into_take : (n : ℕ) (xs : List Entry) (k : ℕ) → k < n → slice_get (take n xs) k ≡ slice_get xs k
into_take zero xs k lt = absurd (omega (arith, lt))
into_take (suc n) [] k lt = refl
into_take (suc n) (x ∷ xs) zero lt = refl
into_take (suc n) (x ∷ xs) (suc k) lt = into_take n xs k (omega (arith, lt))

-- As many events as are alike have the oldest places in turn, and one fewer is meant where the place behind them is answered.
pub front_holds :
    (a : Inside) (v : View) (l q n most alike turn : ℕ) (b : Bool) → IsCore a → view_in a ≡ v → l < lanes_of v.shape → q < length v.shape.queues → slice_index a.extras.items l ≡ 0 → 0 < n → n < 2 ^ 64
    → n ≤ most → most ≤ alike → alike ≤ turn → turn ≤ length (lane_in a.lanes l).entries → (is_restoring (order_at a.orders q) ≡ true → AreInTurn q (order_at a.orders q) (take turn (lane_in a.lanes l).entries))
    → b ≡ is_done (slice_get (order_at a.orders q).places alike) → (0 < most → most ≡ alike → b ≡ false) → is_ordered (queue_of a.shape q).kind ≡ true → AreAtFront a l q (take n (lane_in a.lanes l).entries)
front_holds a v l q n most alike turn b core same lane there alone some small few fewer fewest held in_turn done last ordered =
    record {
      alone = alone;
      turn = λ k y at. turns k y (in_take n ys k y at) (omega (arith, slice_get_within (take n ys) k y at, long, few, fewer, fewest));
      next = ap (λ m. is_done (slice_get r.places m)) long ∙ by_end (cases_lt n turn);
    }
  where
    ys : List Entry
    ys = (lane_in a.lanes l).entries

    r : Reordering
    r = order_at a.orders q

    here : l < length a.lanes
    here = lane_there a v l core same lane

    known : q < length a.shape.queues
    known = queue_there a v q same there

    long : length (take n ys) ≡ n
    long = length-take-le n ys (omega (arith, few, fewer, fewest, held))

    restoring : is_restoring r ≡ true
    restoring = restores_here a q core known ∙ ordered

    turned : AreInTurn q r (take turn ys)
    turned = in_turn restoring

    turns : (k : ℕ) (y : Entry) → slice_get ys k ≡ Some y → k < turn → (y.queue ≡ q) × (y.place ≡ number_of r k)
    turns k y at lt = turned k y (into_take turn ys k lt ∙ at)

    blank : Entry
    blank = record { queue = 0; number = 0; slot = 0; place = 0 }

    by_end : (n < turn) ⊎ (turn ≤ n) → is_done (slice_get r.places n) ≡ false
    by_end (inl lt) =
        let y : Entry = get_or ys n blank in
        let at : slice_get ys n ≡ Some y = slice_get-get_or ys n blank (omega (arith, lt, held)) in
        let of = turns n y at lt in
        let entry : entry_at (map entries_in a.lanes) l n ≡ Some y = ap (λ (xs : List Entry). slice_get xs n) (entries_here a.lanes l (lane_in a.lanes l) here (lane_is a.lanes l here)) ∙ at in
        let stands = core.places.held l n y entry (subst (λ m. is_ordered (queue_of a.shape m).kind ≡ true) (sym of.0) ordered) in
        waits_at_index a.shape (kept_room (queue_of a.shape q)) (waits_at a.queues q) r y _ n (core.places.each q known)
        (subst (λ m. StandsIn (order_at a.orders m) y (added_beside a.extras.items l n)) of.0 stands) of.1 small
    by_end (inr past) =
        let all : most ≡ alike = omega (arith, past, few, fewer, fewest) in
        let last_one : alike ≡ n = omega (arith, past, few, fewer, fewest) in
        ap (λ m. is_done (slice_get r.places m)) (sym last_one) ∙ (sym done ∙ last (omega (arith, some, few)) all)

-- so many of the lane's oldest events leave the queue in a row
pub record IsRow (a : Inside) (v : View) (l q n : ℕ) : Type 0 where
  pub some : 0 < n
  pub few : n ≤ length (unanswered_at v l)
  pub alone : slice_index a.extras.items l ≡ 0
  pub front : is_ordered (queue_of a.shape q).kind ≡ true → AreAtFront a l q (take n (lane_in a.lanes l).entries)

-- the queue has so many places
pub enough_places : (n : ℕ) (a : Inside) (v : View) (l q : ℕ) → IsCore a → view_in a ≡ v → l < lanes_of v.shape → q < length v.shape.queues → n < 2 ^ 64 → IsRow a v l q n → is_restoring (order_at a.orders q) ≡ true → n ≤ length (order_at a.orders q).places
enough_places zero a v l q core same lane there small row restoring = omega arith
enough_places (suc k) a v l q core same lane there small row restoring =
    let ys : List Entry = (lane_in a.lanes l).entries in
    let r : Reordering = order_at a.orders q in
    let here : l < length a.lanes = lane_there a v l core same lane in
    let known = queue_there a v q same there in
    let ordered : is_ordered (queue_of a.shape q).kind ≡ true = sym (restores_here a q core known) ∙ restoring in
    let blank : Entry = record { queue = 0; number = 0; slot = 0; place = 0 } in
    let y : Entry = get_or ys k blank in
    let at : slice_get ys k ≡ Some y = slice_get-get_or ys k blank (omega (arith, held_few a v l (suc k) core same lane row.few)) in
    let of : (y.queue ≡ q) × (y.place ≡ number_of r k) = (row.front ordered).turn k y (into_take (suc k) ys k (omega arith) ∙ at) in
    let entry : entry_at (map entries_in a.lanes) l k ≡ Some y = ap (λ (xs : List Entry). slice_get xs k) (entries_here a.lanes l (lane_in a.lanes l) here (lane_is a.lanes l here)) ∙ at in
    let placed = core.places.held l k y entry (subst (λ m. is_ordered (queue_of a.shape m).kind ≡ true) (sym of.0) ordered) in
    let stands : StandsIn r y (added_beside a.extras.items l k) = subst (λ m. StandsIn (order_at a.orders m) y (added_beside a.extras.items l k)) of.0 placed in
    let index : stands.index ≡ k = index_at a.shape (kept_room (queue_of a.shape q)) (waits_at a.queues q) r y (added_beside a.extras.items l k) k (core.places.each q known) stands of.1 (omega (arith, small)) in
    omega (arith, index, slice_get_within r.places stands.index stands.stands.shown stands.stands.there)

-- what a core is once so many of the lane's oldest events left it
pub record HasLeft (left : Inside) (v : View) (l q n : ℕ) : Type 0 where
  pub core : IsCore left
  pub view : view_in left ≡ after v (release_steps l n)
  pub leave : LeaveInTurn v l q (take n (unanswered_at v l))
  pub inside : inside_of (view_in left) + n ≡ inside_of v
  pub entries : entries_of (view_in left) ≡ entries_of v
  pub kept : kept_in (view_in left) ≡ kept_in v

-- the core, as the code leaves it
module _ (a : Inside) (v : View) (l q n : ℕ) (os : Vec SmallSet Global) (rs : List Reordering) (ls : List Entries) (ps : List (List Pin)) (core : IsCore a) (same : view_in a ≡ v) (lane : l < lanes_of v.shape) (row : IsRow a v l q n) (all : All (IsOfQueue q) (take n (lane_in a.lanes l).entries)) (opens : IsOpened a.shape l a.open_slots.items os.items) (orders : rs ≡ set a.orders q (left_in (order_at a.orders q) n)) (lanes : ls ≡ set a.lanes l (histories.entries_of (drop n (lane_in a.lanes l).entries) (lane_in a.lanes l).capacity)) (pins : ps ≡ set a.pins q (without_entries (pins_at a.pins q) (take n (lane_in a.lanes l).entries))) where
  within : n ≤ length (lane_in a.lanes l).entries
  within = held_few a v l n core same lane row.few

  long : length (take n (lane_in a.lanes l).entries) ≡ n
  long = length-take-le n (lane_in a.lanes l).entries within

  zeros : a.extras.items ≡ set a.extras.items l 0
  zeros = sym (set-get_or a.extras.items l 0) ∙ ap (set a.extras.items l) row.alone

  rel : HasReleased a l q os a.extras (take n (lane_in a.lanes l).entries)
  rel =
      released (take n (lane_in a.lanes l).entries) (drop n (lane_in a.lanes l).entries) a l q os a.extras (omega (arith, row.some, long)) core (subst (λ (u : View). l < lanes_of u.shape) (sym same) lane)
      (sym (take-append-drop n (lane_in a.lanes l).entries)) all row.front opens zeros

  abbrev code : Inside
  code = record a { orders = rs; lanes = ls; pins = ps; open_slots = os; inside = a.inside - n }

  -- the same core
  code_is : without a l q os a.extras (take n (lane_in a.lanes l).entries) ≡ code
  code_is =
      ap (λ k. record a { orders = set a.orders q (left_in (order_at a.orders q) k); lanes = set a.lanes l (histories.entries_of (drop k (lane_in a.lanes l).entries) (lane_in a.lanes l).capacity); pins = set a.pins q (without_entries (pins_at a.pins q) (take n (lane_in a.lanes l).entries)); open_slots = os; inside = a.inside - k }) long
      ∙ (ap (λ xs. record a { orders = xs; lanes = set a.lanes l (histories.entries_of (drop n (lane_in a.lanes l).entries) (lane_in a.lanes l).capacity); pins = set a.pins q (without_entries (pins_at a.pins q) (take n (lane_in a.lanes l).entries)); open_slots = os; inside = a.inside - n }) (sym orders)
      ∙ (ap (λ xs. record a { orders = rs; lanes = xs; pins = set a.pins q (without_entries (pins_at a.pins q) (take n (lane_in a.lanes l).entries)); open_slots = os; inside = a.inside - n }) (sym lanes)
      ∙ ap (λ xs. record a { orders = rs; lanes = ls; pins = xs; open_slots = os; inside = a.inside - n }) (sym pins)))

  row_core : IsCore code
  row_core = subst IsCore code_is rel.core

  row_view : view_in code ≡ after v (release_steps l n)
  row_view = ap view_in (sym code_is) ∙ (rel.view ∙ (ap (λ k. after (view_in a) (release_steps l k)) long ∙ ap (λ u. after u (release_steps l n)) same))

  row_leave : LeaveInTurn v l q (take n (unanswered_at v l))
  row_leave =
      subst (LeaveInTurn v l q)
      (sym (take-map unplaced n (lane_in a.lanes l).entries) ∙ ap (take n) (sym (unanswered_are a v l core same lane)))
      (subst (λ u. LeaveInTurn u l q (map unplaced (take n (lane_in a.lanes l).entries))) same rel.leave)

  -- its counts
  counts_hold : IsCore code → (inside_of (view_in code) + n ≡ inside_of v) × (entries_of (view_in code) ≡ entries_of v)
  counts_hold now = (
    omega (arith, now.inside, rel.inside, long, core.inside, ap inside_of same),
    omega (arith, now.entries, core.entries, ap entries_of same),
  )

  pub row_left : HasLeft code v l q n
  row_left =
      record {
        core = row_core;
        view = row_view;
        leave = row_leave;
        inside = (counts_hold row_core).0;
        entries = (counts_hold row_core).1;
        kept = ap kept_in row_view
            ∙ subst (λ k. kept_in (after v (release_steps l k)) ≡ kept_in v) (length-take-le n (unanswered_at v l) row.few) (leave_kept (take n (unanswered_at v l)) v l q row_leave);
      }
