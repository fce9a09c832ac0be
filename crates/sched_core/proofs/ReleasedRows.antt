-- A core whose lane's oldest events, of an ordered queue that keeps nothing, are released, whichever places they have.
use Rattle.std.proofs.Common.{◌≡◌, ◌⊎◌, inl, inr, ℕ, zero, suc, ◌+◌, ◌-◌, ◌<◌, ◌≤◌, true, false, List, [], ◌∷◌, ◌++◌, All, None, Some, Vec, Global, ap, arith, drop, length, map, refl, set, slice_get, slice_index, subst, sym, take, ◌∙◌}
use Rattle.std.specs.Vec.{with_item}
use Rattle.std.proofs.lemmas.Bool.{cases_Bool, cond-true}
use Rattle.std.proofs.lemmas.List.{drop-drop, drop-map, get_or-set_same, length-map, length-take-le, map-append, map-set, set-get_or, take-append-drop, take-map}
use Rattle.std.proofs.lemmas.List.Elements.{All-cons, All-head, All-nil, All-tail}
use Rattle.std.proofs.lemmas.List.Sums.{sum_by-cons}
use Rattle.std.proofs.Math.Seq.{set-set}
use Rattle.lists.proofs.Lists.{and-false}
use Rattle.evt_types.specs.Place.{Place}
use Rattle.evt_types.specs.Plan.{is_ordered, kept_room, lanes_of, queue_of}
use Rattle.order_parts.proofs.Roomy.{lane_is}
use Rattle.order_parts.specs.Histories.{lane_in}
use Rattle.order_parts.specs.History as histories
use Rattle.order_parts.specs.History.{Entries}
use Rattle.order_parts.specs.Orders.{is_restoring, order_at}
use Rattle.order_parts.specs.Pins.{unpinned}
use Rattle.order_parts.specs.QueuePins.{pin_in, with_pin}
use Rattle.order_parts.specs.Released.{answered_front, released_all, released_in, without_answered}
use Rattle.order_parts.specs.Reorder.{Reordering, after_leaving, after_resolve, empty, oldest_answered, without_first, without_oldest}
use Rattle.order_parts.specs.Unpinned.{IsOfQueue}
use Rattle.order_parts.specs.declared.history.Entry.{Entry}
use Rattle.parked_queue.specs.Waits.{waits_at}
use Rattle.sched_core.proofs.Answering.{core_answers, oldest_entry, oldest_order, oldest_queue, resolved_orders, restores_here, some_inside}
use Rattle.sched_core.proofs.Cores.{in_view, lane_there, places_here, queue_there, same_parts, unanswered_here}
use Rattle.sched_core.proofs.Leaving.{core_left, with_orders}
use Rattle.sched_core.proofs.LettingGo.{HasLetGo, kept_all, leaving_waits, let_go_kept, released_place, released_places, released_view, releases_let_go}
use Rattle.sched_core.proofs.Ordered.{resolve_answers}
use Rattle.sched_core.proofs.Pinned.{no_pins}
use Rattle.sched_core.proofs.Released.{core_extras, held_few, opened_still, unanswered_are}
use Rattle.sched_core.proofs.Settling.{leaving-cons}
use Rattle.sched_core.specs.Inner.{unplaced}
use Rattle.sched_core.specs.OpenSlots.{IsOpened}
use Rattle.sched_core.specs.Ordered.{kept_of, places_in}
use Rattle.sched_core.specs.Rows.{AreLetGo}
use Rattle.sched_core.specs.View.{IsCore, next_in, unanswered_in, view_in, waiting_in}
use Rattle.sched_core.specs.declared.state.Core.TheInside.{Inside}
use Rattle.small_set.specs.declared.set.SmallSet.{SmallSet}
use Rattle.step_log.specs.Rows.{release_steps}
use Rattle.transcripts.specs.Standing.{View, after, kept_in, leaving, places_at, staying, unanswered_at}
use Rattle.transcripts.specs.Transcript.{Held}

-- ---- they are answered, and none of their places has left

abbrev pub answered : Inside → ℕ → ℕ → Vec SmallSet Global → List Entry → Inside
answered a l q os ys =
    record a {
      orders = set a.orders q (released_all (order_at a.orders q) ys);
      lanes = set a.lanes l (histories.entries_of (drop (length ys) (lane_in a.lanes l).entries) (lane_in a.lanes l).capacity);
      open_slots = os;
      inside = a.inside - length ys;
    }

pub record AreAnswered (a : Inside) (l q : ℕ) (os : Vec SmallSet Global) (ys : List Entry) : Type 0 where
  pub core : IsCore (answered a l q os ys)
  pub places : (released_all (order_at a.orders q) ys).places ≡ released_places (order_at a.orders q).places (map unplaced ys)
  pub inside : (a.inside - length ys) + length ys ≡ a.inside

-- one
module _ (a : Inside) (l : ℕ) (y : Entry) (os : Vec SmallSet Global) (core : IsCore a) (lane : l < lanes_of a.shape) (oldest : slice_get (lane_in a.lanes l).entries 0 ≡ Some y) (ordered : is_ordered (queue_of a.shape y.queue).kind ≡ true) (alone : slice_index a.extras.items l ≡ 0) (opens : IsOpened a.shape l a.open_slots.items os.items) where
  there : y.queue < length a.shape.queues
  there = oldest_queue a (view_in a) l y core refl lane oldest

  here : l < length a.lanes
  here = lane_there a (view_in a) l core refl lane

  in_orders : y.queue < length a.orders
  in_orders = oldest_order a (view_in a) l y core refl lane oldest

  abbrev r : Reordering
  r = order_at a.orders y.queue

  abbrev lane1 : Entries
  lane1 = histories.entries_of (drop 1 (lane_in a.lanes l).entries) (lane_in a.lanes l).capacity

  restoring : is_restoring r ≡ true
  restoring = restores_here a y.queue core there ∙ ordered

  unpins : a.pins ≡ with_pin a.pins y.queue y.slot (unpinned (pin_in a.pins y.queue y.slot))
  unpins = no_pins a.shape (map unanswered_in a.lanes) a.pins y.queue y.slot (unpinned (pin_in a.pins y.queue y.slot)) core.pins there ordered

  some_here : 1 ≤ a.inside
  some_here = some_inside a (view_in a) l y core refl lane oldest

  zeros : a.extras.items ≡ set a.extras.items l 0
  zeros = sym (set-get_or a.extras.items l 0) ∙ ap (set a.extras.items l) alone

  resolved_core : IsCore (record a { orders = resolved_orders a.orders y None; lanes = set a.lanes l lane1; open_slots = os; inside = a.inside - 1 })
  resolved_core =
      core_extras (record a { orders = resolved_orders a.orders y None; lanes = set a.lanes l lane1; extras = with_item a.extras l 0; open_slots = os; inside = a.inside - 1 }) a.extras
      (core_answers a (view_in a) l y core refl lane oldest None (All-nil _) os a.pins false opens (omega (arith, core.few)) unpins (and-false (is_restoring r))) zeros

  one_core : IsCore (answered a l y.queue os (y ∷ []))
  one_core =
      subst (λ s. IsCore (record a { orders = set a.orders y.queue s; lanes = set a.lanes l lane1; open_slots = os; inside = a.inside - 1 }))
      (cond-true (is_restoring r) (after_resolve r y.place None) r restoring) resolved_core

  one_places : (after_resolve r y.place None).places ≡ map (released_place y.number) r.places
  one_places =
      resolve_answers a.shape (kept_room (queue_of a.shape y.queue)) (waits_at a.queues y.queue) r y _ None (core.places.each y.queue there)
      (core.places.held l 0 y (oldest_entry a.lanes l (lane_in a.lanes l) y here (lane_is a.lanes l here) oldest) ordered)

  pub one_answered : AreAnswered a l y.queue os (y ∷ [])
  one_answered = record { core = one_core; places = one_places; inside = omega (arith, some_here) }

  -- and then others of the lane
  abbrev pub a1 : Inside
  a1 = answered a l y.queue os (y ∷ [])

  first_order : order_at a1.orders y.queue ≡ after_resolve r y.place None
  first_order = get_or-set_same a.orders y.queue (after_resolve r y.place None) (empty 0) in_orders

  pub first_lane : lane_in a1.lanes l ≡ lane1
  first_lane = get_or-set_same a.lanes l lane1 (histories.entries_of [] 0) here

  pub one_more : (zs : List Entry) → AreAnswered a1 l y.queue os zs → AreAnswered a l y.queue os (y ∷ zs)
  one_more zs rest =
      record {
        core = subst IsCore joined rest.core;
        places =
            ap (λ s. (released_all s zs).places) (sym first_order)
            ∙ (rest.places ∙ ap (λ xs. released_places xs (map unplaced zs)) (ap places_in first_order ∙ one_places));
        inside = omega (arith, some_here, rest.inside);
      }
    where
      one_and : 1 + length zs ≡ length (y ∷ zs)
      one_and = omega arith

      lanes_are : set a1.lanes l (histories.entries_of (drop (length zs) (lane_in a1.lanes l).entries) (lane_in a1.lanes l).capacity)
          ≡ set a.lanes l (histories.entries_of (drop (length (y ∷ zs)) (lane_in a.lanes l).entries) (lane_in a.lanes l).capacity)
      lanes_are =
          ap (λ (x : Entries). set a1.lanes l (histories.entries_of (drop (length zs) x.entries) x.capacity)) first_lane
          ∙ (set-set a.lanes l lane1 (histories.entries_of (drop (length zs) (drop 1 (lane_in a.lanes l).entries)) (lane_in a.lanes l).capacity)
          ∙ ap (λ xs. set a.lanes l (histories.entries_of xs (lane_in a.lanes l).capacity)) (drop-drop (length zs) 1 (lane_in a.lanes l).entries ∙ ap (λ n. drop n (lane_in a.lanes l).entries) one_and))

      orders_are : set a1.orders y.queue (released_all (order_at a1.orders y.queue) zs) ≡ set a.orders y.queue (released_all r (y ∷ zs))
      orders_are =
          ap (λ s. set a1.orders y.queue (released_all s zs)) first_order
          ∙ set-set a.orders y.queue (after_resolve r y.place None) (released_all (after_resolve r y.place None) zs)

      joined : answered a1 l y.queue os zs ≡ answered a l y.queue os (y ∷ zs)
      joined =
          ap (λ ls. record a1 { orders = set a1.orders y.queue (released_all (order_at a1.orders y.queue) zs); lanes = ls; inside = (a.inside - 1) - length zs }) lanes_are
          ∙ (ap (λ rs. record a1 { orders = rs; lanes = set a.lanes l (histories.entries_of (drop (length (y ∷ zs)) (lane_in a.lanes l).entries) (lane_in a.lanes l).capacity); inside = (a.inside - 1) - length zs }) orders_are
          ∙ ap (λ n. record a1 { orders = set a.orders y.queue (released_all r (y ∷ zs)); lanes = set a.lanes l (histories.entries_of (drop (length (y ∷ zs)) (lane_in a.lanes l).entries) (lane_in a.lanes l).capacity); inside = n }) (omega arith))

-- all of them
answered_of : (ys : List Entry) (y : Entry) (rest : List Entry) (a : Inside) (l q : ℕ) (os : Vec SmallSet Global) → IsCore a → l < lanes_of a.shape → (lane_in a.lanes l).entries ≡ y ∷ (ys ++ rest) → y.queue ≡ q → All (IsOfQueue q) ys
    → is_ordered (queue_of a.shape y.queue).kind ≡ true → slice_index a.extras.items l ≡ 0 → IsOpened a.shape l a.open_slots.items os.items → AreAnswered a l q os (y ∷ ys)
answered_of [] y rest a l q os core lane are of all ordered alone opens =
    subst (λ n. AreAnswered a l n os (y ∷ [])) of (one_answered a l y os core lane (ap (λ xs. slice_get xs 0) are) ordered alone opens)
answered_of (z ∷ zs) y rest a l q os core lane are of all ordered alone opens =
    let oldest : slice_get (lane_in a.lanes l).entries 0 ≡ Some y = ap (λ xs. slice_get xs 0) are in
    let still : z.queue ≡ y.queue = All-head (IsOfQueue q) z zs all ∙ sym of in
    let others : All (IsOfQueue y.queue) zs = subst (λ n. All (IsOfQueue n) zs) (sym of) (All-tail (IsOfQueue q) z zs all) in
    let left : (lane_in (a1 a l y os core lane oldest ordered alone opens).lanes l).entries ≡ z ∷ (zs ++ rest) =
    ap (λ (x : Entries). x.entries) (first_lane a l y os core lane oldest ordered alone opens) ∙ ap (drop 1) are in
    subst (λ n. AreAnswered a l n os (y ∷ z ∷ zs)) of
    (one_more a l y os core lane oldest ordered alone opens (z ∷ zs)
    (answered_of zs z rest (a1 a l y os core lane oldest ordered alone opens) l y.queue os (one_answered a l y os core lane oldest ordered alone opens).core lane left still others
    (subst (λ n. is_ordered (queue_of a.shape n).kind ≡ true) (sym still) ordered) alone (opened_still a.shape l a.open_slots.items os.items opens)))

-- ---- places leave that keep nothing

-- what is at the front of those of which some leave
record IsFront (xs : List Place) (n : ℕ) : Type 0 where
  first : Place
  oldest : oldest_answered xs ≡ Some first
  more : n ≤ length (leaving (drop 1 xs))
  none : 0 ≡ length first.forwards
  bare : kept_of (drop 1 xs) ≡ 0

front_is : (xs : List Place) (n : ℕ) → suc n ≤ length (leaving xs) → kept_of xs ≡ 0 → IsFront xs n
front_is [] n few bare = absurd (omega (arith, few))
front_is (x ∷ xs) n few bare = by_answer (cases_Bool x.answered)
  where
    by_answer : (x.answered ≡ true) ⊎ (x.answered ≡ false) → IsFront (x ∷ xs) n
    by_answer (inl done) =
        let both = sum_by-cons (λ (y : Place). length y.forwards) x xs in
        record {
          first = x;
          oldest = cond-true x.answered (Some x) None done;
          more = omega (arith, few, ap (λ (ys : List Place). length ys) (leaving-cons x xs done));
          none = omega (arith, bare, both);
          bare = omega (arith, bare, both);
        }
    by_answer (inr waits) = absurd (omega (arith, few, ap (λ (ys : List Place). length ys) (leaving_waits x xs waits)))

-- one leaves
abbrev without_one : Inside → ℕ → Inside
without_one a q = record a { orders = set a.orders q (without_oldest (order_at a.orders q)) }

core_without : (a : Inside) (q n : ℕ) → IsCore a → q < length a.shape.queues → IsFront (order_at a.orders q).places n → IsCore (without_one a q)
core_without a q n core known front =
    let left : IsCore (with_orders a (set a.orders q (without_oldest (order_at a.orders q))) (a.inside - 0) (a.entries - 0)) =
    core_left a (view_in a) q front.first 0 core refl known front.oldest front.none (set a.orders q (without_oldest (order_at a.orders q)))
    (ap (set a.orders q) (sym (ap (after_leaving (order_at a.orders q)) front.oldest))) in
    let inside : a.inside - 0 ≡ a.inside = omega arith in
    let entries : a.entries - 0 ≡ a.entries = omega arith in
    subst (λ m. IsCore (with_orders a (set a.orders q (without_oldest (order_at a.orders q))) a.inside m)) entries
    (subst (λ k. IsCore (with_orders a (set a.orders q (without_oldest (order_at a.orders q))) k (a.entries - 0))) inside left)

order_without : (a : Inside) (q : ℕ) → IsCore a → q < length a.shape.queues → order_at (without_one a q).orders q ≡ without_oldest (order_at a.orders q)
order_without a q core known = get_or-set_same a.orders q (without_oldest (order_at a.orders q)) (empty 0) (omega (arith, known, core.places.count))

-- so many leave
core_leaves : (n : ℕ) (a : Inside) (q : ℕ) → IsCore a → q < length a.shape.queues → kept_of (order_at a.orders q).places ≡ 0 → n ≤ length (leaving (order_at a.orders q).places)
    → IsCore (record a { orders = set a.orders q (without_first (order_at a.orders q) n) })
core_leaves zero a q core known bare few = subst (λ rs. IsCore (record a { orders = rs })) (sym (set-get_or a.orders q (empty 0))) core
core_leaves (suc n) a q core known bare few =
    let front : IsFront (order_at a.orders q).places n = front_is (order_at a.orders q).places n few bare in
    let now = order_without a q core known in
    subst (λ rs. IsCore (record a { orders = rs }))
    (ap (λ s. set (without_one a q).orders q (without_first s n)) now ∙ set-set a.orders q (without_oldest (order_at a.orders q)) (without_first (without_oldest (order_at a.orders q)) n))
    (core_leaves n (without_one a q) q (core_without a q n core known front) known (ap (λ (s : Reordering). kept_of s.places) now ∙ front.bare)
    (subst (λ (s : Reordering). n ≤ length (leaving s.places)) (sym now) front.more))

-- the places that are left
places_left : (n : ℕ) (r : Reordering) → (without_first r n).places ≡ drop n r.places
places_left zero r = refl
places_left (suc n) r = let one : 1 + n ≡ suc n = omega arith in places_left n (without_oldest r) ∙ (drop-drop n 1 r.places ∙ ap (λ m. drop m r.places) one)

places_stay : (r : Reordering) → (without_answered r).places ≡ staying r.places
places_stay r = places_left (length (answered_front r.places)) r

-- ---- a row

-- the first of some events is the lane's oldest
all_answered :
    (ws rest : List Entry) (a : Inside) (l q : ℕ) (os : Vec SmallSet Global) → 0 < length ws → IsCore a → l < lanes_of a.shape → (lane_in a.lanes l).entries ≡ ws ++ rest → All (IsOfQueue q) ws → is_ordered (queue_of a.shape q).kind ≡ true
    → slice_index a.extras.items l ≡ 0 → IsOpened a.shape l a.open_slots.items os.items → AreAnswered a l q os ws
all_answered [] rest a l q os some core lane are all ordered alone opens = absurd (omega (arith, some))
all_answered (y ∷ ys) rest a l q os some core lane are all ordered alone opens =
    let of : y.queue ≡ q = All-head (IsOfQueue q) y ys all in
    answered_of ys y rest a l q os core lane are of (All-tail (IsOfQueue q) y ys all) (subst (λ n. is_ordered (queue_of a.shape n).kind ≡ true) (sym of) ordered) alone opens

all_let_go : (hs rest : List Held) (v : View) (l q : ℕ) → 0 < length hs → is_ordered (queue_of v.shape q).kind ≡ true → q < length v.places → l < length v.unanswered → unanswered_at v l ≡ hs ++ rest → All (λ (x : Held). x.queue ≡ q) hs → kept_of (places_at v q) ≡ 0
    → HasLetGo v l q hs
all_let_go [] rest v l q some ordered there lane are all bare = absurd (omega (arith, some))
all_let_go (h ∷ hs) rest v l q some ordered there lane are all bare =
    releases_let_go hs h v l q rest ordered there lane are (All-head (λ (x : Held). x.queue ≡ q) h hs all) (All-tail (λ (x : Held). x.queue ≡ q) h hs all) bare

held_queues : (q : ℕ) (ys : List Entry) → All (IsOfQueue q) ys → All (λ (x : Held). x.queue ≡ q) (map unplaced ys)
held_queues q [] all = All-nil (λ (x : Held). x.queue ≡ q)
held_queues q (y ∷ ys) all = All-cons (λ (x : Held). x.queue ≡ q) (unplaced y) (map unplaced ys) (All-head (IsOfQueue q) y ys all) (held_queues q ys (All-tail (IsOfQueue q) y ys all))

-- What the code knows: so many of the lane's oldest events are of the queue, which is ordered and keeps nothing, and nothing was added beside
-- the oldest.
pub record IsBareRow (a : Inside) (v : View) (l q n : ℕ) : Type 0 where
  pub some : 0 < n
  pub few : n ≤ length (unanswered_at v l)
  pub there : q < length v.shape.queues
  pub all : All (IsOfQueue q) (take n (lane_in a.lanes l).entries)
  pub alone : slice_index a.extras.items l ≡ 0
  pub restoring : is_restoring (order_at a.orders q) ≡ true
  pub bare : kept_of (order_at a.orders q).places ≡ 0

-- what the core is once they are released
pub record HasReleasedRow (left : Inside) (v : View) (l n : ℕ) : Type 0 where
  pub core : IsCore left
  pub view : view_in left ≡ after v (release_steps l n)
  pub let_go : AreLetGo v l (take n (unanswered_at v l))
  pub kept : kept_in (view_in left) ≡ kept_in v

module _ (a : Inside) (v : View) (l q n : ℕ) (os : Vec SmallSet Global) (rs : List Reordering) (ls : List Entries) (core : IsCore a) (same : view_in a ≡ v) (lane : l < lanes_of v.shape) (row : IsBareRow a v l q n) (opens : IsOpened a.shape l a.open_slots.items os.items) (orders : rs ≡ set a.orders q (released_in (order_at a.orders q) (take n (lane_in a.lanes l).entries))) (lanes : ls ≡ set a.lanes l (histories.entries_of (drop n (lane_in a.lanes l).entries) (lane_in a.lanes l).capacity)) where
  abbrev all : List Entry
  all = (lane_in a.lanes l).entries

  abbrev ys : List Entry
  ys = take n all

  abbrev ro : Reordering
  ro = order_at a.orders q

  abbrev rn : Reordering
  rn = released_all ro ys

  long : length ys ≡ n
  long = length-take-le n all (held_few a v l n core same lane row.few)

  known : q < length a.shape.queues
  known = queue_there a v q same row.there

  in_lanes : l < length a.lanes
  in_lanes = lane_there a v l core same lane

  buffer_there : q < length a.orders
  buffer_there = omega (arith, known, core.places.count)

  ordered : is_ordered (queue_of a.shape q).kind ≡ true
  ordered = sym (restores_here a q core known) ∙ row.restoring

  -- they are answered
  marks : AreAnswered a l q os ys
  marks =
      all_answered ys (drop n all) a l q os (omega (arith, row.some, long)) core (subst (λ (u : View). l < lanes_of u.shape) (sym same) lane)
      (sym (take-append-drop n all)) row.all ordered row.alone opens

  abbrev m : Inside
  m = answered a l q os ys

  now : order_at m.orders q ≡ rn
  now = get_or-set_same a.orders q rn (empty 0) buffer_there

  nothing : kept_of (order_at m.orders q).places ≡ 0
  nothing = ap (λ (s : Reordering). kept_of s.places) now ∙ (ap kept_of marks.places ∙ (kept_all (map unplaced ys) ro.places ∙ row.bare))

  -- and the answered places leave
  left_core : IsCore (record m { orders = set m.orders q (without_first (order_at m.orders q) (length (leaving (order_at m.orders q).places))) })
  left_core = core_leaves (length (leaving (order_at m.orders q).places)) m q marks.core known nothing (omega arith)

  orders_are : set m.orders q (without_answered (order_at m.orders q)) ≡ rs
  orders_are =
      ap (λ s. set m.orders q (without_answered s)) now
      ∙ (set-set a.orders q rn (without_answered rn) ∙ (ap (set a.orders q) (sym (cond-true (is_restoring ro) (without_answered rn) ro row.restoring)) ∙ sym orders))

  abbrev code : Inside
  code = record a { orders = rs; lanes = ls; open_slots = os; inside = a.inside - n }

  code_is : record m { orders = set m.orders q (without_answered (order_at m.orders q)) } ≡ code
  code_is =
      ap (λ xs. record m { orders = xs }) orders_are
      ∙ (ap (λ k. record a { orders = rs; lanes = set a.lanes l (histories.entries_of (drop k all) (lane_in a.lanes l).capacity); open_slots = os; inside = a.inside - k }) long
      ∙ ap (λ xs. record a { orders = rs; lanes = xs; open_slots = os; inside = a.inside - n }) (sym lanes))

  row_core : IsCore code
  row_core = subst IsCore code_is left_core

  -- the same by the view
  abbrev hs : List Held
  hs = map unplaced ys

  abbrev va : View
  va = view_in a

  held_here : unanswered_at va l ≡ map unplaced all
  held_here = unanswered_here a l (lane_in a.lanes l) in_lanes (lane_is a.lanes l in_lanes)

  gone : HasLetGo va l q hs
  gone =
      all_let_go hs (map unplaced (drop n all)) va l q (omega (arith, row.some, long, length-map ys unplaced)) ordered (subst (λ k. q < k) (sym (length-map a.orders places_in)) buffer_there) (in_view a l in_lanes)
      (held_here ∙ (ap (map unplaced) (sym (take-append-drop n all)) ∙ map-append unplaced ys (drop n all))) (held_queues q ys row.all) (ap kept_of (places_here a q core known) ∙ row.bare)

  places_are : map places_in rs ≡ set (map places_in a.orders) q (staying (released_places (places_at va q) hs))
  places_are =
      ap (map places_in) (orders ∙ ap (set a.orders q) (cond-true (is_restoring ro) (without_answered rn) ro row.restoring))
      ∙ (map-set places_in a.orders q (without_answered rn)
      ∙ ap (set (map places_in a.orders) q) (places_stay rn ∙ ap staying (marks.places ∙ ap (λ xs. released_places xs hs) (sym (places_here a q core known)))))

  held_are : map unanswered_in ls ≡ set (map unanswered_in a.lanes) l (drop (length hs) (unanswered_at va l))
  held_are =
      ap (map unanswered_in) lanes
      ∙ (map-set unanswered_in a.lanes l (histories.entries_of (drop n all) (lane_in a.lanes l).capacity)
      ∙ ap (set (map unanswered_in a.lanes) l) (sym (drop-map unplaced n all) ∙ (ap (drop n) (sym held_here) ∙ ap (λ k. drop k (unanswered_at va l)) (sym (length-map ys unplaced ∙ long)))))

  code_view : view_in code ≡ released_view va l q hs
  code_view =
      same_parts a.shape (map waiting_in a.queues) _ (map next_in a.queues) _ (map places_in rs) _ (map unanswered_in ls) _ a.extras.items _ a.shut refl refl places_are held_are
      (sym (set-get_or a.extras.items l 0) ∙ ap (set a.extras.items l) row.alone)

  row_view : view_in code ≡ after v (release_steps l n)
  row_view = code_view ∙ (sym gone.view ∙ (ap (λ k. after va (release_steps l k)) (length-map ys unplaced ∙ long) ∙ ap (λ u. after u (release_steps l n)) same))

  row_let_go : AreLetGo v l (take n (unanswered_at v l))
  row_let_go =
      subst (AreLetGo v l) (sym (take-map unplaced n all) ∙ ap (take n) (sym (unanswered_are a v l core same lane)))
      (subst (λ u. AreLetGo u l hs) same gone.each)

  pub row_released : HasReleasedRow code v l n
  row_released =
      record {
        core = row_core;
        view = row_view;
        let_go = row_let_go;
        kept = ap kept_in row_view
            ∙ subst (λ k. kept_in (after v (release_steps l k)) ≡ kept_in v) (length-take-le n (unanswered_at v l) row.few) (let_go_kept (take n (unanswered_at v l)) v l row_let_go);
      }
