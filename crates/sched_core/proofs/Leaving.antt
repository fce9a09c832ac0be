-- A core after a place leaves: its view, and that what holds of each core holds of it.
use Rattle.std.proofs.Common.{◌≡◌, ℕ, ◌+◌, ◌-◌, ◌<◌, ◌≤◌, ◌^◌, List, [], ◌∷◌, length, map, drop, set, All, Bool, true, false, cond, Option, Some, None, refl, sym, ap, ◌∙◌, subst, arith}
use Rattle.std.specs.Prelude.{IsTrue}
use Rattle.std.proofs.lemmas.Bool.{false≢true}
use Rattle.std.proofs.lemmas.List.{length-map, map-set}
use Rattle.std.proofs.lemmas.List.Elements.{All-head}
use Rattle.std.proofs.lemmas.List.Sums.{sum_by-cons, get_or-le-sum_by}
use Rattle.evt_types.specs.Plan.{bound_of}
use Rattle.evt_types.specs.Place.{Place}
use Rattle.transcripts.specs.Standing.{View, inside_of, entries_of, kept_in}
use Rattle.evt_types.specs.declared.event.Event.{Event}
use Rattle.order_parts.specs.Reorder.{Reordering, oldest_answered, after_leave, after_leaving}
use Rattle.sched_core.proofs.Cores.{core_with, kept_after, places_here, queue_there, queues_here, same_parts}
use Rattle.sched_core.proofs.OrderFacts.{leaving_keeps}
use Rattle.sched_core.proofs.OrderMoves.{left_places}
use Rattle.sched_core.proofs.Ordered.{leaving_is}
use Rattle.sched_core.specs.Answered.{after_leave as view_leaves, rest_behind}
use Rattle.sched_core.specs.Ordered.{kept_of, places_in}
use Rattle.order_parts.specs.Orders.{order_at}
use Rattle.sched_core.specs.View.{waiting_in, next_in, unanswered_in, entries_in, view_in, IsCore}
use Rattle.sched_core.specs.declared.state.Core.TheInside.{Inside}

-- the buffers after it
abbrev pub left_orders : List Reordering → ℕ → List Reordering
left_orders rs q = set rs q (after_leave (order_at rs q))

abbrev pub with_orders : Inside → List Reordering → ℕ → ℕ → Inside
with_orders a rs n m = record a { orders = rs; inside = n; entries = m }

kept_left : (r : Reordering) (x : Place) → oldest_answered r.places ≡ Some x → kept_of (after_leave r).places + length x.forwards ≡ kept_of r.places
kept_left r x e =
    let is : r.places ≡ x ∷ drop 1 r.places = (leaving_is r.places x e).0 in
    let whole : kept_of r.places ≡ length x.forwards + kept_of (drop 1 r.places) = ap kept_of is ∙ sum_by-cons (λ (y : Place). length y.forwards) x (drop 1 r.places) in
    let now : kept_of (after_leave r).places ≡ kept_of (drop 1 r.places) = ap (λ o. kept_of (after_leaving r o).places) e in
    omega arith

module _ (a : Inside) (v : View) (q : ℕ) (x : Place) (k : ℕ) (core : IsCore a) (same : view_in a ≡ v) (there : q < length v.shape.queues) (oldest : oldest_answered (order_at a.orders q).places ≡ Some x) (count : k ≡ length x.forwards) where
  h : q < length a.shape.queues
  h = queue_there a v q same there

  -- what leaves was counted
  pub left_counts : (k ≤ a.inside) × (k ≤ a.entries)
  left_counts =
      let fewer = kept_left (order_at a.orders q) x oldest in
      let orders = core.places.count in
      let le : kept_of (order_at a.orders q).places ≤ kept_in (view_in a) =
      subst (λ xs. kept_of xs ≤ kept_in (view_in a)) (places_here a q core h) (get_or-le-sum_by kept_of (view_in a).places q [] (subst (λ n. q < n) (sym (length-map a.orders places_in)) (omega (arith, h, orders)))) in
      (omega arith, omega arith)

  pub core_leaves : IsCore (with_orders a (left_orders a.orders q) (a.inside - k) (a.entries - k))
  core_leaves =
      let orders = core.places.count in
      let keeps = kept_after a (with_orders a (left_orders a.orders q) (a.inside - k) (a.entries - k)) q (after_leave (order_at a.orders q)) refl (omega (arith, h, orders)) in
      let fewer = kept_left (order_at a.orders q) x oldest in
      let counted = left_counts.0 in
      let entered = left_counts.1 in
      core_with a a.queues (left_orders a.orders q) a.lanes a.extras a.pins (a.inside - k) (a.entries - k) a.open_slots core (queues_here a core) core.lanes core.room core.extras core.pins
      (left_places a.shape a.queues a.orders (map entries_in a.lanes) a.extras.items q core.places h)
      core.open_slots (record { inside = omega arith; within = omega arith; entries = omega arith; few = omega arith })

  pub view_left : view_in (with_orders a (left_orders a.orders q) (a.inside - k) (a.entries - k)) ≡ view_leaves v q
  view_left =
      same_parts a.shape (map waiting_in a.queues) _ (map next_in a.queues) _ _ _ (map unanswered_in a.lanes) _ a.extras.items _ a.shut refl refl
      (map-set places_in a.orders q (after_leave r) ∙ ap (set (map places_in a.orders) q) (by_oldest (oldest_answered r.places) ∙ sym (ap (λ xs. rest_behind xs (oldest_answered xs)) (places_here a q core h)))) refl refl
      ∙ ap (λ u. view_leaves u q) same
    where
      r : Reordering
      r = order_at a.orders q

      by_oldest : (o : Option Place) → (after_leaving r o).places ≡ rest_behind r.places o
      by_oldest None = refl
      by_oldest (Some x) = refl

  -- what leaves
  pub leaving_named : All (λ (e : Event). e.queue < length v.shape.queues) x.forwards
  leaving_named = subst (λ (u : View). All (λ (e : Event). e.queue < length u.shape.queues) x.forwards) same (leaving_keeps a.shape a.queues a.orders (map entries_in a.lanes) a.extras.items q x core.places h oldest).named

  pub leaving_one : (e : Event) → x.forwards ≡ e ∷ [] → e.queue < length v.shape.queues
  leaving_one e is = All-head (λ (d : Event). d.queue < length v.shape.queues) e [] (subst (All (λ (d : Event). d.queue < length v.shape.queues)) is leaving_named)

  -- events that left are counted no more
  pub left_room : (inside_of (view_in (with_orders a (left_orders a.orders q) (a.inside - k) (a.entries - k))) + length x.forwards ≤ bound_of v.shape)
      × (entries_of (view_in (with_orders a (left_orders a.orders q) (a.inside - k) (a.entries - k))) + length x.forwards ≤ 2 ^ 63)
  left_room =
      let inside = core_leaves.inside in
      let entries = core_leaves.entries in
      let counts = left_counts in
      let within : inside_of (view_in a) ≤ bound_of v.shape = subst (λ (u : View). inside_of (view_in a) ≤ bound_of u.shape) same core.within in
      let was = core.inside in
      let had = core.entries in
      (omega (arith, counts.0), omega (arith, counts.1))

  -- one event at least
  pub left_some : 0 < length x.forwards → (inside_of (view_in (with_orders a (left_orders a.orders q) (a.inside - k) (a.entries - k))) < bound_of v.shape)
      × (entries_of (view_in (with_orders a (left_orders a.orders q) (a.inside - k) (a.entries - k))) < 2 ^ 63)
  left_some some = (omega (arith, left_room.0, some), omega (arith, left_room.1, some))

-- the same of the buffers that another call left: so that no large goal has to be rewritten
module _ (a : Inside) (v : View) (q : ℕ) (x : Place) (k : ℕ) (core : IsCore a) (same : view_in a ≡ v) (there : q < length v.shape.queues) (oldest : oldest_answered (order_at a.orders q).places ≡ Some x) (count : k ≡ length x.forwards) (rs : List Reordering) (rest : rs ≡ left_orders a.orders q) where
  pub core_left : IsCore (with_orders a rs (a.inside - k) (a.entries - k))
  core_left = subst (λ os. IsCore (with_orders a os (a.inside - k) (a.entries - k))) (sym rest) (core_leaves a v q x k core same there oldest count)

  pub view_with : view_in (with_orders a rs (a.inside - k) (a.entries - k)) ≡ view_leaves v q
  view_with = ap (λ os. view_in (with_orders a os (a.inside - k) (a.entries - k))) rest ∙ view_left a v q x k core same there oldest count

  pub room_with : (inside_of (view_in (with_orders a rs (a.inside - k) (a.entries - k))) + length x.forwards ≤ bound_of v.shape)
      × (entries_of (view_in (with_orders a rs (a.inside - k) (a.entries - k))) + length x.forwards ≤ 2 ^ 63)
  room_with =
      subst
      (λ os.
      (inside_of (view_in (with_orders a os (a.inside - k) (a.entries - k))) + length x.forwards ≤ bound_of v.shape)
      × (entries_of (view_in (with_orders a os (a.inside - k) (a.entries - k))) + length x.forwards ≤ 2 ^ 63))
      (sym rest) (left_room a v q x k core same there oldest count)

  pub some_with : 0 < length x.forwards → (inside_of (view_in (with_orders a rs (a.inside - k) (a.entries - k))) < bound_of v.shape)
      × (entries_of (view_in (with_orders a rs (a.inside - k) (a.entries - k))) < 2 ^ 63)
  some_with some =
      subst
      (λ os.
      (inside_of (view_in (with_orders a os (a.inside - k) (a.entries - k))) < bound_of v.shape)
      × (entries_of (view_in (with_orders a os (a.inside - k) (a.entries - k))) < 2 ^ 63))
      (sym rest) (left_some a v q x k core same there oldest count some)

-- ---- a place that keeps one event or none

-- what it keeps
abbrev pub kept_if : Bool → Event → List Event
kept_if b e = cond b (e ∷ []) []

-- it is counted
pub keeps_count : (b : Bool) (e : Event) (k : ℕ) → k ≡ cond b 1 0 → k ≡ length (kept_if b e)
keeps_count true e k is = is
keeps_count false e k is = is

-- where one is kept, that is the event
pub keeps_one : (b : Bool) (e : Event) → IsTrue b → kept_if b e ≡ e ∷ []
keeps_one true e is = refl
keeps_one false e is = absurd (false≢true is)

pub keeps_some : (b : Bool) (e : Event) → IsTrue b → 0 < length (kept_if b e)
keeps_some true e is = omega arith
keeps_some false e is = absurd (false≢true is)
