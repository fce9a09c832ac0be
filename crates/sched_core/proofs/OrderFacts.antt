-- What the reorder buffers of a device say of its view, and how many events are inside as the places are answered and leave.
use Rattle.std.proofs.Common.{◌≡◌, ℕ, zero, suc, ◌<◌, ◌≤◌, ◌^◌, true, false, List, [], ◌∷◌, length, map, drop, get_or, All, Some, slice_get, ◌⊎◌, inl, inr, refl, sym, ap, ◌∙◌, subst, arith}
use Rattle.std.proofs.lemmas.Bool.{cases_Bool, cond-true, cond-false}
use Rattle.std.proofs.lemmas.List.Elements.{All-nil, All-head, All-tail}
use Rattle.std.proofs.lemmas.Option.{none-some}
use Rattle.evt_types.specs.Plan.{Plan, queue_of, is_ordered, kept_room}
use Rattle.evt_types.specs.Place.{Place}
use Rattle.evt_types.specs.declared.draft.QueueDraft.{QueueDraft}
use Rattle.evt_types.specs.declared.event.Kind.TheVariants.{Parallel}
use Rattle.order_parts.specs.Reorder.{Reordering, empty, oldest_answered}
use Rattle.order_parts.specs.declared.history.Entry.{Entry}
use Rattle.sched_core.specs.Ordered.{ArePlaces, IsOrder, KeepsFew, IsGivenOf, entries_at, entry_at, places_in}
use Rattle.order_parts.specs.Orders.{order_at}
use Rattle.parked_queue.specs.Waits.{Waits, waits_at}
use Rattle.sched_core.proofs.Ordered.{leaving_is}

-- ---- nothing has happened

pub new_places : (p : Plan) (ws : List Waits) (rs : List Reordering) (us : List (List Entry)) (es : List ℕ) → length ws ≡ length p.queues → length rs ≡ length p.queues
    → ((q : ℕ) → q < length p.queues → order_at rs q ≡ empty (kept_room (queue_of p q))) → ((q : ℕ) → q < length p.queues → kept_room (queue_of p q) < 2 ^ 64)
    → All (λ (ys : List Entry). ys ≡ []) us → ArePlaces p ws rs us es
new_places p ws rs us es queues count fresh small bare =
    record {
      queues = queues;
      count = count;
      each = λ q h. subst (IsOrder p (kept_room (queue_of p q)) (waits_at ws q)) (sym (fresh q h)) (order_new (kept_room (queue_of p q)) (waits_at ws q) (small q h));
      held = λ l k y at. absurd (none_there us bare l k y at);
      once = λ l m j k y z at. absurd (none_there us bare l j y at);
    }
  where
    order_new : (n : ℕ) (w : Waits) → n < 2 ^ 64 → IsOrder p n w (empty n)
    order_new n w lt =
        record {
          room = refl;
          small = lt;
          within = omega arith;
          first = omega arith;
          distinct = λ i j d ij within. absurd (omega arith);
          below = All-nil (λ (x : Place). x.number < w.next);
          given = All-nil (IsGivenOf w);
          keeps = All-nil (KeepsFew p);
        }

    bare_at : (xs : List (List Entry)) → All (λ (ys : List Entry). ys ≡ []) xs → (l : ℕ) → entries_at xs l ≡ []
    bare_at [] all l = refl
    bare_at (ys ∷ xs) all zero = All-head (λ (zs : List Entry). zs ≡ []) ys xs all
    bare_at (ys ∷ xs) all (suc l) = bare_at xs (All-tail (λ (zs : List Entry). zs ≡ []) ys xs all) l

    none_there : (xs : List (List Entry)) → All (λ (ys : List Entry). ys ≡ []) xs → (l k : ℕ) (y : Entry) → entry_at xs l k ≡ Some y → ⊥
    none_there xs all l k y at = none-some y (sym (ap (λ ys. slice_get ys k) (bare_at xs all l)) ∙ at)

-- a depth that is within the limits is small
pub order_small : (p : Plan) (q : ℕ) → All (λ (d : QueueDraft). is_ordered d.kind ≡ true → (1 ≤ d.order) × (d.order ≤ 256)) p.queues → q < length p.queues → kept_room (queue_of p q) < 2 ^ 64
order_small p q limits h = by_kind (cases_Bool (is_ordered (queue_of p q).kind))
  where
    by_kind : (is_ordered (queue_of p q).kind ≡ true) ⊎ (is_ordered (queue_of p q).kind ≡ false) → kept_room (queue_of p q) < 2 ^ 64
    by_kind (inl ordered) =
        let most = limits q (record { kind = Parallel; priority = 0; slots = 0; order = 0; single = false }) h ordered in
        subst (λ n. n < 2 ^ 64) (sym (cond-true (is_ordered (queue_of p q).kind) (queue_of p q).order 0 ordered)) (small (queue_of p q).order most.1)
      where
        small : (n : ℕ) → n ≤ 256 → n < 2 ^ 64
        small n le = omega arith
    by_kind (inr plain) = subst (λ n. n < 2 ^ 64) (sym (cond-false (is_ordered (queue_of p q).kind) (queue_of p q).order 0 plain)) (omega arith)

-- ---- the buffers and the view

-- what a place that leaves keeps
pub leaving_keeps : (p : Plan) (ws : List Waits) (rs : List Reordering) (us : List (List Entry)) (es : List ℕ) (q : ℕ) (x : Place) → ArePlaces p ws rs us es → q < length p.queues
    → oldest_answered (order_at rs q).places ≡ Some x → KeepsFew p x
leaving_keeps p ws rs us es q x a h e =
    let is = leaving_is (order_at rs q).places x e in
    All-head (KeepsFew p) x (drop 1 (order_at rs q).places) (subst (All (KeepsFew p)) is.0 (a.each q h).keeps)

-- ---- the view's places after a small move

pub places_here : (rs : List Reordering) (q : ℕ) → get_or (map places_in rs) q [] ≡ (order_at rs q).places
places_here [] q = refl
places_here (r ∷ rs) zero = refl
places_here (r ∷ rs) (suc q) = places_here rs q
