-- The buffers of a device's queues, one of which changes or comes.
use Rattle.std.proofs.Common.{◌≡◌, ℕ, ◌<◌, ◌+◌, List, [], ◌∷◌, ◌++◌, length, map, take, set, get_or, All, Option, Some, true, refl, sym, ap, ◌∙◌, subst, arith}
use Rattle.std.proofs.lemmas.Bool.{lt-ltb}
use Rattle.std.proofs.lemmas.List.{length-map, map-set, map_push, get_or-map, get_or-set_same, take_more}
use Rattle.std.proofs.lemmas.List.Elements.{All-nil, All-push, All-set}
use Rattle.evt_types.specs.declared.draft.QueueDraft.{QueueDraft}
use Rattle.order_parts.specs.Reorder.{Reordering, empty}
use Rattle.order_parts.specs.Orders.{shown, is_restoring, IsBufferOf, IsBuffer, order_at}
use Rattle.evt_types.specs.Plan.{kept_room}

-- a buffer that is there restores an order
pub restores : (os : List (Option Reordering)) (rs : List Reordering) (q : ℕ) (old : Option Reordering) (r : Reordering) → All IsBufferOf os → map shown os ≡ rs → q < length rs
    → old ≡ get_or os q old → old ≡ Some r → is_restoring r ≡ true
restores os rs q old r all v h is some =
    let same : length os ≡ length rs = sym (length-map os shown) ∙ ap length v in
    let there : q < length os = omega (arith, h, same) in
    let room : 0 < r.depth = subst IsBufferOf (sym is ∙ some) (all q old there) in
    lt-ltb 0 r.depth room

-- what is read of one
pub order_read : (os : List (Option Reordering)) (rs : List Reordering) (q : ℕ) (old : Option Reordering) → map shown os ≡ rs → q < length rs → old ≡ get_or os q old → order_at rs q ≡ shown old
order_read os rs q old v h is =
    let there : q < length os = omega (arith, h, length-map os shown, ap length v) in
    ap (λ ys. order_at ys q) (sym v) ∙ (get_or-map shown os q old (empty 0) there ∙ ap shown (sym is))

-- one changes
pub set_shown : (f : Reordering → Reordering) (os : List (Option Reordering)) (rs : List Reordering) (q : ℕ) (old new : Option Reordering) → map shown os ≡ rs → q < length rs
    → old ≡ get_or os q old → shown new ≡ f (shown old) → map shown (set os q new) ≡ set rs q (f (order_at rs q))
set_shown f os rs q old new v h is e =
    let same : length os ≡ length rs = sym (length-map os shown) ∙ ap length v in
    let there : q < length os = omega (arith, h, same) in
    let here : order_at (map shown os) q ≡ shown old = get_or-map shown os q old (empty 0) there ∙ ap shown (sym is) in
    map-set shown os q new ∙ (ap (set (map shown os) q) (e ∙ ap f (sym here)) ∙ ap (λ ys. set ys q (f (order_at ys q))) v)

-- what one is, once it is another
pub shown_there : (os : List (Option Reordering)) (rs : List Reordering) (q : ℕ) (o : Option Reordering) → map shown os ≡ rs → q < length rs → order_at (map shown (set os q o)) q ≡ shown o
shown_there os rs q o v h = ap (λ xs. order_at xs q) (map-set shown os q o ∙ ap (λ xs. set xs q (shown o)) v) ∙ get_or-set_same rs q (shown o) (empty 0) h

pub shown_set : (os : List (Option Reordering)) (rs : List Reordering) (q : ℕ) (o : Option Reordering) → map shown os ≡ rs → q < length rs → map shown (set os q o) ≡ set rs q (order_at (map shown (set os q o)) q)
shown_set os rs q o v h = map-set shown os q o ∙ (ap (λ xs. set xs q (shown o)) v ∙ ap (set rs q) (sym (shown_there os rs q o v h)))

-- so many places of one leave
pub buffers_left : (os : List (Option Reordering)) (rs : List Reordering) (q : ℕ) (old : Option Reordering) (r new : Reordering) → All IsBufferOf os → map shown os ≡ rs → q < length rs
    → old ≡ get_or os q old → old ≡ Some r → new.depth ≡ r.depth → All IsBufferOf (set os q (Some new))
buffers_left os rs q old r new all v h is some depth =
    let same : length os ≡ length rs = sym (length-map os shown) ∙ ap length v in
    let there : q < length os = omega (arith, h, same) in
    let room : 0 < r.depth = subst IsBufferOf (sym is ∙ some) (all q old there) in
    All-set IsBufferOf os q (Some new) (omega (arith, room, depth)) all

pub buffers_same : (os : List (Option Reordering)) (rs : List Reordering) (q : ℕ) (old : Option Reordering) → All IsBufferOf os → map shown os ≡ rs → q < length rs → old ≡ get_or os q old → All IsBufferOf (set os q old)
buffers_same os rs q old all v h is =
    let same : length os ≡ length rs = sym (length-map os shown) ∙ ap length v in
    let there : q < length os = omega (arith, h, same) in
    All-set IsBufferOf os q old (subst IsBufferOf (sym is) (all q old there)) all

-- the first buffers of these queues, new
pub record AreBuffers (ds : List QueueDraft) (n : ℕ) (os : List (Option Reordering)) : Type 0 where
  pub shown : map shown os ≡ map (λ d. empty (kept_room d)) (take n ds)
  pub room : All IsBufferOf os

pub no_buffers : (ds : List QueueDraft) → AreBuffers ds 0 []
no_buffers ds = record { shown = refl; room = All-nil IsBufferOf }

pub buffer_more : (ds : List QueueDraft) (n : ℕ) (os : List (Option Reordering)) (d : QueueDraft) (o : Option Reordering) → n < length ds → IsBuffer (kept_room (get_or ds n d)) o → AreBuffers ds n os
    → AreBuffers ds (n + 1) (os ++ o ∷ [])
buffer_more ds n os d o h buffer all =
    record {
      shown = map_push shown os o ∙ (ap (λ rs. rs ++ shown o ∷ []) all.shown ∙ (ap (λ r. map (λ x. empty (kept_room x)) (take n ds) ++ r ∷ []) buffer.empty
          ∙ sym (ap (map (λ x. empty (kept_room x))) (take_more ds n d h) ∙ map_push (λ x. empty (kept_room x)) (take n ds) (get_or ds n d))));
      room = All-push IsBufferOf os o all.room buffer.room;
    }
