-- A row of events is handed to a lane one after another: one event more.
use Rattle.std.proofs.Common.{◌≡◌, ℕ, ◌+◌, ◌<◌, ◌≤◌, ◌%◌, true, false, List, [], ◌∷◌, ◌++◌, length, set, IsTrue, ⊎_elim, refl, sym, ap, ◌∙◌, subst, arith}
use Rattle.std.proofs.lemmas.Bool.{cases_Bool, cases_eq, cases_lt, cond-true, cond-false, false≢true}
use Rattle.std.proofs.lemmas.Grind.{get_or-set_at}
use Rattle.std.proofs.lemmas.List.{get_or-set_other, get_or-set_same, length-set, length_push, set-get_or, set-set, set_past}
use Rattle.evt_types.specs.declared.event.Delivery.{Delivery}
use Rattle.evt_types.specs.declared.shape.TheConstants.{MAX_DEPTH}
use Rattle.order_parts.specs.HandedRow.{AreHandedOn}
use Rattle.order_parts.specs.Dealing.{with_entry}
use Rattle.order_parts.specs.Histories.{lane_in}
use Rattle.order_parts.specs.History.{Entries, entries_of}
use Rattle.order_parts.specs.Orders.{handed, is_restoring, order_at}
use Rattle.order_parts.specs.Pins.{Pin, free, may_pin, pin_at, pinned}
use Rattle.order_parts.specs.QueuePins.{pin_in, pins_at}
use Rattle.order_parts.specs.Reorder.{Reordering, after_hand, empty, next_number, open_place}
use Rattle.order_parts.specs.declared.history.Entry.{Entry}
use Rattle.sched_core.specs.GiftRows.{AreHanded, pinned_on, slot_in_row}

pub handed_push : (n l q : ℕ) (os : List Reordering) (ps : List (List Pin)) (ls : List Entries) (ds : List Delivery) (d : Delivery) (ot : List Reordering) (pt : List (List Pin)) (lt : List Entries) (place : ℕ) → AreHanded n l q os ps ls ds ot pt lt
    → IsTrue (may_pin (pin_in pt q (slot_in_row n d)) l) → (is_restoring (order_at ot q) ≡ true → place ≡ next_number (order_at ot q))
    → AreHanded n l q os ps ls (ds ++ d ∷ []) (set ot q (handed (order_at ot q) d.number)) (pinned_on pt q (slot_in_row n d) l) (with_entry lt l (record { queue = q; number = d.number; slot = slot_in_row n d; place = place }))
handed_push n l q os ps ls [] d ot pt lt place went may placed =
    subst (λ x. AreHanded n l q x ps ls (d ∷ []) (set ot q (handed (order_at ot q) d.number)) (pinned_on pt q (slot_in_row n d) l) (with_entry lt l (record { queue = q; number = d.number; slot = slot_in_row n d; place = place }))) went.0
    (subst (λ x. AreHanded n l q ot x ls (d ∷ []) (set ot q (handed (order_at ot q) d.number)) (pinned_on pt q (slot_in_row n d) l) (with_entry lt l (record { queue = q; number = d.number; slot = slot_in_row n d; place = place }))) went.1
    (subst (λ x. AreHanded n l q ot pt x (d ∷ []) (set ot q (handed (order_at ot q) d.number)) (pinned_on pt q (slot_in_row n d) l) (with_entry lt l (record { queue = q; number = d.number; slot = slot_in_row n d; place = place }))) went.2
    (place, may, placed, (refl, refl, refl))))
handed_push n l q os ps ls (e ∷ ds) d ot pt lt place went may placed = (
  went.0,
  went.1,
  went.2,
  handed_push n l q (set os q (handed (order_at os q) e.number)) (pinned_on ps q (slot_in_row n e) l) (with_entry ls l (record { queue = q; number = e.number; slot = slot_in_row n e; place = went.0 })) ds d ot pt lt place went.3 may placed,
)

-- the places that are left, the pins' counts and the lane's room after it
pub places_left : (os : List Reordering) (q k more : ℕ) → q < length os → (is_restoring (order_at os q) ≡ true → length (order_at os q).places + (more + 1) ≤ (order_at os q).depth)
    → is_restoring (order_at (set os q (handed (order_at os q) k)) q) ≡ true → length (order_at (set os q (handed (order_at os q) k)) q).places + more ≤ (order_at (set os q (handed (order_at os q) k)) q).depth
places_left os q k more there left restoring =
    subst (λ (r : Reordering). length r.places + more ≤ r.depth) (sym here)
    (⊎_elim
    (λ yes. subst (λ (r : Reordering). length r.places + more ≤ r.depth) (sym (cond-true (is_restoring (order_at os q)) (after_hand (order_at os q) k) (order_at os q) yes)) (let fits = left yes in omega (arith, length_push (order_at os q).places (open_place k))))
    (λ plain. absurd (false≢true (sym (was_not plain) ∙ subst (λ (r : Reordering). is_restoring r ≡ true) here restoring)))
    (cases_Bool (is_restoring (order_at os q))))
  where
    here : order_at (set os q (handed (order_at os q) k)) q ≡ handed (order_at os q) k
    here = get_or-set_same os q (handed (order_at os q) k) (empty 0) there

    was_not : is_restoring (order_at os q) ≡ false → is_restoring (handed (order_at os q) k) ≡ false
    was_not plain = ap is_restoring (cond-false (is_restoring (order_at os q)) (after_hand (order_at os q) k) (order_at os q) plain) ∙ plain

pub counts_left : (ps : List (List Pin)) (q slot l more : ℕ) → q < length ps → ((s : ℕ) → IsTrue (may_pin (pin_in ps q s) l) → (pin_in ps q s).count + (more + 1) ≤ MAX_DEPTH) → IsTrue (may_pin (pin_in ps q slot) l)
    → (s : ℕ) → IsTrue (may_pin (pin_in (pinned_on ps q slot l) q s) l) → (pin_in (pinned_on ps q slot l) q s).count + more ≤ MAX_DEPTH
counts_left ps q slot l more there left may s can =
    let xs : List Pin = pins_at ps q in
    let x : Pin = pinned (pin_in ps q slot) l in
    let here : pin_in (pinned_on ps q slot l) q s ≡ pin_at (set xs slot x) s = ap (λ ys. pin_at ys s) (get_or-set_same ps q (set xs slot x) [] there) in
    let can_here : IsTrue (may_pin (pin_at (set xs slot x) s) l) = subst (λ (p : Pin). IsTrue (may_pin p l)) here can in
    subst (λ (p : Pin). p.count + more ≤ MAX_DEPTH) (sym here)
    (⊎_elim
    (λ lt. ⊎_elim
    (λ same. subst (λ (p : Pin). p.count + more ≤ MAX_DEPTH) (sym (get_or-set_at xs slot s x free same lt)) (let fits = left slot may in omega arith))
    (λ other. let e = get_or-set_other xs slot s x free other in let fits = left s (subst (λ (p : Pin). IsTrue (may_pin p l)) e can_here) in omega (arith, ap (λ (p : Pin). p.count) e))
    (cases_eq s slot))
    (λ le. let e = ap (λ ys. pin_at ys s) (set_past xs slot x le) in let fits = left s (subst (λ (p : Pin). IsTrue (may_pin p l)) e can_here) in omega (arith, ap (λ (p : Pin). p.count) e))
    (cases_lt slot (length xs)))

pub room_left : (ls : List Entries) (l more : ℕ) (y : Entry) → l < length ls → length (lane_in ls l).entries + (more + 1) ≤ (lane_in ls l).capacity → length (lane_in (with_entry ls l y) l).entries + more ≤ (lane_in (with_entry ls l y) l).capacity
room_left ls l more y there left =
    subst (λ (x : Entries). length x.entries + more ≤ x.capacity) (sym (get_or-set_same ls l (entries_of ((lane_in ls l).entries ++ y ∷ []) (lane_in ls l).capacity) (entries_of [] 0) there))
    (omega (arith, left, length_push (lane_in ls l).entries y))

-- ---- a queue that restores no order

-- its row, as the slots' pins and the lane's entries have it
module _ (is_slot : ℕ → ℕ → Type 0) (n l q : ℕ) (of : (flow slot : ℕ) → is_slot flow slot → slot ≡ flow % n) (os : List Reordering) (plain : is_restoring (order_at os q) ≡ false) where
  plain_order : (k : ℕ) → set os q (handed (order_at os q) k) ≡ os
  plain_order k = ap (set os q) (cond-false (is_restoring (order_at os q)) (after_hand (order_at os q) k) (order_at os q) plain) ∙ set-get_or os q (empty 0)

  pub plain_handed : (ps : List (List Pin)) (ls : List Entries) (ds : List Delivery) (pt : List Pin) (yt : List Entry) → q < length ps → l < length ls
      → AreHandedOn is_slot l q (pins_at ps q) (lane_in ls l).entries ds pt yt
      → AreHanded n l q os ps ls ds os (set ps q pt) (set ls l (entries_of yt (lane_in ls l).capacity))
  plain_handed ps ls [] pt yt pin there went = (
    refl,
    ap (set ps q) went.0 ∙ set-get_or ps q [],
    ap (λ ys. set ls l (entries_of ys (lane_in ls l).capacity)) went.1 ∙ set-get_or ls l (entries_of [] 0),
  )
  plain_handed ps ls (d ∷ ds) pt yt pin there went =
      let slot : went.0 ≡ slot_in_row n d = of d.event.flow went.0 went.1 in
      let y : Entry = record { queue = q; number = d.number; slot = slot_in_row n d; place = 0 } in
      let xs : List Pin = set (pins_at ps q) (slot_in_row n d) (pinned (pin_in ps q (slot_in_row n d)) l) in
      let held : Entries = entries_of ((lane_in ls l).entries ++ y ∷ []) (lane_in ls l).capacity in
      let pins_now : pins_at (pinned_on ps q (slot_in_row n d) l) q ≡ xs = get_or-set_same ps q xs [] pin in
      let lane_now : lane_in (with_entry ls l y) l ≡ held = get_or-set_same ls l held (entries_of [] 0) there in
      let rest : AreHandedOn is_slot l q xs held.entries ds pt yt =
      subst (λ s. AreHandedOn is_slot l q (set (pins_at ps q) s (pinned (pin_in ps q s) l)) ((lane_in ls l).entries ++ (record { queue = q; number = d.number; slot = s; place = 0 }) ∷ []) ds pt yt) slot went.3
      in
      let on = plain_handed (pinned_on ps q (slot_in_row n d) l) (with_entry ls l y) ds pt yt (omega (arith, pin, length-set ps q xs)) (omega (arith, there, length-set ls l held))
      (subst (λ x. AreHandedOn is_slot l q x (lane_in (with_entry ls l y) l).entries ds pt yt) (sym pins_now)
      (subst (λ (h : Entries). AreHandedOn is_slot l q xs h.entries ds pt yt) (sym lane_now) rest))
      in (
        0,
        subst (λ s. IsTrue (may_pin (pin_in ps q s) l)) slot went.2,
        λ restoring. absurd (false≢true (sym plain ∙ restoring)),
        subst (λ x. AreHanded n l q x (pinned_on ps q (slot_in_row n d) l) (with_entry ls l y) ds os (set ps q pt) (set ls l (entries_of yt (lane_in ls l).capacity))) (sym (plain_order d.number))
            (subst (λ x. AreHanded n l q os (pinned_on ps q (slot_in_row n d) l) (with_entry ls l y) ds os x (set ls l (entries_of yt (lane_in ls l).capacity))) (set-set ps q xs pt)
            (subst (λ x. AreHanded n l q os (pinned_on ps q (slot_in_row n d) l) (with_entry ls l y) ds os (set (pinned_on ps q (slot_in_row n d) l) q pt) x)
            (ap (λ (h : Entries). set (with_entry ls l y) l (entries_of yt h.capacity)) lane_now ∙ set-set ls l held (entries_of yt (lane_in ls l).capacity)) on)),
      )
