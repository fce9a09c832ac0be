-- A row of events is dealt among lanes one after another: one event more.
use Rattle.std.proofs.Common.{◌≡◌, ◌↔◌, ℕ, ◌+◌, ◌-◌, ◌<◌, ◌≤◌, true, false, List, [], ◌∷◌, ◌++◌, length, set, get_or, take, All, IsTrue, Some, slice_get, cond, ◌==◌, eq-eqb, ⊎_elim, refl, sym, ap, ◌∙◌, subst, arith}
use Rattle.std.proofs.lemmas.Bool.{cases_Bool, cases_eq, cases_lt, cond-true, cond-false, false≢true, ne_eqb}
use Rattle.std.proofs.lemmas.Grind.{get_or-set_at}
use Rattle.std.proofs.lemmas.List.Elements.{All-cons, All-nil}
use Rattle.std.proofs.lemmas.List.Sums.{sum_by-cons}
use Rattle.std.proofs.lemmas.List.{get_or_past, get_or-set_other, get_or-set_same, length_push, set_past, take_more}
use Rattle.std.proofs.lemmas.Option.{slice_get-get_or}
use Rattle.std.specs.Int.{bit_at}
use Rattle.evt_types.specs.declared.event.Delivery.{Delivery}
use Rattle.evt_types.specs.declared.shape.TheConstants.{MAX_DEPTH}
use Rattle.order_parts.specs.Dealing.{AreDealt, AreOpenOf, HasFewer, HasNoLane, IsBestOf, IsBestOpen, loads_in, room_at, times, with_entry}
use Rattle.order_parts.specs.HandedRow.{with_pinned}
use Rattle.order_parts.specs.Histories.{AreRoomy, HasRoom, lane_in}
use Rattle.order_parts.specs.History.{Entries, entries_of}
use Rattle.order_parts.specs.Orders.{handed, is_restoring}
use Rattle.order_parts.specs.Pins.{Pin, free, may_pin, pin_at, pinned}
use Rattle.order_parts.specs.Reorder.{Reordering, after_hand, next_number, open_place}
use Rattle.order_parts.specs.declared.history.Entry.{Entry}
use Rattle.order_parts.proofs.Holders.{stands_on}
use Rattle.small_set.specs.SmallSets.{Has, SameBut}
use Rattle.small_set.specs.declared.set.SmallSet.{SmallSet}

-- the best of the lanes with room
pub best_open : (ps : List Pin) (ls : List Entries) (among opened : SmallSet) (slot l : ℕ) → AreOpenOf among ls opened → IsBestOf ps ls opened slot l → IsBestOpen ps ls among slot l
best_open ps ls among opened slot l are best =
    let its = (are l).0 best.there in
    record { there = its.0; room = its.1; may = best.may; best = λ m has room may. best.best m ((are m).1 (has, room)) may }

-- of a queue without pins each lane may have each slot
pub best_unpinned : (ls : List Entries) (among opened : SmallSet) (slot l : ℕ) → AreOpenOf among ls opened → Has opened l → ((m : ℕ) → Has opened m → ¬ HasFewer (loads_in ls) m l) → IsBestOpen [] ls among slot l
best_unpinned ls among opened slot l are has best =
    best_open [] ls among opened slot l are (record { there = has; may = refl; best = λ m there may. best m there })

-- a queue that restores no order has the same one after each
pub plain_order : (r : Reordering) (n : ℕ) → is_restoring r ≡ false → r ≡ handed r n
plain_order r n plain = sym (cond-false (is_restoring r) (after_hand r n) r plain)

-- a lane has an entry more: the others stand as they were, and those are open that have room
pub others_stay : (ls was : List Entries) (l : ℕ) (y : Entry) (among : SmallSet) → Has among l → ((m : ℕ) → ¬ Has among m → lane_in ls m ≡ lane_in was m) → (m : ℕ) → ¬ Has among m → lane_in (with_entry ls l y) m ≡ lane_in was m
others_stay ls was l y among has same m out =
    get_or-set_other ls l m (entries_of ((lane_in ls l).entries ++ y ∷ []) (lane_in ls l).capacity) (entries_of [] 0) (λ e. out (subst (Has among) (sym e) has)) ∙ same m out

-- a lane has an entry more: those of the lanes are open that have room
pub open_push : (ls : List Entries) (l : ℕ) (y : Entry) (among was now : SmallSet) → HasRoom ls l → SameBut l was now → (Has now l ↔ (Has was l × HasRoom (with_entry ls l y) l)) → AreOpenOf among ls was → AreOpenOf among (with_entry ls l y) now
open_push ls l y among was now room others mine are m =
    ⊎_elim
    (λ same. subst (λ k. Has now k ↔ (Has among k × HasRoom (with_entry ls l y) k)) (sym same)
    (λ has. (((are l).0 (mine.0 has).0).0, (mine.0 has).1), λ both. mine.1 ((are l).1 (both.0, room), both.1)))
    (λ ne.
    let here : lane_in (with_entry ls l y) m ≡ lane_in ls m = get_or-set_other ls l m (entries_of ((lane_in ls l).entries ++ y ∷ []) (lane_in ls l).capacity) (entries_of [] 0) ne in
    subst (λ (x : Entries). Has now m ↔ (Has among m × (length x.entries < x.capacity))) (sym here)
    (λ has. (are m).0 ((others m ne).0 has), λ both. (others m ne).1 ((are m).1 both)))
    (cases_eq m l)

-- the lanes that have room once some of these were dealt to, of which those are open that have room
pub roomy_dealt : (ls lt : List Entries) (among opened roomy gone now : SmallSet) → AreRoomy ls roomy → length lt ≡ length ls → ((m : ℕ) → Has among m → HasRoom ls m) → AreOpenOf among lt opened → ((m : ℕ) → ¬ Has among m → lane_in lt m ≡ lane_in ls m)
    → ((m : ℕ) → Has gone m ↔ (Has among m × ¬ Has opened m)) → ((m : ℕ) → Has now m ↔ (Has roomy m × ¬ Has gone m)) → AreRoomy lt now
roomy_dealt ls lt among opened roomy gone now are long first still others went is m within few = (
  λ has.
      let kept = (is m).0 has in
      ⊎_elim (λ its. ⊎_elim (λ yes. ((still m).0 yes).1) (λ no. absurd (kept.1 ((went m).1 (its, no)))) (cases_eq (bit_at opened.bits m) 1))
      (λ out. subst (λ (x : Entries). length x.entries < x.capacity) (sym (others m out)) ((are m (omega (arith, within, long)) few).0 kept.0)) (cases_eq (bit_at among.bits m) 1),
  λ room.
      (is m).1 (
        ⊎_elim (λ its. (are m (omega (arith, within, long)) few).1 (first m its))
            (λ out. (are m (omega (arith, within, long)) few).1 (subst (λ (x : Entries). length x.entries < x.capacity) (others m out) room)) (cases_eq (bit_at among.bits m) 1),
        λ left. let parts = (went m).0 left in parts.1 ((still m).1 (parts.0, room)),
      ),
)

-- a lane that has room is there
pub room_within : (ls : List Entries) (l : ℕ) → HasRoom ls l → l < length ls
room_within ls l room =
    ⊎_elim (λ lt. lt) (λ past. absurd (let none = ap (λ (x : Entries). x.capacity) (get_or_past ls l (entries_of [] 0) past) in omega (arith, room, none))) (cases_lt l (length ls))

-- ---- what was dealt

module _ (is_slot : ℕ → ℕ → Type 0) (among : SmallSet) (q : ℕ) where
  dealt_push : (r : Reordering) (ps : List Pin) (ls : List Entries) (ds : List Delivery) (to : List ℕ) (d : Delivery) (l : ℕ) (rt : Reordering) (pt : List Pin) (lt : List Entries) (slot place : ℕ) → AreDealt is_slot among q r ps ls ds to rt pt lt
      → is_slot d.event.flow slot → IsBestOpen pt lt among slot l → (is_restoring rt ≡ true → place ≡ next_number rt)
      → AreDealt is_slot among q r ps ls (ds ++ d ∷ []) (to ++ l ∷ []) (handed rt d.number) (with_pinned pt slot l) (with_entry lt l (record { queue = q; number = d.number; slot = slot; place = place }))
  dealt_push r ps ls [] [] d l rt pt lt slot place went is best placed =
      let y : Entry = record { queue = q; number = d.number; slot = slot; place = place } in
      subst (λ x. AreDealt is_slot among q x ps ls (d ∷ []) (l ∷ []) (handed rt d.number) (with_pinned pt slot l) (with_entry lt l y)) went.0
      (subst (λ x. AreDealt is_slot among q rt x ls (d ∷ []) (l ∷ []) (handed rt d.number) (with_pinned pt slot l) (with_entry lt l y)) went.1
      (subst (λ x. AreDealt is_slot among q rt pt x (d ∷ []) (l ∷ []) (handed rt d.number) (with_pinned pt slot l) (with_entry lt l y)) went.2
      (slot, place, is, best, placed, (refl, refl, refl))))
  dealt_push r ps ls [] (k ∷ to) d l rt pt lt slot place went is best placed = absurd went
  dealt_push r ps ls (e ∷ ds) [] d l rt pt lt slot place went is best placed = absurd went
  dealt_push r ps ls (e ∷ ds) (k ∷ to) d l rt pt lt slot place went is best placed = (
    went.0,
    went.1,
    went.2,
    went.3,
    went.4,
    dealt_push (handed r e.number) (with_pinned ps went.0 k) (with_entry ls k (record { queue = q; number = e.number; slot = went.0; place = went.1 })) ds to d l rt pt lt slot place went.5 is best placed,
  )

  -- the row's next event
  pub dealt_next : (r : Reordering) (ps : List Pin) (ls : List Entries) (row : List Delivery) (i : ℕ) (to ts : List ℕ) (d : Delivery) (l slot number place : ℕ) (rt ro : Reordering) (pt po : List Pin) (lt lo : List Entries)
      → i < length row → d ≡ get_or row i d → ts ≡ to ++ l ∷ [] → number ≡ d.number → ro ≡ handed rt number → po ≡ with_pinned pt slot l → lo ≡ with_entry lt l (record { queue = q; number = number; slot = slot; place = place })
      → AreDealt is_slot among q r ps ls (take i row) to rt pt lt → is_slot d.event.flow slot → IsBestOpen pt lt among slot l → (is_restoring rt ≡ true → place ≡ next_number rt)
      → AreDealt is_slot among q r ps ls (take (i + 1) row) ts ro po lo
  dealt_next r ps ls row i to ts d l slot number place rt ro pt po lt lo within read longer number_is order pins lanes went is best placed =
      let order_now : ro ≡ handed rt d.number = order ∙ ap (handed rt) number_is in
      let lanes_now : lo ≡ with_entry lt l (record { queue = q; number = d.number; slot = slot; place = place }) = lanes ∙ ap (λ k. with_entry lt l (record { queue = q; number = k; slot = slot; place = place })) number_is in
      subst (λ ds. AreDealt is_slot among q r ps ls ds ts ro po lo) (sym (take_more row i d within ∙ ap (λ e. take i row ++ e ∷ []) (sym read)))
      (subst (λ xs. AreDealt is_slot among q r ps ls (take i row ++ d ∷ []) xs ro po lo) (sym longer)
      (subst (λ x. AreDealt is_slot among q r ps ls (take i row ++ d ∷ []) (to ++ l ∷ []) x po lo) (sym order_now)
      (subst (λ x. AreDealt is_slot among q r ps ls (take i row ++ d ∷ []) (to ++ l ∷ []) (handed rt d.number) x lo) (sym pins)
      (subst (AreDealt is_slot among q r ps ls (take i row ++ d ∷ []) (to ++ l ∷ []) (handed rt d.number) (with_pinned pt slot l)) (sym lanes_now)
      (dealt_push r ps ls (take i row) to d l rt pt lt slot place went is best placed)))))

  -- the same of what is equal
  pub dealt_same : (r ro : Reordering) (ps po : List Pin) (ls lo : List Entries) (row : List Delivery) (to too : List ℕ) (rt rto : Reordering) (pt pto : List Pin) (lt lto : List Entries) → ro ≡ r → po ≡ ps → lo ≡ ls → too ≡ to → rto ≡ rt → pto ≡ pt → lto ≡ lt
      → AreDealt is_slot among q r ps ls (take (length to) row) to rt pt lt → AreDealt is_slot among q ro po lo (take (length too) row) too rto pto lto
  dealt_same r ro ps po ls lo row to too rt rto pt pto lt lto a b c d e f h went =
      subst (λ x. AreDealt is_slot among q x po lo (take (length too) row) too rto pto lto) (sym a)
      (subst (λ x. AreDealt is_slot among q r x lo (take (length too) row) too rto pto lto) (sym b)
      (subst (λ x. AreDealt is_slot among q r ps x (take (length too) row) too rto pto lto) (sym c)
      (subst (λ x. AreDealt is_slot among q r ps ls (take (length x) row) x rto pto lto) (sym d)
      (subst (λ x. AreDealt is_slot among q r ps ls (take (length to) row) to x pto lto) (sym e)
      (subst (λ x. AreDealt is_slot among q r ps ls (take (length to) row) to rt x lto) (sym f)
      (subst (AreDealt is_slot among q r ps ls (take (length to) row) to rt pt) (sym h) went))))))

  -- all lanes are among these
  pub dealt_lanes : (r : Reordering) (ps : List Pin) (ls : List Entries) (ds : List Delivery) (to : List ℕ) (rt : Reordering) (pt : List Pin) (lt : List Entries) → AreDealt is_slot among q r ps ls ds to rt pt lt → All (Has among) to
  dealt_lanes r ps ls [] [] rt pt lt went = All-nil (Has among)
  dealt_lanes r ps ls [] (l ∷ to) rt pt lt went = absurd went
  dealt_lanes r ps ls (d ∷ ds) [] rt pt lt went = absurd went
  dealt_lanes r ps ls (d ∷ ds) (l ∷ to) rt pt lt went =
      let best = went.3 in
      All-cons (Has among) l to best.there (dealt_lanes (handed r d.number) (with_pinned ps went.0 l) (with_entry ls l (record { queue = q; number = d.number; slot = went.0; place = went.1 })) ds to rt pt lt went.5)

  -- a lane is given no more than it has room for
  pub dealt_room : (m : ℕ) (r : Reordering) (ps : List Pin) (ls : List Entries) (ds : List Delivery) (to : List ℕ) (rt : Reordering) (pt : List Pin) (lt : List Entries) → AreDealt is_slot among q r ps ls ds to rt pt lt
      → length (lane_in ls m).entries ≤ (lane_in ls m).capacity → times m to + length (lane_in ls m).entries ≤ (lane_in ls m).capacity
  dealt_room m r ps ls [] [] rt pt lt went fits = omega (arith, fits)
  dealt_room m r ps ls [] (l ∷ to) rt pt lt went fits = absurd went
  dealt_room m r ps ls (d ∷ ds) [] rt pt lt went fits = absurd went
  dealt_room m r ps ls (d ∷ ds) (l ∷ to) rt pt lt went fits =
      let best = went.3 in
      let y : Entry = record { queue = q; number = d.number; slot = went.0; place = went.1 } in
      let more : Entries = entries_of ((lane_in ls l).entries ++ y ∷ []) (lane_in ls l).capacity in
      let on = dealt_room m (handed r d.number) (with_pinned ps went.0 l) (with_entry ls l y) ds to rt pt lt went.5 in
      let count = sum_by-cons (λ k. cond (k == m) 1 0) l to in
      ⊎_elim
      (λ same.
      let here : lane_in (with_entry ls l y) m ≡ more = ap (lane_in (with_entry ls l y)) same ∙ get_or-set_same ls l more (entries_of [] 0) (room_within ls l best.room) in
      let its : lane_in ls m ≡ lane_in ls l = ap (lane_in ls) same in
      let long = length_push (lane_in ls l).entries y in
      let room = best.room in
      let entries = ap (λ (x : Entries). length x.entries) here in
      let capacity = ap (λ (x : Entries). x.capacity) here in
      let was = ap (λ (x : Entries). length x.entries) its in
      let most = ap (λ (x : Entries). x.capacity) its in
      let one : ◌≡◌ {A = ℕ} (cond (l == m) 1 0) 1 = ap (λ b. cond b 1 0) (eq-eqb l m (sym same)) in
      let rest = on (omega (arith, entries, capacity, long, room)) in
      omega (arith, count, one, rest, entries, capacity, long, was, most))
      (λ other.
      let here : lane_in (with_entry ls l y) m ≡ lane_in ls m = get_or-set_other ls l m more (entries_of [] 0) other in
      let entries = ap (λ (x : Entries). length x.entries) here in
      let capacity = ap (λ (x : Entries). x.capacity) here in
      let none : ◌≡◌ {A = ℕ} (cond (l == m) 1 0) 0 = ap (λ b. cond b 1 0) (ne_eqb l m (λ e. other (sym e))) in
      let rest = on (omega (arith, fits, entries, capacity)) in
      omega (arith, count, none, rest, entries, capacity))
      (cases_eq m l)

-- ---- what is left after an event more

-- the places
pub places_less : (r : Reordering) (k more : ℕ) → (is_restoring r ≡ true → length r.places + (more + 1) ≤ r.depth) → is_restoring (handed r k) ≡ true → length (handed r k).places + more ≤ (handed r k).depth
places_less r k more left restoring =
    ⊎_elim
    (λ yes. subst (λ (x : Reordering). length x.places + more ≤ x.depth) (sym (cond-true (is_restoring r) (after_hand r k) r yes)) (let fits = left yes in omega (arith, length_push r.places (open_place k))))
    (λ plain. absurd (false≢true (sym (ap is_restoring (cond-false (is_restoring r) (after_hand r k) r plain) ∙ plain) ∙ restoring)))
    (cases_Bool (is_restoring r))

module _ (ls : List Entries) (l : ℕ) (y : Entry) (there : l < length ls) (room : HasRoom ls l) where
  abbrev longer : Entries
  longer = entries_of ((lane_in ls l).entries ++ y ∷ []) (lane_in ls l).capacity

  room_here : room_at (with_entry ls l y) l + 1 ≡ room_at ls l
  room_here =
      subst (λ (x : Entries). x.capacity - length x.entries + 1 ≡ room_at ls l) (sym (get_or-set_same ls l longer (entries_of [] 0) there)) (omega (arith, room, length_push (lane_in ls l).entries y))

  room_less : (m : ℕ) → room_at (with_entry ls l y) m ≤ room_at ls m
  room_less m =
      ⊎_elim (λ e. subst (λ k. room_at (with_entry ls l y) k ≤ room_at ls k) (sym e) (omega (arith, room_here)))
      (λ ne. omega (arith, ap (λ (x : Entries). x.capacity - length x.entries) (get_or-set_other ls l m longer (entries_of [] 0) ne))) (cases_eq m l)

  -- a slot's pin may count as many more as each lane that may have it has room for
  pub counts_dealt : (ps : List Pin) (among : SmallSet) (slot : ℕ) → IsTrue (may_pin (pin_at ps slot) l) → Has among l
      → ((s m : ℕ) → Has among m → IsTrue (may_pin (pin_at ps s) m) → (pin_at ps s).count + room_at ls m ≤ MAX_DEPTH)
      → (s m : ℕ) → Has among m → IsTrue (may_pin (pin_at (with_pinned ps slot l) s) m) → (pin_at (with_pinned ps slot l) s).count + room_at (with_entry ls l y) m ≤ MAX_DEPTH
  counts_dealt ps among slot may has_l left s m has can =
      ⊎_elim (λ lt. ⊎_elim (λ same. own lt same) (λ other. as_before (get_or-set_other ps slot s x free other)) (cases_eq s slot)) (λ le. as_before (ap (λ ys. pin_at ys s) (set_past ps slot x le))) (cases_lt slot (length ps))
    where
      x : Pin
      x = pinned (pin_at ps slot) l

      own : slot < length ps → s ≡ slot → (pin_at (set ps slot x) s).count + room_at (with_entry ls l y) m ≤ MAX_DEPTH
      own lt same =
          let is : pin_at (set ps slot x) s ≡ x = get_or-set_at ps slot s x free same lt in
          let its : l ≡ m = stands_on m x (subst (λ (p : Pin). IsTrue (may_pin p m)) is can) (omega arith) in
          let fits = left slot l has_l may in
          subst (λ (p : Pin). p.count + room_at (with_entry ls l y) m ≤ MAX_DEPTH) (sym is)
          (subst (λ k. x.count + room_at (with_entry ls l y) k ≤ MAX_DEPTH) its (omega (arith, fits, room_here)))

      as_before : pin_at (set ps slot x) s ≡ pin_at ps s → (pin_at (set ps slot x) s).count + room_at (with_entry ls l y) m ≤ MAX_DEPTH
      as_before e =
          let fits = left s m has (subst (λ (p : Pin). IsTrue (may_pin p m)) e can) in
          omega (arith, fits, room_less m, ap (λ (p : Pin). p.count) e)

-- none of the open lanes may have the slot of the row's next event
pub no_lane : (is_slot : ℕ → ℕ → Type 0) (among opened : SmallSet) (ps now : List Pin) (ls : List Entries) (row : List Delivery) (i n : ℕ) (d : Delivery) (slot : ℕ) → n ≡ i → i < length row → d ≡ get_or row i d → is_slot d.event.flow slot
    → AreOpenOf among ls opened → now ≡ ps → ((l : ℕ) → Has opened l → ¬ IsTrue (may_pin (pin_at ps slot) l)) → HasNoLane is_slot among now ls row n
no_lane is_slot among opened ps now ls row i n d slot same within read is are pins none = (
  d,
  slot,
  ap (slice_get row) same ∙ (slice_get-get_or row i d within ∙ ap Some (sym read)),
  is,
  λ l has room may. none l ((are l).1 (has, room)) (subst (λ x. IsTrue (may_pin (pin_at x slot) l)) pins may),
)

-- and so of the same lists
pub last_same : (is_slot : ℕ → ℕ → Type 0) (among : SmallSet) (pt pto : List Pin) (lt lto : List Entries) (row : List Delivery) (to too : List ℕ) → too ≡ to → pto ≡ pt → lto ≡ lt
    → (length to < length row → HasNoLane is_slot among pt lt row (length to)) → length too < length row → HasNoLane is_slot among pto lto row (length too)
last_same is_slot among pt pto lt lto row to too lanes pins entries last =
    subst (λ xs. length xs < length row → HasNoLane is_slot among pto lto row (length xs)) (sym lanes)
    (λ few. subst (λ ps. HasNoLane is_slot among ps lto row (length to)) (sym pins) (subst (λ ls. HasNoLane is_slot among pt ls row (length to)) (sym entries) (last few)))
