-- Events that are dealt among lanes as a row: that each was the choice, and what the core is then.
use Rattle.std.proofs.Common.{◌≡◌, ◌↔◌, ℕ, ◌+◌, ◌-◌, ◌<◌, ◌≤◌, ◌%◌, Bool, true, false, cond, min, IsTrue, List, [], ◌∷◌, ◌++◌, length, map, set, get_or, slice_index, All, refl, sym, ap, ◌∙◌, subst, arith}
use Rattle.std.proofs.lemmas.Bool.{cond-false, cond-true, false≢true}
use Rattle.std.proofs.lemmas.List.{get_or-set_same, length-map, length-set, set-get_or, set-set}
use Rattle.std.proofs.lemmas.List.Elements.{All-head, All-map, All-tail}
use Rattle.evt_types.proofs.FlowLanes.{port_is_lane}
use Rattle.evt_types.specs.Plan.{depth_of, has_flow_lanes, is_atomic, is_ordered, queue_of}
use Rattle.evt_types.specs.declared.event.Delivery.{Delivery}
use Rattle.evt_types.specs.declared.event.Kind.{Kind}
use Rattle.evt_types.specs.declared.event.Kind.TheVariants.{Atomic, Ordered, Parallel}
use Rattle.evt_types.specs.declared.event.Numbered.{Numbered}
use Rattle.evt_types.specs.declared.shape.TheConstants.{MAX_DEPTH, MAX_QUEUES}
use Rattle.evt_types.specs.declared.step.Step.TheVariants.{Give}
use Rattle.order_parts.proofs.Dealt.{dealt_lanes, dealt_room, room_within}
use Rattle.order_parts.specs.Dealing.{AreDealt, IsBestOpen, times, with_entry}
use Rattle.order_parts.specs.HandedRow.{with_pinned}
use Rattle.order_parts.specs.Histories.{HasRoom, lane_in}
use Rattle.order_parts.specs.History.{Entries, entries_of}
use Rattle.order_parts.specs.Orders.{handed, is_restoring, order_at, places_for}
use Rattle.order_parts.specs.Pins.{Pin, may_pin}
use Rattle.order_parts.specs.QueuePins.{pin_in, pins_at}
use Rattle.order_parts.specs.Reorder.{Reordering, empty}
use Rattle.order_parts.specs.declared.history.Entry.{Entry}
use Rattle.parked_queue.proofs.LevelHeads.{rest_at}
use Rattle.parked_queue.specs.Lists.{named_delivery}
use Rattle.parked_queue.specs.Rows.{at_level, without_all}
use Rattle.parked_queue.specs.Waits.{AreNamed, Waits, no_waits, waits_at, without_number}
use Rattle.sched_core.proofs.Answering.{restores_here}
use Rattle.sched_core.proofs.Busy.{waits_is}
use Rattle.sched_core.proofs.Cores.{places_here, queue_here, queue_there}
use Rattle.sched_core.proofs.GiftRows.{one_given, times_on, with_parts}
use Rattle.sched_core.proofs.Offers.{choice_is_offer}
use Rattle.sched_core.proofs.OpenLanes.{fewer_here, fits_open, held_here, hold_may, open_fits, room_here}
use Rattle.sched_core.proofs.Pinned.{may_is_alone, pin_room_for}
use Rattle.sched_core.proofs.Runs.{AreServing, left_on, serving_on, times_none, turn_on}
use Rattle.sched_core.proofs.Sound.{core_sized}
use Rattle.sched_core.specs.GiftRows.{pinned_on}
use Rattle.sched_core.specs.Offered.{AreOpenLanes, FitsSlot, IsOpenLane}
use Rattle.sched_core.specs.Runs.{AreDeals, AreDealtOut, HasLeft, HasTurn, gift_of, gifts_to, given_once, given_times}
use Rattle.sched_core.specs.View.{IsCore, unanswered_in, view_in}
use Rattle.sched_core.specs.declared.state.Core.TheInside.{Inside}
use Rattle.small_set.specs.SmallSets.{Has}
use Rattle.small_set.specs.declared.set.SmallSet.{SmallSet}
use Rattle.step_log.specs.Gives.{deals_of}
use Rattle.transcripts.specs.Choice.{HasQuota, IsBetterLane, IsChoice, IsOffer, Passed}
use Rattle.transcripts.specs.Standing.{View, after, places_at, unanswered_at}

-- ---- their steps

-- as the steps of events that name the queue
pub deal_named : (q : ℕ) (ds : List Delivery) (to : List ℕ) → All (λ (d : Delivery). d.queue ≡ q) ds → deals_of q ds to ≡ gifts_to ds to
deal_named q [] to named = refl
deal_named q (d ∷ ds) [] named = refl
deal_named q (d ∷ ds) (l ∷ to) named =
    ap (λ n. Give l n d.number ∷ deals_of q ds to) (sym (All-head (λ (e : Delivery). e.queue ≡ q) d ds named)) ∙ ap (λ ss. gift_of l d ∷ ss) (deal_named q ds to (All-tail (λ (e : Delivery). e.queue ≡ q) d ds named))

-- there are as many lanes as events
pub deals_count : (v : View) (s : Passed) (ds : List Delivery) (to : List ℕ) (w : View) (t : Passed) → AreDeals v s ds to w t → length to ≡ length ds
deals_count v s [] [] w t h = refl
deals_count v s [] (l ∷ to) w t h = absurd h
deals_count v s (d ∷ ds) [] w t h = absurd h
deals_count v s (d ∷ ds) (l ∷ to) w t h = omega (arith, deals_count (after v (gift_of l d ∷ [])) (given_once s d.queue) ds to w t h.1)

-- none were given
pub deals_none : (v : View) (s : Passed) (ds : List Delivery) (to : List ℕ) (w : View) (t : Passed) → length ds ≡ 0 → AreDeals v s ds to w t → (w ≡ v) × (t ≡ s)
deals_none v s [] [] w t none h = h
deals_none v s [] (l ∷ to) w t none h = absurd h
deals_none v s (d ∷ ds) to w t none h = absurd (omega (arith, none))

-- ---- how many may be given

pub no_more : (r : Reordering) (m : ℕ) → places_for r m ≤ m
no_more r m = cut (is_restoring r)
  where
    cut : (b : Bool) → cond b (min (r.depth - length r.places) m) m ≤ m
    cut true = omega arith
    cut false = omega arith

-- as many as the counts of the queue let go
pub left_here : (a : Inside) (v : View) (s : Passed) (q n m : ℕ) → IsCore a → view_in a ≡ v → q < length v.shape.queues → slice_index s.given q + m ≤ v.shape.sweep → n ≡ places_for (order_at a.orders q) m → HasLeft v s q n
left_here a v s q n m core same queue fits is =
    record {
      quota = omega (arith, fits, is, no_more r m);
      places = placed;
    }
  where
    r : Reordering
    r = order_at a.orders q

    placed : is_ordered (queue_of v.shape q).kind ≡ true → length (places_at v q) + n ≤ (queue_of v.shape q).order
    placed ordered =
        let there = queue_there a v q same queue in
        let here : is_ordered (queue_of a.shape q).kind ≡ true = ap (λ (u : View). is_ordered (queue_of u.shape q).kind) same ∙ ordered in
        let few : n ≡ min (r.depth - length r.places) m = is ∙ cond-true (is_restoring r) (min (r.depth - length r.places) m) m (restores_here a q core there ∙ here) in
        let depth : r.depth ≡ (queue_of v.shape q).order =
        (core.places.each q there).room ∙ (cond-true (is_ordered (queue_of a.shape q).kind) (queue_of a.shape q).order 0 here ∙ ap (λ (u : View). (queue_of u.shape q).order) same) in
        let full : length r.places ≤ r.depth = (core.places.each q there).within in
        let places : length (places_at v q) ≡ length r.places = sym (ap (λ (u : View). length (places_at u q)) same) ∙ ap length (places_here a q core there) in
        omega (arith, few, depth, full, places)

-- what is left for fewer
pub left_less : (v : View) (t : Passed) (q most less : ℕ) → less ≤ most → HasLeft v t q most → HasLeft v t q less
left_less v t q most less few left =
    record {
      quota = let quota = left.quota in omega (arith, few);
      places = λ ordered. let places = left.places ordered in omega (arith, few);
    }

-- ---- what a deal asks for, of the core's parts

module _ (a : Inside) (v : View) (s : Passed) (q : ℕ) (among : SmallSet) (core : IsCore a) (same : view_in a ≡ v) (queue : q < length v.shape.queues) (are : AreOpenLanes v s q among) where
  opened : AreOpenLanes (view_in a) s q among
  opened = subst (λ u. AreOpenLanes u s q among) (sym same) are

  pub lanes_there : (l : ℕ) → Has among l → l < length a.lanes
  lanes_there l has = let is = (opened l).0 has in omega (arith, port_is_lane a.shape l is.lane, core.lanes)

  pub lanes_roomy : (l : ℕ) → Has among l → HasRoom a.lanes l
  lanes_roomy l has = let is = (opened l).0 has in (room_here a l core (lanes_there l has)).1 is.room

  pub places_left : (bound n : ℕ) → HasLeft v s q bound → n ≤ bound → is_restoring (order_at a.orders q) ≡ true → length (order_at a.orders q).places + n ≤ (order_at a.orders q).depth
  places_left bound n left few restoring =
      let there = queue_there a v q same queue in
      let here : is_ordered (queue_of a.shape q).kind ≡ true = sym (restores_here a q core there) ∙ restoring in
      let placed = left.places (sym (ap (λ (u : View). is_ordered (queue_of u.shape q).kind) same) ∙ here) in
      let depth : (order_at a.orders q).depth ≡ (queue_of v.shape q).order =
      (core.places.each q there).room ∙ (cond-true (is_ordered (queue_of a.shape q).kind) (queue_of a.shape q).order 0 here ∙ ap (λ (u : View). (queue_of u.shape q).order) same) in
      let places : length (places_at v q) ≡ length (order_at a.orders q).places = sym (ap (λ (u : View). length (places_at u q)) same) ∙ ap length (places_here a q core there) in
      omega (arith, few, placed, depth, places)

  pub counts_left : (slot l : ℕ) → Has among l → IsTrue (may_pin (pin_in a.pins q slot) l) → (pin_in a.pins q slot).count + ((lane_in a.lanes l).capacity - length (lane_in a.lanes l).entries) ≤ MAX_DEPTH
  counts_left slot l has may =
      let is = (opened l).0 has in
      let within = lanes_there l has in
      let depth : (lane_in a.lanes l).capacity ≡ depth_of a.shape l = core.room l (entries_of [] 0) within in
      pin_room_for a.shape (map unanswered_in a.lanes) a.pins q slot l ((lane_in a.lanes l).capacity - length (lane_in a.lanes l).entries) core.pins core.limits (queue_there a v q same queue) (port_is_lane a.shape l is.lane)
      (omega (arith, held_here a l within, depth, lanes_roomy l has)) may

-- the slots of a queue that restores an order have no pins
pub unpinned : (a : Inside) (q : ℕ) → IsCore a → q < length a.shape.queues → is_restoring (order_at a.orders q) ≡ true → pins_at a.pins q ≡ []
unpinned a q core there restoring =
    none (pins_at a.pins q) (core.pins.slots q there ∙ cond-false (is_atomic (queue_of a.shape q).kind) (queue_of a.shape q).slots 0 (not_atomic (queue_of a.shape q).kind (sym (restores_here a q core there) ∙ restoring)))
  where
    not_atomic : (k : Kind) → is_ordered k ≡ true → is_atomic k ≡ false
    not_atomic Atomic is = absurd (false≢true is)
    not_atomic Ordered is = refl
    not_atomic Parallel is = absurd (false≢true is)

    none : (xs : List Pin) → length xs ≡ 0 → xs ≡ []
    none [] e = refl
    none (x ∷ xs) e = absurd (omega (arith, e))

-- ---- the row

module _ (a : Inside) (t : Passed) (q slot : ℕ) (among : SmallSet) (core : IsCore a) (queue : q < length a.shape.queues) (there : (m : ℕ) → Has among m → m < length a.shape.ports) (are : AreServing (view_in a) t q among) where
  -- the best of the lanes with room is one that may take an event of the slot
  best_fits : (l : ℕ) → IsBestOpen (pins_at a.pins q) a.lanes among slot l → FitsSlot (view_in a) t q slot l
  best_fits l best =
      open_fits (view_in a) t q slot l ((are l).1 (best.there, (room_here a l core (room_within a.lanes l best.room)).0 best.room)) (may_is_alone a.shape (map unanswered_in a.lanes) a.pins q slot l core.pins best.may)

  -- and none that may is better
  best_least : has_flow_lanes a.shape q ≡ false → (l : ℕ) → IsBestOpen (pins_at a.pins q) a.lanes among slot l → (m : ℕ) → FitsSlot (view_in a) t q slot m → ¬ IsBetterLane (view_in a) m l
  best_least ports l best m fits better =
      let opened = fits_open (view_in a) t q slot m ports fits in
      let both = (are m).0 opened in
      let within : m < length a.lanes = omega (arith, port_is_lane a.shape m opened.lane, core.lanes) in
      best.best m both.0 ((room_here a m core within).1 both.1) (hold_may a (view_in a) among q slot core refl queue m (both.0, fits.alone))
      (fewer_here a (view_in a) among q slot core refl queue (λ k has. port_is_lane a.shape k (there k has)) m l both.0 best.there better)

module _ (is_slot : ℕ → ℕ → Type 0) (n q c : ℕ) (among all : SmallSet) (of : (flow slot : ℕ) → is_slot flow slot → slot ≡ flow % n) (full : (slot : ℕ) → slot < 64 → Has all slot) where
  pub record IsDealtRow (a b : Inside) (t : Passed) (ds : List Delivery) (to : List ℕ) : Type 0 where
    pub core : IsCore b
    pub choices : AreDeals (view_in a) t ds to (view_in b) (given_times t q (length ds))

  pub deals_give : (a : Inside) (t : Passed) (hs rest : List Numbered) (to : List ℕ) (rt : Reordering) (pt : List Pin) (qs : List Waits) (os : List Reordering) (ps : List (List Pin)) (ls : List Entries) → IsCore a → q < length a.shape.queues
      → has_flow_lanes a.shape q ≡ false → n ≡ (waits_at a.queues q).slots → q < length t.given → HasTurn (view_in a) t q c → HasLeft (view_in a) t q (length hs) → ((m : ℕ) → Has among m → m < length a.shape.ports)
      → (0 < length hs → AreServing (view_in a) t q among) → at_level c (waits_at a.queues q) ≡ hs ++ rest → AreNamed q hs
      → qs ≡ set a.queues q (without_all (waits_at a.queues q) (map named_delivery hs)) → os ≡ set a.orders q rt → ps ≡ set a.pins q pt
      → AreDealt is_slot among q (order_at a.orders q) (pins_at a.pins q) a.lanes (map named_delivery hs) to rt pt ls → IsDealtRow a (with_parts a qs os ps ls) t (map named_delivery hs) to
  deals_give a t [] rest [] rt pt qs os ps ls core there ports slots within turn left ported serves whole named queues orders pins went =
      let same : with_parts a qs os ps ls ≡ a =
      ap (λ xs. with_parts a xs os ps ls) (queues ∙ set-get_or a.queues q (no_waits 1 0))
      ∙ (ap (λ xs. with_parts a a.queues xs ps ls) (orders ∙ (ap (set a.orders q) went.0 ∙ set-get_or a.orders q (empty 0)))
      ∙ (ap (λ xs. with_parts a a.queues a.orders xs ls) (pins ∙ (ap (set a.pins q) went.1 ∙ set-get_or a.pins q [])) ∙ ap (λ xs. with_parts a a.queues a.orders a.pins xs) went.2))
      in
      record { core = subst IsCore (sym same) core; choices = (ap view_in same, times_none t q) }
  deals_give a t [] rest (l ∷ to) rt pt qs os ps ls core there ports slots within turn left ported serves whole named queues orders pins went = absurd went
  deals_give a t (w ∷ hs) rest [] rt pt qs os ps ls core there ports slots within turn left ported serves whole named queues orders pins went = absurd went
  deals_give a t (w ∷ hs) rest (l ∷ to) rt pt qs os ps ls core there ports slots within turn left ported serves whole named queues orders pins went =
      let are : AreServing (view_in a) t q among = serves (omega arith) in
      let slot : ℕ = w.event.flow % n in
      let slot_is : went.0 ≡ slot = of w.event.flow went.0 went.2 in
      let y : Entry = record { queue = q; number = w.number; slot = slot; place = went.1 } in
      let u : Waits = waits_at a.queues q in
      let r : Reordering = handed (order_at a.orders q) w.number in
      let xs : List Pin = with_pinned (pins_at a.pins q) slot l in
      let best : IsBestOpen (pins_at a.pins q) a.lanes among slot l = subst (λ s. IsBestOpen (pins_at a.pins q) a.lanes among s l) slot_is went.3 in
      let quota : HasQuota (view_in a) t q = let quota = left.quota in omega arith in
      let one = one_given n q c all full l a t w (hs ++ rest) went.1 core there slots turn quota whole (best_fits a t q slot among core there ported are l best) (best_least a t q slot among core there ported are ports l best) went.4 in
      let b : Inside = with_parts a (set a.queues q (without_number u w.number)) (set a.orders q r) (pinned_on a.pins q slot l) (with_entry a.lanes l y) in
      let h : q < length a.queues = omega (arith, there, core.queues) in
      let at : waits_at b.queues q ≡ without_number u w.number = get_or-set_same a.queues q (without_number u w.number) (no_waits 1 0) h in
      let order_now : order_at b.orders q ≡ r = get_or-set_same a.orders q r (empty 0) (omega (arith, there, core.places.count)) in
      let pins_now : pins_at b.pins q ≡ xs = get_or-set_same a.pins q xs [] (omega (arith, there, core.pins.count)) in
      let sound = (queue_here a q u core h (waits_is a.queues q h)).waits in
      let sized = core_sized a core in
      let offer : IsOffer (view_in a) l q w = choice_is_offer (view_in a) t l q w one.choice in
      let left_now : HasLeft (view_in b) (given_once t q) q (length hs) =
      left_on l q (length hs) (view_in a) (view_in b) t (given_once t q) w sized offer within (subst (λ k. HasLeft (view_in a) t q k) (omega arith) left) one.view refl in
      let serves_now : 0 < length hs → AreServing (view_in b) (given_once t q) q among =
      λ more. serving_on l q among (view_in a) (view_in b) t (given_once t q) w sized offer are one.view refl (λ ordered. let places = left_now.places ordered in omega (arith, more))
      in
      let rest_dealt : AreDealt is_slot among q (order_at b.orders q) (pins_at b.pins q) b.lanes (map named_delivery hs) to rt pt ls =
      subst (λ x. AreDealt is_slot among q x (pins_at b.pins q) b.lanes (map named_delivery hs) to rt pt ls) (sym order_now)
      (subst (λ x. AreDealt is_slot among q r x b.lanes (map named_delivery hs) to rt pt ls) (sym pins_now)
      (subst (λ s. AreDealt is_slot among q r (with_pinned (pins_at a.pins q) s l) (with_entry a.lanes l (record { queue = q; number = w.number; slot = s; place = went.1 })) (map named_delivery hs) to rt pt ls) slot_is went.5))
      in
      let on = deals_give b (given_once t q) hs rest to rt pt qs os ps ls one.core there ports (slots ∙ sym (ap (λ (x : Waits). x.slots) at)) (omega (arith, within, length-set t.given q (get_or t.given q 0 + 1)))
      (turn_on l q c (view_in a) (view_in b) t (given_once t q) w sized offer turn one.view refl)
      left_now ported serves_now
      (ap (at_level c) at ∙ rest_at u c w (hs ++ rest) sound whole)
      (All-tail (λ (x : Numbered). x.event.queue ≡ q) w hs named)
      (queues ∙ (sym (set-set a.queues q (without_number u w.number) (without_all (without_number u w.number) (map named_delivery hs))) ∙ ap (λ x. set b.queues q (without_all x (map named_delivery hs))) (sym at)))
      (orders ∙ sym (set-set a.orders q r rt)) (pins ∙ sym (set-set a.pins q xs pt)) rest_dealt
      in
      let here : w.event.queue ≡ q = All-head (λ (x : Numbered). x.event.queue ≡ q) w hs named in
      record {
        core = on.core;
        choices = (
          subst (λ k. IsChoice (view_in a) t l k w) (sym here) one.choice,
          subst (λ k. AreDeals (after (view_in a) (Give l k w.number ∷ [])) (given_once t k) (map named_delivery hs) to (view_in (with_parts a qs os ps ls)) (given_times t q (length (map named_delivery (w ∷ hs))))) (sym here)
              (subst (λ x. AreDeals x (given_once t q) (map named_delivery hs) to (view_in (with_parts a qs os ps ls)) (given_times t q (length (map named_delivery (w ∷ hs))))) one.view
              (subst (AreDeals (view_in b) (given_once t q) (map named_delivery hs) to (view_in (with_parts a qs os ps ls))) (times_on t q (length (map named_delivery hs)) within ∙ ap (given_times t q) (omega arith)) on.choices)),
        );
      }

-- no lane is given more than it has room for
room_dealt : (is_slot : ℕ → ℕ → Type 0) (a : Inside) (v : View) (t : Passed) (q : ℕ) (among : SmallSet) → IsCore a → view_in a ≡ v → AreOpenLanes v t q among → (m : ℕ) → Has among m → (ds : List Delivery) (to : List ℕ) (rt : Reordering) (pt : List Pin) (lt : List Entries)
    → AreDealt is_slot among q (order_at a.orders q) (pins_at a.pins q) a.lanes ds to rt pt lt → times m to + length (unanswered_at v m) ≤ depth_of v.shape m
room_dealt is_slot a v t q among core same are m has ds to rt pt lt went =
    subst (λ (u : View). times m to + length (unanswered_at u m) ≤ depth_of u.shape m) same
    (let is : IsOpenLane (view_in a) t q m = subst (λ u. IsOpenLane u t q m) (sym same) ((are m).0 has) in
    let within : m < length a.lanes = omega (arith, port_is_lane a.shape m is.lane, core.lanes) in
    let depth : (lane_in a.lanes m).capacity ≡ depth_of a.shape m = core.room m (entries_of [] 0) within in
    let held = held_here a m within in
    let room = is.room in
    omega (arith, held, depth, dealt_room is_slot among q m (order_at a.orders q) (pins_at a.pins q) a.lanes ds to rt pt lt went (omega (arith, held, depth, room))))

-- the open lanes are those that have room
serving_at_first : (v : View) (t : Passed) (q : ℕ) (among : SmallSet) → AreOpenLanes v t q among → AreServing v t q among
serving_at_first v t q among are l = (λ is. ((are l).1 is, is.room), λ both. (are l).0 both.0)

-- the first events of the level are dealt among the open lanes
pub deals_done : (is_slot : ℕ → ℕ → Type 0) (q c most : ℕ) (among all : SmallSet) → ((i : ℕ) → Has all i ↔ (i < 64)) → (a : Inside) (v : View) (t : Passed) → ((flow slot : ℕ) → is_slot flow slot → slot ≡ flow % (waits_at a.queues q).slots) → IsCore a → view_in a ≡ v
    → has_flow_lanes v.shape q ≡ false → length t.given ≡ MAX_QUEUES → HasTurn v t q c → AreOpenLanes v t q among → HasLeft v t q most → (hs rest : List Numbered) → at_level c (waits_at a.queues q) ≡ hs ++ rest → AreNamed q hs → length hs ≤ most
    → (to : List ℕ) (rt : Reordering) (pt : List Pin) (qs : List Waits) (os : List Reordering) (ps : List (List Pin)) (ls : List Entries) → qs ≡ set a.queues q (without_all (waits_at a.queues q) (map named_delivery hs)) → os ≡ set a.orders q rt → ps ≡ set a.pins q pt
    → (ds : List Delivery) → ds ≡ map named_delivery hs → AreDealt is_slot among q (order_at a.orders q) (pins_at a.pins q) a.lanes ds to rt pt ls
    → IsCore (with_parts a qs os ps ls) × AreDealtOut q most among v t (map named_delivery hs) to (view_in (with_parts a qs os ps ls))
deals_done is_slot q c most among all full a v t of core same ports counts turn are left hs rest whole named few to rt pt qs os ps ls queues orders pins ds row_is dealt =
    let went : AreDealt is_slot among q (order_at a.orders q) (pins_at a.pins q) a.lanes (map named_delivery hs) to rt pt ls = subst (λ es. AreDealt is_slot among q (order_at a.orders q) (pins_at a.pins q) a.lanes es to rt pt ls) row_is dealt in
    let there : q < length a.shape.queues = queue_there a v q same turn.there in
    let opened : AreOpenLanes (view_in a) t q among = subst (λ u. AreOpenLanes u t q among) (sym same) are in
    let row = deals_give is_slot (waits_at a.queues q).slots q c among all of (λ slot lt. (full slot).1 lt) a t hs rest to rt pt qs os ps ls core there (ap (λ (u : View). has_flow_lanes u.shape q) same ∙ ports) refl
    (let limits = core.limits.queue_count.1 in omega (arith, there, limits, counts))
    (subst (λ u. HasTurn u t q c) (sym same) turn)
    (left_less (view_in a) t q most (length hs) few (subst (λ u. HasLeft u t q most) (sym same) left))
    (λ m has. let is = (opened m).0 has in is.lane) (λ some. serving_at_first (view_in a) t q among opened)
    whole named queues orders pins went
    in (
      row.core,
      record {
        choices = subst (λ u. AreDeals u t (map named_delivery hs) to (view_in (with_parts a qs os ps ls)) (given_times t q (length (map named_delivery hs)))) same row.choices;
        named = All-map (λ (d : Delivery). d.queue ≡ q) named_delivery hs named;
        lanes = dealt_lanes is_slot among q (order_at a.orders q) (pins_at a.pins q) a.lanes (map named_delivery hs) to rt pt ls went;
        room = λ m has. room_dealt is_slot a v t q among core same are m has (map named_delivery hs) to rt pt ls went;
        few = omega (arith, few, length-map hs named_delivery);
        shape = ap (λ (u : View). u.shape) same;
      },
    )
