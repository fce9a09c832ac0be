-- Which lanes are open to a queue, and the best of them: a walk over a set of lanes, the lane of a pinned slot, and what flow lanes serve.
use Rattle.std.proofs.Common.{◌≡◌, ℕ, ◌+◌, ◌*◌, ◌/◌, ◌%◌, ◌<◌, true, false, [], length, map, get_or, Option, Some, None, IsTrue, inl, inr, sym, ap, ◌∙◌, subst, arith}
use Rattle.std.specs.Prelude.{◌↔◌}
use Rattle.std.specs.Option.{IfSome, IfNone}
use Rattle.std.proofs.lemmas.Bool.{and_parts, cond-true, false≢true, false_from_ne_true}
use Rattle.evt_types.proofs.FlowLanes.{serves_port, port_is_lane}
use Rattle.evt_types.specs.Plan.{Plan, depth_of, is_flows, has_flow_lanes, lanes_of, serves, queue_of, is_atomic}
use Rattle.std.proofs.lemmas.List.{length-map}
use Rattle.std.proofs.lemmas.Nat.{div-mul-add, mod-mul-add}
use Rattle.lists.specs.Lists.{has}
use Rattle.small_set.specs.SmallSets.{Has, IsEmpty}
use Rattle.small_set.specs.declared.set.SmallSet.{SmallSet}
use Rattle.sched_core.proofs.Offers.{fits_slot}
use Rattle.sched_core.proofs.News.{slots_range}
use Rattle.sched_core.proofs.OpenSlots.{by_flow, by_port}
use Rattle.order_parts.proofs.Holders.{stands_on}
use Rattle.sched_core.proofs.Pinned.{alone_may, may_is_alone}
use Rattle.order_parts.specs.History.{entries_of}
use Rattle.order_parts.specs.Pins.{IsOn, may_pin}
use Rattle.sched_core.proofs.Cores.{unanswered_here}
use Rattle.order_parts.proofs.Roomy.{lane_is}
use Rattle.order_parts.specs.Histories.{AreRoomy, HasRoom, lane_in}
use Rattle.sched_core.specs.Inner.{unplaced}
use Rattle.sched_core.specs.Links.{AreLinksOf}
use Rattle.order_parts.specs.Dealing.{HasFewer, IsBestOf, loads_in}
use Rattle.sched_core.specs.Offered.{AreOpenLanes, FitsSlot, HasAllowed, HasPlace, IsOpenLane, MayHold, loads_at, slot_at}
use Rattle.order_parts.specs.QueuePins.{pin_in, pins_at}
use Rattle.sched_core.specs.View.{view_in, unanswered_in, IsCore}
use Rattle.sched_core.specs.declared.state.Core.TheInside.{Inside}
use Rattle.sched_core.specs.SlotLanes.{IsSlotLane, slot_lane_count}
use Rattle.evt_types.specs.declared.event.Numbered.{Numbered}
use Rattle.transcripts.proofs.FlowAlone.{one_lane}
use Rattle.transcripts.specs.Choice.{Passed, HasNone, HasNoOther, IsBetterLane, IsChoice, has_bounced}
use Rattle.transcripts.specs.Standing.{View, unanswered_at}

-- ---- the lane of a pinned slot

-- of the lanes those may hold the slot that its pin allows
module _ (a : Inside) (v : View) (lanes : SmallSet) (q slot : ℕ) (core : IsCore a) (view : view_in a ≡ v) (queue : q < length v.shape.queues) where
  pub may_hold : (l : ℕ) → Has lanes l → may_pin (pin_in a.pins q slot) l ≡ true → MayHold v lanes q slot l
  may_hold l has may = subst (λ w. MayHold w lanes q slot l) view (has, may_is_alone a.shape (map unanswered_in a.lanes) a.pins q slot l core.pins may)

  pub hold_may : (l : ℕ) → MayHold v lanes q slot l → may_pin (pin_in a.pins q slot) l ≡ true
  hold_may l held =
      alone_may a.shape (map unanswered_in a.lanes) a.pins q slot l core.pins (subst (λ (w : View). q < length w.shape.queues) (sym view) queue) (subst (λ w. MayHold w lanes q slot l) (sym view) held).1

-- ---- who serves a queue

-- a port's lane serves each slot of a queue alike
pub port_serves : (p : Plan) (l q slot : ℕ) → l < length p.ports → serves p l q 0 ≡ serves p l q slot
port_serves p l q slot own = serves_port p l q 0 own ∙ sym (serves_port p l q slot own)

-- ---- open lanes

pub open_fits : (v : View) (s : Passed) (q slot l : ℕ) → IsOpenLane v s q l → (is_atomic (queue_of v.shape q).kind ≡ true → HasNoOther v l q slot) → FitsSlot v s q slot l
open_fits v s q slot l opened alone =
    record { lane = port_is_lane v.shape l opened.lane; ready = opened.ready; linked = sym (port_serves v.shape l q slot opened.lane) ∙ opened.linked; room = opened.room; alone = alone; places = opened.places }

pub fits_open : (v : View) (s : Passed) (q slot l : ℕ) → has_flow_lanes v.shape q ≡ false → FitsSlot v s q slot l → IsOpenLane v s q l
fits_open v s q slot l ports fits =
    let own = by_port v.shape l q slot ports fits.linked in
    record { lane = own; ready = fits.ready; linked = port_serves v.shape l q slot own ∙ fits.linked; room = fits.room; places = fits.places }

-- a lane that fits the slot is an open one that may hold it
pub hold_fits : (v : View) (s : Passed) (q slot : ℕ) (lanes : SmallSet) → AreOpenLanes v s q lanes → (l : ℕ) → MayHold v lanes q slot l → FitsSlot v s q slot l
hold_fits v s q slot lanes are l may = open_fits v s q slot l ((are l).0 may.0) may.1

pub fits_hold : (v : View) (s : Passed) (q slot : ℕ) (lanes : SmallSet) → has_flow_lanes v.shape q ≡ false → AreOpenLanes v s q lanes → (l : ℕ) → FitsSlot v s q slot l → MayHold v lanes q slot l
fits_hold v s q slot lanes ports are l fits = ((are l).1 (fits_open v s q slot l ports fits), fits.alone)

pub held_fits : (v : View) (s : Passed) (q slot : ℕ) (lanes : SmallSet) (o : Option ℕ) → AreOpenLanes v s q lanes → IfSome o (MayHold v lanes q slot) → IfSome o (FitsSlot v s q slot)
held_fits v s q slot lanes None are holds = tt
held_fits v s q slot lanes (Some l) are holds = hold_fits v s q slot lanes are l holds

pub held_best : (v : View) (s : Passed) (q slot : ℕ) (lanes : SmallSet) (o : Option ℕ) → has_flow_lanes v.shape q ≡ false → AreOpenLanes v s q lanes → IfSome o (λ l. (m : ℕ) → MayHold v lanes q slot m → ¬ IsBetterLane v m l)
    → IfSome o (λ l. (m : ℕ) → FitsSlot v s q slot m → ¬ IsBetterLane v m l)
held_best v s q slot lanes None ports are best = tt
held_best v s q slot lanes (Some l) ports are best = λ m fits. best m (fits_hold v s q slot lanes ports are m fits)

pub held_none : (v : View) (s : Passed) (q slot : ℕ) (lanes : SmallSet) (o : Option ℕ) → has_flow_lanes v.shape q ≡ false → AreOpenLanes v s q lanes → IfNone o ((l : ℕ) → ¬ MayHold v lanes q slot l)
    → IfNone o ((l : ℕ) → ¬ FitsSlot v s q slot l)
held_none v s q slot lanes None ports are none = λ l fits. none l (fits_hold v s q slot lanes ports are l fits)
held_none v s q slot lanes (Some l) ports are none = tt

-- the lane of a choice is one of the open ones
pub choice_among : (v : View) (s : Passed) (l q : ℕ) (w : Numbered) (lanes : SmallSet) → has_flow_lanes v.shape q ≡ false → AreOpenLanes v s q lanes → IsChoice v s l q w → Has lanes l
choice_among v s l q w lanes ports are choice = (are l).1 (fits_open v s q (slot_at v q w) l ports (fits_slot v s l q w choice.fits))

-- where a queue has no place for an event more, no lane is open to it
pub shut_open : (v : View) (s : Passed) (q : ℕ) (lanes : SmallSet) → IsEmpty lanes → ¬ HasPlace v q → AreOpenLanes v s q lanes
shut_open v s q lanes none full l = (λ has. absurd (none l has), λ opened. absurd (full opened.places))

-- how many events of a lane are unanswered
pub held_here : (a : Inside) (l : ℕ) → l < length a.lanes → length (unanswered_at (view_in a) l) ≡ length (lane_in a.lanes l).entries
held_here a l h = ap length (unanswered_here a l (lane_in a.lanes l) h (lane_is a.lanes l h)) ∙ length-map (lane_in a.lanes l).entries unplaced

-- the best lane of some for a slot, by the pins and histories, is the best one to clauses
module _ (a : Inside) (v : View) (lanes : SmallSet) (q slot : ℕ) (core : IsCore a) (view : view_in a ≡ v) (queue : q < length v.shape.queues) (there : (l : ℕ) → Has lanes l → l < lanes_of v.shape) where
  loads_here : (l : ℕ) → Has lanes l → loads_at v l ≡ loads_in a.lanes l
  loads_here l has =
      sym (ap (λ (w : View). loads_at w l) view) ∙ held_here a l (omega (arith, there l has, core.lanes, ap (λ (w : View). lanes_of w.shape) view))

  pub fewer_here : (m l : ℕ) → Has lanes m → Has lanes l → IsBetterLane v m l → HasFewer (loads_in a.lanes) m l
  fewer_here m l has_m has_l (inl fewer) = inl (omega (arith, fewer, loads_here m has_m, loads_here l has_l))
  fewer_here m l has_m has_l (inr lower) = let e = lower.0 in inr (omega (arith, e, loads_here m has_m, loads_here l has_l), lower.1)

  pub best_holds : (o : Option ℕ) → IfSome o (IsBestOf (pins_at a.pins q) a.lanes lanes slot) → IfSome o (MayHold v lanes q slot)
  best_holds None is = tt
  best_holds (Some l) is = may_hold a v lanes q slot core view queue l is.there is.may

  pub best_here : (o : Option ℕ) → IfSome o (IsBestOf (pins_at a.pins q) a.lanes lanes slot) → IfSome o (λ l. (m : ℕ) → MayHold v lanes q slot m → ¬ IsBetterLane v m l)
  best_here None is = tt
  best_here (Some l) is = λ m held better. is.best m held.0 (hold_may a v lanes q slot core view queue m held) (fewer_here m l held.0 is.there better)

  pub none_holds : (o : Option ℕ) → IfNone o ((l : ℕ) → Has lanes l → ¬ IsTrue (may_pin (pin_in a.pins q slot) l)) → IfNone o ((l : ℕ) → ¬ MayHold v lanes q slot l)
  none_holds None none = λ l held. none l held.0 (hold_may a v lanes q slot core view queue l held)
  none_holds (Some l) none = tt

-- the room of a lane, by its history
pub room_here : (a : Inside) (l : ℕ) → IsCore a → l < length a.lanes → HasRoom a.lanes l ↔ (length (unanswered_at (view_in a) l) < depth_of a.shape l)
room_here a l core h =
    let held = held_here a l h in
    let room : (lane_in a.lanes l).capacity ≡ depth_of a.shape l = core.room l (entries_of [] 0) h in
    (λ less. omega (arith, less, held, room), λ less. omega (arith, less, held, room))

-- the open ones are those that serve the queue and have room, without those that are passed over
pub words_open : (a : Inside) (s : Passed) (q : ℕ) (links roomy both closed lanes : SmallSet) → IsCore a → HasPlace (view_in a) q → AreLinksOf a.shape q links → AreRoomy a.lanes roomy
    → ((l : ℕ) → l < 64 → Has closed l ↔ (has_bounced s l ≡ true)) → ((l : ℕ) → Has both l ↔ (Has links l × Has roomy l)) → ((l : ℕ) → Has lanes l ↔ (Has both l × ¬ Has closed l)) → AreOpenLanes (view_in a) s q lanes
words_open a s q links roomy both closed lanes core place are_links are_roomy are_closed are_both are_lanes l = (
  λ has.
      let kept = (are_lanes l).0 has in
      let two = (are_both l).0 kept.0 in
      let linked = (are_links l).0 two.0 in
      record {
        lane = linked.0;
        ready = false_from_ne_true (has_bounced s l) (λ bounced. kept.1 ((are_closed l (few linked.0)).1 bounced));
        linked = linked.1;
        room = (room_here a l core (within linked.0)).0 ((are_roomy l (within linked.0) (few linked.0)).0 two.1);
        places = place;
      },
  λ opened.
      let h = opened.lane in
      (are_lanes l).1 (
        (are_both l).1 ((are_links l).1 (h, opened.linked), (are_roomy l (within h) (few h)).1 ((room_here a l core (within h)).1 opened.room)),
        λ shut. false≢true (sym opened.ready ∙ (are_closed l (few h)).0 shut),
      ),
)
  where
    few : l < length a.shape.ports → l < 64
    few h = let count = core.limits.port_count.1 in omega (arith, h, count)

    within : l < length a.shape.ports → l < length a.lanes
    within h = omega (arith, port_is_lane a.shape l h, core.lanes)

-- where ports serve a queue and none of its lanes is open, nothing of it may go
pub none_open : (v : View) (s : Passed) (q : ℕ) (lanes : SmallSet) → has_flow_lanes v.shape q ≡ false → AreOpenLanes v s q lanes → IsEmpty lanes → HasNone v s q
none_open v s q lanes ports are none w waits m fits = none m ((are m).1 (fits_open v s q (slot_at v q w) m ports (fits_slot v s m q w fits)))

-- ---- the slots of ports

-- where no lane is open, no event of the queue may go
pub none_allowed : (v : View) (s : Passed) (q : ℕ) (lanes slots : SmallSet) → has_flow_lanes v.shape q ≡ false → AreOpenLanes v s q lanes → IsEmpty lanes → HasAllowed v s q slots
none_allowed v s q lanes slots ports are none t within some = absurd (none some.0 ((are some.0).1 (fits_open v s q t some.0 ports some.1)))

-- a slot whose events an open lane may take stands on none of the lanes that aren't open
pub ports_allowed : (a : Inside) (s : Passed) (q : ℕ) (lanes links closed slots : SmallSet) → IsCore a → q < length a.shape.queues → has_flow_lanes a.shape q ≡ false → AreOpenLanes (view_in a) s q lanes
    → ((l : ℕ) → Has closed l ↔ (Has links l × ¬ Has lanes l))
    → ((t : ℕ) → t < 64 → (0 < (pin_in a.pins q t).count → (pin_in a.pins q t).lane < 64) → Has slots t ↔ ((l : ℕ) → Has closed l → ¬ IsOn (pin_in a.pins q t) l)) → HasAllowed (view_in a) s q slots
ports_allowed a s q lanes links closed slots core h ports are is off t within some =
    let opened = fits_open (view_in a) s q t some.0 ports some.1 in
    let may = alone_may a.shape (map unanswered_in a.lanes) a.pins q t some.0 core.pins h some.1.alone in
    let few = (slots_range a.shape q core.limits h).1 in
    (off t (omega (arith, within, few)) (λ stands. let lane = stands_on some.0 (pin_in a.pins q t) may stands in let own = opened.lane in let count = core.limits.port_count.1 in omega (arith, lane, own, count))).1
    (λ l shut on. ((is l).0 shut).1 (subst (Has lanes) (sym (stands_on some.0 (pin_in a.pins q t) may on.0) ∙ on.1) ((are some.0).1 opened)))

-- a slot whose flow lane may take an event is an open one
pub flows_allowed : (a : Inside) (s : Passed) (q : ℕ) (slots : SmallSet) → IsCore a → q < length a.shape.queues → has_flow_lanes a.shape q ≡ true → slots ≡ get_or a.open_slots.items q slots → HasAllowed (view_in a) s q slots
flows_allowed a s q slots core h flows is t within some =
    let few = (slots_range a.shape q core.limits h).1 in
    let there = core.open_slots.count in
    subst (λ (set : SmallSet). Has set t) (sym is)
    (core.open_slots.each q t some.0 slots (omega (arith, h, there)) (omega (arith, within, few)) flows some.1.linked ((room_here a some.0 core (omega (arith, some.1.lane, core.lanes))).1 some.1.room))

-- ---- the slot's flow lane

-- what is looked up for a slot
pub slot_lane_here : (a : Inside) (q slot : ℕ) (o : Option ℕ) → IsCore a → has_flow_lanes a.shape q ≡ true → q < length a.shape.queues → slot < 64 → o ≡ get_or a.slot_lanes.items (q * 64 + slot) o → IsSlotLane a.shape q slot o
slot_lane_here a q slot o core flows h few is =
    let k : ℕ = q * 64 + slot in
    let quotient : k / 64 ≡ q = div-mul-add q 64 slot few in
    let slot_is : k % 64 ≡ slot = mod-mul-add q 64 slot few in
    let serving : is_flows a.shape.serving ≡ true = (and_parts (is_flows a.shape.serving) (is_atomic (queue_of a.shape q).kind) flows).0 in
    let all : slot_lane_count a.shape ≡ length a.shape.queues * 64 = cond-true (is_flows a.shape.serving) _ _ serving in
    let there : k < length a.slot_lanes.items = omega (arith, h, few, all, core.slot_lanes.count) in
    subst (IsSlotLane a.shape q slot) (sym is)
    (subst (λ s. IsSlotLane a.shape q s (get_or a.slot_lanes.items k o)) slot_is
    (subst (λ n. IsSlotLane a.shape n (k % 64) (get_or a.slot_lanes.items k o)) quotient (core.slot_lanes.each k o there)))

-- where no flow lane serves the slot, no lane may take an event of it
pub slot_lane_none : (v : View) (s : Passed) (q slot : ℕ) → has_flow_lanes v.shape q ≡ true → IsSlotLane v.shape q slot None → (l : ℕ) → ¬ FitsSlot v s q slot l
slot_lane_none v s q slot flows none l fits = none l fits.lane (by_flow v.shape l q slot flows fits.linked) fits.linked

-- no other lane may
pub slot_lane_alone : (v : View) (s : Passed) (q slot l m : ℕ) → has_flow_lanes v.shape q ≡ true → IsSlotLane v.shape q slot (Some l) → FitsSlot v s q slot m → m ≡ l
slot_lane_alone v s q slot l m flows one fits = one_lane v.shape m l q slot flows fits.linked one.1
