-- The slots whose flow lanes may have room, as events come and go.
use Rattle.std.proofs.Common.{◌≡◌, ◌≢◌, ℕ, ◌+◌, ◌-◌, ◌<◌, ◌≤◌, Bool, true, false, cond, ◌==◌, List, [], ◌∷◌, not, length, set, get_or, All, Option, Some, None, ◌⊎◌, inl, inr, ⊎_elim, refl, sym, ap, ◌∙◌, subst, arith, eq-eqb, eqb-true, if◌then◌else◌}
use Rattle.std.specs.List.{flat_map, range_with_len}
use Rattle.std.proofs.lemmas.Bool.{and_from, and_parts, and_right, cases_eq, cases_lt, false≢true}
use Rattle.std.proofs.lemmas.List.{get_or_default, get_or-set_same, get_or-set_other, length-set}
use Rattle.std.proofs.lemmas.List.Concat.{flat_map-cons}
use Rattle.std.proofs.lemmas.List.Elements.{All-nil, All-map, All-append, All-head, All-tail}
use Rattle.std.proofs.lemmas.List.FromFn.{get_or-range_with_len, length-range_with_len}
use Rattle.std.proofs.lemmas.Option.{get_or_from_slice_get, slice_get_within}
use Rattle.evt_types.proofs.FlowLanes.{lane_of_place, serves_flow, serves_port}
use Rattle.evt_types.specs.Fault.{IsWithinLimits}
use Rattle.evt_types.specs.Plan.{Plan, atomic_slots, flow_at, flow_lanes, has_flow_lanes, is_atomic, is_flows, is_lane_of, lanes_at, lanes_by_slot, port_of, queue_of, serves, slot_lanes}
use Rattle.evt_types.specs.declared.flows.FlowLane.{FlowLane}
use Rattle.order_parts.specs.Histories.{HasRoom, lane_in}
use Rattle.order_parts.specs.History.{Entries, entries_of}
use Rattle.lists.specs.Lists.{has}
use Rattle.small_set.specs.SmallSets.{Has, SameBut}
use Rattle.small_set.specs.declared.set.SmallSet.{SmallSet}
use Rattle.sched_core.specs.OpenSlots.{AreOpenSlots, HaveAllSlots, IsOpened}
use Rattle.transcripts.proofs.FlowAlone.{one_lane}

-- ---- what serves a queue

-- what holds of each list holds of all of them in a row
pub every_flat : {X Y : Type 0} (P : Y → Type 0) (f : X → List Y) (xs : List X) → All (λ x. All P (f x)) xs → All P (flat_map f xs)
every_flat P f [] all = All-nil P
every_flat P f (x ∷ xs) all = subst (All P) (sym (flat_map-cons f x xs)) (All-append P (f x) (flat_map f xs) (All-head (λ y. All P (f y)) x xs all) (every_flat P f xs (All-tail (λ y. All P (f y)) x xs all)))

-- what flow lanes serve is an atomic queue's
are_flows : (p : Plan) → All (λ (f : FlowLane). has_flow_lanes p f.queue ≡ true) (flow_lanes p)
unfolding flow_lanes lanes_by_slot
are_flows p = by_serving (is_flows p.serving) refl
  where
    by_kind : (q : ℕ) (b : Bool) → is_atomic (queue_of p q).kind ≡ b → is_flows p.serving ≡ true → All (λ (f : FlowLane). has_flow_lanes p f.queue ≡ true) (slot_lanes q (cond b (queue_of p q).slots 0))
    by_kind q true atomic flows = All-map (λ (f : FlowLane). has_flow_lanes p f.queue ≡ true) (λ slot. record { queue = q; slot = slot }) _ (λ k d lt. and_from (is_flows p.serving) (is_atomic (queue_of p q).kind) flows atomic)
    by_kind q false plain flows = All-nil (λ (f : FlowLane). has_flow_lanes p f.queue ≡ true)

    by_serving : (b : Bool) → is_flows p.serving ≡ b → All (λ (f : FlowLane). has_flow_lanes p f.queue ≡ true) (if b then flat_map (lanes_at p.queues) (range_with_len 0 (length p.queues)) else [])
    by_serving true flows = every_flat (λ (f : FlowLane). has_flow_lanes p f.queue ≡ true) (lanes_at p.queues) (range_with_len 0 (length p.queues)) (λ k d lt. by_kind (get_or (range_with_len 0 (length p.queues)) k d) (is_atomic (queue_of p (get_or (range_with_len 0 (length p.queues)) k d)).kind) refl flows)
    by_serving false ports = All-nil (λ (f : FlowLane). has_flow_lanes p f.queue ≡ true)

-- a flow lane that serves a queue is one of an atomic queue's
flow_serves : (p : Plan) (l q slot : ℕ) → length p.ports ≤ l → serves p l q slot ≡ true → has_flow_lanes p q ≡ true
flow_serves p l q slot past linked = by_flow (flow_at p l) refl (sym (serves_flow p l q slot past) ∙ linked)
  where
    by_flow : (o : Option FlowLane) → flow_at p l ≡ o → is_lane_of q slot o ≡ true → has_flow_lanes p q ≡ true
    by_flow None is h = absurd (false≢true h)
    by_flow (Some f) is h =
        let parts = and_parts (f.queue == q) (f.slot == slot) h in
        subst (λ r. has_flow_lanes p r ≡ true) (ap (λ (g : FlowLane). g.queue) (get_or_from_slice_get (flow_lanes p) (l - length p.ports) f f is) ∙ eqb-true f.queue q parts.0) (are_flows p (l - length p.ports) f (slice_get_within (flow_lanes p) (l - length p.ports) f is))

-- where ports serve the queue, what serves it is a port's lane
pub by_port : (p : Plan) (l q slot : ℕ) → has_flow_lanes p q ≡ false → serves p l q slot ≡ true → l < length p.ports
by_port p l q slot ports linked = ⊎_elim (λ own. own) (λ past. absurd (false≢true (sym ports ∙ flow_serves p l q slot past linked))) (cases_lt l (length p.ports))

-- where flow lanes serve it, it isn't
pub by_flow : (p : Plan) (l q slot : ℕ) → has_flow_lanes p q ≡ true → serves p l q slot ≡ true → length p.ports ≤ l
by_flow p l q slot flows linked =
    ⊎_elim (λ own. absurd (false≢true (sym (serves_port p l q slot own ∙ and_right (has q (port_of p l).links) (not (has_flow_lanes p q)) (ap not flows)) ∙ linked))) (λ past. past) (cases_lt l (length p.ports))

-- ---- the sets

-- where each slot is there, none is missing
pub all_open : (p : Plan) (ls : List Entries) (sets : List SmallSet) → HaveAllSlots p sets → AreOpenSlots p ls sets
all_open p ls sets all = record { count = all.count; each = λ q slot l d h few flows linked room. all.each q slot d h few }

-- where no lane has room that had none, none is missing still
pub still_open : (p : Plan) (was now : List Entries) (sets : List SmallSet) → ((l : ℕ) → HasRoom now l → HasRoom was l) → AreOpenSlots p was sets → AreOpenSlots p now sets
still_open p was now sets fuller opens = record { count = opens.count; each = λ q slot l d h few flows linked room. opens.each q slot l d h few flows linked (fuller l room) }

-- a lane of which more is held has no more room than before
pub fuller : (ls : List Entries) (i : ℕ) (new : Entries) → i < length ls → length (lane_in ls i).entries ≤ length new.entries → new.capacity ≡ (lane_in ls i).capacity → (l : ℕ) → HasRoom (set ls i new) l → HasRoom ls l
fuller ls i new h more capacity l room = by_case (cases_eq l i)
  where
    by_case : (l ≡ i) ⊎ (l ≢ i) → HasRoom ls l
    by_case (inl e) =
        let here : length new.entries < new.capacity = subst (λ (x : Entries). length x.entries < x.capacity) (ap (λ n. get_or (set ls i new) n (entries_of [] 0)) e ∙ get_or-set_same ls i new (entries_of [] 0) h) room in
        subst (HasRoom ls) (sym e) (omega (arith, here, more, capacity))
    by_case (inr differs) = subst (λ (x : Entries). length x.entries < x.capacity) (get_or-set_other ls i l new (entries_of [] 0) differs) room

-- one lane may have got room, and its slot is there
pub opened : (p : Plan) (ls : List Entries) (i : ℕ) (new : Entries) (was now : List SmallSet) → IsOpened p i was now → AreOpenSlots p ls was → AreOpenSlots p (set ls i new) now
opened p ls i new was now done opens =
    record {
      count = done.count ∙ opens.count;
      each = λ q slot l d h few flows linked room.
          ⊎_elim (λ e. done.there q slot d h flows (subst (λ k. serves p k q slot ≡ true) e linked))
          (λ differs. done.still q slot d h (opens.each q slot l d (subst (λ n. q < n) done.count h) few flows linked (subst (λ (x : Entries). length x.entries < x.capacity) (get_or-set_other ls i l new (entries_of [] 0) differs) room)))
          (cases_eq l i);
    }

-- what a flow lane serves is its queue's slot, and nothing else
serves_one : (p : Plan) (l q slot : ℕ) (flow : FlowLane) → length p.ports ≤ l → flow_at p l ≡ Some flow → serves p l q slot ≡ true → (flow.queue ≡ q) × (flow.slot ≡ slot)
serves_one p l q slot flow past is linked =
    let parts = and_parts (flow.queue == q) (flow.slot == slot) (sym (lane_of_place p l q slot flow past is) ∙ linked) in
    (eqb-true flow.queue q parts.0, eqb-true flow.slot slot parts.1)

-- the slot that the flow lane serves is added to its queue's set
pub opened_at : (p : Plan) (l : ℕ) (flow : FlowLane) (was : List SmallSet) (old new : SmallSet) → length p.ports ≤ l → flow_at p l ≡ Some flow → flow.queue < length was → old ≡ get_or was flow.queue old → Has new flow.slot → SameBut flow.slot old new
    → IsOpened p l was (set was flow.queue new)
opened_at p l flow was old new past is h here added others =
    record {
      count = length-set was flow.queue new;
      there = λ q slot d lt flows linked.
          let one = serves_one p l q slot flow past is linked in
          subst (λ k. Has (get_or (set was flow.queue new) k d) slot) one.0 (subst (Has (get_or (set was flow.queue new) flow.queue d)) one.1 (subst (λ s. Has s flow.slot) (sym (get_or-set_same was flow.queue new d h)) added));
      still = still;
    }
  where
    kept : (slot : ℕ) → Has old slot → Has new slot
    kept slot has = ⊎_elim (λ e. subst (Has new) (sym e) added) (λ differs. (others slot differs).1 has) (cases_eq slot flow.slot)

    still : (q slot : ℕ) (d : SmallSet) → q < length (set was flow.queue new) → Has (get_or was q d) slot → Has (get_or (set was flow.queue new) q d) slot
    still q slot d lt has = ⊎_elim (at_queue q slot d has) (λ differs. subst (λ s. Has s slot) (sym (get_or-set_other was flow.queue q new d differs)) has) (cases_eq q flow.queue)
      where
        at_queue : (q slot : ℕ) (d : SmallSet) → Has (get_or was q d) slot → q ≡ flow.queue → Has (get_or (set was flow.queue new) q d) slot
        at_queue q slot d has e =
            subst (λ k. Has (get_or (set was flow.queue new) k d) slot) (sym e)
            (subst (λ s. Has s slot) (sym (get_or-set_same was flow.queue new d h)) (kept slot (subst (λ s. Has s slot) (get_or_default was flow.queue d old h ∙ sym here) (subst (λ k. Has (get_or was k d) slot) e has))))

-- a lane that isn't a flow lane serves no queue's slot of its own
pub opened_none : (p : Plan) (l : ℕ) (was : List SmallSet) → l < length p.ports → IsOpened p l was was
opened_none p l was own =
    record {
      count = refl;
      there = λ q slot d h flows linked. let past = by_flow p l q slot flows linked in absurd (omega (arith, own, past));
      still = λ q slot d h has. has;
    }

-- the slot of a flow lane that is full leaves its queue's set
pub closed_at : (p : Plan) (ls : List Entries) (l : ℕ) (flow : FlowLane) (was : List SmallSet) (old new : SmallSet) → length p.ports ≤ l → flow_at p l ≡ Some flow → flow.queue < length was → old ≡ get_or was flow.queue old → SameBut flow.slot old new
    → ¬ HasRoom ls l → AreOpenSlots p ls was → AreOpenSlots p ls (set was flow.queue new)
closed_at p ls l flow was old new past is h here others full opens =
    record {
      count = length-set was flow.queue new ∙ opens.count;
      each = each;
    }
  where
    each : (q slot m : ℕ) (d : SmallSet) → q < length (set was flow.queue new) → slot < 64 → has_flow_lanes p q ≡ true → serves p m q slot ≡ true → HasRoom ls m → Has (get_or (set was flow.queue new) q d) slot
    each q slot m d lt few flows linked room = ⊎_elim at_queue (λ differs. subst (λ s. Has s slot) (sym (get_or-set_other was flow.queue q new d differs)) was_there) (cases_eq q flow.queue)
      where
        was_there : Has (get_or was q d) slot
        was_there = opens.each q slot m d (subst (λ n. q < n) (length-set was flow.queue new) lt) few flows linked room

        -- another slot: that of the full lane is served by no lane that has room
        apart : q ≡ flow.queue → slot ≢ flow.slot
        apart e same =
            let mine : serves p l q slot ≡ true = lane_of_place p l q slot flow past is ∙ and_from (flow.queue == q) (flow.slot == slot) (eq-eqb flow.queue q (sym e)) (eq-eqb flow.slot slot (sym same)) in
            full (subst (HasRoom ls) (one_lane p m l q slot flows linked mine) room)

        at_queue : q ≡ flow.queue → Has (get_or (set was flow.queue new) q d) slot
        at_queue e =
            subst (λ k. Has (get_or (set was flow.queue new) k d) slot) (sym e)
            (subst (λ s. Has s slot) (sym (get_or-set_same was flow.queue new d h)) ((others slot (apart e)).1 (subst (λ s. Has s slot) (get_or_default was flow.queue d old h ∙ sym here) (subst (λ k. Has (get_or was k d) slot) e was_there))))

-- ---- the queue and the slot of a flow lane

abbrev IsWithin : Plan → FlowLane → Type 0
IsWithin p f = (f.queue < length p.queues) × (f.slot < 64)

-- each flow lane is of a queue that is there, and of one of its slots
flows_within : (p : Plan) → IsWithinLimits p → All (IsWithin p) (flow_lanes p)
unfolding flow_lanes lanes_by_slot
flows_within p limits = by_serving (is_flows p.serving)
  where
    few : (q : ℕ) → q < length p.queues → atomic_slots (queue_of p q) ≤ 64
    few q h = by_kind (is_atomic (queue_of p q).kind) refl
      where
        by_kind : (b : Bool) → is_atomic (queue_of p q).kind ≡ b → cond b (queue_of p q).slots 0 ≤ 64
        by_kind true atomic = (limits.slots q _ h atomic).1
        by_kind false plain = omega arith

    of_queue : (q : ℕ) → q < length p.queues → All (IsWithin p) (lanes_at p.queues q)
    of_queue q h =
        All-map (IsWithin p) (λ slot. record { queue = q; slot = slot }) (range_with_len 0 (atomic_slots (queue_of p q)))
        (λ k d lt. let long = length-range_with_len 0 (atomic_slots (queue_of p q)) in let slot : get_or (range_with_len 0 (atomic_slots (queue_of p q))) k d ≡ 0 + k = get_or-range_with_len 0 (atomic_slots (queue_of p q)) k d (omega arith) in let most = few q h in (h, omega arith))

    by_serving : (b : Bool) → All (IsWithin p) (if b then flat_map (lanes_at p.queues) (range_with_len 0 (length p.queues)) else [])
    by_serving true =
        every_flat (IsWithin p) (lanes_at p.queues) (range_with_len 0 (length p.queues))
        (λ k d lt. let long = length-range_with_len 0 (length p.queues) in let here : k < length p.queues = omega arith in
        let same : get_or (range_with_len 0 (length p.queues)) k d ≡ k = omega (arith, get_or-range_with_len 0 (length p.queues) k d here) in
        subst (λ q. All (IsWithin p) (lanes_at p.queues q)) (sym same) (of_queue k here))
    by_serving false = All-nil (IsWithin p)

pub flow_within : (p : Plan) (l : ℕ) (flow : FlowLane) → IsWithinLimits p → flow_at p l ≡ Some flow → (flow.queue < length p.queues) × (flow.slot < 64)
flow_within p l flow limits is =
    subst (IsWithin p) (get_or_from_slice_get (flow_lanes p) (l - length p.ports) flow flow is) (flows_within p limits (l - length p.ports) flow (slice_get_within (flow_lanes p) (l - length p.ports) flow is))
