-- With flow lanes a slot of an atomic queue is served by one lane alone, so no other lane has an unanswered event of it.
use Rattle.std.proofs.Common.{◌≡◌, ◌≢◌, ℕ, ◌-◌, ◌<◌, ◌≤◌, Bool, true, false, not, ◌&&◌, ◌==◌, List, [], length, All, Option, Some, None, ◌⊎◌, inl, inr, refl, sym, ap, ◌∙◌, subst, arith, if◌then◌else◌}
use Rattle.std.proofs.lemmas.Bool.{cases_lt, false≢true, and_parts, and_right}
use Rattle.std.proofs.lemmas.List.{get_or_past, take_all}
use Rattle.std.proofs.lemmas.List.Elements.{All-nil, All-map, All-weaker, All-drop}
use Rattle.std.proofs.lemmas.List.FromFn.{length-map-range_with_len}
use Rattle.evt_types.specs.Plan.{Plan, lanes_at, lanes_by_slot, flow_lanes, lanes_of, flow_at, port_of, queue_in, atomic_slots, is_flows, is_lane_of, has_flow_lanes, serves}
use Rattle.evt_types.specs.declared.draft.QueueDraft.{QueueDraft}
use Rattle.evt_types.specs.declared.flows.FlowLane.{FlowLane}
use Rattle.evt_types.specs.declared.step.Step.{Step}
use Rattle.evt_types.proofs.FlowLanes.{serves_port, serves_flow}
use Rattle.lists.specs.Lists.{has}
use Rattle.lists.proofs.Lists.{eqb_is}
use Rattle.lists.proofs.Once.{IsOnce, once_place, once_mapped, once_flat}
use Rattle.transcripts.specs.Choice.{HasNoOther}
use Rattle.transcripts.specs.Lawful.{IsLinked, Lawful}
use Rattle.transcripts.specs.Standing.{View, Stands, view_of, unanswered_at}
use Rattle.transcripts.specs.Transcript.{out, answers, unanswered, unanswered_slots, Held, held_at, slot_at}
use Rattle.transcripts.proofs.WholeStands.{unanswered_is}

-- ---- the flow lanes differ

abbrev flow_of : ℕ → ℕ → FlowLane
flow_of q slot = record { queue = q; slot = slot }

lanes_once : (qs : List QueueDraft) → IsOnce (lanes_by_slot qs)
unfolding lanes_by_slot
lanes_once qs =
    once_flat (λ (flow : FlowLane). flow.queue) (lanes_at qs) (length qs)
    (λ q. once_mapped (flow_of q) (atomic_slots (queue_in qs q)) (λ i j e. ap (λ (flow : FlowLane). flow.slot) e))
    (λ q. All-map (λ (flow : FlowLane). flow.queue ≡ q) (flow_of q) _ (λ k d lt. refl))

flows_once : (p : Plan) → IsOnce (flow_lanes p)
unfolding flow_lanes
flows_once p = by_serving (is_flows p.serving)
  where
    by_serving : (b : Bool) → IsOnce (if b then lanes_by_slot p.queues else [])
    by_serving true = lanes_once p.queues
    by_serving false = λ i j d lt within. absurd (omega arith)

-- ---- the lane of a slot

flow_is : (q slot : ℕ) (o : Option FlowLane) → is_lane_of q slot o ≡ true → o ≡ Some (flow_of q slot)
flow_is q slot None h = absurd (false≢true h)
flow_is q slot (Some flow) h =
    let parts = and_parts (flow.queue == q) (flow.slot == slot) h in
    ap (λ k. Some (flow_of k flow.slot)) (eqb_is flow.queue q parts.0) ∙ ap (λ k. Some (flow_of q k)) (eqb_is flow.slot slot parts.1)

-- it is a flow lane
serves_by_flow : (p : Plan) (l q slot : ℕ) → has_flow_lanes p q ≡ true → serves p l q slot ≡ true
    → (length p.ports ≤ l) × (flow_at p l ≡ Some (flow_of q slot))
serves_by_flow p l q slot flows h = by_case (cases_lt l (length p.ports))
  where
    by_case : (l < length p.ports) ⊎ (length p.ports ≤ l) → (length p.ports ≤ l) × (flow_at p l ≡ Some (flow_of q slot))
    by_case (inl own) =
        let none : (has q (port_of p l).links && not (has_flow_lanes p q)) ≡ false =
        and_right (has q (port_of p l).links) (not (has_flow_lanes p q)) (ap not flows) in
        absurd (false≢true (sym none ∙ (sym (serves_port p l q slot own) ∙ h)))
    by_case (inr past) = (past, flow_is q slot (flow_at p l) (sym (serves_flow p l q slot past) ∙ h))

-- two lanes that serve the slot are one
pub one_lane : (p : Plan) (l m q slot : ℕ) → has_flow_lanes p q ≡ true → serves p l q slot ≡ true → serves p m q slot ≡ true → l ≡ m
one_lane p l m q slot flows at_l at_m =
    let by_l = serves_by_flow p l q slot flows at_l in
    let by_m = serves_by_flow p m q slot flows at_m in
    let same : l - length p.ports ≡ m - length p.ports =
    once_place (flow_lanes p) (flow_of q slot) (l - length p.ports) (m - length p.ports) (flows_once p) by_l.1 by_m.1 in
    omega (arith, by_l.0, by_m.0)

-- ---- what other lanes have

-- the pair is of a slot that the lane serves
abbrev IsServed : Plan → List Step → ℕ → ℕ × ℕ → Type 0
IsServed p T l x = serves p l x.0 (slot_at p T x.0 x.1) ≡ true

unanswered_served : (p : Plan) (T : List Step) (l : ℕ) → Lawful p T → All (IsServed p T l) (unanswered T l)
unfolding unanswered
unanswered_served p T l lawful =
    All-drop (IsServed p T l) (length (answers T l)) (out T l)
    (subst (IsLinked p) (take_all (length T) T (omega arith)) (lawful.linked (length T) (omega arith)) l)

-- a lane that isn't there
none_past : (v : View) (T : List Step) (m : ℕ) → Stands T v → lanes_of v.shape ≤ m → unanswered_at v m ≡ []
unfolding view_of
none_past v T m stands past =
    ap (λ u. unanswered_at u m) stands.holds
    ∙ get_or_past (view_of v.shape T).unanswered m [] (omega (arith, length-map-range_with_len (unanswered_slots v.shape T) 0 (lanes_of v.shape)))

pub flow_alone : (v : View) (T : List Step) (l q slot : ℕ) → Stands T v → has_flow_lanes v.shape q ≡ true → serves v.shape l q slot ≡ true
    → HasNoOther v l q slot
flow_alone v T l q slot stands flows at_l m differs = by_lane (cases_lt m (lanes_of v.shape))
  where
    p : Plan
    p = v.shape

    IsOther : Held → Type 0
    IsOther y = y.queue ≡ q → y.slot ≢ slot

    other : (x : ℕ × ℕ) → IsServed p T m x → IsOther (held_at p T x)
    other x served same_queue same_slot =
        differs (one_lane p m l q slot flows (subst (λ k. serves p m q k ≡ true) same_slot
        (subst (λ r. serves p m r (slot_at p T x.0 x.1) ≡ true) same_queue served)) at_l)

    by_lane : (m < lanes_of p) ⊎ (lanes_of p ≤ m) → All IsOther (unanswered_at v m)
    by_lane (inl lane) =
        subst (All IsOther) (sym (unanswered_is v T m stands lane))
        (All-map IsOther (held_at p T) (unanswered T m)
        (All-weaker (IsServed p T m) (λ x. IsOther (held_at p T x)) other (unanswered T m) (unanswered_served p T m stands.lawful)))
    by_lane (inr past) = subst (All IsOther) (sym (none_past v T m stands past)) (All-nil IsOther)
