-- Where nothing is refused, a configuration is within all limits.
use Rattle.std.proofs.Common.{◌≡◌, ◌≢◌, ℕ, ◌<◌, ◌≤◌, Bool, true, false, ◌&&◌, ◌||◌, List, [], ◌∷◌, ◌==◌, length}
use Rattle.std.proofs.Common.{slice_index_or, Option, Some, None, if◌then◌else◌, refl, sym, subst, ◌∙◌, arith, nat_lt, nat_le}
use Rattle.std.specs.List.{list_any, sum_by, All, AllPairs, range_with_len}
use Rattle.std.proofs.lemmas.Bool.{or_parts, ltb-false, leb-false, eqb-false, false_from_ne_true, false≢true}
use Rattle.std.proofs.lemmas.List.Folds.{list_any_at}
use Rattle.std.proofs.lemmas.List.FromFn.{length-range_with_len, get_or-range_with_len}
use Rattle.std.proofs.lemmas.List.Kept.{AllPairs-cons}
use Rattle.std.proofs.lemmas.List.Sums.{sum_by-le}
use Rattle.evt_types.specs.Fault.{outside, bad_threshold, thresholds_bad, bad_depth, depths_bad, bad_slots, slots_bad}
use Rattle.evt_types.specs.Fault.{bad_order, orders_bad, has_unknown, link_unknown, has_twice, link_twice, links_to, queue_unlinked}
use Rattle.evt_types.specs.Fault.{is_shared_single, single_bad, fault_of, IsBetween, IsWithinLimits}
use Rattle.evt_types.specs.Plan.{Plan, PortPlan, atomic_slots, is_atomic, is_ordered, queue_of}
use Rattle.lists.specs.Lists.{has}
use Rattle.evt_types.specs.declared.shape.TheConstants.{MAX_PORT_REPLIES, MAX_ALL_SLOTS, MAX_DEPTH, MAX_LIMIT, MAX_ORDER, MAX_PORTS, MAX_QUEUES, MAX_SLOTS, MAX_SWEEP}
use Rattle.evt_types.specs.declared.draft.QueueDraft.{QueueDraft}
use Rattle.evt_types.specs.declared.shape.ShapeFault.{ShapeFault}
use Rattle.evt_types.specs.declared.shape.ShapeFault.TheVariants as faults

-- the fault of the first test that is met
abbrev first_met : List (Bool × ShapeFault) → Option ShapeFault
first_met [] = None
first_met (x ∷ xs) = if x.0 then Some x.1 else first_met xs

abbrev NoneMet : List (Bool × ShapeFault) → Type 0
NoneMet [] = Unit {0}
NoneMet (x ∷ xs) = (x.0 ≡ false) × NoneMet xs

none_met : (xs : List (Bool × ShapeFault)) → first_met xs ≡ None → NoneMet xs
none_met [] h = tt
none_met ((true, f) ∷ xs) h = absurd (cc)
none_met ((false, f) ∷ xs) h = (refl, none_met xs h)

-- the tests of `fault_of`, in its order
abbrev tests : Plan → List (Bool × ShapeFault)
tests p =
    (outside 1 MAX_QUEUES (length p.queues), faults.QueueCount)
    ∷ (outside 1 MAX_PORTS (length p.ports), faults.PortCount)
    ∷ (outside 1 MAX_LIMIT p.limit, faults.LimitRange)
    ∷ (p.quantum == 0 || nat_lt p.limit p.quantum, faults.QuantumRange)
    ∷ (thresholds_bad p, faults.ThresholdRange)
    ∷ (depths_bad p, faults.DepthRange)
    ∷ (slots_bad p, faults.FlowSlots)
    ∷ (orders_bad p, faults.OrderDepth)
    ∷ (outside 1 MAX_SWEEP p.sweep, faults.SweepRange)
    ∷ (link_unknown p, faults.LinkUnknown)
    ∷ (link_twice p, faults.LinkTwice)
    ∷ (queue_unlinked p, faults.QueueUnlinked)
    ∷ (single_bad p, faults.SingleLinkCount)
    ∷ []

-- what a test says that isn't met
between : (low high n : ℕ) → outside low high n ≡ false → IsBetween low high n
between low high n h = let parts = or_parts (nat_lt n low) (nat_lt high n) h in (ltb-false n low parts.0, ltb-false high n parts.1)

quantum_between : (limit n : ℕ) → (n == 0 || nat_lt limit n) ≡ false → IsBetween 1 limit n
quantum_between limit n h =
    let parts = or_parts (n == 0) (nat_lt limit n) h in
    let positive = eqb-false n 0 parts.0 in
    (omega arith, ltb-false limit n parts.1)

guarded : (a b : Bool) → (a && b) ≡ false → a ≡ true → b ≡ false
guarded true b h met = h
guarded false b h met = absurd (false≢true met)

each_fails : {X : Type 0} (test : X → Bool) (xs : List X) → list_any test xs ≡ false → All (λ x. test x ≡ false) xs
each_fails test xs none k d h = false_from_ne_true (test (slice_index_or xs k d)) (λ yes. false≢true (sym none ∙ list_any_at test xs k d h yes))

-- of the numbers of the queues
fails_at : (test : ℕ → Bool) (n k : ℕ) → list_any test (range_with_len 0 n) ≡ false → k < n → test k ≡ false
fails_at test n k none h =
    let fails = each_fails test (range_with_len 0 n) none k 0 (rw length-range_with_len h) in
    subst (λ (i : ℕ). test i ≡ false) (get_or-range_with_len 0 n k 0 h ∙ omega arith) fails

distinct : (links : List ℕ) → has_twice links ≡ false → AllPairs (λ m n. m ≢ n) links
distinct [] h = λ i j d less short. absurd (omega arith)
distinct (x ∷ xs) h =
    let parts = or_parts (has x xs) (has_twice xs) h in
    let others = each_fails (λ m. m == x) xs parts.0 in
    AllPairs-cons (λ m n. m ≢ n) x xs (λ k d short same. eqb-false (slice_index_or xs k d) x (others k d short) (sym same)) (distinct xs parts.1)

thresholds_between : (p : Plan) → thresholds_bad p ≡ false → All (λ (port : PortPlan). IsBetween p.quantum p.limit port.threshold) p.ports
unfolding thresholds_bad
thresholds_between p h k d short = between p.quantum p.limit (slice_index_or p.ports k d).threshold (each_fails (bad_threshold p) p.ports h k d short)

depth_between : (port : PortPlan) → bad_depth port ≡ false → IsBetween 1 MAX_DEPTH port.depth × IsBetween 1 MAX_DEPTH port.replies
depth_between port h =
    let parts = or_parts (outside 1 MAX_DEPTH port.depth) (outside 1 MAX_DEPTH port.replies) h in
    (between 1 MAX_DEPTH port.depth parts.0, between 1 MAX_DEPTH port.replies parts.1)

depths_between : (p : Plan) → depths_bad p ≡ false → All (λ (port : PortPlan). IsBetween 1 MAX_DEPTH port.depth × IsBetween 1 MAX_DEPTH port.replies) p.ports
unfolding depths_bad
depths_between p h k d short = depth_between (slice_index_or p.ports k d) (each_fails bad_depth p.ports h k d short)

slot_parts : (p : Plan) → slots_bad p ≡ false → (list_any bad_slots p.queues ≡ false) × (nat_lt MAX_ALL_SLOTS (sum_by atomic_slots p.queues) ≡ false)
unfolding slots_bad
slot_parts p h = or_parts (list_any bad_slots p.queues) (nat_lt MAX_ALL_SLOTS (sum_by atomic_slots p.queues)) h

slots_between : (q : QueueDraft) → bad_slots q ≡ false → is_atomic q.kind ≡ true → IsBetween 1 MAX_SLOTS q.slots
slots_between q h atomic = between 1 MAX_SLOTS q.slots (guarded (is_atomic q.kind) (outside 1 MAX_SLOTS q.slots) h atomic)

order_between : (q : QueueDraft) → bad_order q ≡ false → is_ordered q.kind ≡ true → IsBetween 1 MAX_ORDER q.order
order_between q h ordered = between 1 MAX_ORDER q.order (guarded (is_ordered q.kind) (outside 1 MAX_ORDER q.order) h ordered)

orders_between : (p : Plan) → orders_bad p ≡ false → All (λ (q : QueueDraft). is_ordered q.kind ≡ true → IsBetween 1 MAX_ORDER q.order) p.queues
unfolding orders_bad
orders_between p h k d short = order_between (slice_index_or p.queues k d) (each_fails bad_order p.queues h k d short)

known : (count : ℕ) (port : PortPlan) → has_unknown count port ≡ false → All (λ q. q < count) port.links
known count port h k d short = leb-false count (slice_index_or port.links k d) (each_fails (λ q. nat_le count q) port.links h k d short)

links_known : (p : Plan) → link_unknown p ≡ false → All (λ (port : PortPlan). All (λ q. q < length p.queues) port.links) p.ports
unfolding link_unknown
links_known p h k d short = known (length p.queues) (slice_index_or p.ports k d) (each_fails (has_unknown (length p.queues)) p.ports h k d short)

links_once : (p : Plan) → link_twice p ≡ false → All (λ (port : PortPlan). AllPairs (λ m n. m ≢ n) port.links) p.ports
unfolding link_twice
links_once p h k d short = distinct (slice_index_or p.ports k d).links (each_fails (λ (port : PortPlan). has_twice port.links) p.ports h k d short)

linked : (p : Plan) → queue_unlinked p ≡ false → (q : ℕ) → q < length p.queues → 1 ≤ links_to p q
unfolding queue_unlinked
linked p h q there =
    let some = eqb-false (links_to p q) 0 (fails_at (λ q. links_to p q == 0) (length p.queues) q h there) in
    omega arith

unshared : (p : Plan) → single_bad p ≡ false → (q : ℕ) → q < length p.queues → (queue_of p q).single ≡ true → links_to p q ≤ 1
unfolding single_bad
unshared p h q there single =
    let fails = fails_at (is_shared_single p) (length p.queues) q h there in
    ltb-false 1 (links_to p q) (guarded (queue_of p q).single (nat_lt 1 (links_to p q)) fails single)

within_tests : (p : Plan) → NoneMet (tests p) → IsWithinLimits p
within_tests p (queues, (ports, (limit, (quantum, (thresholds, (depths, (slots, (orders, (sweep, (unknown, (twice, (unlinked, (shared, _))))))))))))) =
    record {
      queue_count = between 1 MAX_QUEUES (length p.queues) queues;
      port_count = between 1 MAX_PORTS (length p.ports) ports;
      limit = between 1 MAX_LIMIT p.limit limit;
      quantum = quantum_between p.limit p.quantum quantum;
      thresholds = thresholds_between p thresholds;
      depths = λ k d short. (depths_between p depths k d short).0;
      replies = λ k d short. (depths_between p depths k d short).1;
      slots = λ k d short. slots_between (slice_index_or p.queues k d) (each_fails bad_slots p.queues (slot_parts p slots).0 k d short);
      all_slots = ltb-false MAX_ALL_SLOTS (sum_by atomic_slots p.queues) (slot_parts p slots).1;
      orders = orders_between p orders;
      sweep = between 1 MAX_SWEEP p.sweep sweep;
      links_known = links_known p unknown;
      links_once = links_once p twice;
      linked = linked p unlinked;
      single = λ q there single. let most = unshared p shared q there single in let least = linked p unlinked q there in omega arith;
    }

pub within : (p : Plan) → fault_of p ≡ None → IsWithinLimits p
within p h = within_tests p (none_met (tests p) h)

-- the replies of all ports
pub replies_few : (p : Plan) → IsWithinLimits p → sum_by (λ (port : PortPlan). port.replies) p.ports ≤ MAX_PORT_REPLIES
replies_few p w =
    let each = sum_by-le (λ (port : PortPlan). port.replies) 64 p.ports (λ k d h. (w.replies k d h).1) in
    let few = w.port_count in
    omega arith
