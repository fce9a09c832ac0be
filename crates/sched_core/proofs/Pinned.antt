-- The pins beside the unanswered events: what they say of a lane, and that they agree with the events after one is given or answered.
use Rattle.std.proofs.Common.{◌≡◌, ◌≢◌, ℕ, ◌+◌, ◌%◌, ◌<◌, ◌≤◌, Bool, true, false, cond, ◌==◌, List, [], ◌∷◌, ◌++◌, length, set, drop, replicate, slice_get, All, Some, ◌⊎◌, inl, inr, refl, sym, ap, ◌∙◌, subst, arith, eq-eqb, eqb-true}
use Rattle.std.proofs.lemmas.Bool.{and_from, and_parts, or_left, or_right, cases_eq, cases_lt, cases_Bool, cond-true, cond-false, false≢true, false_from_ne_true, ne_eqb}
use Rattle.std.proofs.lemmas.List.{length-set, length-replicate, get_or-replicate, get_or-set_same, get_or-set_other, get_or_past, set-get_or, set_past}
use Rattle.std.proofs.lemmas.List.Elements.{All-nil, All-cons, All-head, All-push, All-drop, All-set, All-weaker}
use Rattle.std.proofs.lemmas.List.Sums.{sum_by-append, sum_by-cons, count_by-le-length}
use Rattle.std.proofs.lemmas.Option.{same_Some}
use Rattle.lists.proofs.Lists.{eqb_same}
use Rattle.lists.proofs.Sums.{sum_of_none}
use Rattle.evt_types.specs.Fault.{IsWithinLimits, IsBetween}
use Rattle.evt_types.specs.declared.shape.TheConstants.{MAX_DEPTH, MAX_SLOTS}
use Rattle.evt_types.proofs.FlowLanes.{depth_within}
use Rattle.evt_types.specs.Plan.{Plan, queue_of, slot_of, depth_of, is_atomic, is_ordered, lanes_of}
use Rattle.transcripts.specs.Transcript.{Held}
use Rattle.evt_types.specs.declared.draft.QueueDraft.{QueueDraft}
use Rattle.evt_types.specs.declared.event.Kind.{Kind}
use Rattle.evt_types.specs.declared.event.Kind.TheVariants.{Atomic, Ordered, Parallel}
use Rattle.order_parts.proofs.Holders.{may_parts}
use Rattle.order_parts.specs.Pins.{Pin, free, pin_at, may_pin, pinned, unpinned}
use Rattle.sched_core.specs.Pinned.{entries_at, is_of, count_of, count_on, ArePins}
use Rattle.order_parts.specs.QueuePins.{slots_of, pins_at, pin_in, with_pin, AreFreePins}

-- ---- how many events are of a slot

abbrev IsElsewhere : ℕ → ℕ → Held → Type 0
IsElsewhere q slot y = y.queue ≡ q → y.slot ≢ slot

abbrev one_if : Bool → ℕ
one_if b = cond b 1 0

one_if_true : (b : Bool) → b ≡ true → one_if b ≡ 1
one_if_true b e = ap one_if e

one_if_false : (b : Bool) → b ≡ false → one_if b ≡ 0
one_if_false b e = ap one_if e

is_of_same : (y : Held) → is_of y.queue y.slot y ≡ true
is_of_same y = and_from (y.queue == y.queue) (y.slot == y.slot) (eqb_same y.queue) (eqb_same y.slot)

is_of_other : (q slot : ℕ) (y : Held) → IsElsewhere q slot y → is_of q slot y ≡ false
is_of_other q slot y other =
    false_from_ne_true (is_of q slot y) (λ h. let parts = and_parts (y.queue == q) (y.slot == slot) h in other (eqb-true y.queue q parts.0) (eqb-true y.slot slot parts.1))

elsewhere : (q slot : ℕ) (y : Held) → is_of q slot y ≡ false → IsElsewhere q slot y
elsewhere q slot y h queue same = false≢true (sym h ∙ and_from (y.queue == q) (y.slot == slot) (eq-eqb y.queue q queue) (eq-eqb y.slot slot same))

count_cons : (q slot : ℕ) (y : Held) (ys : List Held) → count_of q slot (y ∷ ys) ≡ one_if (is_of q slot y) + count_of q slot ys
count_cons q slot y ys = sum_by-cons (λ x. one_if (is_of q slot x)) y ys

count_push : (q slot : ℕ) (ys : List Held) (y : Held) → count_of q slot (ys ++ y ∷ []) ≡ count_of q slot ys + one_if (is_of q slot y)
count_push q slot ys y =
    let one = count_cons q slot y [] in
    sum_by-append (λ x. one_if (is_of q slot x)) ys (y ∷ []) ∙ omega arith

-- the oldest event, and the rest
count_rest : (q slot : ℕ) (ys : List Held) (y : Held) → slice_get ys 0 ≡ Some y → count_of q slot ys ≡ one_if (is_of q slot y) + count_of q slot (drop 1 ys)
count_rest q slot [] y oldest = absurd cc
count_rest q slot (x ∷ xs) y oldest = count_cons q slot x xs ∙ ap (λ z. one_if (is_of q slot z) + count_of q slot xs) (same_Some x y oldest)

count_none : (q slot : ℕ) (ys : List Held) → All (IsElsewhere q slot) ys → count_of q slot ys ≡ 0
count_none q slot ys all =
    sum_of_none (λ x. one_if (is_of q slot x)) ys (All-weaker (IsElsewhere q slot) (λ x. one_if (is_of q slot x) ≡ 0) (λ y other. one_if_false (is_of q slot y) (is_of_other q slot y other)) ys all)

none_counted : (q slot : ℕ) (ys : List Held) → count_of q slot ys ≡ 0 → All (IsElsewhere q slot) ys
none_counted q slot [] none = All-nil (IsElsewhere q slot)
none_counted q slot (y ∷ ys) none =
    let both = parts (is_of q slot y) (count_of q slot ys) (sym (count_cons q slot y ys) ∙ none) in
    All-cons (IsElsewhere q slot) y ys (elsewhere q slot y both.0) (none_counted q slot ys both.1)
  where
    parts : (b : Bool) (n : ℕ) → one_if b + n ≡ 0 → (b ≡ false) × (n ≡ 0)
    parts true n e = absurd (omega arith)
    parts false n e = (refl, omega arith)

-- ---- what a pin says of a lane

count_on_its : (l : ℕ) (x : Pin) → x.lane ≡ l → count_on l x ≡ x.count
count_on_its l x e = cond-true (x.lane == l) x.count 0 (eq-eqb x.lane l e)

count_on_other : (l : ℕ) (x : Pin) → x.lane ≢ l → count_on l x ≡ 0
count_on_other l x differs = cond-false (x.lane == l) x.count 0 (ne_eqb x.lane l differs)

count_on_none : (l : ℕ) (x : Pin) → x.count ≡ 0 → count_on l x ≡ 0
count_on_none l x none = by_case (cases_eq x.lane l)
  where
    by_case : (x.lane ≡ l) ⊎ (x.lane ≢ l) → count_on l x ≡ 0
    by_case (inl e) = count_on_its l x e ∙ none
    by_case (inr differs) = count_on_other l x differs

count_on_may : (l : ℕ) (x : Pin) → may_pin x l ≡ true → count_on l x ≡ x.count
count_on_may l x may = by_case (may_parts l x may)
  where
    by_case : (x.count ≡ 0) ⊎ (x.lane ≡ l) → count_on l x ≡ x.count
    by_case (inl e) = count_on_none l x e ∙ sym e
    by_case (inr e) = count_on_its l x e

count_off_may : (l m : ℕ) (x : Pin) → may_pin x l ≡ true → m ≢ l → count_on m x ≡ 0
count_off_may l m x may differs = by_case (may_parts l x may)
  where
    by_case : (x.count ≡ 0) ⊎ (x.lane ≡ l) → count_on m x ≡ 0
    by_case (inl e) = count_on_none m x e
    by_case (inr e) = count_on_other m x (λ same. differs (sym same ∙ e))

-- a lane that has some is the pin's
lane_of_some : (l : ℕ) (x : Pin) → 0 < count_on l x → x.lane ≡ l
lane_of_some l x some = by_case (cases_eq x.lane l)
  where
    by_case : (x.lane ≡ l) ⊎ (x.lane ≢ l) → x.lane ≡ l
    by_case (inl e) = e
    by_case (inr differs) = let none = count_on_other l x differs in absurd (omega arith)

-- ---- one pin that changes

abbrev IsAnother : ℕ → ℕ → ℕ → ℕ → Type 0
IsAnother q slot r s = q ≡ r → slot ≢ s

cases_slot : (q slot r s : ℕ) → ((q ≡ r) × (slot ≡ s)) ⊎ IsAnother q slot r s
cases_slot q slot r s = by_queue (cases_eq q r) (cases_eq slot s)
  where
    by_queue : (q ≡ r) ⊎ (q ≢ r) → (slot ≡ s) ⊎ (slot ≢ s) → ((q ≡ r) × (slot ≡ s)) ⊎ IsAnother q slot r s
    by_queue (inl e) (inl f) = inl (e, f)
    by_queue (inl e) (inr f) = inr (λ _. f)
    by_queue (inr e) f = inr (λ same. absurd (e same))

pin_same : (ps : List (List Pin)) (q slot : ℕ) (x : Pin) → q < length ps → slot < length (pins_at ps q) → pin_in (with_pin ps q slot x) q slot ≡ x
pin_same ps q slot x h k = ap (λ xs. pin_at xs slot) (get_or-set_same ps q (set (pins_at ps q) slot x) [] h) ∙ get_or-set_same (pins_at ps q) slot x free k

pin_other : (ps : List (List Pin)) (q slot r s : ℕ) (x : Pin) → q < length ps → IsAnother q slot r s → pin_in (with_pin ps q slot x) r s ≡ pin_in ps r s
pin_other ps q slot r s x h other = by_queue (cases_eq r q)
  where
    by_queue : (r ≡ q) ⊎ (r ≢ q) → pin_in (with_pin ps q slot x) r s ≡ pin_in ps r s
    by_queue (inl e) =
        ap (λ n. pin_in (with_pin ps q slot x) n s) e
        ∙ (ap (λ xs. pin_at xs s) (get_or-set_same ps q (set (pins_at ps q) slot x) [] h)
        ∙ (get_or-set_other (pins_at ps q) slot s x free (λ same. other (sym e) (sym same)) ∙ ap (λ n. pin_in ps n s) (sym e)))
    by_queue (inr differs) = ap (λ xs. pin_at xs s) (get_or-set_other ps q r (set (pins_at ps q) slot x) [] differs)

slots_stay : (ps : List (List Pin)) (q slot r : ℕ) (x : Pin) → q < length ps → length (pins_at (with_pin ps q slot x) r) ≡ length (pins_at ps r)
slots_stay ps q slot r x h = by_queue (cases_eq r q)
  where
    by_queue : (r ≡ q) ⊎ (r ≢ q) → length (pins_at (with_pin ps q slot x) r) ≡ length (pins_at ps r)
    by_queue (inl e) =
        ap (λ n. length (pins_at (with_pin ps q slot x) n)) e
        ∙ (ap length (get_or-set_same ps q (set (pins_at ps q) slot x) [] h) ∙ (length-set (pins_at ps q) slot x ∙ ap (λ n. length (pins_at ps n)) (sym e)))
    by_queue (inr differs) = ap length (get_or-set_other ps q r (set (pins_at ps q) slot x) [] differs)

-- a slot without a pin counts as free
free_past : (ps : List (List Pin)) (q slot : ℕ) → length (pins_at ps q) ≤ slot → pin_in ps q slot ≡ free
free_past ps q slot h = get_or_past (pins_at ps q) slot free h

-- a slot that isn't free has a pin
slot_has_pin : (ps : List (List Pin)) (q slot : ℕ) → 0 < (pin_in ps q slot).count → slot < length (pins_at ps q)
slot_has_pin ps q slot some = by_case (cases_lt slot (length (pins_at ps q)))
  where
    by_case : (slot < length (pins_at ps q)) ⊎ (length (pins_at ps q) ≤ slot) → slot < length (pins_at ps q)
    by_case (inl lt) = lt
    by_case (inr past) = let none = ap (λ (x : Pin). x.count) (free_past ps q slot past) in absurd (omega arith)

-- only an atomic queue has pins
no_slots : (p : Plan) (q : ℕ) → is_atomic (queue_of p q).kind ≡ false → slots_of p q ≡ 0
no_slots p q plain = cond-false (is_atomic (queue_of p q).kind) (queue_of p q).slots 0 plain

-- a slot of an ordered queue has no pin, and so no write changes it
pub no_pins : (p : Plan) (us : List (List Held)) (ps : List (List Pin)) (q slot : ℕ) (x : Pin) → ArePins p us ps → q < length p.queues → is_ordered (queue_of p q).kind ≡ true → ps ≡ with_pin ps q slot x
no_pins p us ps q slot x pins h ordered =
    let few = pins.slots q h in
    let none = no_slots p q (not_atomic (queue_of p q).kind ordered) in
    sym (ap (set ps q) (set_past (pins_at ps q) slot x (omega arith)) ∙ set-get_or ps q [])
  where
    not_atomic : (k : Kind) → is_ordered k ≡ true → is_atomic k ≡ false
    not_atomic Atomic is = absurd (false≢true is)
    not_atomic Ordered is = refl
    not_atomic Parallel is = absurd (false≢true is)

free_plain : (p : Plan) (us : List (List Held)) (ps : List (List Pin)) (q slot : ℕ) → ArePins p us ps → q < length p.queues → is_atomic (queue_of p q).kind ≡ false → pin_in ps q slot ≡ free
free_plain p us ps q slot pins h plain =
    let few = pins.slots q h in
    let none = no_slots p q plain in
    free_past ps q slot (omega arith)

-- ---- a lane may have an event more just where no other lane has one of the slot

pub may_is_alone : (p : Plan) (us : List (List Held)) (ps : List (List Pin)) (q slot l : ℕ) → ArePins p us ps → may_pin (pin_in ps q slot) l ≡ true
    → is_atomic (queue_of p q).kind ≡ true → (m : ℕ) → m ≢ l → All (λ (y : Held). y.queue ≡ q → y.slot ≢ slot) (entries_at us m)
may_is_alone p us ps q slot l pins may atomic m differs = none_counted q slot (entries_at us m) (pins.held q slot m atomic ∙ count_off_may l m (pin_in ps q slot) may differs)

pub alone_may : (p : Plan) (us : List (List Held)) (ps : List (List Pin)) (q slot l : ℕ) → ArePins p us ps → q < length p.queues
    → (is_atomic (queue_of p q).kind ≡ true → (m : ℕ) → m ≢ l → All (λ (y : Held). y.queue ≡ q → y.slot ≢ slot) (entries_at us m)) → may_pin (pin_in ps q slot) l ≡ true
alone_may p us ps q slot l pins h alone = by_kind (cases_Bool (is_atomic (queue_of p q).kind)) (cases_eq (pin_in ps q slot).lane l)
  where
    x : Pin
    x = pin_in ps q slot

    by_kind : (is_atomic (queue_of p q).kind ≡ true) ⊎ (is_atomic (queue_of p q).kind ≡ false) → (x.lane ≡ l) ⊎ (x.lane ≢ l) → may_pin x l ≡ true
    by_kind (inl atomic) (inl its) = or_right (x.count == 0) (x.lane == l) (eq-eqb x.lane l its)
    by_kind (inl atomic) (inr differs) =
        or_left (x.count == 0) (x.lane == l) (eq-eqb x.count 0 (sym (count_on_its x.lane x refl) ∙ (sym (pins.held q slot x.lane atomic) ∙ count_none q slot (entries_at us x.lane) (alone atomic x.lane differs))))
    by_kind (inr plain) lane = ap (λ (y : Pin). may_pin y l) (free_plain p us ps q slot pins h plain)

-- a lane that isn't full leaves room in a pin
pub pin_room : (p : Plan) (us : List (List Held)) (ps : List (List Pin)) (q slot l : ℕ) → ArePins p us ps → IsWithinLimits p → q < length p.queues → l < lanes_of p
    → length (entries_at us l) < depth_of p l → may_pin (pin_in ps q slot) l ≡ true → (pin_in ps q slot).count < MAX_DEPTH
pin_room p us ps q slot l pins limits h k room may = by_kind (cases_Bool (is_atomic (queue_of p q).kind))
  where
    by_kind : (is_atomic (queue_of p q).kind ≡ true) ⊎ (is_atomic (queue_of p q).kind ≡ false) → (pin_in ps q slot).count < MAX_DEPTH
    by_kind (inl atomic) =
        let depth : IsBetween 1 MAX_DEPTH (depth_of p l) = depth_within p l limits k in
        let few = count_by-le-length (is_of q slot) (entries_at us l) in
        let all = pins.held q slot l atomic ∙ count_on_may l (pin_in ps q slot) may in
        omega arith
    by_kind (inr plain) = let none = ap (λ (x : Pin). x.count) (free_plain p us ps q slot pins h plain) in omega arith

-- a lane that has room for so many leaves room for as many in a pin
pub pin_room_for : (p : Plan) (us : List (List Held)) (ps : List (List Pin)) (q slot l more : ℕ) → ArePins p us ps → IsWithinLimits p → q < length p.queues → l < lanes_of p
    → length (entries_at us l) + more ≤ depth_of p l → may_pin (pin_in ps q slot) l ≡ true → (pin_in ps q slot).count + more ≤ MAX_DEPTH
pin_room_for p us ps q slot l more pins limits h k room may = by_kind (cases_Bool (is_atomic (queue_of p q).kind))
  where
    by_kind : (is_atomic (queue_of p q).kind ≡ true) ⊎ (is_atomic (queue_of p q).kind ≡ false) → (pin_in ps q slot).count + more ≤ MAX_DEPTH
    by_kind (inl atomic) =
        let depth : IsBetween 1 MAX_DEPTH (depth_of p l) = depth_within p l limits k in
        let few = count_by-le-length (is_of q slot) (entries_at us l) in
        let all = pins.held q slot l atomic ∙ count_on_may l (pin_in ps q slot) may in
        omega arith
    by_kind (inr plain) =
        let depth : IsBetween 1 MAX_DEPTH (depth_of p l) = depth_within p l limits k in
        let none = ap (λ (x : Pin). x.count) (free_plain p us ps q slot pins h plain) in
        omega arith

-- an event's slot in an atomic queue has a pin
pub slot_within : (p : Plan) (q flow : ℕ) → IsWithinLimits p → q < length p.queues → is_atomic (queue_of p q).kind ≡ true → slot_of p q flow < slots_of p q
slot_within p q flow limits h atomic =
    let unknown : QueueDraft = record { kind = Parallel; priority = 0; slots = 0; order = 0; single = false } in
    let some : IsBetween 1 MAX_SLOTS (queue_of p q).slots = limits.slots q unknown h atomic in
    let slot = cond-true (is_atomic (queue_of p q).kind) (flow % (queue_of p q).slots) 0 atomic in
    let slots = cond-true (is_atomic (queue_of p q).kind) (queue_of p q).slots 0 atomic in
    omega arith

-- ---- the oldest event of a lane

pub oldest_known : (p : Plan) (us : List (List Held)) (ps : List (List Pin)) (l : ℕ) (y : Held) → ArePins p us ps → l < length us → slice_get (entries_at us l) 0 ≡ Some y → y.queue < length p.queues
oldest_known p us ps l y pins h oldest = first (entries_at us l) (pins.known l [] h) oldest
  where
    first : (ys : List Held) → All (λ (x : Held). x.queue < length p.queues) ys → slice_get ys 0 ≡ Some y → y.queue < length p.queues
    first [] all is = absurd cc
    first (x ∷ xs) all is = subst (λ (z : Held). z.queue < length p.queues) (same_Some x y is) (All-head (λ (z : Held). z.queue < length p.queues) x xs all)

-- it is counted
oldest_counted : (us : List (List Held)) (l : ℕ) (y : Held) → slice_get (entries_at us l) 0 ≡ Some y → count_of y.queue y.slot (entries_at us l) ≡ 1 + count_of y.queue y.slot (drop 1 (entries_at us l))
oldest_counted us l y oldest =
    count_rest y.queue y.slot (entries_at us l) y oldest ∙ ap (λ n. n + count_of y.queue y.slot (drop 1 (entries_at us l))) (one_if_true (is_of y.queue y.slot y) (is_of_same y))

-- the lane has all events of its slot
pub oldest_pin : (p : Plan) (us : List (List Held)) (ps : List (List Pin)) (l : ℕ) (y : Held) → ArePins p us ps → slice_get (entries_at us l) 0 ≡ Some y → is_atomic (queue_of p y.queue).kind ≡ true
    → ((pin_in ps y.queue y.slot).lane ≡ l) × ((pin_in ps y.queue y.slot).count ≡ 1 + count_of y.queue y.slot (drop 1 (entries_at us l)))
oldest_pin p us ps l y pins oldest atomic =
    let x : Pin = pin_in ps y.queue y.slot in
    let counted : count_on l x ≡ 1 + count_of y.queue y.slot (drop 1 (entries_at us l)) = sym (pins.held y.queue y.slot l atomic) ∙ oldest_counted us l y oldest in
    let its : x.lane ≡ l = lane_of_some l x (omega arith) in
    (its, sym (count_on_its l x its) ∙ counted)

pub oldest_pinned : (p : Plan) (us : List (List Held)) (ps : List (List Pin)) (l : ℕ) (y : Held) → ArePins p us ps → l < length us → slice_get (entries_at us l) 0 ≡ Some y
    → y.slot < length (pins_at ps y.queue) → 0 < (pin_in ps y.queue y.slot).count
oldest_pinned p us ps l y pins h oldest there = by_kind (cases_Bool (is_atomic (queue_of p y.queue).kind))
  where
    by_kind : (is_atomic (queue_of p y.queue).kind ≡ true) ⊎ (is_atomic (queue_of p y.queue).kind ≡ false) → 0 < (pin_in ps y.queue y.slot).count
    by_kind (inl atomic) = let all = (oldest_pin p us ps l y pins oldest atomic).1 in omega arith
    by_kind (inr plain) =
        let few = pins.slots y.queue (oldest_known p us ps l y pins h oldest) in
        let none = no_slots p y.queue plain in
        absurd (omega arith)

-- ---- the events of a lane change, and the pin of one slot

-- the pin says what its slot has now, and of the other slots the lane has as many as before
module _ (p : Plan) (us : List (List Held)) (ps : List (List Pin)) (l : ℕ) (ys : List Held) (y : Held) (x : Pin) (pins : ArePins p us ps) (h : l < length us) (queue : y.queue < length p.queues) where
  abbrev IsKnown : Held → Type 0
  IsKnown z = z.queue < length p.queues

  there : y.queue < length ps
  there = omega (arith, pins.count)

  abbrev after : List (List Held)
  after = set us l ys

  pins_set : All (λ (z : Held). z.queue < length p.queues) ys → (is_atomic (queue_of p y.queue).kind ≡ true → y.slot < length (pins_at ps y.queue))
      → (is_atomic (queue_of p y.queue).kind ≡ true → count_of y.queue y.slot ys ≡ count_on l x)
      → (is_atomic (queue_of p y.queue).kind ≡ true → (m : ℕ) → m ≢ l → count_on m (pin_in ps y.queue y.slot) ≡ count_on m x)
      → ((q s : ℕ) → IsAnother y.queue y.slot q s → count_of q s ys ≡ count_of q s (entries_at us l)) → ArePins p (set us l ys) (with_pin ps y.queue y.slot x)
  pins_set known slot here away others =
      record {
        count = length-set ps y.queue (set (pins_at ps y.queue) y.slot x) ∙ pins.count;
        slots = λ q lt. slots_stay ps y.queue y.slot q x there ∙ pins.slots q lt;
        known = All-set (All IsKnown) us l ys known pins.known;
        held = λ q s m atomic. by_slot q s m atomic (cases_slot y.queue y.slot q s);
      }
    where
      same_slot : (m : ℕ) → is_atomic (queue_of p y.queue).kind ≡ true → (m ≡ l) ⊎ (m ≢ l) → count_of y.queue y.slot (entries_at after m) ≡ count_on m x
      same_slot m atomic (inl e) = ap (count_of y.queue y.slot) (ap (entries_at after) e ∙ get_or-set_same us l ys [] h) ∙ (here atomic ∙ ap (λ n. count_on n x) (sym e))
      same_slot m atomic (inr differs) = ap (count_of y.queue y.slot) (get_or-set_other us l m ys [] differs) ∙ (pins.held y.queue y.slot m atomic ∙ away atomic m differs)

      other_slot : (q s m : ℕ) → is_atomic (queue_of p q).kind ≡ true → IsAnother y.queue y.slot q s → (m ≡ l) ⊎ (m ≢ l) → count_of q s (entries_at after m) ≡ count_on m (pin_in ps q s)
      other_slot q s m atomic other (inl e) =
          ap (count_of q s) (ap (entries_at after) e ∙ get_or-set_same us l ys [] h) ∙ (others q s other ∙ (pins.held q s l atomic ∙ ap (λ n. count_on n (pin_in ps q s)) (sym e)))
      other_slot q s m atomic other (inr differs) = ap (count_of q s) (get_or-set_other us l m ys [] differs) ∙ pins.held q s m atomic

      by_slot : (q s m : ℕ) → is_atomic (queue_of p q).kind ≡ true → ((y.queue ≡ q) × (y.slot ≡ s)) ⊎ IsAnother y.queue y.slot q s
          → count_of q s (entries_at after m) ≡ count_on m (pin_in (with_pin ps y.queue y.slot x) q s)
      by_slot q s m atomic (inl same) =
          let mine : is_atomic (queue_of p y.queue).kind ≡ true = subst (λ n. is_atomic (queue_of p n).kind ≡ true) (sym same.0) atomic in
          let e : count_of y.queue y.slot (entries_at after m) ≡ count_on m (pin_in (with_pin ps y.queue y.slot x) y.queue y.slot) = same_slot m mine (cases_eq m l) ∙ ap (count_on m) (sym (pin_same ps y.queue y.slot x there (slot mine))) in
          subst (λ i. count_of q i (entries_at after m) ≡ count_on m (pin_in (with_pin ps y.queue y.slot x) q i)) same.1
          (subst (λ n. count_of n y.slot (entries_at after m) ≡ count_on m (pin_in (with_pin ps y.queue y.slot x) n y.slot)) same.0 e)
      by_slot q s m atomic (inr other) = other_slot q s m atomic other (cases_eq m l) ∙ ap (count_on m) (sym (pin_other ps y.queue y.slot q s x there other))

-- ---- an event is given

pub pins_given : (p : Plan) (us : List (List Held)) (ps : List (List Pin)) (l : ℕ) (y : Held) → ArePins p us ps → l < length us → y.queue < length p.queues
    → (is_atomic (queue_of p y.queue).kind ≡ true → y.slot < slots_of p y.queue) → may_pin (pin_in ps y.queue y.slot) l ≡ true
    → ArePins p (set us l (entries_at us l ++ y ∷ [])) (with_pin ps y.queue y.slot (pinned (pin_in ps y.queue y.slot) l))
pins_given p us ps l y pins h queue slot may =
    let old : Pin = pin_in ps y.queue y.slot in
    let x : Pin = pinned old l in
    pins_set p us ps l (entries_at us l ++ y ∷ []) y x pins h queue (All-push (λ (z : Held). z.queue < length p.queues) (entries_at us l) y (pins.known l [] h) queue)
    (λ atomic. subst (λ n. y.slot < n) (sym (pins.slots y.queue queue)) (slot atomic))
    (λ atomic.
    let one = one_if_true (is_of y.queue y.slot y) (is_of_same y) in
    let before = pins.held y.queue y.slot l atomic ∙ count_on_may l old may in
    count_push y.queue y.slot (entries_at us l) y ∙ (omega arith ∙ sym (count_on_its l x refl)))
    (λ atomic m differs. count_off_may l m old may differs ∙ sym (count_on_other m x (λ same. differs (sym same))))
    (λ q s other. let none = one_if_false (is_of q s y) (is_of_other q s y other) in count_push q s (entries_at us l) y ∙ omega arith)

-- ---- the oldest event of a lane is answered

pub pins_answered : (p : Plan) (us : List (List Held)) (ps : List (List Pin)) (l : ℕ) (y : Held) → ArePins p us ps → l < length us → slice_get (entries_at us l) 0 ≡ Some y
    → ArePins p (set us l (drop 1 (entries_at us l))) (with_pin ps y.queue y.slot (unpinned (pin_in ps y.queue y.slot)))
pins_answered p us ps l y pins h oldest =
    pins_set p us ps l (drop 1 (entries_at us l)) y (unpinned old) pins h (oldest_known p us ps l y pins h oldest) (All-drop (λ (z : Held). z.queue < length p.queues) 1 (entries_at us l) (pins.known l [] h))
    (λ atomic. let some = (mine atomic).1 in slot_has_pin ps y.queue y.slot (omega arith))
    (λ atomic. let less = (mine atomic).1 in omega arith ∙ sym (count_on_its l (unpinned old) (mine atomic).0))
    (λ atomic m differs. count_on_other m old (λ same. differs (sym same ∙ (mine atomic).0)) ∙ sym (count_on_other m (unpinned old) (λ same. differs (sym same ∙ (mine atomic).0))))
    (λ q s other. let none = one_if_false (is_of q s y) (is_of_other q s y other) in omega arith ∙ sym (count_rest q s (entries_at us l) y oldest))
  where
    old : Pin
    old = pin_in ps y.queue y.slot

    mine : is_atomic (queue_of p y.queue).kind ≡ true → (old.lane ≡ l) × (old.count ≡ 1 + count_of y.queue y.slot (drop 1 (entries_at us l)))
    mine = oldest_pin p us ps l y pins oldest

-- ---- nothing is unanswered

pub pins_new : (p : Plan) (us : List (List Held)) (ps : List (List Pin)) → AreFreePins p (length p.queues) ps → All (λ ys. ys ≡ []) us → ArePins p us ps
pins_new p us ps pins none =
    record {
      count = pins.count;
      slots = λ q h. ap length (pins.slots q h) ∙ length-replicate (slots_of p q) free;
      known = All-weaker (λ ys. ys ≡ []) (All IsKnown) (λ ys e. subst (All IsKnown) (sym e) (All-nil IsKnown)) us none;
      held = λ q s m atomic. ap (count_of q s) (nothing m (cases_lt m (length us))) ∙ sym (count_on_none m (pin_in ps q s) (ap (λ (x : Pin). x.count) (all_free q s (cases_lt q (length ps)))));
    }
  where
    IsKnown : Held → Type 0
    IsKnown z = z.queue < length p.queues

    nothing : (m : ℕ) → (m < length us) ⊎ (length us ≤ m) → entries_at us m ≡ []
    nothing m (inl lt) = none m [] lt
    nothing m (inr past) = get_or_past us m [] past

    free_slot : (n s : ℕ) → (s < n) ⊎ (n ≤ s) → pin_at (replicate n free) s ≡ free
    free_slot n s (inl lt) = get_or-replicate n s free free lt
    free_slot n s (inr past) = get_or_past (replicate n free) s free (subst (λ k. k ≤ s) (sym (length-replicate n free)) past)

    all_free : (q s : ℕ) → (q < length ps) ⊎ (length ps ≤ q) → pin_in ps q s ≡ free
    all_free q s (inl lt) = ap (λ xs. pin_at xs s) (pins.slots q (omega (arith, pins.count))) ∙ free_slot (slots_of p q) s (cases_lt s (slots_of p q))
    all_free q s (inr past) = ap (λ xs. pin_at xs s) (get_or_past ps q [] past)
