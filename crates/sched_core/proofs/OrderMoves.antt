-- The reorder buffers of a device after a small move: an event is accepted, handed out, added or answered, or a place leaves.
use Rattle.std.proofs.Common.{◌≡◌, ◌≢◌, ℕ, zero, suc, ◌+◌, ◌<◌, ◌≤◌, true, false, cond, ◌==◌, List, [], ◌∷◌, ◌++◌, length, drop, set, slice_index, Contains, Option, Some, slice_get, IsTrue, ◌⊎◌, inl, inr, sym, ap, ◌∙◌, subst, arith}
use Rattle.std.proofs.lemmas.Bool.{cases_eq, cases_lt, false≢true, cond-true, cond-false}
use Rattle.std.proofs.lemmas.List.{length-set, length_push, get_or-set_same, get_or-set_other, get_or_past, set-get_or}
use Rattle.std.proofs.lemmas.Option.{none-some, same_Some, slice_get_within}
use Rattle.lists.proofs.Lists.{slice_get-append_left, slice_get-last, eqb_same, eqb_other, All-slice_get}
use Rattle.evt_types.specs.Plan.{Plan, queue_of, is_ordered, kept_room}
use Rattle.evt_types.specs.Place.{Place}
use Rattle.evt_types.specs.declared.event.Event.{Event}
use Rattle.evt_types.specs.declared.event.Numbered.{Numbered}
use Rattle.evt_types.specs.declared.event.TheConstants.{MAX_EXTRAS}
use Rattle.order_parts.specs.Reorder.{Reordering, empty, next_number, place_at, place_or_open, is_open, after_hand, after_add, after_resolve, after_leave}
use Rattle.order_parts.specs.declared.history.Entry.{Entry}
use Rattle.sched_core.specs.Ordered.{ArePlaces, IsOrder, HavePlaces, HasPlace, AreOnce, StandsIn, added_beside, entries_at, entry_at}
use Rattle.order_parts.specs.Orders.{order_at}
use Rattle.parked_queue.specs.Waits.{Waits, no_waits, with_event, without_number, waits_at}
use Rattle.lists.proofs.Writes.{slice_get-drop_one}
use Rattle.sched_core.proofs.Added.{room_beside, order_adds, stands_added, stands_beside}
use Rattle.sched_core.proofs.Ordered.{order_accepts, order_gives, order_hands, order_answers, order_leaves, waits_apart, stands_hands, stands_new, stands_more, stands_answers, stands_leaves, may_resolve}

-- ---- one queue's buffer changes, and what waits there

abbrev Each : Plan → List Waits → List Reordering → Type 0
Each p ws rs = (q : ℕ) → q < length p.queues → IsOrder p (kept_room (queue_of p q)) (waits_at ws q) (order_at rs q)

each_set : (p : Plan) (ws : List Waits) (rs : List Reordering) (q : ℕ) (w : Waits) (r : Reordering) → q < length ws → q < length rs → Each p ws rs
    → IsOrder p (kept_room (queue_of p q)) w r → Each p (set ws q w) (set rs q r)
each_set p ws rs q w r h k each new i lt = by_case (cases_eq i q)
  where
    here : IsOrder p (kept_room (queue_of p q)) (waits_at (set ws q w) q) (order_at (set rs q r) q)
    here =
        subst (IsOrder p (kept_room (queue_of p q)) (waits_at (set ws q w) q)) (sym (get_or-set_same rs q r (empty 0) k))
        (subst (λ x. IsOrder p (kept_room (queue_of p q)) x r) (sym (get_or-set_same ws q w (no_waits 1 0) h)) new)

    by_case : (i ≡ q) ⊎ (i ≢ q) → IsOrder p (kept_room (queue_of p i)) (waits_at (set ws q w) i) (order_at (set rs q r) i)
    by_case (inl same) = subst (λ n. IsOrder p (kept_room (queue_of p n)) (waits_at (set ws q w) n) (order_at (set rs q r) n)) (sym same) here
    by_case (inr other) =
        subst (IsOrder p (kept_room (queue_of p i)) (waits_at (set ws q w) i)) (sym (get_or-set_other rs q i r (empty 0) other))
        (subst (λ x. IsOrder p (kept_room (queue_of p i)) x (order_at rs i)) (sym (get_or-set_other ws q i w (no_waits 1 0) other)) (each i lt))

each_waits : (p : Plan) (ws : List Waits) (rs : List Reordering) (q : ℕ) (w : Waits) → q < length ws → q < length rs → Each p ws rs
    → IsOrder p (kept_room (queue_of p q)) w (order_at rs q) → Each p (set ws q w) rs
each_waits p ws rs q w h k each new = subst (Each p (set ws q w)) (set-get_or rs q (empty 0)) (each_set p ws rs q w (order_at rs q) h k each new)

each_orders : (p : Plan) (ws : List Waits) (rs : List Reordering) (q : ℕ) (r : Reordering) → q < length ws → q < length rs → Each p ws rs
    → IsOrder p (kept_room (queue_of p q)) (waits_at ws q) r → Each p ws (set rs q r)
each_orders p ws rs q r h k each new = subst (λ us. Each p us (set rs q r)) (set-get_or ws q (no_waits 1 0)) (each_set p ws rs q (waits_at ws q) r h k each new)

-- the events that stand in it
has_place_set : (p : Plan) (rs : List Reordering) (q : ℕ) (r : Reordering) (y : Entry) (m n : ℕ) → q < length rs → m ≤ n
    → (y.queue ≡ q → is_ordered (queue_of p y.queue).kind ≡ true → StandsIn (order_at rs q) y m → StandsIn r y n) → HasPlace p rs y m → HasPlace p (set rs q r) y n
has_place_set p rs q r y m n h le change has ordered = by_case (cases_eq y.queue q)
  where
    by_case : (y.queue ≡ q) ⊎ (y.queue ≢ q) → StandsIn (order_at (set rs q r) y.queue) y n
    by_case (inl same) =
        subst (λ i. StandsIn (order_at (set rs q r) i) y n) (sym same)
        (subst (λ s. StandsIn s y n) (sym (get_or-set_same rs q r (empty 0) h)) (change same ordered (subst (λ i. StandsIn (order_at rs i) y m) same (has ordered))))
    by_case (inr other) = subst (λ s. StandsIn s y n) (sym (get_or-set_other rs q y.queue r (empty 0) other)) (stands_more (order_at rs y.queue) y m n le (has ordered))

-- what it keeps is bounded by more
has_place_more : (p : Plan) (rs : List Reordering) (y : Entry) (m n : ℕ) → m ≤ n → HasPlace p rs y m → HasPlace p rs y n
has_place_more p rs y m n le has ordered = stands_more (order_at rs y.queue) y m n le (has ordered)

-- ---- how many were added

-- beside an entry behind the oldest
added_behind : (es : List ℕ) (l j : ℕ) → added_beside es l (suc j) ≡ 0
added_behind es l j = cond-false (suc j == 0) (slice_index es l) 0 (eqb_other (suc j) 0 (λ e. absurd (omega (arith, e))))

-- a lane that counts no fewer
added_more : (es : List ℕ) (l n m j : ℕ) → l < length es → slice_index es l ≤ n → added_beside es m j ≤ added_beside (set es l n) m j
added_more es l n m zero h le = by_case (cases_eq m l)
  where
    here : slice_index (set es l n) l ≡ n
    here = get_or-set_same es l n 0 h

    by_case : (m ≡ l) ⊎ (m ≢ l) → slice_index es m ≤ slice_index (set es l n) m
    by_case (inl same) = subst (λ i. slice_index es i ≤ slice_index (set es l n) i) (sym same) (omega (arith, here, le))
    by_case (inr other) = let e : slice_index (set es l n) m ≡ slice_index es m = get_or-set_other es l m n 0 other in omega (arith, e)
added_more es l n m (suc j) h le = omega (arith, added_behind es m j)

-- beside the oldest of a lane
added_first : (es : List ℕ) (l n : ℕ) → l < length es → added_beside (set es l n) l 0 ≡ n
added_first es l n h = get_or-set_same es l n 0 h

-- ---- a lane's entry comes or goes

-- how many entries of the lane m go where one of the lane l does
abbrev shift : ℕ → ℕ → ℕ
shift l m = cond (m == l) (suc zero) zero

shift_same : (l : ℕ) → shift l l ≡ suc zero
shift_same l = cond-true (l == l) (suc zero) zero (eqb_same l)

shift_other : (l m : ℕ) → m ≢ l → shift l m ≡ zero
shift_other l m other = cond-false (m == l) (suc zero) zero (eqb_other m l other)

entry_popped : (us : List (List Entry)) (l m j : ℕ) → l < length us → entry_at (set us l (drop 1 (entries_at us l))) m j ≡ entry_at us m (shift l m + j)
entry_popped us l m j h = by_case (cases_eq m l)
  where
    one : shift l l + j ≡ suc j
    one = ap (λ n. n + j) (shift_same l) ∙ omega arith

    none : m ≢ l → shift l m + j ≡ j
    none other = ap (λ n. n + j) (shift_other l m other) ∙ omega arith

    here : entry_at (set us l (drop 1 (entries_at us l))) l j ≡ entry_at us l (shift l l + j)
    here =
        ap (λ ys. slice_get ys j) (get_or-set_same us l (drop 1 (entries_at us l)) [] h)
        ∙ (slice_get-drop_one (entries_at us l) j ∙ ap (entry_at us l) (sym one))

    by_case : (m ≡ l) ⊎ (m ≢ l) → entry_at (set us l (drop 1 (entries_at us l))) m j ≡ entry_at us m (shift l m + j)
    by_case (inl same) = subst (λ n. entry_at (set us l (drop 1 (entries_at us l))) n j ≡ entry_at us n (shift l n + j)) (sym same) here
    by_case (inr other) =
        ap (λ ys. slice_get ys j) (get_or-set_other us l m (drop 1 (entries_at us l)) [] other) ∙ ap (entry_at us m) (sym (none other))

-- what was added beside an entry that is left where the oldest goes
added_popped : (es : List ℕ) (l m j : ℕ) → added_beside es m (shift l m + j) ≤ added_beside (set es l 0) m j
added_popped es l m j = by_case (cases_eq m l)
  where
    by_case : (m ≡ l) ⊎ (m ≢ l) → added_beside es m (shift l m + j) ≤ added_beside (set es l 0) m j
    by_case (inl same) =
        let one : shift l m + j ≡ suc j = ap (λ n. shift l n + j) same ∙ (ap (λ n. n + j) (shift_same l) ∙ omega arith) in
        subst (λ n. added_beside es m n ≤ added_beside (set es l 0) m j) (sym one) (omega (arith, added_behind es m j))
    by_case (inr other) =
        let none : shift l m + j ≡ j = ap (λ n. n + j) (shift_other l m other) ∙ omega arith in
        let same : added_beside (set es l 0) m j ≡ added_beside es m j = ap (λ n. cond (j == 0) n 0) (get_or-set_other es l m 0 0 other) in
        subst (λ n. added_beside es m n ≤ added_beside (set es l 0) m j) (sym none) (omega (arith, same))

once_popped : (p : Plan) (us : List (List Entry)) (l : ℕ) → l < length us → AreOnce p us → AreOnce p (set us l (drop 1 (entries_at us l)))
once_popped p us l h once m n j k y z at at' queue ordered number =
    let both = once m n (shift l m + j) (shift l n + k) y z (sym (entry_popped us l m j h) ∙ at) (sym (entry_popped us l n k h) ∙ at') queue ordered number in
    let shifts : shift l m ≡ shift l n = ap (shift l) both.0 in
    (both.0, same_rest (shift l m) (shift l n) j k shifts both.1)
  where
    same_rest : (a b c d : ℕ) → a ≡ b → a + c ≡ b + d → c ≡ d
    same_rest a b c d e f = omega arith

-- an entry behind the oldest of the lane, or of another lane, is of another number than the oldest
others_differ : (p : Plan) (us : List (List Entry)) (l m j : ℕ) (y z : Entry) → AreOnce p us → entry_at us l 0 ≡ Some y → entry_at us m (shift l m + j) ≡ Some z
    → z.queue ≡ y.queue → is_ordered (queue_of p z.queue).kind ≡ true → z.number ≢ y.number
others_differ p us l m j y z once at at' queue ordered number =
    let both = once m l (shift l m + j) 0 z y at' at queue ordered number in
    let one : shift l m ≡ suc zero = ap (shift l) both.0 ∙ shift_same l in
    no_place (shift l m) both.1 one
  where
    no_place : (a : ℕ) → a + j ≡ 0 → a ≡ suc zero → ⊥
    no_place a e f = omega arith

-- the new entry, or one that was there
entry_pushed : (us : List (List Entry)) (l m j : ℕ) (y z : Entry) → l < length us → entry_at (set us l (entries_at us l ++ y ∷ [])) m j ≡ Some z
    → (entry_at us m j ≡ Some z) ⊎ ((m ≡ l) × (j ≡ length (entries_at us l)) × (z ≡ y))
entry_pushed us l m j y z h at = by_lane (cases_eq m l)
  where
    xs : List Entry
    xs = entries_at us l

    by_place : m ≡ l → slice_get (xs ++ y ∷ []) j ≡ Some z → (j < length xs) ⊎ (length xs ≤ j) → (entry_at us m j ≡ Some z) ⊎ ((m ≡ l) × (j ≡ length xs) × (z ≡ y))
    by_place same is (inl lt) = inl (ap (λ n. entry_at us n j) same ∙ (sym (slice_get-append_left xs (y ∷ []) j lt) ∙ is))
    by_place same is (inr past) =
        let within : j < length (xs ++ y ∷ []) = slice_get_within (xs ++ y ∷ []) j z is in
        let long : length (xs ++ y ∷ []) ≡ length xs + 1 = length_push xs y in
        let last : j ≡ length xs = omega arith in
        inr (same, last, sym (same_Some y z (sym (slice_get-last xs y) ∙ (ap (slice_get (xs ++ y ∷ [])) (sym last) ∙ is))))

    by_lane : (m ≡ l) ⊎ (m ≢ l) → (entry_at us m j ≡ Some z) ⊎ ((m ≡ l) × (j ≡ length xs) × (z ≡ y))
    by_lane (inl same) =
        by_place same
        (ap (λ ys. slice_get ys j) (sym (get_or-set_same us l (xs ++ y ∷ []) [] h)) ∙ (ap (λ n. entry_at (set us l (xs ++ y ∷ [])) n j) (sym same) ∙ at))
        (cases_lt j (length xs))
    by_lane (inr other) = inl (sym (ap (λ ys. slice_get ys j) (get_or-set_other us l m (xs ++ y ∷ []) [] other)) ∙ at)

held_pushed : (p : Plan) (rs : List Reordering) (us : List (List Entry)) (es : List ℕ) (l : ℕ) (y : Entry) → l < length us → HavePlaces p rs us es
    → HasPlace p rs y 0 → HavePlaces p rs (set us l (entries_at us l ++ y ∷ [])) es
held_pushed p rs us es l y h held has m j z at = by_case (entry_pushed us l m j y z h at)
  where
    by_case : (entry_at us m j ≡ Some z) ⊎ ((m ≡ l) × (j ≡ length (entries_at us l)) × (z ≡ y)) → HasPlace p rs z (added_beside es m j)
    by_case (inl old) = held m j z old
    by_case (inr new) = subst (λ x. HasPlace p rs x (added_beside es m j)) (sym new.2) (has_place_more p rs y 0 (added_beside es m j) (omega arith) has)

once_pushed : (p : Plan) (us : List (List Entry)) (l : ℕ) (y : Entry) → l < length us → AreOnce p us
    → ((m j : ℕ) (z : Entry) → entry_at us m j ≡ Some z → z.queue ≡ y.queue → is_ordered (queue_of p z.queue).kind ≡ true → z.number ≢ y.number)
    → AreOnce p (set us l (entries_at us l ++ y ∷ []))
once_pushed p us l y h once fresh m n j k x z at at' queue ordered number =
    by_case (entry_pushed us l m j y x h at) (entry_pushed us l n k y z h at')
  where
    by_case : (entry_at us m j ≡ Some x) ⊎ ((m ≡ l) × (j ≡ length (entries_at us l)) × (x ≡ y))
        → (entry_at us n k ≡ Some z) ⊎ ((n ≡ l) × (k ≡ length (entries_at us l)) × (z ≡ y)) → (m ≡ n) × (j ≡ k)
    by_case (inl old) (inl old') = once m n j k x z old old' queue ordered number
    by_case (inl old) (inr new) =
        absurd (fresh m j x old (queue ∙ ap (λ (e : Entry). e.queue) new.2) ordered (number ∙ ap (λ (e : Entry). e.number) new.2))
    by_case (inr new) (inl old) =
        absurd (fresh n k z old (sym queue ∙ ap (λ (e : Entry). e.queue) new.2) (subst (λ i. is_ordered (queue_of p i).kind ≡ true) queue ordered)
        (sym number ∙ ap (λ (e : Entry). e.number) new.2))
    by_case (inr new) (inr new') = (new.0 ∙ sym new'.0, new.1 ∙ sym new'.1)

-- ---- an event is accepted

pub accepted_places : (p : Plan) (ws : List Waits) (rs : List Reordering) (us : List (List Entry)) (es : List ℕ) (q : ℕ) (e : Event) → ArePlaces p ws rs us es → q < length p.queues
    → ArePlaces p (set ws q (with_event (waits_at ws q) e)) rs us es
accepted_places p ws rs us es q e a h =
    let queues = a.queues in
    let count = a.count in
    record {
      queues = length-set ws q (with_event (waits_at ws q) e) ∙ a.queues;
      count = a.count;
      each = each_waits p ws rs q (with_event (waits_at ws q) e) (omega arith) (omega arith) a.each (order_accepts p (kept_room (queue_of p q)) (waits_at ws q) (order_at rs q) e (a.each q h));
      held = a.held;
      once = a.once;
    }

-- ---- an event is handed out

-- an unanswered event's queue is there
pub queue_there : (p : Plan) (ws : List Waits) (rs : List Reordering) (us : List (List Entry)) (es : List ℕ) (l k : ℕ) (y : Entry) → ArePlaces p ws rs us es → entry_at us l k ≡ Some y
    → is_ordered (queue_of p y.queue).kind ≡ true → y.queue < length p.queues
queue_there p ws rs us es l k y a at ordered = by_case (cases_lt y.queue (length rs)) (a.held l k y at ordered)
  where
    by_case : (y.queue < length rs) ⊎ (length rs ≤ y.queue) → StandsIn (order_at rs y.queue) y (added_beside es l k) → y.queue < length p.queues
    by_case (inl lt) s = let count = a.count in omega arith
    by_case (inr past) s =
        absurd (none-some s.stands.shown (sym (ap (λ (r : Reordering). slice_get r.places s.index) (get_or_past rs y.queue (empty 0) past)) ∙ s.stands.there))

-- an event that waits is of another number than each unanswered one of its queue
waits_other : (p : Plan) (ws : List Waits) (rs : List Reordering) (us : List (List Entry)) (es : List ℕ) (v : Numbered) (y : Entry) → ArePlaces p ws rs us es → y.number ≡ v.number
    → Contains (waits_at ws y.queue).waiting v → (m j : ℕ) (z : Entry) → entry_at us m j ≡ Some z → z.queue ≡ y.queue → is_ordered (queue_of p z.queue).kind ≡ true → z.number ≢ y.number
waits_other p ws rs us es v y a is waits m j z at queue ordered number =
    let s : StandsIn (order_at rs z.queue) z (added_beside es m j) = a.held m j z at ordered in
    let o : IsOrder p (kept_room (queue_of p z.queue)) (waits_at ws z.queue) (order_at rs z.queue) = a.each z.queue (queue_there p ws rs us es m j z a at ordered) in
    let c : Contains (waits_at ws z.queue).waiting v = subst (λ q. Contains (waits_at ws q).waiting v) (sym queue) waits in
    let apart = waits_apart p (kept_room (queue_of p z.queue)) (waits_at ws z.queue) (order_at rs z.queue) v o c in
    All-slice_get (λ (x : Place). v.number ≢ x.number) (order_at rs z.queue).places s.index s.stands.shown apart s.stands.there (sym (s.stands.number ∙ (number ∙ is)))

-- of a queue that restores no order
pub given_plain : (p : Plan) (ws : List Waits) (rs : List Reordering) (us : List (List Entry)) (es : List ℕ) (l : ℕ) (y : Entry) → ArePlaces p ws rs us es
    → y.queue < length p.queues → l < length us → is_ordered (queue_of p y.queue).kind ≡ false
    → ArePlaces p (set ws y.queue (without_number (waits_at ws y.queue) y.number)) rs (set us l (entries_at us l ++ y ∷ [])) es
given_plain p ws rs us es l y a h lane plain =
    let queues = a.queues in
    let count = a.count in
    let q : ℕ = y.queue in
    let w : Waits = without_number (waits_at ws q) y.number in
    record {
      queues = length-set ws q w ∙ a.queues;
      count = a.count;
      each = each_waits p ws rs q w (omega arith) (omega arith) a.each (order_gives p (kept_room (queue_of p q)) (waits_at ws q) (order_at rs q) y.number (a.each q h));
      held = held_pushed p rs us es l y lane a.held (λ ordered. absurd (false≢true (sym plain ∙ ordered)));
      once = once_pushed p us l y lane a.once (λ m j z at queue ordered number. false≢true (sym plain ∙ subst (λ i. is_ordered (queue_of p i).kind ≡ true) queue ordered));
    }

-- of an ordered queue: it gets the place behind the others
pub given_place : (p : Plan) (ws : List Waits) (rs : List Reordering) (us : List (List Entry)) (es : List ℕ) (l : ℕ) (v : Numbered) (y : Entry) → ArePlaces p ws rs us es
    → y.queue < length p.queues → l < length us → Contains (waits_at ws y.queue).waiting v → y.number ≡ v.number → v.number < (waits_at ws y.queue).next
    → length (order_at rs y.queue).places < (order_at rs y.queue).depth → y.place ≡ next_number (order_at rs y.queue)
    → ArePlaces p (set ws y.queue (without_number (waits_at ws y.queue) y.number)) (set rs y.queue (after_hand (order_at rs y.queue) y.number)) (set us l (entries_at us l ++ y ∷ [])) es
given_place p ws rs us es l v y a h lane waits is lt room place =
    let queues = a.queues in
    let count = a.count in
    let q : ℕ = y.queue in
    let r : Reordering = order_at rs q in
    let w : Waits = without_number (waits_at ws q) y.number in
    let new : IsOrder p (kept_room (queue_of p q)) w (after_hand r y.number) =
    subst (λ n. IsOrder p (kept_room (queue_of p q)) (without_number (waits_at ws q) n) (after_hand r n)) (sym is)
    (order_hands p (kept_room (queue_of p q)) (waits_at ws q) r v (a.each q h) waits lt room) in
    let there : q < length rs = omega arith in
    let others : HavePlaces p (set rs q (after_hand r y.number)) us es =
    λ m j z at. has_place_set p rs q (after_hand r y.number) z (added_beside es m j) (added_beside es m j) there (omega arith) (λ same ordered stands. stands_hands r z y.number (added_beside es m j) stands) (a.held m j z at) in
    let mine : HasPlace p (set rs q (after_hand r y.number)) y 0 =
    λ ordered. subst (λ s. StandsIn s y 0) (sym (get_or-set_same rs q (after_hand r y.number) (empty 0) there)) (stands_new r y 0 place) in
    record {
      queues = length-set ws q w ∙ a.queues;
      count = length-set rs q (after_hand r y.number) ∙ a.count;
      each = each_set p ws rs q w (after_hand r y.number) (omega arith) there a.each new;
      held = held_pushed p (set rs q (after_hand r y.number)) us es l y lane others mine;
      once = once_pushed p us l y lane a.once (waits_other p ws rs us es v y a is waits);
    }

-- ---- the oldest event of a lane is answered

-- of a queue that restores no order
pub answered_plain : (p : Plan) (ws : List Waits) (rs : List Reordering) (us : List (List Entry)) (es : List ℕ) (l : ℕ) → ArePlaces p ws rs us es → l < length us
    → ArePlaces p ws rs (set us l (drop 1 (entries_at us l))) (set es l 0)
answered_plain p ws rs us es l a lane =
    record {
      queues = a.queues;
      count = a.count;
      each = a.each;
      held = λ m j z at. has_place_more p rs z (added_beside es m (shift l m + j)) (added_beside (set es l 0) m j) (added_popped es l m j) (a.held m (shift l m + j) z (sym (entry_popped us l m j lane) ∙ at));
      once = once_popped p us l lane a.once;
    }

-- its place is open, and may be resolved
pub answer_is_open : (p : Plan) (ws : List Waits) (rs : List Reordering) (us : List (List Entry)) (es : List ℕ) (l k : ℕ) (y : Entry) → ArePlaces p ws rs us es → entry_at us l k ≡ Some y
    → is_ordered (queue_of p y.queue).kind ≡ true → IsTrue (is_open (place_at (order_at rs y.queue) y.place))
answer_is_open p ws rs us es l k y a at ordered =
    may_resolve p (kept_room (queue_of p y.queue)) (waits_at ws y.queue) (order_at rs y.queue) y (added_beside es l k) (a.each y.queue (queue_there p ws rs us es l k y a at ordered)) (a.held l k y at ordered)

-- of an ordered queue: its place is resolved
pub answered_place : (p : Plan) (ws : List Waits) (rs : List Reordering) (us : List (List Entry)) (es : List ℕ) (l : ℕ) (y : Entry) (f : Option Event) → ArePlaces p ws rs us es
    → l < length us → entry_at us l 0 ≡ Some y → is_ordered (queue_of p y.queue).kind ≡ true → ((e : Event) → f ≡ Some e → e.queue < length p.queues)
    → ArePlaces p ws (set rs y.queue (after_resolve (order_at rs y.queue) y.place f)) (set us l (drop 1 (entries_at us l))) (set es l 0)
answered_place p ws rs us es l y f a lane at ordered named =
    let queues = a.queues in
    let count = a.count in
    let q : ℕ = y.queue in
    let r : Reordering = order_at rs q in
    let there : q < length p.queues = queue_there p ws rs us es l 0 y a at ordered in
    let o : IsOrder p (kept_room (queue_of p q)) (waits_at ws q) r = a.each q there in
    let mine : StandsIn r y (added_beside es l 0) = a.held l 0 y at ordered in
    let here : q < length rs = omega arith in
    record {
      queues = a.queues;
      count = length-set rs q (after_resolve r y.place f) ∙ a.count;
      each = each_orders p ws rs q (after_resolve r y.place f) (omega arith) here a.each (order_answers p (kept_room (queue_of p q)) (waits_at ws q) r y (added_beside es l 0) f o mine named);
      held = λ m j z is.
          let old : entry_at us m (shift l m + j) ≡ Some z = sym (entry_popped us l m j lane) ∙ is in
          let few : ℕ = added_beside es m (shift l m + j) in
          let most : ℕ = added_beside (set es l 0) m j in
          has_place_set p rs q (after_resolve r y.place f) z few most here (added_popped es l m j)
          (λ same restores stands. stands_answers p (kept_room (queue_of p q)) (waits_at ws q) r y z (added_beside es l 0) most f o mine (others_differ p us l m j y z a.once at old same restores) (stands_more r z few most (added_popped es l m j) stands))
          (a.held m (shift l m + j) z old);
      once = once_popped p us l lane a.once;
    }

-- ---- an event is added beside the oldest of a lane

-- of a queue that restores no order: it is counted alone
pub added_plain : (p : Plan) (ws : List Waits) (rs : List Reordering) (us : List (List Entry)) (es : List ℕ) (l : ℕ) → ArePlaces p ws rs us es → l < length es
    → ArePlaces p ws rs us (set es l (slice_index es l + 1))
added_plain p ws rs us es l a counted =
    record {
      queues = a.queues;
      count = a.count;
      each = a.each;
      held = λ m j z at. has_place_more p rs z (added_beside es m j) (added_beside (set es l (slice_index es l + 1)) m j) (added_more es l (slice_index es l + 1) m j counted (omega arith)) (a.held m j z at);
      once = a.once;
    }

-- of an ordered queue: it goes into the event's place
pub added_place : (p : Plan) (ws : List Waits) (rs : List Reordering) (us : List (List Entry)) (es : List ℕ) (l : ℕ) (y : Entry) (e : Event) → ArePlaces p ws rs us es
    → l < length es → entry_at us l 0 ≡ Some y → is_ordered (queue_of p y.queue).kind ≡ true → slice_index es l < MAX_EXTRAS → e.queue < length p.queues
    → ArePlaces p ws (set rs y.queue (after_add (order_at rs y.queue) y.place e)) us (set es l (slice_index es l + 1))
added_place p ws rs us es l y e a counted at ordered few named =
    let queues = a.queues in
    let count = a.count in
    let here : y.queue < length rs = omega (arith, there) in
    record {
      queues = a.queues;
      count = length-set rs y.queue (after_add r y.place e) ∙ a.count;
      each = each_orders p ws rs y.queue (after_add r y.place e) (omega (arith, there)) here a.each (order_adds p (kept_room (queue_of p y.queue)) (waits_at ws y.queue) r y n e o mine few named);
      held = λ m j z is. has_place_set p rs y.queue (after_add r y.place e) z (added_beside es m j) (added_beside (set es l (n + 1)) m j) here (more m j) (λ same restores stands. by_entry m j z is same restores stands (cases_eq m l) (cases_eq j 0)) (a.held m j z is);
      once = a.once;
    }
  where
    n : ℕ
    n = slice_index es l

    r : Reordering
    r = order_at rs y.queue

    there : y.queue < length p.queues
    there = queue_there p ws rs us es l 0 y a at ordered

    o : IsOrder p (kept_room (queue_of p y.queue)) (waits_at ws y.queue) r
    o = a.each y.queue there

    mine : StandsIn r y n
    mine = a.held l 0 y at ordered

    more : (m j : ℕ) → added_beside es m j ≤ added_beside (set es l (n + 1)) m j
    more m j = added_more es l (n + 1) m j counted (omega arith)

    beside : (m j : ℕ) (z : Entry) → StandsIn r z (added_beside es m j) → z.number ≢ y.number → StandsIn (after_add r y.place e) z (added_beside (set es l (n + 1)) m j)
    beside m j z stands differs =
        stands_beside p (kept_room (queue_of p y.queue)) (waits_at ws y.queue) r y n e o mine z (added_beside (set es l (n + 1)) m j) differs (stands_more r z (added_beside es m j) (added_beside (set es l (n + 1)) m j) (more m j) stands)

    -- the oldest of the lane has one more, and each other entry is of another number
    by_entry : (m j : ℕ) (z : Entry) → entry_at us m j ≡ Some z → z.queue ≡ y.queue → is_ordered (queue_of p z.queue).kind ≡ true → StandsIn r z (added_beside es m j)
        → (m ≡ l) ⊎ (m ≢ l) → (j ≡ 0) ⊎ (j ≢ 0) → StandsIn (after_add r y.place e) z (added_beside (set es l (n + 1)) m j)
    by_entry m j z is same restores stands (inl lane) (inl first) =
        let one : y ≡ z = same_Some y z (sym at ∙ (ap (λ i. entry_at us i 0) (sym lane) ∙ (ap (entry_at us m) (sym first) ∙ is))) in
        let counts : added_beside (set es l (n + 1)) m j ≡ n + 1 = ap (λ i. added_beside (set es l (n + 1)) i j) lane ∙ (ap (added_beside (set es l (n + 1)) l) first ∙ added_first es l (n + 1) counted) in
        subst (λ i. StandsIn (after_add r y.place e) z i) (sym counts)
        (subst (λ x. StandsIn (after_add r y.place e) x (n + 1)) one (stands_added p (kept_room (queue_of p y.queue)) (waits_at ws y.queue) r y n e o mine))
    by_entry m j z is same restores stands (inl lane) (inr later) = beside m j z stands (λ number. later (a.once m l j 0 z y is at same restores number).1)
    by_entry m j z is same restores stands (inr other) first = beside m j z stands (λ number. other (a.once m l j 0 z y is at same restores number).0)

-- there is room for it in the place
pub place_has_room : (p : Plan) (ws : List Waits) (rs : List Reordering) (us : List (List Entry)) (es : List ℕ) (l : ℕ) (y : Entry) → ArePlaces p ws rs us es → entry_at us l 0 ≡ Some y
    → is_ordered (queue_of p y.queue).kind ≡ true → slice_index es l < MAX_EXTRAS → length (place_or_open (order_at rs y.queue) y.place).forwards < MAX_EXTRAS
place_has_room p ws rs us es l y a at ordered few =
    room_beside p (kept_room (queue_of p y.queue)) (waits_at ws y.queue) (order_at rs y.queue) y (slice_index es l) (a.each y.queue (queue_there p ws rs us es l 0 y a at ordered)) (a.held l 0 y at ordered) few

-- ---- the oldest place of a queue leaves, where it is answered

pub left_places : (p : Plan) (ws : List Waits) (rs : List Reordering) (us : List (List Entry)) (es : List ℕ) (q : ℕ) → ArePlaces p ws rs us es → q < length p.queues
    → ArePlaces p ws (set rs q (after_leave (order_at rs q))) us es
left_places p ws rs us es q a h =
    let queues = a.queues in
    let count = a.count in
    let r : Reordering = order_at rs q in
    let here : q < length rs = omega arith in
    record {
      queues = a.queues;
      count = length-set rs q (after_leave r) ∙ a.count;
      each = each_orders p ws rs q (after_leave r) (omega arith) here a.each (order_leaves p (kept_room (queue_of p q)) (waits_at ws q) r (a.each q h));
      held = λ l k y at. has_place_set p rs q (after_leave r) y (added_beside es l k) (added_beside es l k) here (omega arith) (λ same ordered stands. stands_leaves r y (added_beside es l k) stands) (a.held l k y at);
      once = a.once;
    }
