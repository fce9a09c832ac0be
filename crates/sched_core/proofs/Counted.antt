-- What a reader counts: the unanswered events of a queue, what its places keep, and the slots that stand on a lane.
use Rattle.std.proofs.Common.{◌≡◌, ℕ, suc, ◌+◌, ◌<◌, ◌≤◌, Bool, true, false, cond, ◌&&◌, ◌||◌, ◌==◌, nat_lt, List, [], ◌∷◌, length, get_or, count_by, sum_by, refl, sym, ap, ◌∙◌, subst, arith}
use Rattle.std.specs.List.{list_any, range_with_len}
use Rattle.std.proofs.lemmas.Bool.{lt-ltb}
use Rattle.std.proofs.lemmas.List.{length-map}
use Rattle.std.proofs.lemmas.List.Concat.{length-flat_map}
use Rattle.std.proofs.lemmas.List.Sums.{count_by-le-length, get_or-le-sum_by, sum_by-cons}
use Rattle.lists.proofs.Sums.{sum_agree, sum_of_map}
use Rattle.evt_types.specs.Place.{Place}
use Rattle.evt_types.specs.Plan.{Plan, is_atomic, lanes, queue_of}
use Rattle.evt_types.specs.declared.step.Step.{Step}
use Rattle.order_parts.specs.History.{Entries}
use Rattle.order_parts.specs.Pins.{Pin, is_on, pin_at}
use Rattle.order_parts.specs.QueuePins.{pin_in, pins_at}
use Rattle.order_parts.specs.declared.history.Entry.{Entry}
use Rattle.transcripts.specs.Standing.{View, Stands, kept_at, kept_in, kept_in_place, kept_under, places_at, view_of}
use Rattle.transcripts.specs.Transcript.{Held, held_at, kept, kept_events, unanswered, unanswered_slots}
use Rattle.transcripts.proofs.ViewTells.{kept_is}
use Rattle.sched_core.specs.Inner.{unplaced}
use Rattle.sched_core.specs.Inside.{has_slot, is_of_queue, slots_among}
use Rattle.sched_core.specs.Pinned.{ArePins, count_on, entries_at, is_of}
use Rattle.sched_core.specs.View.{unanswered_in}

-- ---- the unanswered events of a queue

abbrev pub of_queue : ℕ → List Held → ℕ
of_queue q hs = count_by (is_of_queue q) hs

pub lane_counted : (q : ℕ) (l : Entries) → count_by (λ (y : Entry). y.queue == q) l.entries ≡ of_queue q (unanswered_in l)
lane_counted q l = sym (sum_of_map (λ h. cond (is_of_queue q h) 1 0) unplaced l.entries)

-- no more than there are in all
pub queue_within : (q : ℕ) (us : List (List Held)) → sum_by (of_queue q) us ≤ sum_by (λ (hs : List Held). length hs) us
queue_within q [] = omega arith
queue_within q (hs ∷ us) =
    let rest = queue_within q us in
    let few = count_by-le-length (is_of_queue q) hs in
    let counted = sum_by-cons (of_queue q) hs us in
    let all = sum_by-cons (λ (xs : List Held). length xs) hs us in
    omega arith

-- the same by the transcript
by_lane : (p : Plan) (T : List Step) (q : ℕ) → sum_by (of_queue q) (view_of p T).unanswered ≡ sum_by (λ l. count_by (λ (x : ℕ × ℕ). x.0 == q) (unanswered T l)) (lanes p)
unfolding view_of
by_lane p T q =
    sum_of_map (of_queue q) (unanswered_slots p T) (lanes p)
    ∙ sum_agree (λ l. of_queue q (unanswered_slots p T l)) (λ l. count_by (λ (x : ℕ × ℕ). x.0 == q) (unanswered T l)) (lanes p)
    (λ k d h. sum_of_map (λ y. cond (is_of_queue q y) 1 0) (held_at p T) (unanswered T (get_or (lanes p) k d)))

pub queue_told : (v : View) (T : List Step) (q : ℕ) → Stands T v → sum_by (of_queue q) v.unanswered ≡ sum_by (λ l. count_by (λ (x : ℕ × ℕ). x.0 == q) (unanswered T l)) (lanes v.shape)
queue_told v T q stands = ap (λ (u : View). sum_by (of_queue q) u.unanswered) stands.holds ∙ by_lane v.shape T q

-- ---- what the places keep

abbrev pub kept_count : List Place → ℕ
kept_count xs = sum_by (λ (x : Place). length x.forwards) xs

pub places_counted : (v : View) (q : ℕ) → kept_count (places_at v q) ≡ length (kept_at v q)
places_counted v q =
    sum_agree (λ (x : Place). length x.forwards) (λ (x : Place). length (kept_in_place x)) (places_at v q) (λ k d h. sym (length-map (get_or (places_at v q) k d).forwards _))
    ∙ sym (length-flat_map kept_in_place (places_at v q))

pub places_within : (v : View) (q : ℕ) → q < length v.places → kept_count (places_at v q) ≤ kept_in v
places_within v q h = get_or-le-sum_by kept_count v.places q [] h

-- the same by the transcript
pub kept_told : (v : View) (T : List Step) (q : ℕ) → Stands T v → q < length v.shape.queues → length (kept_at v q) ≡ length (kept_events T q)
kept_told v T q stands h = ap length (kept_is v T q stands h) ∙ (length-map (kept T q) kept_under ∙ sym (length-map (kept T q) _))

-- ---- the slots that stand on a lane

some_of_slot : (p : Held → Bool) (hs : List Held) → list_any p hs ≡ nat_lt 0 (count_by p hs)
some_of_slot p [] = refl
some_of_slot p (h ∷ hs) = by_first (p h) (count_by p hs) (some_of_slot p hs) ∙ ap (nat_lt 0) (sym (sum_by-cons (λ x. cond (p x) 1 0) h hs))
  where
    by_first : (b : Bool) (n : ℕ) → list_any p hs ≡ nat_lt 0 n → (b || list_any p hs) ≡ nat_lt 0 (cond b 1 0 + n)
    by_first true n rest = sym (lt-ltb 0 (1 + n) (omega arith))
    by_first false n rest = let e : 0 + n ≡ n = omega arith in rest ∙ ap (nat_lt 0) (sym e)

on_counted : (l : ℕ) (x : Pin) → is_on l x ≡ nat_lt 0 (count_on l x)
on_counted l x = by_lane (nat_lt 0 x.count) (x.lane == l) refl
  where
    by_lane : (some here : Bool) → nat_lt 0 x.count ≡ some → (some && here) ≡ nat_lt 0 (cond here x.count 0)
    by_lane true true e = sym e
    by_lane false true e = sym e
    by_lane true false e = refl
    by_lane false false e = refl

-- a count of pins is one of the numbers of their slots
numbers_counted : (f : Pin → Bool) (g : ℕ → Bool) (ps : List Pin) (a : ℕ) → ((k : ℕ) → k < length ps → f (pin_at ps k) ≡ g (a + k)) → count_by f ps ≡ count_by g (range_with_len a (length ps))
numbers_counted f g [] a each = refl
numbers_counted f g (x ∷ ps) a each =
    let first : f x ≡ g a = each 0 (omega arith) ∙ ap g (omega arith) in
    let rest = numbers_counted f g ps (a + 1) (λ k h. each (suc k) (omega arith) ∙ ap g (omega arith)) in
    sum_by-cons (λ y. cond (f y) 1 0) x ps
    ∙ (ap (λ n. cond (f x) 1 0 + n) rest ∙ (ap (λ b. cond b 1 0 + count_by g (range_with_len (a + 1) (length ps))) first ∙ sym (sum_by-cons (λ k. cond (g k) 1 0) a (range_with_len (a + 1) (length ps)))))

pub slots_counted : (p : Plan) (us : List (List Held)) (ps : List (List Pin)) (q l : ℕ) → ArePins p us ps → q < length p.queues → count_by (is_on l) (pins_at ps q) ≡ slots_among p q (entries_at us l)
slots_counted p us ps q l pins h =
    numbers_counted (is_on l) (has_slot q (entries_at us l)) (pins_at ps q) 0 (λ k less. let e : 0 + k ≡ k = omega arith in of_slot k less ∙ ap (has_slot q (entries_at us l)) (sym e))
    ∙ ap (λ n. count_by (has_slot q (entries_at us l)) (range_with_len 0 n)) (pins.slots q h)
  where
    atomic : (b : Bool) (n m : ℕ) → m < cond b n 0 → b ≡ true
    atomic true n m less = refl
    atomic false n m less = absurd (omega arith)

    of_slot : (k : ℕ) → k < length (pins_at ps q) → is_on l (pin_in ps q k) ≡ has_slot q (entries_at us l) k
    of_slot k less =
        on_counted l (pin_in ps q k)
        ∙ (ap (nat_lt 0) (sym (pins.held q k l (atomic (is_atomic (queue_of p q).kind) (queue_of p q).slots k (subst (λ n. k < n) (pins.slots q h) less))))
        ∙ sym (some_of_slot (is_of q k) (entries_at us l)))
