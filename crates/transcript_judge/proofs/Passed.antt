-- An event is accepted from a number that is not the one that has to be: which clause that breaks.
use Rattle.std.proofs.Common.{◌≡◌, ◌≢◌, ℕ, suc, ◌<◌, ◌≤◌, Bool, true, false, cond, ◌&&◌, ◌||◌, ◌==◌, List, [], ◌∷◌, ◌++◌, length, map, drop, filter_map, All, AllPairs, Some, None, Option, slice_get, ◌⊎◌, inl, inr, ⊎_elim, refl, sym, ap, ◌∙◌, subst, arith, append_assoc, append-nil}
use Rattle.std.specs.List.{cons_option, list_any}
use Rattle.std.proofs.lemmas.Bool.{and_from, and_parts, cases_Bool, cond-true, cond-false, eqb-true, false≢true, or_left, or_right}
use Rattle.std.proofs.lemmas.List.Elements.{All-contains, All-head, All-nil, All-tail, filter_map-append}
use Rattle.std.proofs.lemmas.Option.{none-some, same_Some}
use Rattle.evt_types.specs.Plan.{Plan, is_ordered, queue_of}
use Rattle.evt_types.specs.declared.event.Event.{Event}
use Rattle.evt_types.specs.declared.event.KeptEvent.{KeptEvent}
use Rattle.evt_types.specs.declared.step.Source.TheVariants.{Of}
use Rattle.evt_types.specs.declared.step.Step.{Step}
use Rattle.evt_types.specs.declared.step.Step.TheVariants.{Accept}
use Rattle.lists.proofs.Fronts.{All-tagged_at, front_or_rest, upto_rest}
use Rattle.lists.proofs.Lists.{All-has, AllPairs-drop, drop-slice_get, eqb_other, eqb_same, has-last, slice_get-at}
use Rattle.lists.specs.Lists.{has, upto}
use Rattle.transcripts.proofs.AnsweredPlaces.{places_ordered, places_plain}
use Rattle.transcripts.proofs.Facts.{Facts, Facts-allowed, forwarded_is_given}
use Rattle.transcripts.proofs.Orders.{answered_needs}
use Rattle.transcripts.proofs.Origins.{origin_needs}
use Rattle.transcripts.proofs.Overdue.{late_of, late_ordered, late_plain, open_untaken, settled_overdue, untaken}
use Rattle.transcripts.proofs.Pushes.{ended-none, hand-none, is_pair-number, kept_of-none, sent-none, source_in-same, sources-some, taken_in-other}
use Rattle.transcripts.proofs.Whole.{Known, Known-allowed, steps-Lawful}
use Rattle.transcripts.proofs.WholeStands.{places_is, shape_after}
use Rattle.transcripts.specs.Lawful.{IsForwardEntry, Lawful}
use Rattle.transcripts.specs.Standing.{View, after, place_at, places}
use Rattle.transcripts.specs.Transcript.{ended, forwards, hand, is_answered, kept_of, open_of, sent, source_in, sources, taken, taken_in}
use Rattle.transcript_judge.proofs.Readings.{accepts_keep, lawful_to_come}
use Rattle.transcript_judge.specs.Fronts.{Breaks, PassesOver}
use Rattle.transcript_judge.specs.Ledger.{accept_of, row, rows, view_in}
use Rattle.transcript_judge.specs.Reading.{AreOfOne, IsRead, to_come}
use Rattle.transcript_judge.specs.Scans.{IsOther, kept_in_due, kept_in_spots, or_else}
use Rattle.transcript_judge.specs.declared.reading.Reading.{Reading}
use Rattle.transcript_judge.specs.declared.verdict.Clause.TheVariants.{Order, Origin}

-- ---- what Accepts leave as it was

ended_accepts : (ks : List KeptEvent) (P : List Step) → ended (P ++ map accept_of ks) ≡ ended P
ended_accepts [] P = ap ended (append-nil P)
ended_accepts (k ∷ ks) P =
    ap ended (sym (append_assoc P (accept_of k ∷ []) (map accept_of ks)))
    ∙ (ended_accepts ks (P ++ accept_of k ∷ []) ∙ ended-none P (accept_of k) refl)

sent_accepts : (ks : List KeptEvent) (P : List Step) → sent (P ++ map accept_of ks) ≡ sent P
sent_accepts [] P = ap sent (append-nil P)
sent_accepts (k ∷ ks) P =
    ap sent (sym (append_assoc P (accept_of k ∷ []) (map accept_of ks)))
    ∙ (sent_accepts ks (P ++ accept_of k ∷ []) ∙ sent-none P (accept_of k) refl)

answered_accepts : (ks : List KeptEvent) (P : List Step) (q n : ℕ) → is_answered (P ++ map accept_of ks) q n ≡ is_answered P q n
answered_accepts ks P q n = ap (list_any (λ (x : ℕ × ℕ). (x.0 == q) && (x.1 == n))) (ended_accepts ks P)

forwards_accepts : (ks : List KeptEvent) (P : List Step) (q n : ℕ) → forwards (P ++ map accept_of ks) q n ≡ forwards P q n
unfolding forwards
forwards_accepts ks P q n = ap (filter_map _) (sent_accepts ks P)

hand_accepts : (ks : List KeptEvent) (P : List Step) (q : ℕ) → hand (P ++ map accept_of ks) q ≡ hand P q
hand_accepts [] P q = ap (λ T. hand T q) (append-nil P)
hand_accepts (k ∷ ks) P q =
    ap (λ T. hand T q) (sym (append_assoc P (accept_of k ∷ []) (map accept_of ks)))
    ∙ (hand_accepts ks (P ++ accept_of k ∷ []) q ∙ hand-none P q (accept_of k) refl)

taken_accepts : (D P : List Step) (q n : ℕ) → taken (P ++ D) q n ≡ taken P q n ++ filter_map (taken_in q n) D
unfolding taken
taken_accepts D P q n = filter_map-append (taken_in q n) P D

sources_accepts : (D P : List Step) (q : ℕ) → sources (P ++ D) q ≡ sources P q ++ filter_map (source_in q) D
unfolding sources
sources_accepts D P q = filter_map-append (source_in q) P D

-- ---- the event that the number keeps next

first_taken : (ks : List KeptEvent) (q n : ℕ) (zs : List Event)
    → slice_get (filter_map (taken_in q n) (map accept_of ks) ++ zs) 0 ≡ or_else (kept_in_due ks q n) (slice_get zs 0)
first_taken [] q n zs = refl
first_taken (k ∷ ks) q n zs = by_case ((k.queue == q) && (k.number == n)) (first_taken ks q n zs)
  where
    by_case : (b : Bool) → slice_get (filter_map (taken_in q n) (map accept_of ks) ++ zs) 0 ≡ or_else (kept_in_due ks q n) (slice_get zs 0)
        → slice_get (cons_option (cond b (Some k.event) None) (filter_map (taken_in q n) (map accept_of ks)) ++ zs) 0
        ≡ or_else (cond b (Some k.event) (kept_in_due ks q n)) (slice_get zs 0)
    by_case true rest = refl
    by_case false rest = rest

-- nothing of a number that is done with is kept
none_late : (p : Plan) (S : List Step) (q n : ℕ) (e : Event) → Lawful p S → slice_get (forwards S q n) (length (taken S q n)) ≡ Some e
    → has n (late_of p S q) ≡ true → ⊥
none_late p S q n e lawful next late =
    All-tagged_at (λ x. ⊥) (kept_of S q) (late_of p S q) n e _ (subst (All (λ x. ⊥)) (sym (settled_overdue p S lawful.prompt.end q)) (All-nil (λ x. ⊥)))
    late (drop-slice_get (forwards S q n) (length (taken S q n)) e next)

allowed_facts : (p : Plan) (S : List Step) → Lawful p S → Facts p S
allowed_facts p S lawful = Facts-allowed p S (steps-Lawful p S lawful).steps

known_of : (p : Plan) (S : List Step) → Lawful p S → Known p S
known_of p S lawful = Known-allowed p S (steps-Lawful p S lawful).steps

without_first : (a b : Bool) → a ≡ false → (a || b) ≡ b
without_first true b other = absurd (false≢true (sym other))
without_first false b other = refl

spots_of : (S : List Step) (q n : ℕ) (ns : List ℕ) → kept_in_spots (map (place_at S q) ns) n ≡ cond (has n ns) (slice_get (forwards S q n) 0) None
spots_of S q n [] = refl
spots_of S q n (m ∷ ms) = by_case (cases_Bool (m == n)) (spots_of S q n ms)
  where
    by_case : ((m == n) ≡ true) ⊎ ((m == n) ≡ false) → kept_in_spots (map (place_at S q) ms) n ≡ cond (has n ms) (slice_get (forwards S q n) 0) None
        → cond (m == n) (slice_get (forwards S q m) 0) (kept_in_spots (map (place_at S q) ms) n)
        ≡ cond (has n (m ∷ ms)) (slice_get (forwards S q n) 0) None
    by_case (inl same) rest =
        cond-true (m == n) (slice_get (forwards S q m) 0) (kept_in_spots (map (place_at S q) ms) n) same
        ∙ (ap (λ k. slice_get (forwards S q k) 0) (eqb-true m n same)
        ∙ sym (cond-true (has n (m ∷ ms)) (slice_get (forwards S q n) 0) None (or_left (m == n) (has n ms) same)))
    by_case (inr other) rest =
        cond-false (m == n) (slice_get (forwards S q m) 0) (kept_in_spots (map (place_at S q) ms) n) other
        ∙ (rest ∙ ap (λ b. cond b (slice_get (forwards S q n) 0) None) (sym (without_first (m == n) (has n ms) other)))

-- a settled transcript keeps what the open numbers were passed on as
next_kept : (p : Plan) (S : List Step) (q n : ℕ) → Lawful p S → slice_get (forwards S q n) (length (taken S q n)) ≡ kept_in_spots (places p S q) n
unfolding open_of
next_kept p S q n lawful = by_kind (cases_Bool (is_ordered (queue_of p q).kind))
  where
    next : Option Event
    next = slice_get (forwards S q n) (length (taken S q n))

    given : (e : Event) → next ≡ Some e → has n (hand S q) ≡ true
    given e is = forwarded_is_given p S q n (length (taken S q n)) e (allowed_facts p S lawful) is

    none_by : (o : Option Event) → next ≡ o → ((e : Event) → next ≡ Some e → has n (late_of p S q) ≡ true) → next ≡ None
    none_by None is late = is
    none_by (Some e) is late = absurd (none_late p S q n e lawful is (late e is))

    of_open : is_ordered (queue_of p q).kind ≡ true → (has n (open_of S q) ≡ true) ⊎ (has n (open_of S q) ≡ false)
        → next ≡ cond (has n (open_of S q)) (slice_get (forwards S q n) 0) None
    of_open ordered (inl here) =
        ap (λ es. slice_get (forwards S q n) (length es))
        (untaken S q n (open_untaken S q n ((allowed_facts p S lawful).once q) ((known_of p S lawful).order.ordered q ordered) here))
        ∙ sym (cond-true (has n (open_of S q)) (slice_get (forwards S q n) 0) None here)
    of_open ordered (inr gone) =
        none_by next refl
        (λ e is. subst (λ ns. has n ns ≡ true) (sym (late_ordered p S q ordered))
        (⊎_elim (λ front. front) (λ rest. absurd (false≢true (sym gone ∙ rest))) (front_or_rest (is_answered S q) n (hand S q) (given e is))))
        ∙ sym (cond-false (has n (open_of S q)) (slice_get (forwards S q n) 0) None gone)

    by_kind : (is_ordered (queue_of p q).kind ≡ true) ⊎ (is_ordered (queue_of p q).kind ≡ false) → next ≡ kept_in_spots (places p S q) n
    by_kind (inl ordered) =
        of_open ordered (cases_Bool (has n (open_of S q)))
        ∙ (sym (spots_of S q n (open_of S q)) ∙ ap (λ xs. kept_in_spots xs n) (sym (places_ordered p S q ordered)))
    by_kind (inr plain) =
        none_by next refl (λ e is. subst (λ ns. has n ns ≡ true) (sym (late_plain p S q plain)) (given e is))
        ∙ ap (λ xs. kept_in_spots xs n) (sym (places_plain p S q plain))

places_held : (p : Plan) (P : List Step) (r : Reading) (q : ℕ) → IsRead p P r → q < length p.queues
    → row (rows r.ledger.places.items) q ≡ places p (P ++ to_come r) q
places_held p P r q h there =
    let v : View = view_in p r.ledger in
    let w : View = after v (to_come r) in
    let shape = shape_after v (to_come r) in
    ap (λ ps. row ps q) (sym (accepts_keep (drop r.taken r.due.items) v).places)
    ∙ (places_is w (P ++ to_come r) q h.stands (subst (λ k. q < length k.queues) (sym shape) there) ∙ ap (λ k. places k (P ++ to_come r) q) shape)

-- what is due of the number, or else what its place keeps
abbrev pub next_in : Reading → ℕ → ℕ → Option Event
next_in r q n = or_else (kept_in_due (drop r.taken r.due.items) q n) (kept_in_spots (row (rows r.ledger.places.items) q) n)

next_is : (p : Plan) (P : List Step) (r : Reading) (q n : ℕ) → IsRead p P r → q < length p.queues
    → slice_get (forwards P q n) (length (taken P q n)) ≡ next_in r q n
next_is p P r q n h there =
    let ks = drop r.taken r.due.items in
    let D : List Step = to_come r in
    let S : List Step = P ++ D in
    let lawful : Lawful p S = lawful_to_come p P r h in
    let origin = (known_of p S lawful).origin q n in
    let tD = filter_map (taken_in q n) D in
    let parts : forwards P q n ≡ taken P q n ++ (tD ++ origin.0) =
    sym (forwards_accepts ks P q n) ∙ (sym origin.1 ∙ (ap (λ ts. ts ++ origin.0) (taken_accepts D P q n) ∙ append_assoc (taken P q n) tD origin.0)) in
    let rest : slice_get origin.0 0 ≡ kept_in_spots (row (rows r.ledger.places.items) q) n =
    sym (slice_get-at (taken S q n) origin.0) ∙ (ap (λ es. slice_get es (length (taken S q n))) origin.1
    ∙ (next_kept p S q n lawful ∙ ap (λ xs. kept_in_spots xs n) (sym (places_held p P r q h there)))) in
    ap (λ es. slice_get es (length (taken P q n))) parts
    ∙ (slice_get-at (taken P q n) (tD ++ origin.0) ∙ (first_taken ks q n origin.0 ∙ ap (or_else (kept_in_due ks q n)) rest))

-- ---- the clauses

pub not_origin : (p : Plan) (P : List Step) (r : Reading) (q n i : ℕ) (e : Event) → IsRead p P r → i < length p.queues → next_in r i n ≢ Some e
    → Breaks Origin p (P ++ Accept q e (Of i n) ∷ [])
not_origin p P r q n i e h there other origin = other (sym (next_is p P r i n h there) ∙ origin_needs P q i n e origin)

-- the first item of pairs that all stand in a relation, and a later one
pair_of : (R : ℕ → ℕ → Type 0) (xs ys : List ℕ) (m n : ℕ) → AllPairs R (xs ++ m ∷ ys) → has n ys ≡ true → R m n
pair_of R xs ys m n all h = All-has (R m) n ys (λ k d lt. rest 0 (suc k) d (omega arith) (omega arith)) h
  where
    rest : AllPairs R (m ∷ ys)
    rest = subst (AllPairs R) (drop_front xs) (AllPairs-drop R (length xs) (xs ++ m ∷ ys) all)
      where
        drop_front : (zs : List ℕ) → drop (length zs) (zs ++ m ∷ ys) ≡ m ∷ ys
        drop_front [] = refl
        drop_front (z ∷ zs) = drop_front zs

-- what is due of the number is of one of the events
queue_found : (ks : List KeptEvent) (q i n : ℕ) (e : Event) → All (λ (k : KeptEvent). k.queue ≡ q) ks → kept_in_due ks i n ≡ Some e → i ≡ q
queue_found [] q i n e same is = absurd (none-some e is)
queue_found (k ∷ ks) q i n e same is = by_case (cases_Bool ((k.queue == i) && (k.number == n))) (queue_found ks q i n e (All-tail (λ (j : KeptEvent). j.queue ≡ q) k ks same))
  where
    by_case : (((k.queue == i) && (k.number == n)) ≡ true) ⊎ (((k.queue == i) && (k.number == n)) ≡ false) → (kept_in_due ks i n ≡ Some e → i ≡ q) → i ≡ q
    by_case (inl here) rest = sym (eqb-true k.queue i (and_parts (k.queue == i) (k.number == n) here).0) ∙ All-head (λ (j : KeptEvent). j.queue ≡ q) k ks same
    by_case (inr other) rest = rest (sym (cond-false ((k.queue == i) && (k.number == n)) (Some k.event) (kept_in_due ks i n) other) ∙ is)

-- and is accepted from it
source_found : (ks : List KeptEvent) (i n : ℕ) (e : Event) → kept_in_due ks i n ≡ Some e → has n (filter_map (source_in i) (map accept_of ks)) ≡ true
source_found [] i n e is = absurd (none-some e is)
source_found (k ∷ ks) i n e is = by_queue (k.queue == i) refl is (source_found ks i n e)
  where
    later : List ℕ
    later = filter_map (source_in i) (map accept_of ks)

    by_number : (b : Bool) → (k.number == n) ≡ b → cond b (Some k.event) (kept_in_due ks i n) ≡ Some e → (kept_in_due ks i n ≡ Some e → has n later ≡ true)
        → has n (k.number ∷ later) ≡ true
    by_number true same is' rest = or_left (k.number == n) (has n later) same
    by_number false other is' rest = or_right (k.number == n) (has n later) (rest is')

    by_queue : (b : Bool) → (k.queue == i) ≡ b → cond (b && (k.number == n)) (Some k.event) (kept_in_due ks i n) ≡ Some e
        → (kept_in_due ks i n ≡ Some e → has n later ≡ true) → has n (cons_option (cond b (Some k.number) None) later) ≡ true
    by_queue true same is' rest = by_number (k.number == n) refl is' rest
    by_queue false other is' rest = rest is'

-- an event that a place keeps: its number is open, and so it or one before it is unanswered
place_found : (p : Plan) (S : List Step) (q n : ℕ) (e : Event) → Lawful p S → kept_in_spots (places p S q) n ≡ Some e
    → (is_ordered (queue_of p q).kind ≡ true) × (has n (open_of S q) ≡ true)
place_found p S q n e lawful is = by_kind (cases_Bool (is_ordered (queue_of p q).kind))
  where
    by_open : (has n (open_of S q) ≡ true) ⊎ (has n (open_of S q) ≡ false) → cond (has n (open_of S q)) (slice_get (forwards S q n) 0) None ≡ Some e
        → has n (open_of S q) ≡ true
    by_open (inl here) at = here
    by_open (inr gone) at = absurd (none-some e (sym (cond-false (has n (open_of S q)) (slice_get (forwards S q n) 0) None gone) ∙ at))

    by_kind : (is_ordered (queue_of p q).kind ≡ true) ⊎ (is_ordered (queue_of p q).kind ≡ false)
        → (is_ordered (queue_of p q).kind ≡ true) × (has n (open_of S q) ≡ true)
    by_kind (inl ordered) = (
      ordered,
      by_open (cases_Bool (has n (open_of S q)))
          (sym (spots_of S q n (open_of S q)) ∙ (ap (λ xs. kept_in_spots xs n) (sym (places_ordered p S q ordered)) ∙ is)),
    )
    by_kind (inr plain) = absurd (none-some e (sym (ap (λ xs. kept_in_spots xs n) (places_plain p S q plain)) ∙ is))

-- it is accepted before all that was handed out before it is answered
early : (p : Plan) (P : List Step) (r : Reading) (q n i : ℕ) (e : Event) → IsRead p P r → i < length p.queues
    → kept_in_spots (row (rows r.ledger.places.items) i) n ≡ Some e → Breaks Order p (P ++ Accept q e (Of i n) ∷ [])
unfolding open_of
early p P r q n i e h there is =
    let ks = drop r.taken r.due.items in
    let S : List Step = P ++ to_come r in
    let lawful : Lawful p S = lawful_to_come p P r h in
    let found = place_found p S i n e lawful (ap (λ xs. kept_in_spots xs n) (sym (places_held p P r i h there)) ∙ is) in
    let waits = upto_rest (is_answered S i) n (hand S i) ((allowed_facts p S lawful).once i) found.1 in
    inl
    (λ order. false≢true (sym waits.2 ∙ (answered_accepts ks P i waits.0
    ∙ All-contains (λ m. is_answered P i m ≡ true) (upto n (hand S i)) waits.0
    (subst (λ hs. All (λ m. is_answered P i m ≡ true) (upto n hs)) (sym (hand_accepts ks P i)) (answered_needs P q i n e (order.ordered i found.0)))
    waits.1)))

-- it is accepted before the first that is due
passes_over : (p : Plan) (P : List Step) (r : Reading) (q n i : ℕ) (e : Event) (ks : List KeptEvent) → IsRead p P r → ks ≡ drop r.taken r.due.items
    → IsForwardEntry p q e i → IsOther (to_come r) (Accept q e (Of i n)) → kept_in_due ks i n ≡ Some e → PassesOver p (P ++ Accept q e (Of i n) ∷ [])
passes_over p P r q n i e [] h is formed other found = absurd (none-some e found)
passes_over p P r q n i e (k ∷ ks) h is formed other found = record {
  queue = i;
  ordered = ordered;
  m = k.number;
  n = n;
  apart = apart;
  before = subst (λ hs. has k.number (upto n hs) ≡ true) (sym (hand-none P i t refl)) before;
  kept = kept;
  accepted = subst (λ ns. has n ns ≡ true) (sym (sources-some P i t n (source_in-same q i n e))) (has-last (sources P i) n);
}
  where
    t : Step
    t = Accept q e (Of i n)

    one : AreOfOne p (k ∷ ks)
    one = subst (AreOfOne p) (sym is) h.one

    coming : to_come r ≡ accept_of k ∷ map accept_of ks
    coming = ap (map accept_of) (sym is)

    of_queue : i ≡ one.queue
    of_queue = queue_found (k ∷ ks) one.queue i n e one.same found

    own : k.queue ≡ i
    own = All-head (λ (j : KeptEvent). j.queue ≡ one.queue) k ks one.same ∙ sym of_queue

    apart : k.number ≢ n
    apart same =
        let test : ((k.queue == i) && (k.number == n)) ≡ true =
        and_from (k.queue == i) (k.number == n) (ap (λ x. x == i) own ∙ eqb_same i) (ap (λ x. x == n) same ∙ eqb_same n) in
        let event : k.event ≡ e = same_Some k.event e (sym (cond-true ((k.queue == i) && (k.number == n)) (Some k.event) (kept_in_due ks i n) test) ∙ found) in
        let first : accept_of k ≡ t =
        ap (λ (d : Event). Accept d.queue d (Of k.queue k.number)) event
        ∙ (ap (λ x. Accept x e (Of k.queue k.number)) formed.entry.named ∙ (ap (λ x. Accept q e (Of x k.number)) own ∙ ap (λ x. Accept q e (Of i x)) same)) in
        other (map accept_of ks, coming ∙ ap (λ s. s ∷ map accept_of ks) first)

    not_first : (b : Bool) → (b && (k.number == n)) ≡ false
    not_first true = eqb_other k.number n apart
    not_first false = refl

    later : kept_in_due ks i n ≡ Some e
    later = sym (cond-false ((k.queue == i) && (k.number == n)) (Some k.event) (kept_in_due ks i n) (not_first (k.queue == i))) ∙ found

    nothing_later : length ks ≤ 0 → kept_in_due ks i n ≡ Some e → ⊥
    nothing_later = go ks
      where
        go : (js : List KeptEvent) → length js ≤ 0 → kept_in_due js i n ≡ Some e → ⊥
        go [] le at = none-some e at
        go (j ∷ js) le at = absurd (omega arith)

    ordered : is_ordered (queue_of p i).kind ≡ true
    ordered =
        ⊎_elim (λ yes'. yes')
        (λ plain. let few = one.one (subst (λ x. is_ordered (queue_of p x).kind ≡ false) of_queue plain) in absurd (nothing_later (omega (arith, few)) later))
        (cases_Bool (is_ordered (queue_of p i).kind))

    S : List Step
    S = P ++ to_come r

    before : has k.number (upto n (hand P i)) ≡ true
    before =
        let order = ((known_of p S (lawful_to_come p P r h)).order.ordered i ordered).order in
        let same_hand : hand S i ≡ hand P i = hand_accepts (drop r.taken r.due.items) P i in
        let parts : sources S i ≡ sources P i ++ k.number ∷ filter_map (source_in i) (map accept_of ks) =
        sources_accepts (to_come r) P i ∙ (ap (λ D. sources P i ++ filter_map (source_in i) D) coming
        ∙ ap (λ b. sources P i ++ cons_option (cond b (Some k.number) None) (filter_map (source_in i) (map accept_of ks))) (ap (λ x. x == i) own ∙ eqb_same i)) in
        subst (λ hs. has k.number (upto n hs) ≡ true) same_hand
        (pair_of (λ a b. has a (upto b (hand S i)) ≡ true) (sources P i) (filter_map (source_in i) (map accept_of ks)) k.number n
        (subst (AllPairs (λ a b. has a (upto b (hand S i)) ≡ true)) parts order) (source_found ks i n e later))

    kept : 0 < length (kept_of (P ++ t ∷ []) i k.number)
    kept =
        let test : ((k.queue == i) && (k.number == k.number)) ≡ true =
        and_from (k.queue == i) (k.number == k.number) (ap (λ x. x == i) own ∙ eqb_same i) (eqb_same k.number) in
        let next : slice_get (forwards P i k.number) (length (taken P i k.number)) ≡ Some k.event =
        next_is p P r i k.number h formed.source
        ∙ (ap (λ js. or_else (kept_in_due js i k.number) (kept_in_spots (row (rows r.ledger.places.items) i) k.number)) (sym is)
        ∙ ap (λ o. or_else o (kept_in_spots (row (rows r.ledger.places.items) i) k.number))
        (cond-true ((k.queue == i) && (k.number == k.number)) (Some k.event) (kept_in_due ks i k.number) test)) in
        let still : kept_of (P ++ t ∷ []) i k.number ≡ kept_of P i k.number =
        kept_of-none P i k.number t refl (taken_in-other q i n i k.number e (is_pair-number i k.number (i, n) (λ same. apart (sym same)))) in
        omega (arith, ap length (still ∙ drop-slice_get (forwards P i k.number) (length (taken P i k.number)) k.event next))

pub not_in_turn : (p : Plan) (P : List Step) (r : Reading) (q n i : ℕ) (e : Event) → IsRead p P r → IsForwardEntry p q e i
    → IsOther (to_come r) (Accept q e (Of i n)) → next_in r i n ≡ Some e → Breaks Order p (P ++ Accept q e (Of i n) ∷ [])
not_in_turn p P r q n i e h formed other next = by_due (kept_in_due (drop r.taken r.due.items) i n) refl next
  where
    by_due : (o : Option Event) → kept_in_due (drop r.taken r.due.items) i n ≡ o → or_else o (kept_in_spots (row (rows r.ledger.places.items) i) n) ≡ Some e
        → Breaks Order p (P ++ Accept q e (Of i n) ∷ [])
    by_due None is at = early p P r q n i e h formed.source at
    by_due (Some d) is at = inr (passes_over p P r q n i e (drop r.taken r.due.items) h refl formed other (is ∙ at))
