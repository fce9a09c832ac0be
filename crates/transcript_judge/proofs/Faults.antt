-- What a step breaks, by what is held of the steps before it.
use Rattle.std.proofs.Common.{◌≡◌, ◌≢◌, ℕ, zero, suc, ◌<◌, ◌≤◌, Bool, true, false, cond, ◌==◌, List, [], ◌∷◌, ◌++◌, length, get_or, All, Contains, Some, None, slice_index, vec_len, ◌⊎◌, inl, inr, ⊎_elim, refl, sym, ap, ◌∙◌, subst, arith}
use Rattle.std.proofs.lemmas.Bool.{cases_Bool, cases_lt, cond-true, cond-false, eqb-false, eqb-true}
use Rattle.std.proofs.lemmas.List.{length-map, length_push, take-append-le, take_all}
use Rattle.std.proofs.lemmas.List.Elements.{All-nil}
use Rattle.std.proofs.lemmas.Option.{none-some, same_Some}
use Rattle.evt_types.specs.Limits.{most_extras}
use Rattle.evt_types.specs.Plan.{Plan, bound_of, depth_of, is_atomic, is_ordered, lanes_of, queue_of, serves, slot_of}
use Rattle.evt_types.specs.declared.event.Event.{Event}
use Rattle.evt_types.specs.declared.event.Numbered.{Numbered}
use Rattle.evt_types.specs.declared.step.Outcome.{Outcome}
use Rattle.evt_types.specs.declared.step.Outcome.TheVariants.{Forwarded, Released}
use Rattle.evt_types.specs.declared.step.Source.TheVariants.{New}
use Rattle.evt_types.specs.declared.step.Step.{Step}
use Rattle.evt_types.specs.declared.step.Step.TheVariants.{Accept, Give, Done, More, Turned, Shut}
use Rattle.transcripts.proofs.AnsweredPlaces.{places_ordered}
use Rattle.std.specs.declared.alloc.Global.{Global}
use Rattle.std.specs.declared.vec.Vec.{Vec}
use Rattle.transcripts.proofs.Insides.{inside_release}
use Rattle.transcripts.proofs.Whole.{Lawful-steps, steps-Lawful}
use Rattle.transcripts.proofs.WholeStands.{extras_count, facts_of, places_is, shut_is, unanswered_count, unanswered_is, waiting_is}
use Rattle.transcripts.specs.Choice.{IsOffer}
use Rattle.transcripts.specs.Lawful.{IsHandOver, IsNewEntry, IsSettled}
use Rattle.transcripts.specs.Standing.{event_in, place_at}
use Rattle.transcripts.specs.Transcript.{Held, is_from_of, is_release, open_of, unanswered, waiting}
use Rattle.transcript_judge.proofs.Breaches.{adds_past_limit, adds_to_none, adds_too_many, answers_none, gives_apart, gives_overtaking, gives_past_depth, gives_past_places, gives_unknown, gives_unlinked, new_after_shut, new_past_limit, shut_twice, turned_before_shut}
use Rattle.transcript_judge.proofs.PassedOver.{two_parts}
use Rattle.transcript_judge.proofs.Readings.{inside_now, lawful_now, lawful_to_come, running, sized, stands_now}
use Rattle.transcript_judge.proofs.RowLists.{row_len}
use Rattle.transcript_judge.specs.Fronts.{Breaks}
use Rattle.transcript_judge.specs.Ledger.{releases, row, rows, view_in}
use Rattle.transcript_judge.specs.Reading.{IsRead, to_come}
use Rattle.transcript_judge.specs.Scans.{LeavesSlot, LetsPass}
use Rattle.transcript_judge.specs.Waiting.{events_in}
use Rattle.transcript_judge.specs.declared.reading.Reading.{Reading}
use Rattle.transcript_judge.specs.declared.verdict.Clause.TheVariants.{Answers, Extras, Once, Linked, Depth, Places, Limit, Flow, Alone, Closed, Prompt}

-- ---- a NEW, and Shut

pub new_closed : (p : Plan) (P : List Step) (r : Reading) (q : ℕ) (e : Event) (l : ℕ) → IsRead p P r → to_come r ≡ [] → r.ledger.shut ≡ true
    → Breaks Closed p (P ++ Accept q e (New l) ∷ [])
new_closed p P r q e l h none shut = new_after_shut p P q e l (sym (shut_is (view_in p r.ledger) P (stands_now p P r h none)) ∙ shut)

pub new_full : (p : Plan) (P : List Step) (r : Reading) (q : ℕ) (e : Event) (l : ℕ) → IsRead p P r → to_come r ≡ [] → IsNewEntry p q e l
    → bound_of p ≤ r.inside → Breaks Limit p (P ++ Accept q e (New l) ∷ [])
new_full p P r q e l h none formed full =
    new_past_limit p P q e l (lawful_now p P r h none) formed.entry.queue (omega (arith, full, inside_now p P r h none))

pub turned_open : (p : Plan) (P : List Step) (r : Reading) (l : ℕ) (e : Event) → IsRead p P r → to_come r ≡ [] → r.ledger.shut ≡ false
    → Breaks Closed p (P ++ Turned l e ∷ [])
turned_open p P r l e h none unshut = turned_before_shut p P l e (sym (shut_is (view_in p r.ledger) P (stands_now p P r h none)) ∙ unshut)

pub shut_again : (p : Plan) (P : List Step) (r : Reading) → IsRead p P r → to_come r ≡ [] → r.ledger.shut ≡ true → Breaks Closed p (P ++ Shut ∷ [])
shut_again p P r h none shut = shut_twice p P (sym (shut_is (view_in p r.ledger) P (stands_now p P r h none)) ∙ shut)

-- ---- an answer, an addition

held_is : (p : Plan) (P : List Step) (r : Reading) (l : ℕ) → IsRead p P r → to_come r ≡ [] → l < lanes_of p
    → length (row (rows r.ledger.unanswered.items) l) ≡ length (unanswered P l)
held_is p P r l h none lane = unanswered_count (view_in p r.ledger) P l (stands_now p P r h none) lane

pub done_none : (p : Plan) (P : List Step) (r : Reading) (l : ℕ) (o : Outcome) → IsRead p P r → to_come r ≡ [] → l < lanes_of p
    → length (row (rows r.ledger.unanswered.items) l) ≤ 0 → Breaks Answers p (P ++ Done l o ∷ [])
done_none p P r l o h none lane empty = answers_none p P l o (omega (arith, empty, held_is p P r l h none lane))

pub more_none : (p : Plan) (P : List Step) (r : Reading) (l : ℕ) (e : Event) → IsRead p P r → to_come r ≡ [] → l < lanes_of p
    → length (row (rows r.ledger.unanswered.items) l) ≤ 0 → Breaks Extras p (P ++ More l e ∷ [])
more_none p P r l e h none lane empty = adds_to_none p P l e (omega (arith, empty, held_is p P r l h none lane))

pub more_many : (p : Plan) (P : List Step) (r : Reading) (l : ℕ) (e : Event) → IsRead p P r → to_come r ≡ [] → l < lanes_of p
    → most_extras ≤ slice_index r.ledger.extras.items l → Breaks Extras p (P ++ More l e ∷ [])
more_many p P r l e h none lane many =
    adds_too_many p P l e (omega (arith, many, extras_count (view_in p r.ledger) P l (stands_now p P r h none) lane))

pub more_full : (p : Plan) (P : List Step) (r : Reading) (l : ℕ) (e : Event) → IsRead p P r → to_come r ≡ [] → l < lanes_of p
    → 0 < length (row (rows r.ledger.unanswered.items) l) → bound_of p ≤ r.inside → Breaks Limit p (P ++ More l e ∷ [])
more_full p P r l e h none lane some full =
    adds_past_limit p P l e (lawful_now p P r h none) (omega (arith, some, held_is p P r l h none lane)) (omega (arith, full, inside_now p P r h none))

-- ---- a Give

waits_is : (p : Plan) (P : List Step) (r : Reading) (q : ℕ) → IsRead p P r → to_come r ≡ [] → q < length p.queues
    → row (events_in r.ledger.waiting.items) q ≡ waiting P q
waits_is p P r q h none there = waiting_is (view_in p r.ledger) P q (stands_now p P r h none) there

abbrev event_of : ℕ → Event → Numbered
event_of n e = record { number = n; event = e }

contains_next : (x w : Numbered) (ws : List Numbered) → Contains ws w → Contains (x ∷ ws) w
contains_next x w ws c = (suc c.0, omega (arith, c.1), c.2)

found_in : (ws : List Numbered) (n : ℕ) (e : Event) → event_in ws n ≡ Some e → Contains ws (record { number = n; event = e })
found_in [] n e is = absurd (none-some e is)
found_in (w ∷ ws) n e is = by_case (cases_Bool (w.number == n)) (found_in ws n e)
  where
    by_case : ((w.number == n) ≡ true) ⊎ ((w.number == n) ≡ false) → (event_in ws n ≡ Some e → Contains ws (record { number = n; event = e }))
        → Contains (w ∷ ws) (record { number = n; event = e })
    by_case (inl same) rest =
        let here : w.event ≡ e = same_Some w.event e (sym (cond-true (w.number == n) (Some w.event) (event_in ws n) same) ∙ is) in
        let number : w.number ≡ n = eqb-true w.number n same in
        (0, omega arith, ap (λ m. event_of m w.event) number ∙ ap (event_of n) here)
    by_case (inr other) rest =
        contains_next w (record { number = n; event = e }) ws (rest (sym (cond-false (w.number == n) (Some w.event) (event_in ws n) other) ∙ is))

pub waits_here : (p : Plan) (P : List Step) (r : Reading) (q n : ℕ) (e : Event) → IsRead p P r → to_come r ≡ [] → q < length p.queues
    → event_in (row (events_in r.ledger.waiting.items) q) n ≡ Some e → Contains (waiting P q) (record { number = n; event = e })
waits_here p P r q n e h none there found =
    found_in (waiting P q) n e (subst (λ ws. event_in ws n ≡ Some e) (waits_is p P r q h none there) found)

pub give_unknown : (p : Plan) (P : List Step) (r : Reading) (l q n : ℕ) → IsRead p P r → to_come r ≡ [] → q < length p.queues
    → event_in (row (events_in r.ledger.waiting.items) q) n ≡ None → Breaks Once p (P ++ Give l q n ∷ [])
give_unknown p P r l q n h none there missing =
    gives_unknown p P l q n (subst (λ ws. event_in ws n ≡ None) (waits_is p P r q h none there) missing)

-- the event of the number waits, and may be handed over
pub record Waits (p : Plan) (P : List Step) (r : Reading) (l q n : ℕ) (e : Event) : Type 0 where
  pub read : IsRead p P r
  pub none : to_come r ≡ []
  pub formed : IsHandOver p l q
  pub found : event_in (row (events_in r.ledger.waiting.items) q) n ≡ Some e

waits : (p : Plan) (P : List Step) (r : Reading) (l q n : ℕ) (e : Event) → Waits p P r l q n e → Contains (waiting P q) (record { number = n; event = e })
waits p P r l q n e w = waits_here p P r q n e w.read w.none w.formed.queue w.found

pub give_unlinked : (p : Plan) (P : List Step) (r : Reading) (l q n : ℕ) (e : Event) → Waits p P r l q n e → serves p l q (slot_of p q e.flow) ≡ false
    → Breaks Linked p (P ++ Give l q n ∷ [])
give_unlinked p P r l q n e w unserved = gives_unlinked p P l q (record { number = n; event = e }) (waits p P r l q n e w) unserved

pub give_deep : (p : Plan) (P : List Step) (r : Reading) (l q n : ℕ) (e : Event) → Waits p P r l q n e
    → depth_of p l ≤ length (row (rows r.ledger.unanswered.items) l) → Breaks Depth p (P ++ Give l q n ∷ [])
give_deep p P r l q n e w full =
    gives_past_depth p P l q n (lawful_now p P r w.read w.none) (omega (arith, full, held_is p P r l w.read w.none w.formed.lane))

places_count : (p : Plan) (P : List Step) (r : Reading) (q : ℕ) → IsRead p P r → to_come r ≡ [] → q < length p.queues
    → is_ordered (queue_of p q).kind ≡ true → length (row (rows r.ledger.places.items) q) ≡ length (open_of P q)
places_count p P r q h none there ordered =
    ap length (places_is (view_in p r.ledger) P q (stands_now p P r h none) there ∙ places_ordered p P q ordered)
    ∙ length-map (open_of P q) (place_at P q)

pub give_placeless : (p : Plan) (P : List Step) (r : Reading) (l q n : ℕ) (e : Event) → Waits p P r l q n e → is_ordered (queue_of p q).kind ≡ true
    → (queue_of p q).order ≤ length (row (rows r.ledger.places.items) q) → Breaks Places p (P ++ Give l q n ∷ [])
give_placeless p P r l q n e w ordered full =
    gives_past_places p P l q (record { number = n; event = e }) (lawful_now p P r w.read w.none) (waits p P r l q n e w) ordered
    (omega (arith, full, places_count p P r q w.read w.none w.formed.queue ordered))

pub give_overtaking : (p : Plan) (P : List Step) (r : Reading) (l q n : ℕ) (e : Event) → Waits p P r l q n e
    → ¬ LetsPass p q (row (events_in r.ledger.waiting.items) q) n e → Breaks Flow p (P ++ Give l q n ∷ [])
give_overtaking p P r l q n e w stopped =
    gives_overtaking p P l q (record { number = n; event = e }) (lawful_now p P r w.read w.none) (waits p P r l q n e w)
    (subst (λ ws. ¬ LetsPass p q ws n e) (waits_is p P r q w.read w.none w.formed.queue) stopped)

row_past : (lists : List (List Held)) (m : ℕ) → length lists ≤ m → row lists m ≡ []
row_past [] m le = refl
row_past (x ∷ xs) zero le = absurd (omega arith)
row_past (x ∷ xs) (suc m) le = row_past xs m (omega arith)

pub give_apart : (p : Plan) (P : List Step) (r : Reading) (l q n : ℕ) (e : Event) → Waits p P r l q n e → is_atomic (queue_of p q).kind ≡ true
    → ¬ LeavesSlot (rows r.ledger.unanswered.items) l q (slot_of p q e.flow) → Breaks Alone p (P ++ Give l q n ∷ [])
give_apart p P r l q n e w atomic taken =
    gives_apart p P l q (record { number = n; event = e }) (lawful_now p P r w.read w.none) (waits p P r l q n e w) atomic
    (λ alone. taken (λ m differs. ⊎_elim (λ lane. subst (All (λ (y : Held). y.queue ≡ q → y.slot ≢ slot_of p q e.flow))
    (sym (unanswered_is (view_in p r.ledger) P m (stands_now p P r w.read w.none) lane)) (alone m differs))
    (λ past. subst (All (λ (y : Held). y.queue ≡ q → y.slot ≢ slot_of p q e.flow))
    (sym (row_past (rows r.ledger.unanswered.items) m (omega (arith, past, length-map r.ledger.unanswered.items (λ v. v.items), (sized p P r w.read).unanswered))))
    (All-nil (λ (y : Held). y.queue ≡ q → y.slot ≢ slot_of p q e.flow))) (cases_lt m (lanes_of p))))

pub give_offer : (p : Plan) (P : List Step) (r : Reading) (l q n : ℕ) (e : Event) → Waits p P r l q n e → serves p l q (slot_of p q e.flow) ≡ true
    → length (row (rows r.ledger.unanswered.items) l) < depth_of p l
    → (is_ordered (queue_of p q).kind ≡ true → length (row (rows r.ledger.places.items) q) < (queue_of p q).order)
    → LetsPass p q (row (events_in r.ledger.waiting.items) q) n e
    → (is_atomic (queue_of p q).kind ≡ true → LeavesSlot (rows r.ledger.unanswered.items) l q (slot_of p q e.flow))
    → IsOffer (view_in p r.ledger) l q (record { number = n; event = e })
give_offer p P r l q n e w linked room places flow alone = record {
  queue = w.formed.queue;
  lane = w.formed.lane;
  waits = found_in (row (events_in r.ledger.waiting.items) q) n e w.found;
  linked = linked;
  room = room;
  alone = alone;
  places = places;
  flow = flow;
}

-- ---- lists that were looked up

pub empty_row : (p : Plan) (P : List Step) (r : Reading) (l : ℕ) (list : Vec Held Global) (b : Bool) → IsRead p P r → l < lanes_of p
    → list ≡ get_or r.ledger.unanswered.items l list → b ≡ (vec_len list == 0) → b ≡ true → length (row (rows r.ledger.unanswered.items) l) ≤ 0
empty_row p P r l list b h lane at is yes' =
    omega (arith, row_len r.ledger.unanswered.items l list (omega (arith, lane, (sized p P r h).unanswered)) at, eqb-true (vec_len list) 0 (sym is ∙ yes'))

pub some_row : (p : Plan) (P : List Step) (r : Reading) (l : ℕ) (list : Vec Held Global) (b : Bool) → IsRead p P r → l < lanes_of p
    → list ≡ get_or r.ledger.unanswered.items l list → b ≡ (vec_len list == 0) → b ≡ false → 0 < length (row (rows r.ledger.unanswered.items) l)
some_row p P r l list b h lane at is fails =
    let some : vec_len list ≢ 0 = eqb-false (vec_len list) 0 (sym is ∙ fails) in
    omega (arith, row_len r.ledger.unanswered.items l list (omega (arith, lane, (sized p P r h).unanswered)) at, some)

-- what is inside is more than an answer lets go
pub released_le : (p : Plan) (P : List Step) (r : Reading) (l : ℕ) (o : Outcome) → IsRead p P r → to_come r ≡ [] → l < lanes_of p
    → 0 < length (row (rows r.ledger.unanswered.items) l) → releases o ≤ r.inside
released_le p P r l (Forwarded e) h none lane some = omega arith
released_le p P r l Released h none lane some =
    omega (arith, inside_now p P r h none, inside_release p P l (facts_of p P (lawful_now p P r h none)) lane (omega (arith, some, held_is p P r l h none lane)))

pub releases_is : (l : ℕ) (o : Outcome) → cond (is_release (Done l o)) 1 0 ≡ releases o
releases_is l (Forwarded e) = refl
releases_is l Released = refl

-- what is due waits while another step is read
pub due_waits : (p : Plan) (P : List Step) (s : Step) (r : Reading) → IsRead p P r → is_from_of s ≡ false → 0 < length (to_come r)
    → Breaks Prompt p (P ++ s ∷ [])
due_waits p P s r h other some prompt =
    let settled : IsSettled p P =
    subst (IsSettled p) (take-append-le (length P) P (s ∷ []) (omega arith) ∙ take_all (length P) P (omega arith))
    (prompt (length P) s (omega (arith, length_push P s)) (ap is_from_of (get_last P s) ∙ other)) in
    let parts = two_parts p [] P (to_come r) (steps-Lawful p (P ++ to_come r) (lawful_to_come p P r h)).steps in
    (running p P r h some).unlawful (Lawful-steps p P (record { steps = parts.0; end = settled }))
  where
    get_last : (T : List Step) (t : Step) → get_or (T ++ t ∷ []) (length T) t ≡ t
    get_last [] t = refl
    get_last (u ∷ T) t = get_last T t
