-- What passes the test of specs/Check.antt is lawful, step by step.
use Rattle.std.specs.Prelude.{ℕ, ◌≡◌, ◌≢◌, ◌<◌, ◌≤◌, ◌^◌, Bool, true, false, not, ◌||◌, List, [], ◌∷◌, ◌++◌, ◌==◌, nat_lt, nat_le, length, map, drop, All, Contains, Option, Some, None, slice_get, flat_map}
use Rattle.std.specs.List.{list_all, list_any, range_with_len}
use Rattle.std.proofs.Common.{refl, ap, subst, ◌∙◌, arith, ⊎_elim}
use Rattle.std.proofs.Props.{props}
use Rattle.std.proofs.lemmas.Bool.{true≢false, false≢true, not-true, ltb-true, lt-ltb, leb-true, eqb-true, eqb-false, and_parts, cases_lt, eq-eqb, ne_eqb, cond-false}
use Rattle.std.proofs.Math.Dec.{lit<}
use Rattle.std.proofs.lemmas.List.{drop_all, append-nil, append_assoc}
use Rattle.std.proofs.lemmas.List.Elements.{All-nil, All-push, All-weaker, All-same}
use Rattle.std.proofs.lemmas.List.Folds.{Any-from_list_any}
use Rattle.std.proofs.lemmas.List.FromFn.{length-range_with_len, get_or-range_with_len}
use Rattle.std.proofs.lemmas.List.Sums.{AllPass-from_list_all}
use Rattle.lists.proofs.Lists.{filter_map-none}
use Rattle.transcripts.specs.Allowed.{Allowed, AllowedAfter, StepsLawful, Needs, MayAcceptOf, MayGive, MayGiveNumber}
use Rattle.worked_examples.specs.Check.{pass, implies, is_forward_op, same_event_tests, is_some_of, outcome_tests, form_tests, is_waiting_for, is_settled, of_tests, lets_pass, is_other_slot, leaves_slot, give_tests, need_tests, step_tests, is_allowed_after, is_lawful}
use Rattle.transcripts.specs.Lawful.{IsFormed, IsSettled, IsOutcome, keeps_order, keeps_with}
use Rattle.evt_types.specs.Plan.{Plan, lanes, queues, lanes_of, depth_of, bound_of, queue_of, slot_of, is_atomic, is_ordered}
use Rattle.lists.specs.Lists.{has}
use Rattle.evt_types.specs.Operation.{is_new_op, is_more_op}
use Rattle.transcripts.specs.Transcript.{unanswered, unanswered_slots, Held, held_at, hand, out, answers, given_to, given_of, sources, taken, forwards, extras, kept, kept_of, waiting, open_of, inside, is_answered, has_shut, is_from_of}
use Rattle.lists.specs.Lists.{upto}
use Rattle.evt_types.specs.Word.{op_code}
use Rattle.evt_types.specs.declared.event.Event.{Event}
use Rattle.evt_types.specs.declared.event.Numbered.{Numbered}
use Rattle.evt_types.specs.declared.event.Op.{Op}
use Rattle.evt_types.specs.declared.event.Op.TheVariants as ops
use Rattle.evt_types.specs.declared.event.TheConstants.{MAX_EXTRAS}
use Rattle.evt_types.specs.declared.step.Outcome.{Outcome}
use Rattle.evt_types.specs.declared.step.Outcome.TheVariants.{Forwarded, Released}
use Rattle.evt_types.specs.declared.step.Source.TheVariants.{New, Of}
use Rattle.evt_types.specs.declared.step.Step.{Step}
use Rattle.evt_types.specs.declared.step.Step.TheVariants.{Accept, Give, Done, More, Turned, Bounced, Shut}

-- ---- tests

-- each test of a list that passes
passed : (tests : List Bool) → pass tests ≡ true → All (λ t. t ≡ true) tests
passed tests h = AllPass-from_list_all (λ t. t) tests h

implied : (a b : Bool) → implies a b ≡ true → a ≡ true → b ≡ true
implied true b h is = h
implied false b h is = absurd (false≢true is)

or_left_false : (a b : Bool) → (a || b) ≡ true → a ≡ false → b ≡ true
or_left_false true b h is = absurd (true≢false is)
or_left_false false b h is = h

-- what holds of each number below n
at_number : (P : ℕ → Type 0) (n k : ℕ) → All P (range_with_len 0 n) → k < n → P k
at_number P n k all h = subst P (get_or-range_with_len 0 n k 0 h ∙ omega arith) (all k 0 (rw length-range_with_len h))

-- the operations of events
op_is_new : (o : Op) → is_new_op o ≡ true → o ≡ ops.New
op_is_new ops.New h = refl
op_is_new ops.Forward h = absurd (false≢true h)
op_is_new ops.Release h = absurd (false≢true h)
op_is_new ops.ForwardMore h = absurd (false≢true h)

op_is_forward : (o : Op) → is_forward_op o ≡ true → o ≡ ops.Forward
op_is_forward ops.Forward h = refl
op_is_forward op h = absurd (false≢true h)

op_is_more : (o : Op) → is_more_op o ≡ true → o ≡ ops.ForwardMore
op_is_more ops.ForwardMore h = refl
op_is_more op h = absurd (false≢true h)

same_op : (a b : Op) → op_code a ≡ op_code b → a ≡ b
same_op ops.New ops.New h = refl
same_op ops.Forward ops.Forward h = refl
same_op ops.Release ops.Release h = refl
same_op ops.ForwardMore ops.ForwardMore h = refl
same_op a b h = absurd (omega arith)

-- an event by its fields
event_by : (flow sub_type event_type : ℕ) (op : Op) (queue priority impl_opaque payload : ℕ) → flow < 2 ^ 20 → event_type < 16 → Event
event_by flow sub_type event_type op queue priority impl_opaque payload fits type_fits =
    record {
      flow = flow;
      sub_type = sub_type;
      event_type = event_type;
      op = op;
      queue = queue;
      priority = priority;
      impl_opaque = impl_opaque;
      payload = payload;
      flow_fits = fits;
      event_type_fits = type_fits;
    }

same_limit : (m n : ℕ) (g h : m < n) → g ≡ h
same_limit m n g h = is_prop g h
  where
    is_prop : (g h : m < n) → g ≡ h
    is_prop = hlevel props

-- two events with the same fields: a fact about a field has one proof at most
same_event_by : (d e : Event) → d.flow ≡ e.flow → d.sub_type ≡ e.sub_type → d.event_type ≡ e.event_type → d.op ≡ e.op → d.queue ≡ e.queue → d.priority ≡ e.priority → d.impl_opaque ≡ e.impl_opaque → d.payload ≡ e.payload → d ≡ e
unfolding event_by
same_event_by d e flow sub_type event_type op queue priority impl_opaque payload =
    ap (λ f. event_by d.flow f d.event_type d.op d.queue d.priority d.impl_opaque d.payload d.flow_fits d.event_type_fits) sub_type
    ∙ (ap (λ o. event_by d.flow e.sub_type d.event_type o d.queue d.priority d.impl_opaque d.payload d.flow_fits d.event_type_fits) op
    ∙ (ap (λ f. event_by d.flow e.sub_type d.event_type e.op f d.priority d.impl_opaque d.payload d.flow_fits d.event_type_fits) queue
    ∙ (ap (λ f. event_by d.flow e.sub_type d.event_type e.op e.queue f d.impl_opaque d.payload d.flow_fits d.event_type_fits) priority
    ∙ (ap (λ f. event_by d.flow e.sub_type d.event_type e.op e.queue e.priority f d.payload d.flow_fits d.event_type_fits) impl_opaque
    ∙ (ap (λ f. event_by d.flow e.sub_type d.event_type e.op e.queue e.priority e.impl_opaque f d.flow_fits d.event_type_fits) payload
    ∙ (at_flow ∙ at_event_type))))))
  where
    at_flow : event_by d.flow e.sub_type d.event_type e.op e.queue e.priority e.impl_opaque e.payload d.flow_fits d.event_type_fits ≡ event_by e.flow e.sub_type d.event_type e.op e.queue e.priority e.impl_opaque e.payload e.flow_fits d.event_type_fits
    at_flow =
        subst
        (λ f. (h : f < 2 ^ 20) → event_by d.flow e.sub_type d.event_type e.op e.queue e.priority e.impl_opaque e.payload d.flow_fits d.event_type_fits ≡ event_by f e.sub_type d.event_type e.op e.queue e.priority e.impl_opaque e.payload h d.event_type_fits)
        flow
        (λ h. ap (λ k. event_by d.flow e.sub_type d.event_type e.op e.queue e.priority e.impl_opaque e.payload k d.event_type_fits) (same_limit d.flow (2 ^ 20) d.flow_fits h))
        e.flow_fits

    at_event_type : event_by e.flow e.sub_type d.event_type e.op e.queue e.priority e.impl_opaque e.payload e.flow_fits d.event_type_fits ≡ e
    at_event_type =
        subst
        (λ f. (h : f < 16) → event_by e.flow e.sub_type d.event_type e.op e.queue e.priority e.impl_opaque e.payload e.flow_fits d.event_type_fits ≡ event_by e.flow e.sub_type f e.op e.queue e.priority e.impl_opaque e.payload e.flow_fits h)
        event_type
        (λ h. ap (λ k. event_by e.flow e.sub_type d.event_type e.op e.queue e.priority e.impl_opaque e.payload e.flow_fits k) (same_limit d.event_type 16 d.event_type_fits h))
        e.event_type_fits

same_event : (d e : Event) → pass (same_event_tests d e) ≡ true → d ≡ e
same_event d e h =
    let t = passed (same_event_tests d e) h in
    same_event_by d e (eqb-true d.flow e.flow (t 0 true (lit< tt))) (eqb-true d.sub_type e.sub_type (t 1 true (lit< tt))) (eqb-true d.event_type e.event_type (t 2 true (lit< tt)))
    (same_op d.op e.op (eqb-true (op_code d.op) (op_code e.op) (t 3 true (lit< tt)))) (eqb-true d.queue e.queue (t 4 true (lit< tt)))
    (eqb-true d.priority e.priority (t 5 true (lit< tt))) (eqb-true d.impl_opaque e.impl_opaque (t 6 true (lit< tt))) (eqb-true d.payload e.payload (t 7 true (lit< tt)))

some_event : (e : Event) (o : Option Event) → is_some_of e o ≡ true → o ≡ Some e
some_event e None h = absurd (false≢true h)
some_event e (Some d) h = ap (λ x. Some x) (same_event d e h)

-- ---- the form of a step

outcome_formed : (p : Plan) (o : Outcome) → pass (outcome_tests p o) ≡ true → IsOutcome p o
outcome_formed p (Forwarded e) h =
    let t = passed (outcome_tests p (Forwarded e)) h in
    (ltb-true e.queue (length p.queues) (t 0 true (lit< tt)), op_is_forward e.op (t 1 true (lit< tt)))
outcome_formed p Released h = tt

step_formed : (p : Plan) (s : Step) → pass (form_tests p s) ≡ true → IsFormed p s
step_formed p (Accept q e (New l)) h =
    let t = passed (form_tests p (Accept q e (New l))) h in
    record {
      entry = record { queue = ltb-true q (length p.queues) (t 0 true (lit< tt)); named = eqb-true e.queue q (t 1 true (lit< tt)) };
      operation = op_is_new e.op (t 2 true (lit< tt));
      lane = ltb-true l (length p.ports) (t 3 true (lit< tt));
    }
step_formed p (Accept q e (Of r n)) h =
    let t = passed (form_tests p (Accept q e (Of r n))) h in
    record {
      entry = record { queue = ltb-true q (length p.queues) (t 0 true (lit< tt)); named = eqb-true e.queue q (t 1 true (lit< tt)) };
      operation = t 2 true (lit< tt);
      source = ltb-true r (length p.queues) (t 3 true (lit< tt));
    }
step_formed p (Give l q n) h =
    let t = passed (form_tests p (Give l q n)) h in
    record { lane = ltb-true l (lanes_of p) (t 0 true (lit< tt)); queue = ltb-true q (length p.queues) (t 1 true (lit< tt)) }
step_formed p (Done l o) h =
    let parts = and_parts (nat_lt l (lanes_of p)) (pass (outcome_tests p o)) h in (ltb-true l (lanes_of p) parts.0, outcome_formed p o parts.1)
step_formed p (More l e) h =
    let t = passed (form_tests p (More l e)) h in
    (ltb-true l (lanes_of p) (t 0 true (lit< tt)), (ltb-true e.queue (length p.queues) (t 1 true (lit< tt)), op_is_more e.op (t 2 true (lit< tt))))
step_formed p (Turned l e) h =
    let t = passed (form_tests p (Turned l e)) h in
    record {
      queue = ltb-true e.queue (length p.queues) (t 0 true (lit< tt));
      operation = op_is_new e.op (t 1 true (lit< tt));
      lane = ltb-true l (length p.ports) (t 2 true (lit< tt));
    }
step_formed p (Bounced l) h = ltb-true l (lanes_of p) (passed (form_tests p (Bounced l)) h 0 true (lit< tt))
step_formed p Shut h = tt

-- ---- a queue or a lane that isn't there has nothing

not_given : (p : Plan) (q : ℕ) (s : Step) → length p.queues ≤ q → IsFormed p s → given_of q s ≡ None
not_given p q (Give l r n) past f = cond-false (r == q) (Some n) None (ne_eqb r q (λ same. omega arith))
not_given p q (Accept r e s) past f = refl
not_given p q (Done l o) past f = refl
not_given p q (More l e) past f = refl
not_given p q (Turned l e) past f = refl
not_given p q (Bounced l) past f = refl
not_given p q Shut past f = refl

not_given_to : (p : Plan) (l : ℕ) (s : Step) → lanes_of p ≤ l → IsFormed p s → given_to l s ≡ None
not_given_to p l (Give m q n) past f = cond-false (m == l) (Some (q, n)) None (ne_eqb m l (λ same. omega arith))
not_given_to p l (Accept q e s) past f = refl
not_given_to p l (Done m o) past f = refl
not_given_to p l (More m e) past f = refl
not_given_to p l (Turned m e) past f = refl
not_given_to p l (Bounced m) past f = refl
not_given_to p l Shut past f = refl

pub hand_past : (p : Plan) (P : List Step) (q : ℕ) → All (IsFormed p) P → length p.queues ≤ q → hand P q ≡ []
unfolding hand
hand_past p P q formed past = filter_map-none (given_of q) P (All-weaker (IsFormed p) (λ s. given_of q s ≡ None) (λ s f. not_given p q s past f) P formed)

pub out_past : (p : Plan) (P : List Step) (l : ℕ) → All (IsFormed p) P → lanes_of p ≤ l → out P l ≡ []
unfolding out
out_past p P l formed past = filter_map-none (given_to l) P (All-weaker (IsFormed p) (λ s. given_to l s ≡ None) (λ s f. not_given_to p l s past f) P formed)

pub kept_past : (p : Plan) (P : List Step) (q : ℕ) → All (IsFormed p) P → length p.queues ≤ q → kept P q ≡ []
unfolding kept
kept_past p P q formed past = ap (flat_map (λ n. map (λ e. (n, e)) (kept_of P q n))) (hand_past p P q formed past)

pub unanswered_past : (p : Plan) (P : List Step) (l : ℕ) → All (IsFormed p) P → lanes_of p ≤ l → unanswered P l ≡ []
unfolding unanswered
unanswered_past p P l formed past = ap (drop (length (answers P l))) (out_past p P l formed past) ∙ drop_all (length (answers P l)) [] (omega arith)

-- ---- what a step needs

-- the kept event waits for one that was handed out before it, or for its own
abbrev WaitsFor : Plan → List Step → ℕ → ℕ × Event → Type 0
WaitsFor p P q x = (is_ordered (queue_of p q).kind ≡ true) × ((m : ℕ) × Contains (upto x.0 (hand P q)) m × (is_answered P q m ≡ false))

kept_waits : (p : Plan) (P : List Step) (q : ℕ) (x : ℕ × Event) → is_waiting_for p P q x ≡ true → WaitsFor p P q x
kept_waits p P q x h =
    let parts = and_parts (is_ordered (queue_of p q).kind) (list_any (λ m. not (is_answered P q m)) (upto x.0 (hand P q))) h in
    let one = Any-from_list_any (λ m. not (is_answered P q m)) (upto x.0 (hand P q)) parts.1 in
    (parts.0, (one.1, (one.0, one.2, one.3), not-true (is_answered P q one.1) one.4))

settled_by : (p : Plan) (P : List Step) → All (IsFormed p) P → is_settled p P ≡ true → IsSettled p P
settled_by p P formed h q =
    ⊎_elim
    (λ there.
    let all = AllPass-from_list_all (λ r. list_all (is_waiting_for p P r) (kept P r)) (queues p) h in
    let here = at_number (λ r. list_all (is_waiting_for p P r) (kept P r) ≡ true) (length p.queues) q all there in
    All-weaker (λ x. is_waiting_for p P q x ≡ true) (WaitsFor p P q) (kept_waits p P q) (kept P q) (AllPass-from_list_all (is_waiting_for p P q) (kept P q) here))
    (λ past. All-same (WaitsFor p P q) (kept P q) [] (kept_past p P q formed past) (All-nil (WaitsFor p P q)))
    (cases_lt q (length p.queues))

-- each item of a list that passes
each_passes : {X : Type 0} (test : X → Bool) (P : X → Type 0) (xs : List X) → ((x : X) → test x ≡ true → P x) → list_all test xs ≡ true → All P xs
each_passes test P xs tells h = All-weaker (λ x. test x ≡ true) P tells xs (AllPass-from_list_all test xs h)

may_accept_of : (p : Plan) (P : List Step) (e : Event) (r n : ℕ) → pass (of_tests p P e r n) ≡ true → MayAcceptOf p P e r n
may_accept_of p P e r n h =
    let t = passed (of_tests p P e r n) h in
    record {
      origin = some_event e (slice_get (forwards P r n) (length (taken P r n))) (t 0 true (lit< tt));
      order = λ ordered.
          AllPass-from_list_all (λ m. has m (upto n (hand P r))) (sources P r) (implied (is_ordered (queue_of p r).kind) (list_all (λ m. has m (upto n (hand P r))) (sources P r)) (t 1 true (lit< tt)) ordered);
      answered = λ ordered.
          AllPass-from_list_all (is_answered P r) (upto n (hand P r)) (implied (is_ordered (queue_of p r).kind) (list_all (is_answered P r) (upto n (hand P r))) (t 2 true (lit< tt)) ordered);
      rises = λ atomic.
          each_passes (λ m. implies (keeps_with p P r m n) (nat_le m n)) (λ m. keeps_with p P r m n ≡ true → m ≤ n) (sources P r)
          (λ m test keeps. leb-true m n (implied (keeps_with p P r m n) (nat_le m n) test keeps))
          (implied (is_atomic (queue_of p r).kind) (list_all (λ m. implies (keeps_with p P r m n) (nat_le m n)) (sources P r)) (t 3 true (lit< tt)) atomic);
    }

-- no lane but l has anything of the slot
leaves : (p : Plan) (P : List Step) (l q slot : ℕ) → All (IsFormed p) P → list_all (leaves_slot p P l q slot) (lanes p) ≡ true → (m : ℕ) → m ≢ l → All (λ (y : Held). y.queue ≡ q → y.slot ≢ slot) (unanswered_slots p P m)
leaves p P l q slot formed h m other =
    ⊎_elim
    (λ there. each_passes (is_other_slot q slot) (λ (y : Held). y.queue ≡ q → y.slot ≢ slot) (unanswered_slots p P m)
    (λ y test same. eqb-false y.slot slot (not-true (y.slot == slot) (implied (y.queue == q) (not (y.slot == slot)) test (eq-eqb y.queue q same))))
    (or_left_false (m == l) (list_all (is_other_slot q slot) (unanswered_slots p P m)) (at_number (λ k. leaves_slot p P l q slot k ≡ true) (lanes_of p) m (AllPass-from_list_all (leaves_slot p P l q slot) (lanes p) h) there) (ne_eqb m l other)))
    (λ past. All-same (λ (y : Held). y.queue ≡ q → y.slot ≢ slot) (unanswered_slots p P m) [] (ap (map (held_at p P)) (unanswered_past p P m formed past)) (All-nil (λ (y : Held). y.queue ≡ q → y.slot ≢ slot)))
    (cases_lt m (lanes_of p))

may_give : (p : Plan) (P : List Step) (l q n : ℕ) (w : Numbered) → All (IsFormed p) P → Contains (waiting P q) w → pass (give_tests p P l q n w) ≡ true → MayGive p P l q w
may_give p P l q n w formed waits h =
    let t = passed (give_tests p P l q n w) h in
    record {
      once = waits;
      linked = t 1 true (lit< tt);
      room = ltb-true (length (unanswered P l)) (depth_of p l) (t 2 true (lit< tt));
      places = λ ordered.
          ltb-true (length (open_of P q)) (queue_of p q).order (implied (is_ordered (queue_of p q).kind) (nat_lt (length (open_of P q)) (queue_of p q).order) (t 3 true (lit< tt)) ordered);
      flow = each_passes (lets_pass p q w) (λ (v : Numbered). v.number < w.number → keeps_order p q v.event w.event ≡ false) (waiting P q)
          (λ v test before. not-true (keeps_order p q v.event w.event) (implied (nat_lt v.number w.number) (not (keeps_order p q v.event w.event)) test (lt-ltb v.number w.number before)))
          (t 4 true (lit< tt));
      alone = λ atomic.
          leaves p P l q (slot_of p q w.event.flow) formed (implied (is_atomic (queue_of p q).kind) (list_all (leaves_slot p P l q (slot_of p q w.event.flow)) (lanes p)) (t 5 true (lit< tt)) atomic);
    }

may_give_number : (p : Plan) (P : List Step) (l q n : ℕ) → All (IsFormed p) P → list_any (λ (w : Numbered). pass (give_tests p P l q n w)) (waiting P q) ≡ true → MayGiveNumber p P l q n
may_give_number p P l q n formed h =
    let one = Any-from_list_any (λ (w : Numbered). pass (give_tests p P l q n w)) (waiting P q) h in
    (one.1, eqb-true one.1.number n (passed (give_tests p P l q n one.1) one.4 0 true (lit< tt)), may_give p P l q n one.1 formed (one.0, one.2, one.3) one.4)

needs_met : (p : Plan) (P : List Step) (s : Step) → All (IsFormed p) P → pass (need_tests p P s) ≡ true → Needs p P s
needs_met p P (Accept q e (New l)) formed h =
    let t = passed (need_tests p P (Accept q e (New l))) h in
    record { closed = not-true (has_shut P) (t 0 true (lit< tt)); room = ltb-true (inside p P) (bound_of p) (t 1 true (lit< tt)) }
needs_met p P (Accept q e (Of r n)) formed h = may_accept_of p P e r n h
needs_met p P (Give l q n) formed h = may_give_number p P l q n formed (passed (need_tests p P (Give l q n)) h 0 true (lit< tt))
needs_met p P (Done l o) formed h = ltb-true 0 (length (unanswered P l)) (passed (need_tests p P (Done l o)) h 0 true (lit< tt))
needs_met p P (More l e) formed h =
    let t = passed (need_tests p P (More l e)) h in
    record {
      beside = ltb-true 0 (length (unanswered P l)) (t 0 true (lit< tt));
      few = ltb-true (length (extras P l)) MAX_EXTRAS (t 1 true (lit< tt));
      room = ltb-true (inside p P) (bound_of p) (t 2 true (lit< tt));
    }
needs_met p P (Turned l e) formed h = passed (need_tests p P (Turned l e)) h 0 true (lit< tt)
needs_met p P (Bounced l) formed h = tt
needs_met p P Shut formed h = not-true (has_shut P) (passed (need_tests p P Shut) h 0 true (lit< tt))

-- ---- the whole

step_allowed : (p : Plan) (P : List Step) (s : Step) → All (IsFormed p) P → pass (step_tests p P s) ≡ true → Allowed p P s
step_allowed p P s formed h =
    let t = passed (step_tests p P s) h in
    record {
      formed = step_formed p s (t 0 true (lit< tt));
      prompt = λ no_forward. settled_by p P formed (or_left_false (is_from_of s) (is_settled p P) (t 1 true (lit< tt)) no_forward);
      needs = needs_met p P s formed (t 2 true (lit< tt));
    }

-- the steps after some others, and the end
steps_sound : (p : Plan) (past T : List Step) → All (IsFormed p) past → is_allowed_after p past T ≡ true → AllowedAfter p past T × IsSettled p (past ++ T)
steps_sound p past [] formed h = (tt, rw append-nil (settled_by p past formed h))
steps_sound p past (s ∷ rest) formed h =
    let parts = and_parts (pass (step_tests p past s)) (is_allowed_after p (past ++ s ∷ []) rest) h in
    let allowed = step_allowed p past s formed parts.0 in
    let then = steps_sound p (past ++ s ∷ []) rest (All-push (IsFormed p) past s formed allowed.formed) parts.1 in
    ((allowed, then.0), rw (← append_assoc past (s ∷ []) rest) then.1)

pub StepsLawful-test : (p : Plan) (T : List Step) → is_lawful p T ≡ true → StepsLawful p T
StepsLawful-test p T h =
    let whole = steps_sound p [] T (All-nil (IsFormed p)) h in record { steps = whole.0; end = whole.1 }
