-- From what threads promise of their ports to what the transcript shows: the answers are due, no event was added, and the trace came in
-- first.
use Rattle.std.proofs.Common.{◌≡◌, ℕ, zero, suc, ◌<◌, ◌≤◌, Bool, true, false, cond, ◌==◌, List, [], ◌∷◌, ◌++◌, map, filter_map, get_or, All, Contains, Option, Some, None, ◌⊎◌, inl, inr, ⊎_elim, refl, sym, ap, ◌∙◌, subst, arith, append-nil}
use Rattle.std.specs.List.{cons_option}
use Rattle.std.proofs.lemmas.Bool.{cases_eq, cases_lt, false≢true, cond-true, cond-false}
use Rattle.std.proofs.lemmas.List.Elements.{All-contains, All-contains_itself, All-head, All-map, All-tail, All-weaker, Contains-append_left, filter_map-append}
use Rattle.std.proofs.lemmas.Option.{none-some}
use Rattle.evt_types.specs.Event.{pair_of}
use Rattle.evt_types.specs.Operation.{is_more_op, is_new_op, is_new_reply}
use Rattle.evt_types.specs.Plan.{Plan, lanes_of}
use Rattle.evt_types.specs.declared.event.Delivery.{Delivery}
use Rattle.evt_types.specs.declared.event.Event.{Event}
use Rattle.evt_types.specs.declared.event.Op.{Op}
use Rattle.evt_types.specs.declared.event.Op.TheVariants as ops
use Rattle.evt_types.specs.declared.event.Reply.{Reply}
use Rattle.evt_types.specs.declared.step.Outcome.{Outcome}
use Rattle.evt_types.specs.declared.step.Outcome.TheVariants.{Forwarded, Released}
use Rattle.evt_types.specs.declared.step.Source.TheVariants.{New, Of}
use Rattle.evt_types.specs.declared.step.Step.{Step}
use Rattle.evt_types.specs.declared.step.Step.TheVariants.{Accept, Give, Done, More, Turned, Bounced, Shut}
use Rattle.lists.proofs.Lists.{All-front, eqb_other, eqb_same, filter_map-agree, filter_map-none}
use Rattle.lists.proofs.Parts.{then, filter_map_twice}
use Rattle.pipeline_laws.proofs.Members.{into_filter_map, prefix_filter_map, prefix_map, prefix_then}
use Rattle.pipeline_laws.specs.Promises.{IsLane, IsProducer, IsWorker, KeepPromises, OthersSayNoNew, PortLists, said_new, said_outcome, said_to}
use Rattle.pipeline_laws.specs.Worked.{AnswersAreDue, IsWorked, answer_at, answer_to, due, new_event, new_in, newcomers}
use Rattle.pipeline_laws.specs.declared.stage.Action.{Action}
use Rattle.pipeline_laws.specs.declared.stage.Entry.{Entry}
use Rattle.transcripts.proofs.Whole.{Known-allowed, steps-Lawful}
use Rattle.transcripts.specs.Lawful.{IsAddition, IsFormed, IsNewEntry, IsPrefix, Lawful, since_shut, until_shut}
use Rattle.transcripts.specs.Laws.{AddsNone}
use Rattle.transcripts.specs.Replies.{Said, replies_in, said, said_by, said_in}
use Rattle.transcripts.specs.Transcript.{answer_of, answers, event_at, is_more, is_new, is_shut, is_turned, out}

-- ---- what is said, as an answer and as a NEW

-- the answer that is said, if it is one
abbrev outcome_by : Op → Option Event → Option Outcome
outcome_by ops.New o = None
outcome_by ops.Forward None = None
outcome_by ops.Forward (Some e) = Some (Forwarded e)
outcome_by ops.Release o = Some Released
outcome_by ops.ForwardMore o = None

abbrev outcome_said : Said → Option Outcome
outcome_said x = outcome_by x.op x.event

-- the new event that is said, if it is one
abbrev new_by : Op → Option Event → Option Event
new_by ops.New o = o
new_by ops.Forward o = None
new_by ops.Release o = None
new_by ops.ForwardMore o = None

abbrev new_said : Said → Option Event
new_said x = new_by x.op x.event

-- what a lane answered is what it said as answers
answers_said : (T : List Step) (l : ℕ) → answers T l ≡ filter_map outcome_said (replies_in T l)
unfolding answers replies_in
answers_said T l =
    filter_map-agree (answer_of l) (λ s. then outcome_said (said_in l s)) T (λ k d lt. by_step (get_or T k d)) ∙ sym (filter_map_twice outcome_said (said_in l) T)
  where
    one : (b : Bool) (o : Outcome) → cond b (Some o) None ≡ then outcome_said (cond b (Some (said_outcome o)) None)
    one true (Forwarded e) = refl
    one true Released = refl
    one false o = refl

    no_answer : (b : Bool) (x : Said) → outcome_said x ≡ None → ◌≡◌ {A = Option Outcome} None (then outcome_said (cond b (Some x) None))
    no_answer true x h = sym h
    no_answer false x h = refl

    by_step : (s : Step) → answer_of l s ≡ then outcome_said (said_in l s)
    by_step (Accept q e (New m)) = no_answer (m == l) (said_by ops.New e) refl
    by_step (Done m (Forwarded e)) = one (m == l) (Forwarded e)
    by_step (Done m Released) = one (m == l) Released
    by_step (More m e) = no_answer (m == l) (said_by ops.ForwardMore e) refl
    by_step (Turned m e) = no_answer (m == l) (said_by ops.New e) refl
    by_step s = refl

-- a lane that isn't there answers nothing
no_lane_answers : (p : Plan) (T : List Step) (l : ℕ) → Lawful p T → lanes_of p ≤ l → answers T l ≡ []
unfolding answers
no_lane_answers p T l lawful past = filter_map-none (answer_of l) T (All-weaker (IsFormed p) (λ s. answer_of l s ≡ None) by_step T lawful.formed)
  where
    by_step : (s : Step) → IsFormed p s → answer_of l s ≡ None
    by_step (Accept q e s) formed = refl
    by_step (Give m q n) formed = refl
    by_step (Done m o) formed =
        let lane : m < lanes_of p = formed.0 in
        ⊎_elim (λ same. absurd (omega arith)) (λ other. cond-false (m == l) (Some o) None (eqb_other m l other)) (cases_eq m l)
    by_step (More m e) formed = refl
    by_step (Turned m e) formed = refl
    by_step (Bounced m) formed = refl
    by_step Shut formed = refl

-- ---- the answers

-- a front of NEWs has no answer
producer_answers : (trace : List Entry) (xs : List Said) → IsPrefix xs (map said_new trace) → filter_map outcome_said xs ≡ []
producer_answers trace xs front =
    filter_map-none outcome_said xs
    (All-front (λ x. outcome_said x ≡ None) xs front.0 (subst (All (λ x. outcome_said x ≡ None)) (sym front.1)
    (All-map (λ x. outcome_said x ≡ None) said_new trace (λ k d lt. refl))))

-- what a worker is to say is due to the pair
said_is_due : (actions : List Action) (T : List Step) (ds : List Delivery) → All (λ (d : Delivery). event_at T d.queue d.number ≡ Some d.event) ds
    → filter_map outcome_said (map (said_to actions) ds) ≡ map (due actions T) (map pair_of ds)
said_is_due actions T [] events = refl
said_is_due actions T (d ∷ ds) events =
    ap (λ o. cons_option o (filter_map outcome_said (map (said_to actions) ds))) (again (answer_at actions d.queue d.event))
    ∙ (ap (λ o. o ∷ filter_map outcome_said (map (said_to actions) ds)) (sym (ap (answer_to actions d.queue) (All-head Stands d ds events)))
    ∙ ap (λ os. due actions T (pair_of d) ∷ os) (said_is_due actions T ds (All-tail Stands d ds events)))
  where
    Stands : Delivery → Type 0
    Stands e = event_at T e.queue e.number ≡ Some e.event

    again : (o : Outcome) → outcome_said (said_outcome o) ≡ Some o
    again (Forwarded e) = refl
    again Released = refl

-- the answers of a lane whose holder is a worker
worker_answers : (actions : List Action) (T : List Step) (l : ℕ) (a : PortLists) → IsLane T l a → IsWorker actions a
    → IsPrefix (answers T l) (map (due actions T) (out T l))
worker_answers actions T l a lane worker =
    subst (λ os. IsPrefix os (map (due actions T) (out T l))) (sym (answers_said T l))
    (prefix_then (filter_map outcome_said (replies_in T l)) (map (due actions T) (map pair_of a.received)) (map (due actions T) (out T l))
    (subst (IsPrefix (filter_map outcome_said (replies_in T l))) (said_is_due actions T a.received lane.events)
    (prefix_filter_map outcome_said (replies_in T l) (map (said_to actions) a.received)
    (prefix_then (replies_in T l) (map said a.submitted) (map (said_to actions) a.received) lane.taken worker)))
    (prefix_map (due actions T) (map pair_of a.received) (out T l) lane.received))

promised_answers : (p : Plan) (actions : List Action) (trace : List Entry) (T : List Step) (ports : ℕ → PortLists) → Lawful p T
    → ((l : ℕ) → IsLane T l (ports l)) → KeepPromises p actions trace ports → AnswersAreDue actions T
promised_answers p actions trace T ports lawful are promises l = by_lane l (are l) (cases_lt l (lanes_of p))
  where
    none : (m : ℕ) → answers T m ≡ [] → IsPrefix (answers T m) (map (due actions T) (out T m))
    none m e = (map (due actions T) (out T m), ap (λ os. os ++ map (due actions T) (out T m)) e)

    by_lane : (m : ℕ) → IsLane T m (ports m) → (m < lanes_of p) ⊎ (lanes_of p ≤ m) → IsPrefix (answers T m) (map (due actions T) (out T m))
    by_lane m lane (inr past) = none m (no_lane_answers p T m lawful past)
    by_lane zero lane (inl lt) =
        none 0 (answers_said T 0 ∙ producer_answers trace (replies_in T 0)
        (prefix_then (replies_in T 0) (map said (ports 0).submitted) (map said_new trace) lane.taken promises.producer))
    by_lane (suc m) lane (inl lt) = worker_answers actions T (suc m) (ports (suc m)) lane (promises.workers (suc m) (omega arith) lt)

-- ---- what was added

-- what is said is no FORWARD_MORE
abbrev SaysNoMore : Said → Type 0
SaysNoMore x = is_more_op x.op ≡ false

-- where no lane says one, no event is added
says_none_adds_none : (p : Plan) (T : List Step) → Lawful p T → ((l : ℕ) → l < lanes_of p → All SaysNoMore (replies_in T l)) → AddsNone T
unfolding replies_in
says_none_adds_none p T lawful says = All-weaker (Contains T) (λ s. is_more s ≡ false) by_step T (All-contains_itself T)
  where
    by_step : (s : Step) → Contains T s → is_more s ≡ false
    by_step (Accept q e s) there = refl
    by_step (Give l q n) there = refl
    by_step (Done l o) there = refl
    by_step (More l e) there =
        let formed : (l < lanes_of p) × IsAddition p e = All-contains (IsFormed p) T (More l e) lawful.formed there in
        All-contains SaysNoMore (replies_in T l) (said_by ops.ForwardMore e) (says l formed.0)
        (into_filter_map (said_in l) T (More l e) (said_by ops.ForwardMore e) there (cond-true (l == l) (Some (said_by ops.ForwardMore e)) None (eqb_same l)))
    by_step (Turned l e) there = refl
    by_step (Bounced l) there = refl
    by_step Shut there = refl

promised_adds : (p : Plan) (actions : List Action) (trace : List Entry) (T : List Step) (ports : ℕ → PortLists) → Lawful p T
    → ((l : ℕ) → IsLane T l (ports l)) → KeepPromises p actions trace ports → AddsNone T
promised_adds p actions trace T ports lawful are promises = says_none_adds_none p T lawful by_lane
  where
    front : (l : ℕ) (xs : List Said) → IsPrefix (map said (ports l).submitted) xs → All SaysNoMore xs → All SaysNoMore (replies_in T l)
    front l xs promised all =
        let says = prefix_then (replies_in T l) (map said (ports l).submitted) xs (are l).taken promised in
        All-front SaysNoMore (replies_in T l) says.0 (subst (All SaysNoMore) (sym says.1) all)

    answers_none : (o : Outcome) → is_more_op (said_outcome o).op ≡ false
    answers_none (Forwarded e) = refl
    answers_none Released = refl

    by_lane : (l : ℕ) → l < lanes_of p → All SaysNoMore (replies_in T l)
    by_lane zero lt =
        front 0 (map said_new trace) promises.producer (All-map SaysNoMore said_new trace (λ k d within. refl))
    by_lane (suc l) lt =
        front (suc l) (map (said_to actions) (ports (suc l)).received) (promises.workers (suc l) (omega arith) lt)
        (All-map SaysNoMore (said_to actions) (ports (suc l)).received
        (λ k d within. answers_none (answer_at actions (get_or (ports (suc l)).received k d).queue (get_or (ports (suc l)).received k d).event)))

-- ---- what came in

-- the transcript says no NEW of a lane but the first
abbrev NewsAreFirst : Plan → List Step → Type 0
NewsAreFirst p T = (l : ℕ) → 0 < l → l < lanes_of p → All (λ x. new_said x ≡ None) (replies_in T l)

new_lane : (p : Plan) (T : List Step) (q : ℕ) (e : Event) (l : ℕ) → Lawful p T → NewsAreFirst p T → Contains T (Accept q e (New l)) → l ≡ 0
unfolding lanes_of replies_in
new_lane p T q e l lawful first there = by_lane l there refl
  where
    by_lane : (m : ℕ) → Contains T (Accept q e (New m)) → m ≡ l → l ≡ 0
    by_lane zero here is = sym is
    by_lane (suc m) here is =
        let formed : IsNewEntry p q e (suc m) = All-contains (IsFormed p) T (Accept q e (New (suc m))) lawful.formed here in
        let says = into_filter_map (said_in (suc m)) T (Accept q e (New (suc m))) (said_by ops.New e) here
        (cond-true (suc m == suc m) (Some (said_by ops.New e)) None (eqb_same (suc m))) in
        absurd (none-some e (sym (All-contains (λ x. new_said x ≡ None) (replies_in T (suc m)) (said_by ops.New e)
        (first (suc m) (omega arith) (omega (arith, formed.lane))) says)))

-- the steps before the first Shut, and the rest, of which nothing came in
shut_split : (T : List Step) → All (λ s. is_new s ≡ false) (since_shut T) → (rest : List Step) × (until_shut T ++ rest ≡ T) × (newcomers rest ≡ [])
unfolding newcomers
shut_split [] closed = ([], refl, refl)
shut_split (s ∷ T) closed = by_test (is_shut s) refl closed (shut_split T)
  where
    not_new : (t : Step) → is_new t ≡ false → new_in t ≡ None
    not_new (Accept q e (New l)) h = absurd (false≢true (sym h))
    not_new s h = refl

    shut_not_new : (t : Step) → is_shut t ≡ true → new_in t ≡ None
    shut_not_new Shut h = refl
    shut_not_new s h = absurd (false≢true h)

    by_test : (b : Bool) → is_shut s ≡ b → All (λ t. is_new t ≡ false) (cond b T (since_shut T))
        → (All (λ t. is_new t ≡ false) (since_shut T) → (rest : List Step) × (until_shut T ++ rest ≡ T) × (newcomers rest ≡ []))
        → (rest : List Step) × (cond b [] (s ∷ until_shut T) ++ rest ≡ s ∷ T) × (newcomers rest ≡ [])
    by_test true is all more = (
      s ∷ T,
      refl,
      ap (λ o. cons_option o (filter_map new_in T)) (shut_not_new s is)
          ∙ filter_map-none new_in T (All-weaker (λ t. is_new t ≡ false) (λ t. new_in t ≡ None) not_new T all),
    )
    by_test false is all more = let later = more all in (later.0, ap (λ ys. s ∷ ys) later.1, later.2)

-- what came in is what lane 0 said as NEWs before the first Shut
front_news : (p : Plan) (T front rest : List Step) → Lawful p T → NewsAreFirst p T → front ++ rest ≡ T → All (λ s. is_turned s ≡ false) front
    → newcomers front ≡ filter_map new_said (replies_in front 0)
unfolding newcomers replies_in
front_news p T front rest lawful first split unturned =
    filter_map-agree new_in (λ s. then new_said (said_in 0 s)) front
    (λ k d lt. by_step (get_or front k d) (subst (λ ys. Contains ys (get_or front k d)) split (Contains-append_left front rest (get_or front k d) (All-contains_itself front k d lt)))
    (unturned k d lt))
    ∙ sym (filter_map_twice new_said (said_in 0) front)
  where
    none : (b : Bool) (x : Said) → new_said x ≡ None → ◌≡◌ {A = Option Event} None (then new_said (cond b (Some x) None))
    none true x h = sym h
    none false x h = refl

    by_step : (s : Step) → Contains T s → is_turned s ≡ false → new_in s ≡ then new_said (said_in 0 s)
    by_step (Accept q e (New l)) there h =
        let test : (l == 0) ≡ true = ap (λ m. m == 0) (new_lane p T q e l lawful first there) in
        sym (ap (then new_said) (cond-true (l == 0) (Some (said_by ops.New e)) None test))
    by_step (Done l (Forwarded e)) there h = none (l == 0) (said_outcome (Forwarded e)) refl
    by_step (Done l Released) there h = none (l == 0) (said_outcome Released) refl
    by_step (More l e) there h = none (l == 0) (said_by ops.ForwardMore e) refl
    by_step (Turned l e) there h = absurd (false≢true (sym h))
    by_step s there h = refl

news_of_trace : (trace : List Entry) → filter_map new_said (map said_new trace) ≡ map new_event trace
news_of_trace [] = refl
news_of_trace (t ∷ trace) = ap (λ es. new_event t ∷ es) (news_of_trace trace)

first_news : (p : Plan) (trace : List Entry) (T : List Step) (xs : List Said) → Lawful p T → NewsAreFirst p T → IsPrefix (replies_in T 0) xs
    → IsPrefix xs (map said_new trace) → IsPrefix (newcomers T) (map new_event trace)
unfolding newcomers replies_in
first_news p trace T xs lawful first taken producer =
    let closed = (Known-allowed p T (steps-Lawful p T lawful).steps).closed in
    let split = shut_split T closed.no_new in
    let front : List Step = until_shut T in
    let whole : newcomers T ≡ filter_map new_said (replies_in front 0) =
    ap newcomers (sym split.1) ∙ (filter_map-append new_in front split.0 ∙ (ap (λ es. newcomers front ++ es) split.2
    ∙ (append-nil (newcomers front) ∙ front_news p T front split.0 lawful first split.1 closed.no_turned))) in
    let said_first : IsPrefix (replies_in front 0) (replies_in T 0) =
    (replies_in split.0 0, sym (filter_map-append (said_in 0) front split.0) ∙ ap (λ U. replies_in U 0) split.1) in
    subst (λ es. IsPrefix es (map new_event trace)) (sym whole)
    (subst (IsPrefix (filter_map new_said (replies_in front 0))) (news_of_trace trace)
    (prefix_filter_map new_said (replies_in front 0) (map said_new trace)
    (prefix_then (replies_in front 0) (replies_in T 0) (map said_new trace) said_first (prefix_then (replies_in T 0) xs (map said_new trace) taken producer))))

-- ---- the laws

pub promised_first : (p : Plan) (trace : List Entry) (T : List Step) (ports : ℕ → PortLists) → Lawful p T
    → ((l : ℕ) → IsPrefix (replies_in T l) (map said (ports l).submitted)) → IsProducer trace (ports 0) → OthersSayNoNew p ports
    → IsPrefix (newcomers T) (map new_event trace)
promised_first p trace T ports lawful taken producer others =
    first_news p trace T (map said (ports 0).submitted) lawful
    (λ l pos lt. All-front (λ x. new_said x ≡ None) (replies_in T l) (taken l).0
    (subst (All (λ x. new_said x ≡ None)) (sym (taken l).1)
    (All-map (λ x. new_said x ≡ None) said (ports l).submitted
    (All-weaker (λ (r : Reply). is_new_reply r ≡ false) (λ r. new_said (said r) ≡ None) (λ r h. no_new r.event.op r.event h) (ports l).submitted (others l pos lt)))))
    (taken 0) producer
  where
    no_new : (o : Op) (e : Event) → is_new_op o ≡ false → new_said (said_by o e) ≡ None
    no_new ops.New e h = absurd (false≢true (sym h))
    no_new ops.Forward e h = refl
    no_new ops.Release e h = refl
    no_new ops.ForwardMore e h = refl

pub promised_worked : (p : Plan) (actions : List Action) (trace : List Entry) (T : List Step) (ports : ℕ → PortLists) → Lawful p T
    → ((l : ℕ) → IsLane T l (ports l)) → KeepPromises p actions trace ports → IsWorked actions trace T
promised_worked p actions trace T ports lawful are promises = record {
  answers = promised_answers p actions trace T ports lawful are promises;
  adds_none = promised_adds p actions trace T ports lawful are promises;
  newcomers =
      first_news p trace T (map said (ports 0).submitted) lawful
      (λ l pos lt. let front = prefix_then (replies_in T l) (map said (ports l).submitted) (map (said_to actions) (ports l).received) (are l).taken (promises.workers l pos lt) in
      All-front (λ x. new_said x ≡ None) (replies_in T l) front.0
      (subst (All (λ x. new_said x ≡ None)) (sym front.1)
      (All-map (λ x. new_said x ≡ None) (said_to actions) (ports l).received (λ k d within. no_new (answer_at actions (get_or (ports l).received k d).queue (get_or (ports l).received k d).event)))))
      (are 0).taken promises.producer;
}
  where
    no_new : (o : Outcome) → new_said (said_outcome o) ≡ None
    no_new (Forwarded e) = refl
    no_new Released = refl
