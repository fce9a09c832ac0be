-- From which events those of a queue come: the first queue's from the trace, any other's from the answers to the queue's before it.
use Rattle.std.proofs.Common.{◌≡◌, ℕ, suc, zero, ◌+◌, Bool, true, false, cond, ◌==◌, List, [], ◌∷◌, length, map, filter_map, All, Contains, Option, Some, None, ◌⊎◌, inl, inr, refl, sym, ap, ◌∙◌, subst, arith, nat_lt}
use Rattle.std.proofs.lemmas.Bool.{cases_Bool, false≢true, cond-true, cond-false}
use Rattle.std.proofs.lemmas.List.Elements.{All-contains, All-contains_itself, All-weaker}
use Rattle.std.proofs.lemmas.Option.{none-some}
use Rattle.evt_types.specs.Event.{forwarded_event}
use Rattle.evt_types.specs.Plan.{Plan, level_of}
use Rattle.evt_types.specs.declared.event.Event.{Event}
use Rattle.evt_types.specs.declared.step.Outcome.{Outcome}
use Rattle.evt_types.specs.declared.step.Outcome.TheVariants.{Forwarded, Released}
use Rattle.evt_types.specs.declared.step.Source.TheVariants.{New, Of}
use Rattle.evt_types.specs.declared.step.Step.{Step}
use Rattle.evt_types.specs.declared.step.Step.TheVariants.{Accept, Give, Done, More, Turned, Bounced, Shut}
use Rattle.lists.proofs.Lists.{eqb_is, eqb_other, eqb_same, filter_map-agree}
use Rattle.lists.proofs.Parts.{then, filter_map_twice}
use Rattle.pipeline_laws.proofs.Finished.{Through, accepted_is_due}
use Rattle.pipeline_laws.proofs.Members.{into_filter_map}
use Rattle.pipeline_laws.specs.Pipeline.{acted}
use Rattle.pipeline_laws.specs.Worked.{action_of, answer_at, answer_to, due, new_event, new_in, newcomers, sent_on}
use Rattle.pipeline_laws.specs.declared.stage.Action.{Action}
use Rattle.pipeline_laws.specs.declared.stage.Entry.{Entry}
use Rattle.transcripts.specs.Lawful.{IsFormed, IsForwardEntry, IsNewEntry, Lawful}
use Rattle.transcripts.specs.Transcript.{accepted, accepted_in, event_at, source_in, sources}

-- ---- where an event goes

-- what an answer forwards
abbrev pub forward_in : Outcome → Option Event
forward_in (Forwarded e) = Some e
forward_in Released = None

pub forward_is : (o : Outcome) (e : Event) → forward_in o ≡ Some e → o ≡ Forwarded e
forward_is (Forwarded d) e h = cc
forward_is Released e h = absurd (none-some e h)

-- a forwarded event is on its way to the next queue, and of the flow and level of what it answers
pub record GoesOn (q : ℕ) (d e : Event) : Type 0 where
  pub queue : e.queue ≡ q + 1
  pub flow : e.flow ≡ d.flow
  pub level : level_of e ≡ level_of d

goes_on : (actions : List Action) (q : ℕ) (d e : Event) → answer_at actions q d ≡ Forwarded e → GoesOn q d e
goes_on actions q d e h = by_test (nat_lt (q + 1) (length actions)) h
  where
    by_payload : (o : Option ℕ) → sent_on q d o ≡ Forwarded e → GoesOn q d e
    by_payload None i = cc
    by_payload (Some n) i =
        let same : forwarded_event d (q + 1) n ≡ e = cc in
        record {
          queue = sym (ap (λ (x : Event). x.queue) same);
          flow = sym (ap (λ (x : Event). x.flow) same);
          level = sym (ap level_of same);
        }

    by_test : (b : Bool) → cond b (sent_on q d (acted (action_of actions q) d.payload)) Released ≡ Forwarded e → GoesOn q d e
    by_test true i = by_payload (acted (action_of actions q) d.payload) i
    by_test false i = cc

-- the event that is forwarded to the next queue from a number
abbrev pub next_of : List Action → List Step → ℕ → ℕ → Option Event
next_of actions T k n = forward_in (due actions T (k, n))

-- it answers an event
pub next_answers : (actions : List Action) (T : List Step) (q n : ℕ) (e : Event) → due actions T (q, n) ≡ Forwarded e → (d : Event) × (event_at T q n ≡ Some d) × GoesOn q d e
next_answers actions T q n e h = by_event (event_at T q n) refl h
  where
    by_event : (o : Option Event) → event_at T q n ≡ o → answer_to actions q o ≡ Forwarded e → (d : Event) × (event_at T q n ≡ Some d) × GoesOn q d e
    by_event None is i = cc
    by_event (Some d) is i = (d, is, goes_on actions q d e i)

-- ---- from which events a queue's come

-- an event that came in is for the first queue
new_queue : (p : Plan) (actions : List Action) (trace : List Entry) (T : List Step) (q : ℕ) (e : Event) (l : ℕ) → Lawful p T → Through p actions trace T
    → Contains T (Accept q e (New l)) → q ≡ 0
unfolding newcomers
new_queue p actions trace T q e l lawful t there =
    let formed : IsNewEntry p q e l = All-contains (IsFormed p) T (Accept q e (New l)) lawful.formed there in
    let came : Contains (map new_event trace) e = subst (λ es. Contains es e) t.news (into_filter_map new_in T (Accept q e (New l)) e there refl) in
    sym formed.entry.named ∙ All-contains (λ (d : Event). d.queue ≡ 0) (map new_event trace) e (first trace) came
  where
    first : (ts : List Entry) → All (λ (d : Event). d.queue ≡ 0) (map new_event ts)
    first [] k d lt = absurd (omega arith)
    first (u ∷ us) zero d lt = refl
    first (u ∷ us) (suc k) d lt = first us k d (omega arith)

-- one that was accepted from a number is for the queue after that number's
of_queue : (p : Plan) (actions : List Action) (trace : List Entry) (T : List Step) (q : ℕ) (e : Event) (r n : ℕ) → Lawful p T → Through p actions trace T
    → Contains T (Accept q e (Of r n)) → q ≡ r + 1
of_queue p actions trace T q e r n lawful t there =
    let formed : IsForwardEntry p q e r = All-contains (IsFormed p) T (Accept q e (Of r n)) lawful.formed there in
    sym formed.entry.named ∙ (next_answers actions T r n e (accepted_is_due p actions trace T q e r n t there)).2.queue

pub accepted_first : (p : Plan) (actions : List Action) (trace : List Entry) (T : List Step) → Lawful p T → Through p actions trace T → accepted T 0 ≡ newcomers T
unfolding accepted newcomers
accepted_first p actions trace T lawful t =
    filter_map-agree (accepted_in 0) new_in T (All-weaker (Contains T) (λ s. accepted_in 0 s ≡ new_in s) by_step T (All-contains_itself T))
  where
    by_step : (s : Step) → Contains T s → accepted_in 0 s ≡ new_in s
    by_step (Accept q e (New l)) there = cond-true (q == 0) (Some e) None (ap (λ m. m == 0) (new_queue p actions trace T q e l lawful t there))
    by_step (Accept q e (Of r n)) there =
        let after : q ≡ r + 1 = of_queue p actions trace T q e r n lawful t there in
        cond-false (q == 0) (Some e) None (eqb_other q 0 (λ same. omega arith))
    by_step (Give l q n) there = refl
    by_step (Done l o) there = refl
    by_step (More l e) there = refl
    by_step (Turned l e) there = refl
    by_step (Bounced l) there = refl
    by_step Shut there = refl

pub accepted_next : (p : Plan) (actions : List Action) (trace : List Entry) (T : List Step) (k : ℕ) → Lawful p T → Through p actions trace T
    → accepted T (k + 1) ≡ filter_map (next_of actions T k) (sources T k)
unfolding accepted sources
accepted_next p actions trace T k lawful t =
    filter_map-agree (accepted_in (k + 1)) (λ s. then (next_of actions T k) (source_in k s)) T
    (All-weaker (Contains T) (λ s. accepted_in (k + 1) s ≡ then (next_of actions T k) (source_in k s)) by_step T (All-contains_itself T))
    ∙ sym (filter_map_twice (next_of actions T k) (source_in k) T)
  where
    by_step : (s : Step) → Contains T s → accepted_in (k + 1) s ≡ then (next_of actions T k) (source_in k s)
    by_step (Accept q e (New l)) there =
        let first : q ≡ 0 = new_queue p actions trace T q e l lawful t there in
        cond-false (q == k + 1) (Some e) None (eqb_other q (k + 1) (λ same. omega arith))
    by_step (Accept q e (Of r n)) there = by_queue (cases_Bool (r == k))
      where
        after : q ≡ r + 1
        after = of_queue p actions trace T q e r n lawful t there

        by_queue : ((r == k) ≡ true) ⊎ ((r == k) ≡ false) → accepted_in (k + 1) (Accept q e (Of r n)) ≡ then (next_of actions T k) (source_in k (Accept q e (Of r n)))
        by_queue (inl same) =
            let here : r ≡ k = eqb_is r k same in
            let next : q ≡ k + 1 = omega (arith, after) in
            cond-true (q == k + 1) (Some e) None (ap (λ m. m == k + 1) next ∙ eqb_same (k + 1))
            ∙ sym (ap (then (next_of actions T k)) (cond-true (r == k) (Some n) None same)
            ∙ (ap (λ m. next_of actions T m n) (sym here) ∙ ap forward_in (accepted_is_due p actions trace T q e r n t there)))
        by_queue (inr other) =
            cond-false (q == k + 1) (Some e) None (eqb_other q (k + 1) (λ same. apart (omega (arith, after))))
            ∙ sym (ap (then (next_of actions T k)) (cond-false (r == k) (Some n) None other))
          where
            apart : r ≡ k → ⊥
            apart same = false≢true (sym other ∙ (ap (λ m. m == k) same ∙ eqb_same k))
    by_step (Give l q n) there = refl
    by_step (Done l o) there = refl
    by_step (More l e) there = refl
    by_step (Turned l e) there = refl
    by_step (Bounced l) there = refl
    by_step Shut there = refl
