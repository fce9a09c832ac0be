-- Stage by stage: what a finished run accepted is what the actions make of what was accepted before.
use Rattle.std.proofs.Common.{◌≡◌, ℕ, suc, zero, ◌+◌, ◌<◌, Bool, true, false, cond, ◌&&◌, ◌==◌, List, [], ◌∷◌, ◌++◌, length, map, take, filter, filter_map, get_or, AllPairs, Contains, Option, Some, None, ⊎_elim, refl, sym, ap, ◌∙◌, subst, arith, nat_lt}
use Rattle.std.specs.List.{cons_option, range_with_len}
use Rattle.std.proofs.lemmas.Bool.{false≢true, lt-ltb, or_cases, cond-true}
use Rattle.std.proofs.lemmas.List.Elements.{All-contains}
use Rattle.std.proofs.lemmas.List.Kept.{AllPairs-filter}
use Rattle.std.proofs.lemmas.Option.{slice_get-get_or}
use Rattle.evt_types.specs.Plan.{Plan, queue_of, level_of, is_atomic, is_ordered}
use Rattle.evt_types.specs.declared.event.Event.{Event}
use Rattle.evt_types.specs.declared.step.Outcome.TheVariants.{Released}
use Rattle.evt_types.specs.declared.step.Source.TheVariants.{Of}
use Rattle.evt_types.specs.declared.step.Step.{Step}
use Rattle.evt_types.specs.declared.step.Step.TheVariants.{Accept}
use Rattle.lists.specs.Lists.{has}
use Rattle.lists.proofs.Filters.{passes, was_there, passing, tested_by, filter-filter_map, filter_map-filter}
use Rattle.lists.proofs.Lists.{Contains-filter, filter_map-agree}
use Rattle.lists.proofs.Parts as parts
use Rattle.lists.proofs.Parts.{then, filter_map_twice, take_next}
use Rattle.pipeline_laws.proofs.Comings.{forward_in, forward_is, next_of, next_answers, accepted_first, accepted_next}
use Rattle.pipeline_laws.proofs.Finished.{Through, accepted_is_due, due_is_accepted, through}
use Rattle.pipeline_laws.proofs.Members.{has_test, by_tested_place, from_filter_map, in_range, range_below, range_rises, same_rising}
use Rattle.pipeline_laws.proofs.Rising.{atomic_rises, is_at, ordered_rises}
use Rattle.pipeline_laws.specs.Pipeline.{acted, after_all, is_entry_of, plain}
use Rattle.pipeline_laws.specs.Worked.{IsFinished, IsStaged, IsWorked, action_of, answer_at, answer_to, due, is_of, logged, new_event, sent_on}
use Rattle.pipeline_laws.specs.declared.stage.Action.{Action}
use Rattle.pipeline_laws.specs.declared.stage.Action.TheVariants.{Pass}
use Rattle.pipeline_laws.specs.declared.stage.Entry.{Entry}
use Rattle.transcripts.proofs.Facts.{given_is_accepted}
use Rattle.transcripts.proofs.Pushes.{source_in_is}
use Rattle.transcripts.specs.Lawful.{Lawful}
use Rattle.transcripts.specs.Laws.{AddsNone}
use Rattle.transcripts.specs.Transcript.{accepted, event_at, hand, source_in, sources}

-- ---- the numbers from which they come, by flow and level

abbrev is_there : {X : Type 0} → Option X → Bool
is_there None = false
is_there (Some x) = true

there_is : {X : Type 0} (o : Option X) → is_there o ≡ true → (x : X) × (o ≡ Some x)
there_is None h = absurd (false≢true h)
there_is (Some x) h = (x, refl)

-- the queue's numbers of this flow and level, and those from which an event goes on
abbrev numbers_of : List Step → ℕ → ℕ → ℕ → List ℕ
numbers_of T k f c = filter (is_at T k f c) (range_with_len 0 (length (accepted T k)))

abbrev going : List Action → List Step → ℕ → ℕ → Bool
going actions T k n = is_there (next_of actions T k n)

-- a number with an Accept from it goes on
source_goes : (p : Plan) (actions : List Action) (trace : List Entry) (T : List Step) (k n : ℕ) → Through p actions trace T → Contains (sources T k) n
    → (n < length (accepted T k)) × (going actions T k n ≡ true)
unfolding sources
source_goes p actions trace T k n t there =
    let step = from_filter_map (source_in k) T n there in
    let accept = source_in_is k step.0 n step.2 in
    let stands : Contains T (Accept accept.0 accept.1 (Of k n)) = subst (Contains T) accept.2 step.1 in (
      given_is_accepted p T k n t.known.facts (All-contains (λ m. has m (hand T k) ≡ true) (sources T k) n (t.known.facts.sources k) there),
      ap (λ o. is_there (forward_in o)) (accepted_is_due p actions trace T accept.0 accept.1 k n t stands),
    )

-- a number that goes on has an Accept from it
goer_is_source : (p : Plan) (actions : List Action) (trace : List Entry) (T : List Step) (k n : ℕ) → Through p actions trace T → k < length p.queues
    → n < length (accepted T k) → going actions T k n ≡ true → Contains (sources T k) n
goer_is_source p actions trace T k n t there lt goes =
    let next = there_is (next_of actions T k n) goes in
    due_is_accepted p actions trace T k n next.0 t there lt (forward_is (due actions T (k, n)) next.0 next.1)

keeps_sorted : (p : Plan) (actions : List Action) (T : List Step) (k f c : ℕ) → Lawful p T → AddsNone T → IsStaged p actions → k + 1 < length actions
    → AllPairs (λ m n. m < n) (filter (is_at T k f c) (sources T k))
keeps_sorted p actions T k f c lawful adds_none staged inner =
    ⊎_elim (ordered_rises p T k f c lawful adds_none) (atomic_rises p T k f c lawful adds_none)
    (or_cases (is_ordered (queue_of p k).kind) (is_atomic (queue_of p k).kind) (staged.kinds k inner))

same_numbers : (p : Plan) (actions : List Action) (trace : List Entry) (T : List Step) (k f c : ℕ) → Lawful p T → Through p actions trace T → IsStaged p actions
    → k + 1 < length actions → filter (is_at T k f c) (sources T k) ≡ filter (going actions T k) (numbers_of T k f c)
same_numbers p actions trace T k f c lawful t staged inner =
    same_rising (filter (is_at T k f c) (sources T k)) (filter (going actions T k) (numbers_of T k f c)) (keeps_sorted p actions T k f c lawful t.adds_none staged inner)
    (AllPairs-filter (λ m n. m < n) (going actions T k) (numbers_of T k f c)
    (AllPairs-filter (λ m n. m < n) (is_at T k f c) (range_with_len 0 (length (accepted T k))) (range_rises (length (accepted T k)))))
    forth back
  where
    there : k < length p.queues
    there = omega (arith, staged.queues)

    forth : (n : ℕ) → Contains (filter (is_at T k f c) (sources T k)) n → Contains (filter (going actions T k) (numbers_of T k f c)) n
    forth n in' =
        let goes = source_goes p actions trace T k n t (was_there (is_at T k f c) (sources T k) n in') in
        Contains-filter (going actions T k) (numbers_of T k f c) n
        (Contains-filter (is_at T k f c) (range_with_len 0 (length (accepted T k))) n (in_range (length (accepted T k)) n goes.0)
        (passes (is_at T k f c) (sources T k) n in')) goes.1

    back : (n : ℕ) → Contains (filter (going actions T k) (numbers_of T k f c)) n → Contains (filter (is_at T k f c) (sources T k)) n
    back n in' =
        let number = was_there (going actions T k) (numbers_of T k f c) n in' in
        let below = range_below (length (accepted T k)) n (was_there (is_at T k f c) (range_with_len 0 (length (accepted T k))) n number) in
        Contains-filter (is_at T k f c) (sources T k) n
        (goer_is_source p actions trace T k n t there below (passes (going actions T k) (numbers_of T k f c) n in'))
        (passes (is_at T k f c) (range_with_len 0 (length (accepted T k))) n number)

-- ---- one stage

-- what goes on from an event
abbrev on_from : List Action → ℕ → Event → Option Event
on_from actions k d = forward_in (answer_at actions k d)

next_by_event : (actions : List Action) (T : List Step) (k n : ℕ) → next_of actions T k n ≡ then (on_from actions k) (event_at T k n)
next_by_event actions T k n = by_event (event_at T k n)
  where
    by_event : (o : Option Event) → forward_in (answer_to actions k o) ≡ then (on_from actions k) o
    by_event None = refl
    by_event (Some d) = refl

-- what goes on from a number is of the number's flow and level
next_passes : (actions : List Action) (T : List Step) (k f c n : ℕ) → passing (is_of f c) (next_of actions T k n) ≡ tested_by (is_at T k f c) (next_of actions T k) n
next_passes actions T k f c n = by_next (next_of actions T k n) refl
  where
    by_next : (o : Option Event) → next_of actions T k n ≡ o → passing (is_of f c) o ≡ cond (is_at T k f c n) o None
    by_next None is = nothing (is_at T k f c n)
      where
        nothing : (b : Bool) → ◌≡◌ {A = Option Event} None (cond b None None)
        nothing true = refl
        nothing false = refl
    by_next (Some e) is =
        let answers = next_answers actions T k n e (forward_is (due actions T (k, n)) e is) in
        let test : is_of f c e ≡ is_at T k f c n =
        ap (λ x. (x == f) && (level_of e == c)) answers.2.flow ∙ (ap (λ x. (answers.0.flow == f) && (x == c)) answers.2.level
        ∙ sym (ap (has_test (is_of f c)) answers.1)) in
        ap (λ b. cond b (Some e) None) test

stage_events : (p : Plan) (actions : List Action) (trace : List Entry) (T : List Step) (k f c : ℕ) → Lawful p T → Through p actions trace T → IsStaged p actions
    → k + 1 < length actions → filter (is_of f c) (accepted T (k + 1)) ≡ filter_map (on_from actions k) (filter (is_of f c) (accepted T k))
stage_events p actions trace T k f c lawful t staged inner =
    ap (filter (is_of f c)) (accepted_next p actions trace T k lawful t)
    ∙ (filter-filter_map (is_of f c) (next_of actions T k) (sources T k)
    ∙ (filter_map-agree (λ n. passing (is_of f c) (next_of actions T k n)) (tested_by (is_at T k f c) (next_of actions T k)) (sources T k)
    (λ i d lt. next_passes actions T k f c (get_or (sources T k) i d))
    ∙ (sym (filter_map-filter (next_of actions T k) (is_at T k f c) (sources T k))
    ∙ (ap (filter_map (next_of actions T k)) (same_numbers p actions trace T k f c lawful t staged inner)
    ∙ (parts.filter_map-filter (next_of actions T k) (going actions T k) (numbers_of T k f c) (λ n stays. not_there (next_of actions T k n) stays)
    ∙ (filter_map-agree (next_of actions T k) (λ n. then (on_from actions k) (event_at T k n)) (numbers_of T k f c)
    (λ i d lt. next_by_event actions T k (get_or (numbers_of T k f c) i d))
    ∙ by_tested_place (on_from actions k) (is_of f c) (accepted T k)))))))
  where
    not_there : (o : Option Event) → is_there o ≡ false → o ≡ None
    not_there None h = refl
    not_there (Some e) h = absurd (false≢true (sym h))

-- ---- the payloads

-- what a stage's action makes of a payload goes on, where a queue follows
payloads_next : (actions : List Action) (k : ℕ) (es : List Event) → k + 1 < length actions
    → map (λ (e : Event). e.payload) (filter_map (on_from actions k) es) ≡ filter_map (acted (action_of actions k)) (map (λ (e : Event). e.payload) es)
payloads_next actions k [] inner = refl
payloads_next actions k (e ∷ es) inner =
    ap (λ o. map (λ (d : Event). d.payload) (cons_option (forward_in o) (filter_map (on_from actions k) es))) answer
    ∙ one (acted (action_of actions k) e.payload) (filter_map (on_from actions k) es) (payloads_next actions k es inner)
  where
    answer : answer_at actions k e ≡ sent_on k e (acted (action_of actions k) e.payload)
    answer = cond-true (nat_lt (k + 1) (length actions)) (sent_on k e (acted (action_of actions k) e.payload)) Released (lt-ltb (k + 1) (length actions) inner)

    one : (o : Option ℕ) (ds : List Event) → map (λ (d : Event). d.payload) ds ≡ filter_map (acted (action_of actions k)) (map (λ (d : Event). d.payload) es)
        → map (λ (d : Event). d.payload) (cons_option (forward_in (sent_on k e o)) ds) ≡ cons_option o (filter_map (acted (action_of actions k)) (map (λ (d : Event). d.payload) es))
    one None ds same = same
    one (Some n) ds same = ap (λ ns. n ∷ ns) same

-- what came in
entries_logged : (trace : List Entry) (f c : ℕ)
    → map (λ (e : Event). e.payload) (filter (is_of f c) (map new_event trace)) ≡ map (λ (t : Entry). t.payload) (filter (is_entry_of f c) trace)
entries_logged [] f c = refl
entries_logged (t ∷ trace) f c = by_test (is_entry_of f c t) (filter (is_of f c) (map new_event trace)) (filter (is_entry_of f c) trace) (entries_logged trace f c)
  where
    by_test : (b : Bool) (es : List Event) (ts : List Entry) → map (λ (e : Event). e.payload) es ≡ map (λ (u : Entry). u.payload) ts
        → map (λ (e : Event). e.payload) (cond b (new_event t ∷ es) es) ≡ map (λ (u : Entry). u.payload) (cond b (t ∷ ts) ts)
    by_test true es ts same = ap (λ ns. t.payload ∷ ns) same
    by_test false es ts same = same

-- one action more
after_all_push : (actions : List Action) (a : Action) (ns : List ℕ) → after_all (actions ++ a ∷ []) ns ≡ filter_map (acted a) (after_all actions ns)
after_all_push [] a ns = refl
after_all_push (b ∷ actions) a ns = after_all_push actions a (filter_map (acted b) ns)

plain_next : (actions : List Action) (trace : List Entry) (k f c : ℕ) → k < length actions
    → plain actions trace (k + 1) f c ≡ filter_map (acted (action_of actions k)) (plain actions trace k f c)
plain_next actions trace k f c lt =
    ap (λ as'. after_all as' ns) (take_next actions k (action_of actions k) (slice_get-get_or actions k Pass lt))
    ∙ after_all_push (take k actions) (action_of actions k) ns
  where
    ns : List ℕ
    ns = map (λ (t : Entry). t.payload) (filter (is_entry_of f c) trace)

-- ---- all stages

pub run_is_plain : (p : Plan) (actions : List Action) (trace : List Entry) (T : List Step) → Lawful p T → IsStaged p actions → IsWorked actions trace T
    → IsFinished p trace T → (k f c : ℕ) → k < length actions → logged T k f c ≡ plain actions trace k f c
run_is_plain p actions trace T lawful staged worked finished = by_stage
  where
    t : Through p actions trace T
    t = through p actions trace T lawful worked finished

    by_stage : (k f c : ℕ) → k < length actions → logged T k f c ≡ plain actions trace k f c
    by_stage zero f c lt =
        ap (λ es. map (λ (e : Event). e.payload) (filter (is_of f c) es)) (accepted_first p actions trace T lawful t ∙ t.news) ∙ entries_logged trace f c
    by_stage (suc k) f c lt =
        let next : suc k ≡ k + 1 = omega arith in
        ap (λ m. logged T m f c) next
        ∙ (ap (map (λ (e : Event). e.payload)) (stage_events p actions trace T k f c lawful t staged (omega arith))
        ∙ (payloads_next actions k (filter (is_of f c) (accepted T k)) (omega arith)
        ∙ (ap (filter_map (acted (action_of actions k))) (by_stage k f c (omega arith))
        ∙ (sym (plain_next actions trace k f c (omega arith)) ∙ ap (λ m. plain actions trace m f c) (sym next)))))
