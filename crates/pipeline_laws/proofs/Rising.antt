-- Where no event was added beside another: of one flow and level of an ordered or an atomic queue, the numbers from which events were
-- accepted rise.
use Rattle.std.proofs.Common.{◌≡◌, ℕ, ◌<◌, Bool, true, false, cond, ◌&&◌, ◌==◌, List, length, filter, filter_map, AllPairs, Option, Some, None, sym, ap, ◌∙◌, subst, arith}
use Rattle.std.proofs.lemmas.Bool.{false≢true, cond-true, cond-false, and_parts, and_from}
use Rattle.std.proofs.lemmas.List.{take_all}
use Rattle.std.proofs.lemmas.List.Elements.{filter_passes}
use Rattle.std.proofs.lemmas.List.Kept.{AllPairs-filter}
use Rattle.evt_types.specs.Plan.{Plan, queue_of, level_of, is_atomic, is_ordered}
use Rattle.evt_types.specs.declared.event.Event.{Event}
use Rattle.evt_types.specs.declared.event.Numbered.{Numbered}
use Rattle.evt_types.specs.declared.step.Step.{Step}
use Rattle.lists.proofs.Filters.{passing, filter-filter_map}
use Rattle.lists.proofs.Lists.{AllPairs-weaker_all, eqb_is, eqb_same}
use Rattle.pipeline_laws.proofs.Members.{has_test, AllPairs-front, AllPairs-from_given}
use Rattle.pipeline_laws.specs.Worked.{is_of}
use Rattle.transcripts.proofs.Rising.{kind_is_one}
use Rattle.transcripts.proofs.Sources.{sources_follow, sources_rise}
use Rattle.transcripts.proofs.Waits.{entered-rises}
use Rattle.transcripts.specs.Lawful.{KeepsFlow, Lawful, is_of_level, keeps_some, keeps_with}
use Rattle.transcripts.specs.Laws.{AddsNone}
use Rattle.transcripts.specs.Transcript.{entered, event_at, given, hand, named, named_at, sources}

-- whether the number's event is of this flow and level
abbrev pub is_at : List Step → ℕ → ℕ → ℕ → ℕ → Bool
is_at T k f c n = has_test (is_of f c) (event_at T k n)

-- an event of flow f and level c
record Of (f c : ℕ) (e : Event) : Type 0 where
  flow : e.flow ≡ f
  level : level_of e ≡ c

of_parts : (f c : ℕ) (e : Event) → is_of f c e ≡ true → Of f c e
of_parts f c e h =
    let parts = and_parts (e.flow == f) (level_of e == c) h in record { flow = eqb_is e.flow f parts.0; level = eqb_is (level_of e) c parts.1 }

-- ---- an atomic queue

both_keep : (p : Plan) (T : List Step) (k f c m n : ℕ) → is_atomic (queue_of p k).kind ≡ true → is_at T k f c m ≡ true → is_at T k f c n ≡ true
    → keeps_with p T k m n ≡ true
both_keep p T k f c m n atomic first second = by_events (event_at T k m) (event_at T k n) first second
  where
    by_events : (o u : Option Event) → has_test (is_of f c) o ≡ true → has_test (is_of f c) u ≡ true → keeps_some p k o u ≡ true
    by_events None u h i = absurd (false≢true h)
    by_events (Some d) None h i = absurd (false≢true i)
    by_events (Some d) (Some e) h i =
        let one = of_parts f c d h in
        let other = of_parts f c e i in
        let levels : (level_of d == level_of e) ≡ true = ap (λ x. x == level_of e) (one.level ∙ sym other.level) ∙ eqb_same (level_of e) in
        let flows : (d.flow == e.flow) ≡ true = ap (λ x. x == e.flow) (one.flow ∙ sym other.flow) ∙ eqb_same e.flow in
        cond-true (level_of d == level_of e) (cond (is_ordered (queue_of p k).kind) true (is_atomic (queue_of p k).kind && (d.flow == e.flow))) false levels
        ∙ (cond-false (is_ordered (queue_of p k).kind) true (is_atomic (queue_of p k).kind && (d.flow == e.flow)) (kind_is_one (queue_of p k).kind atomic)
        ∙ and_from (is_atomic (queue_of p k).kind) (d.flow == e.flow) atomic flows)

pub atomic_rises : (p : Plan) (T : List Step) (k f c : ℕ) → Lawful p T → AddsNone T → is_atomic (queue_of p k).kind ≡ true
    → AllPairs (λ m n. m < n) (filter (is_at T k f c) (sources T k))
atomic_rises p T k f c lawful adds_none atomic =
    AllPairs-weaker_all (λ n. is_at T k f c n ≡ true) (λ m n. keeps_with p T k m n ≡ true → m < n) (λ m n. m < n) (filter (is_at T k f c) (sources T k))
    (filter_passes (is_at T k f c) (sources T k))
    (λ m n h i rises. rises (both_keep p T k f c m n atomic h i))
    (AllPairs-filter (λ m n. keeps_with p T k m n ≡ true → m < n) (is_at T k f c) (sources T k) (sources_rise p T k atomic adds_none lawful))

-- ---- an ordered queue

keeps_flow : (p : Plan) (T : List Step) → Lawful p T → KeepsFlow p T
keeps_flow p T h = subst (KeepsFlow p) (take_all (length T) T (omega arith)) (h.flow (length T) (omega arith))

-- a number's event, where it is of the level
abbrev at_level : List Step → ℕ → ℕ → ℕ → Option Numbered
at_level T k c n = passing (is_of_level c) (named_at T k n)

given_rise : (p : Plan) (T : List Step) (k c : ℕ) → Lawful p T → is_ordered (queue_of p k).kind ≡ true
    → AllPairs (λ (v w : Numbered). v.number < w.number) (filter_map (at_level T k c) (hand T k))
given_rise p T k c lawful ordered =
    let front = (keeps_flow p T lawful).ordered k ordered c in
    subst (AllPairs (λ (v w : Numbered). v.number < w.number)) (filter-filter_map (is_of_level c) (named_at T k) (hand T k))
    (AllPairs-front (λ (v w : Numbered). v.number < w.number) (filter (is_of_level c) (given T k)) front.0
    (subst (AllPairs (λ (v w : Numbered). v.number < w.number)) (sym front.1)
    (AllPairs-filter (λ (v w : Numbered). v.number < w.number) (is_of_level c) (entered T k) (entered-rises T k))))

-- the event of a number of the flow and level is of the level
stands_at_level : (T : List Step) (k f c n : ℕ) → is_at T k f c n ≡ true → (e : Event) × (at_level T k c n ≡ Some (record { number = n; event = e }))
stands_at_level T k f c n h = by_event (event_at T k n) h
  where
    by_event : (o : Option Event) → has_test (is_of f c) o ≡ true → (e : Event) × (passing (is_of_level c) (named n o) ≡ Some (record { number = n; event = e }))
    by_event None i = absurd (false≢true i)
    by_event (Some d) i =
        (d, cond-true (level_of d == c) (Some (record { number = n; event = d })) None ((and_parts (d.flow == f) (level_of d == c) i).1))

pub ordered_rises : (p : Plan) (T : List Step) (k f c : ℕ) → Lawful p T → AddsNone T → is_ordered (queue_of p k).kind ≡ true
    → AllPairs (λ m n. m < n) (filter (is_at T k f c) (sources T k))
ordered_rises p T k f c lawful adds_none ordered =
    let follow = sources_follow p T k ordered adds_none lawful in
    let pairs = AllPairs-from_given (λ (v w : Numbered). v.number < w.number) (at_level T k c) (hand T k) (given_rise p T k c lawful ordered) in
    AllPairs-weaker_all (λ n. is_at T k f c n ≡ true) Pairs (λ m n. m < n) (filter (is_at T k f c) (sources T k)) (filter_passes (is_at T k f c) (sources T k))
    (λ m n h i less. let first = stands_at_level T k f c m h in
    let second = stands_at_level T k f c n i in
    less (record { number = m; event = first.0 }) (record { number = n; event = second.0 }) first.1 second.1)
    (AllPairs-filter Pairs (is_at T k f c) (sources T k)
    (subst (AllPairs Pairs) (sym follow.1) (AllPairs-filter Pairs follow.0 (hand T k) pairs)))
  where
    Pairs : ℕ → ℕ → Type 0
    Pairs m n = (v w : Numbered) → at_level T k c m ≡ Some v → at_level T k c n ≡ Some w → v.number < w.number
