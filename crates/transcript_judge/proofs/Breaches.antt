-- What a step breaks that a lawful transcript doesn't allow: for each need of a step the clause that fails without it.
use Rattle.std.proofs.Common.{◌≡◌, ◌≢◌, ℕ, ◌<◌, ◌≤◌, Bool, true, false, cond, ◌&&◌, ◌==◌, List, [], ◌∷◌, ◌++◌, length, get_or, All, Contains, None, ◌⊎◌, inl, inr, ⊎_elim, refl, sym, ap, ◌∙◌, arith}
use Rattle.std.proofs.lemmas.Bool.{and_from, and_parts, false≢true, false_from_ne_true}
use Rattle.std.proofs.lemmas.Option.{none-some}
use Rattle.evt_types.specs.Limits.{most_extras}
use Rattle.evt_types.specs.Plan.{Plan, bound_of, depth_of, is_atomic, is_ordered, level_of, queue_of, serves, slot_of}
use Rattle.evt_types.specs.declared.event.Event.{Event}
use Rattle.evt_types.specs.declared.event.Numbered.{Numbered}
use Rattle.evt_types.specs.declared.step.Outcome.{Outcome}
use Rattle.evt_types.specs.declared.step.Source.TheVariants.{New}
use Rattle.evt_types.specs.declared.step.Step.{Step}
use Rattle.evt_types.specs.declared.step.Step.TheVariants.{Accept, Give, Done, More, Turned, Shut}
use Rattle.lists.proofs.Lists.{All-last, eqb_same}
use Rattle.transcripts.proofs.Alones.{alone_needs}
use Rattle.transcripts.proofs.Extras.{beside_needs, few_needs}
use Rattle.transcripts.proofs.Flows.{flow_needs, key-flow, key-level}
use Rattle.transcripts.proofs.Insides.{added_needs, inside_needs}
use Rattle.transcripts.proofs.Origins.{origin_fewer}
use Rattle.transcripts.proofs.Rooms.{done_needs, lanes_needs, linked_needs, once_needs, places_needs}
use Rattle.transcripts.proofs.Shuts.{new_needs, shut_needs, turned_needs}
use Rattle.transcripts.proofs.ViewLists.{event_in_some}
use Rattle.transcripts.proofs.Waits.{waiting-rises, waiting_is_not_given}
use Rattle.transcripts.proofs.Whole.{Known, Known-allowed, steps-Lawful}
use Rattle.transcripts.specs.Lawful.{IsFormed, KeepsFlow, Lawful, is_of_flow, is_of_level, keeps_order}
use Rattle.transcripts.specs.Standing.{event_in}
use Rattle.transcripts.specs.Transcript.{Held, extras, has_shut, inside, open_of, unanswered, unanswered_slots, waiting}
use Rattle.transcript_judge.specs.Fronts.{Breaks}
use Rattle.transcript_judge.specs.declared.verdict.Clause.TheVariants.{Formed, Answers, Extras, Once, Linked, Depth, Places, Limit, Flow, Alone, Closed}

known_of : (p : Plan) (P : List Step) → Lawful p P → Known p P
known_of p P lawful = Known-allowed p P (steps-Lawful p P lawful).steps

both_bools : (b : Bool) → b ≡ true → b ≡ false → ⊥
both_bools b is is_not = false≢true (sym is_not ∙ is)

pub not_formed : (p : Plan) (P : List Step) (s : Step) → ¬ IsFormed p s → Breaks Formed p (P ++ s ∷ [])
not_formed p P s h = (λ all. h (All-last (IsFormed p) P s all))

-- ---- a NEW

pub new_after_shut : (p : Plan) (P : List Step) (q : ℕ) (e : Event) (l : ℕ) → has_shut P ≡ true → Breaks Closed p (P ++ Accept q e (New l) ∷ [])
new_after_shut p P q e l shut =
    (λ c. both_bools (has_shut P) shut (new_needs P (Accept q e (New l)) refl c))

pub new_past_limit : (p : Plan) (P : List Step) (q : ℕ) (e : Event) (l : ℕ) → Lawful p P → q < length p.queues → bound_of p ≤ inside p P
    → Breaks Limit p (P ++ Accept q e (New l) ∷ [])
new_past_limit p P q e l lawful there full =
    (λ h. let room = inside_needs p P q e l (known_of p P lawful).facts there h in absurd (omega arith))

pub turned_before_shut : (p : Plan) (P : List Step) (l : ℕ) (e : Event) → has_shut P ≡ false → Breaks Closed p (P ++ Turned l e ∷ [])
turned_before_shut p P l e unshut =
    (λ c. both_bools (has_shut P) (turned_needs P (Turned l e) refl refl c) unshut)

pub shut_twice : (p : Plan) (P : List Step) → has_shut P ≡ true → Breaks Closed p (P ++ Shut ∷ [])
shut_twice p P shut = (λ c. both_bools (has_shut P) shut (shut_needs P Shut refl c))

-- ---- an answer, an addition

pub answers_none : (p : Plan) (P : List Step) (l : ℕ) (o : Outcome) → length (unanswered P l) ≤ 0 → Breaks Answers p (P ++ Done l o ∷ [])
answers_none p P l o none = (λ h. let some = done_needs P l o h in absurd (omega arith))

pub adds_to_none : (p : Plan) (P : List Step) (l : ℕ) (e : Event) → length (unanswered P l) ≤ 0 → Breaks Extras p (P ++ More l e ∷ [])
adds_to_none p P l e none = (λ h. let some = beside_needs P l e h in absurd (omega arith))

pub adds_too_many : (p : Plan) (P : List Step) (l : ℕ) (e : Event) → most_extras ≤ length (extras P l) → Breaks Extras p (P ++ More l e ∷ [])
adds_too_many p P l e many = (λ h. let few = few_needs P l e h in absurd (omega arith))

pub adds_past_limit : (p : Plan) (P : List Step) (l : ℕ) (e : Event) → Lawful p P → 0 < length (unanswered P l) → bound_of p ≤ inside p P
    → Breaks Limit p (P ++ More l e ∷ [])
adds_past_limit p P l e lawful some full =
    let known : Known p P = known_of p P lawful in
    (λ h. let room = added_needs p P l e known.facts (origin_fewer P known.origin) some h in absurd (omega arith))

-- ---- a Give

pub gives_unknown : (p : Plan) (P : List Step) (l q n : ℕ) → event_in (waiting P q) n ≡ None → Breaks Once p (P ++ Give l q n ∷ [])
gives_unknown p P l q n none =
    (λ h. let found = once_needs P l q n h in
    none-some (found.0).event (sym none ∙ (ap (event_in (waiting P q)) (sym found.1) ∙ event_in_some (waiting P q) found.0 (waiting-rises P q) found.2)))

pub gives_unlinked : (p : Plan) (P : List Step) (l q : ℕ) (w : Numbered) → Contains (waiting P q) w → serves p l q (slot_of p q w.event.flow) ≡ false
    → Breaks Linked p (P ++ Give l q w.number ∷ [])
gives_unlinked p P l q w waits unserved =
    (λ h. both_bools (serves p l q (slot_of p q w.event.flow)) (linked_needs p P l q w.number w h waits refl) unserved)

pub gives_past_depth : (p : Plan) (P : List Step) (l q n : ℕ) → Lawful p P → depth_of p l ≤ length (unanswered P l) → Breaks Depth p (P ++ Give l q n ∷ [])
gives_past_depth p P l q n lawful full =
    (λ h. let room = lanes_needs p P l q n (known_of p P lawful).facts (h l) in absurd (omega arith))

pub gives_past_places : (p : Plan) (P : List Step) (l q : ℕ) (w : Numbered) → Lawful p P → Contains (waiting P q) w → is_ordered (queue_of p q).kind ≡ true
    → (queue_of p q).order ≤ length (open_of P q) → Breaks Places p (P ++ Give l q w.number ∷ [])
gives_past_places p P l q w lawful waits ordered full =
    (λ h. let room = places_needs p P l q w.number (known_of p P lawful).facts (waiting_is_not_given P q w waits) (h q ordered) in absurd (omega arith))

-- two events that keep their order
keeps_parts : (p : Plan) (q : ℕ) (d e : Event) → keeps_order p q d e ≡ true
    → ((level_of d == level_of e) ≡ true) × ((is_ordered (queue_of p q).kind ≡ true) ⊎
    ((is_atomic (queue_of p q).kind ≡ true) × ((d.flow == e.flow) ≡ true)))
keeps_parts p q d e h = by_case (level_of d == level_of e) (is_ordered (queue_of p q).kind) (is_atomic (queue_of p q).kind) (d.flow == e.flow) h
  where
    by_case : (a b c f : Bool) → cond a (cond b true (c && f)) false ≡ true → (a ≡ true) × ((b ≡ true) ⊎ ((c ≡ true) × (f ≡ true)))
    by_case false b c f k = absurd (false≢true k)
    by_case true true c f k = (refl, inl refl)
    by_case true false c f k = (refl, inr (and_parts c f k))

-- no waiting event of a lower number keeps its order with the one that is given
abbrev pub LetsGo : Plan → List Step → ℕ → Numbered → Type 0
LetsGo p P q w = All (λ (v : Numbered). v.number < w.number → keeps_order p q v.event w.event ≡ false) (waiting P q)

lets_go : (p : Plan) (P : List Step) (l q : ℕ) (w : Numbered) → Known p P → KeepsFlow p (P ++ Give l q w.number ∷ []) → Contains (waiting P q) w → LetsGo p P q w
lets_go p P l q w h after c k d lt less =
    false_from_ne_true (keeps_order p q (get_or (waiting P q) k d).event w.event)
    (λ keeps. by_kind (keeps_parts p q (get_or (waiting P q) k d).event w.event keeps))
  where
    by_kind : ((level_of (get_or (waiting P q) k d).event == level_of w.event) ≡ true) ×
        ((is_ordered (queue_of p q).kind ≡ true) ⊎ ((is_atomic (queue_of p q).kind ≡ true) ×
        (((get_or (waiting P q) k d).event.flow == w.event.flow) ≡ true))) → ⊥
    by_kind parts =
        ⊎_elim
        (λ ordered. let key = is_of_level (level_of w.event) in
        false≢true (sym (flow_needs p P l q w.number w key h.facts (h.flow q key (key-level p q (level_of w.event) ordered))
        (after.ordered q ordered (level_of w.event)) c refl (eqb_same (level_of w.event)) k d lt less) ∙ parts.0))
        (λ atomic. let key = is_of_flow w.event.flow (level_of w.event) in
        false≢true (sym (flow_needs p P l q w.number w key h.facts (h.flow q key (key-flow p q w.event.flow (level_of w.event) atomic.0))
        (after.atomic q atomic.0 w.event.flow (level_of w.event)) c refl
        (and_from (w.event.flow == w.event.flow) (level_of w.event == level_of w.event) (eqb_same w.event.flow) (eqb_same (level_of w.event))) k d
        lt less) ∙ and_from ((get_or (waiting P q) k d).event.flow == w.event.flow)
        (level_of (get_or (waiting P q) k d).event == level_of w.event) atomic.1 parts.0))
        parts.1

pub gives_overtaking : (p : Plan) (P : List Step) (l q : ℕ) (w : Numbered) → Lawful p P → Contains (waiting P q) w → ¬ LetsGo p P q w
    → Breaks Flow p (P ++ Give l q w.number ∷ [])
gives_overtaking p P l q w lawful waits held =
    (λ h. held (lets_go p P l q w (known_of p P lawful) h waits))

-- no lane but l has an unanswered event of the slot
abbrev pub LeavesAlone : Plan → List Step → ℕ → ℕ → ℕ → Type 0
LeavesAlone p P l q slot = (m : ℕ) → m ≢ l → All (λ (y : Held). y.queue ≡ q → y.slot ≢ slot) (unanswered_slots p P m)

pub gives_apart : (p : Plan) (P : List Step) (l q : ℕ) (w : Numbered) → Lawful p P → Contains (waiting P q) w → is_atomic (queue_of p q).kind ≡ true
    → ¬ LeavesAlone p P l q (slot_of p q w.event.flow) → Breaks Alone p (P ++ Give l q w.number ∷ [])
gives_apart p P l q w lawful waits atomic taken =
    (λ h. taken (λ m differs. alone_needs p P l q w.number w (known_of p P lawful).facts h waits refl atomic m differs))
