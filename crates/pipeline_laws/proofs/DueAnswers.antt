-- That all answers are due, step by step.
use Rattle.std.proofs.Common.{◌≡◌, ℕ, zero, suc, ◌+◌, ◌<◌, ◌≤◌, false, List, [], ◌∷◌, ◌++◌, length, map, take, drop, get_or, Option, Some, None, slice_get, refl, sym, ap, ◌∙◌, subst, arith, append-nil, append_assoc}
use Rattle.std.specs.List.{cons_option}
use Rattle.std.specs.Option.{option_map}
use Rattle.std.proofs.lemmas.Bool.{false≢true}
use Rattle.std.proofs.lemmas.List.{take_at, take_more, take-append-le, take-append-drop, length-map, map-append}
use Rattle.std.proofs.lemmas.List.Elements.{All-weaker}
use Rattle.std.proofs.lemmas.Option.{same_Some, slice_get-map}
use Rattle.evt_types.specs.Plan.{Plan}
use Rattle.evt_types.specs.declared.step.Outcome.{Outcome}
use Rattle.evt_types.specs.declared.step.Step.{Step}
use Rattle.evt_types.specs.declared.step.Step.TheVariants.{Accept, Give, Done, More, Turned, Bounced, Shut}
use Rattle.lists.proofs.Lists.{map_agree}
use Rattle.pipeline_laws.specs.Past.{IsDueAfter, due_next, due_to}
use Rattle.pipeline_laws.specs.Worked.{AnswersAreDue, answer_to, due}
use Rattle.pipeline_laws.specs.declared.stage.Action.{Action}
use Rattle.transcripts.proofs.Facts.{Facts, Facts-allowed, Facts-push, AllowedAfter-at, AllowedAfter-take, out_is_accepted}
use Rattle.transcripts.proofs.Origins.{prefix_at, prefix_grows, prefix_next}
use Rattle.transcripts.proofs.Pushes.{HasEvent, answer_of_is, answer_of-same, answers-none, answers-push, answers-some, event_at-more, next_pair-some, out-push}
use Rattle.transcripts.specs.Allowed.{Allowed, AllowedAfter}
use Rattle.transcripts.specs.Lawful.{IsPrefix}
use Rattle.transcripts.specs.Laws.{AddsNone}
use Rattle.transcripts.specs.Transcript.{answer_of, answers, given_to, is_more, next_pair, out}

-- ---- one step more

-- what is due to a given pair stays
due_stays : (p : Plan) (actions : List Action) (P : List Step) (s : Step) (l : ℕ) → Facts p P → map (due actions (P ++ s ∷ [])) (out P l) ≡ map (due actions P) (out P l)
due_stays p actions P s l f =
    map_agree (due actions (P ++ s ∷ [])) (due actions P) (out P l)
    (All-weaker (HasEvent P) (λ x. due actions (P ++ s ∷ []) x ≡ due actions P x) (λ x h. ap (answer_to actions x.0) (event_at-more P x.0 x.1 s h)) (out P l)
    (out_is_accepted p P l f))

-- what is due to the pairs of the longer transcript begins so
due_grows : (p : Plan) (actions : List Action) (P : List Step) (s : Step) (l : ℕ) → Facts p P
    → map (due actions (P ++ s ∷ [])) (out (P ++ s ∷ []) l) ≡ map (due actions P) (out P l) ++ map (due actions (P ++ s ∷ [])) (cons_option (given_to l s) [])
due_grows p actions P s l f =
    ap (map (due actions (P ++ s ∷ []))) (out-push P l s)
    ∙ (map-append (due actions (P ++ s ∷ [])) (out P l) (cons_option (given_to l s) [])
    ∙ ap (λ os. os ++ map (due actions (P ++ s ∷ [])) (cons_option (given_to l s) [])) (due_stays p actions P s l f))

-- a front of a longer list that is no longer than the shorter is its front
prefix_shorter : {X : Type 0} (xs ys zs : List X) → IsPrefix xs (ys ++ zs) → length xs ≤ length ys → IsPrefix xs ys
prefix_shorter xs ys zs h le =
    let front : take (length xs) ys ≡ xs =
    sym (take-append-le (length xs) ys zs le) ∙ (ap (take (length xs)) (sym h.1) ∙ take_at xs h.0 (length xs) refl) in
    (drop (length xs) ys, ap (λ us. us ++ drop (length xs) ys) (sym front) ∙ take-append-drop (length xs) ys)

-- answers that are due were due one step before
due_before : (p : Plan) (actions : List Action) (P : List Step) (s : Step) → Facts p P → AnswersAreDue actions (P ++ s ∷ []) → AnswersAreDue actions P
due_before p actions P s f h l =
    let longer : IsPrefix (answers P l ++ cons_option (answer_of l s) []) (map (due actions P) (out P l) ++ map (due actions (P ++ s ∷ [])) (cons_option (given_to l s) [])) =
    subst (λ os. IsPrefix os (map (due actions P) (out P l) ++ map (due actions (P ++ s ∷ [])) (cons_option (given_to l s) []))) (answers-push P l s)
    (subst (IsPrefix (answers (P ++ s ∷ []) l)) (due_grows p actions P s l f) (h l)) in
    prefix_shorter (answers P l) (map (due actions P) (out P l)) (map (due actions (P ++ s ∷ [])) (cons_option (given_to l s) []))
    (cons_option (answer_of l s) [] ++ longer.0, sym (append_assoc (answers P l) (cons_option (answer_of l s) []) longer.0) ∙ longer.1)
    (omega (arith, f.answers l, length-map (out P l) (due actions P)))

-- the answer that is due next stands at its place among what is due
next_due : (actions : List Action) (P : List Step) (l : ℕ) (x : ℕ × ℕ) → next_pair P l ≡ Some x → slice_get (map (due actions P) (out P l)) (length (answers P l)) ≡ Some (due_next actions P l)
next_due actions P l x e =
    slice_get-map (due actions P) (out P l) (length (answers P l)) ∙ (ap (option_map (due actions P)) e ∙ ap (λ o. Some (due_to actions P o)) (sym e))

-- a step that is due keeps them so
pub due_more : (p : Plan) (actions : List Action) (P : List Step) (s : Step) → Facts p P → Allowed p P s → AnswersAreDue actions P → IsDueAfter actions P s
    → AnswersAreDue actions (P ++ s ∷ [])
due_more p actions P s f a h is l = by_answer (answer_of l s) refl
  where
    to_dues : IsPrefix (answers (P ++ s ∷ []) l) (map (due actions P) (out P l) ++ map (due actions (P ++ s ∷ [])) (cons_option (given_to l s) []))
        → IsPrefix (answers (P ++ s ∷ []) l) (map (due actions (P ++ s ∷ [])) (out (P ++ s ∷ []) l))
    to_dues k = subst (IsPrefix (answers (P ++ s ∷ []) l)) (sym (due_grows p actions P s l f)) k

    by_answer : (o : Option Outcome) → answer_of l s ≡ o → IsPrefix (answers (P ++ s ∷ []) l) (map (due actions (P ++ s ∷ [])) (out (P ++ s ∷ []) l))
    by_answer None none =
        to_dues (subst (λ os. IsPrefix os (map (due actions P) (out P l) ++ map (due actions (P ++ s ∷ [])) (cons_option (given_to l s) []))) (sym (answers-none P l s none))
        (prefix_grows (answers P l) (map (due actions P) (out P l)) (map (due actions (P ++ s ∷ [])) (cons_option (given_to l s) [])) (h l)))
    by_answer (Some o) some =
        let done : s ≡ Done l o = answer_of_is l s o some in
        let due_now : o ≡ due_next actions P l = subst (IsDueAfter actions P) done is in
        let pair = next_pair-some P l ((subst (Allowed p P) done a).needs) in
        to_dues (subst (λ os. IsPrefix os (map (due actions P) (out P l) ++ map (due actions (P ++ s ∷ [])) (cons_option (given_to l s) []))) (sym (answers-some P l s o some))
        (prefix_grows (answers P l ++ o ∷ []) (map (due actions P) (out P l)) (map (due actions (P ++ s ∷ [])) (cons_option (given_to l s) []))
        (prefix_next (answers P l) (map (due actions P) (out P l)) o (h l) (next_due actions P l pair.0 pair.1 ∙ ap (λ u. Some u) (sym due_now)))))

-- and only such a step does, or one that adds an event
pub due_needs : (p : Plan) (actions : List Action) (P : List Step) (s : Step) → Facts p P → Allowed p P s → is_more s ≡ false → AnswersAreDue actions (P ++ s ∷ [])
    → IsDueAfter actions P s
due_needs p actions P (Done l o) f a adds h =
    let pair = next_pair-some P l a.needs in
    let dues : map (due actions (P ++ Done l o ∷ [])) (out (P ++ Done l o ∷ []) l) ≡ map (due actions P) (out P l) =
    due_grows p actions P (Done l o) l f ∙ append-nil (map (due actions P) (out P l)) in
    let longer : IsPrefix (answers P l ++ o ∷ []) (map (due actions P) (out P l)) =
    subst (λ os. IsPrefix os (map (due actions P) (out P l))) (answers-some P l (Done l o) o (answer_of-same l o))
    (subst (IsPrefix (answers (P ++ Done l o ∷ []) l)) dues (h l)) in
    same_Some o (due_next actions P l) (sym (prefix_at (answers P l) (map (due actions P) (out P l)) o longer) ∙ next_due actions P l pair.0 pair.1)
due_needs p actions P (Accept q e s) f a adds h = tt
due_needs p actions P (Give l q n) f a adds h = tt
due_needs p actions P (More l e) f a adds h = false≢true (sym adds)
due_needs p actions P (Turned l e) f a adds h = tt
due_needs p actions P (Bounced l) f a adds h = tt
due_needs p actions P Shut f a adds h = tt

-- a step that is due adds no event
pub due_adds_none : (actions : List Action) (P : List Step) (s : Step) → IsDueAfter actions P s → is_more s ≡ false
due_adds_none actions P (Accept q e s) is = refl
due_adds_none actions P (Give l q n) is = refl
due_adds_none actions P (Done l o) is = refl
due_adds_none actions P (More l e) is = absurd is
due_adds_none actions P (Turned l e) is = refl
due_adds_none actions P (Bounced l) is = refl
due_adds_none actions P Shut is = refl

-- ---- fronts

-- where all answers are due, those of each front are
due_front : (p : Plan) (actions : List Action) (P rest : List Step) → Facts p P → AllowedAfter p P rest → AnswersAreDue actions (P ++ rest) → AnswersAreDue actions P
due_front p actions P [] f all h = subst (AnswersAreDue actions) (append-nil P) h
due_front p actions P (s ∷ rest) f all h =
    due_before p actions P s f
    (due_front p actions (P ++ s ∷ []) rest (Facts-push p P s f all.0) all.1 (subst (AnswersAreDue actions) (sym (append_assoc P (s ∷ []) rest)) h))

-- those that the steps read so far have are due exactly where they were and the step is
pub due_taken : (p : Plan) (actions : List Action) (T : List Step) (k : ℕ) (d : Step) → AllowedAfter p [] T → k < length T → AnswersAreDue actions (take k T)
    → IsDueAfter actions (take k T) (get_or T k d) → AnswersAreDue actions (take (k + 1) T)
due_taken p actions T k d all lt h is =
    subst (AnswersAreDue actions) (sym (take_more T k d lt))
    (due_more p actions (take k T) (get_or T k d) (Facts-allowed p (take k T) (AllowedAfter-take p [] T k all)) (AllowedAfter-at p [] T k d lt all) h is)

AllowedAfter-drop : (p : Plan) (past T : List Step) (k : ℕ) → AllowedAfter p past T → AllowedAfter p (past ++ take k T) (drop k T)
AllowedAfter-drop p past T zero all = subst (λ P. AllowedAfter p P T) (sym (append-nil past)) all
AllowedAfter-drop p past [] (suc k) all = tt
AllowedAfter-drop p past (s ∷ T) (suc k) all =
    subst (λ P. AllowedAfter p P (drop k T)) (append_assoc past (s ∷ []) (take k T)) (AllowedAfter-drop p (past ++ s ∷ []) T k all.1)

-- a step that isn't due shows in the whole
pub strays : (p : Plan) (actions : List Action) (T : List Step) (k : ℕ) (d : Step) → AllowedAfter p [] T → k < length T → AddsNone T → AnswersAreDue actions T
    → IsDueAfter actions (take k T) (get_or T k d)
strays p actions T k d all lt adds_none h =
    due_needs p actions (take k T) (get_or T k d) (Facts-allowed p (take k T) (AllowedAfter-take p [] T k all)) (AllowedAfter-at p [] T k d lt all) (adds_none k d lt)
    (subst (AnswersAreDue actions) (take_more T k d lt)
    (due_front p actions (take (k + 1) T) (drop (k + 1) T) (Facts-allowed p (take (k + 1) T) (AllowedAfter-take p [] T (k + 1) all))
    (AllowedAfter-drop p [] T (k + 1) all) (subst (AnswersAreDue actions) (sym (take-append-drop (k + 1) T)) h)))
