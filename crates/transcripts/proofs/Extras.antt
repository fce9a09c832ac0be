-- (extras), step by step: an event is added beside an unanswered one and as one of few, and an answer leaves none.
use Rattle.std.proofs.Common.{◌≡◌, ◌≢◌, ℕ, ◌<◌, ◌≤◌, List, [], ◌∷◌, ◌++◌, length, drop, None, ◌⊎◌, inl, inr, ⊎_elim, refl, sym, ap, ◌∙◌, subst, arith}
use Rattle.std.specs.List.{cons_option}
use Rattle.std.proofs.lemmas.Bool.{cases_eq, cases_lt}
use Rattle.std.proofs.lemmas.List.{length_push, nil_from_length}
use Rattle.evt_types.specs.Plan.{Plan}
use Rattle.transcripts.specs.Transcript.{given_to, out, answer_of, answers, unanswered, add_more, extras}
use Rattle.transcripts.specs.Lawful.{AddsFew}
use Rattle.transcripts.specs.Allowed.{MayAdd, Needs}
use Rattle.evt_types.specs.declared.event.Event.{Event}
use Rattle.evt_types.specs.declared.event.TheConstants.{MAX_EXTRAS}
use Rattle.evt_types.specs.declared.step.Outcome.{Outcome}
use Rattle.evt_types.specs.declared.step.Step.{Step}
use Rattle.evt_types.specs.declared.step.Step.TheVariants.{Accept, Give, Done, More, Turned, Bounced, Shut}
use Rattle.transcripts.proofs.Pushes.{answer_of-other, extras-push, extras-more, extras-more_other, extras-done, extras-done_other, unanswered-push, unanswered-none}
use Rattle.transcripts.proofs.Facts.{Facts}

pub extras_none : AddsFew []
unfolding extras
extras_none = record { few = λ l. omega arith; beside = λ l empty. refl }

front_none : {X : Type 0} (xs ys : List X) → xs ++ ys ≡ [] → xs ≡ []
front_none [] ys e = refl
front_none (x ∷ xs) ys e = cc

-- a step that neither answers nor adds
quiet : (P : List Step) (s : Step) → ((l : ℕ) → length (answers P l) ≤ length (out P l)) → ((l : ℕ) → answer_of l s ≡ None)
    → ((l : ℕ) → add_more l (extras P l) s ≡ extras P l) → AddsFew P → AddsFew (P ++ s ∷ [])
quiet P s fewer none leaves h = record {
  few = λ l. subst (λ es. length es ≤ MAX_EXTRAS) (sym (same l)) (h.few l);
  beside = λ l empty. same l ∙ h.beside l (front_none (unanswered P l) (cons_option (given_to l s) []) (sym (more l) ∙ empty));
}
  where
    same : (l : ℕ) → extras (P ++ s ∷ []) l ≡ extras P l
    same l = extras-push P l s ∙ leaves l

    more : (l : ℕ) → unanswered (P ++ s ∷ []) l ≡ unanswered P l ++ cons_option (given_to l s) []
    more l =
        unanswered-push P l s (fewer l)
        ∙ ap (λ o. drop (length (cons_option o [])) (unanswered P l ++ cons_option (given_to l s) [])) (none l)

answered : (P : List Step) (l : ℕ) (o : Outcome) → AddsFew P → AddsFew (P ++ Done l o ∷ [])
answered P l o h = record { few = λ m. few m (cases_eq m l); beside = λ m empty. beside m empty (cases_eq m l) }
  where
    s : Step
    s = Done l o

    none : (m : ℕ) → m ≡ l → extras (P ++ s ∷ []) m ≡ []
    none m same = ap (extras (P ++ s ∷ [])) same ∙ extras-done P l o

    still : (m : ℕ) → m ≢ l → extras (P ++ s ∷ []) m ≡ extras P m
    still m other = extras-done_other P m l o (λ e. other (sym e))

    few : (m : ℕ) → (m ≡ l) ⊎ (m ≢ l) → length (extras (P ++ s ∷ []) m) ≤ MAX_EXTRAS
    few m (inl same) = omega (arith, ap length (none m same))
    few m (inr other) = subst (λ es. length es ≤ MAX_EXTRAS) (sym (still m other)) (h.few m)

    beside : (m : ℕ) → unanswered (P ++ s ∷ []) m ≡ [] → (m ≡ l) ⊎ (m ≢ l) → extras (P ++ s ∷ []) m ≡ []
    beside m empty (inl same) = none m same
    beside m empty (inr other) =
        still m other ∙ h.beside m (sym (unanswered-none P m s (answer_of-other m l o (λ e. other (sym e))) refl) ∙ empty)

added : (p : Plan) (P : List Step) (l : ℕ) (e : Event) → AddsFew P → MayAdd p P l → AddsFew (P ++ More l e ∷ [])
added p P l e h may =
    record { few = λ m. few m (cases_eq m l); beside = λ m empty. beside m (sym (unanswered-none P m s refl refl) ∙ empty) (cases_eq m l) }
  where
    s : Step
    s = More l e

    still : (m : ℕ) → m ≢ l → extras (P ++ s ∷ []) m ≡ extras P m
    still m other = extras-more_other P m l e (λ k. other (sym k))

    one_more : length (extras (P ++ s ∷ []) l) ≤ MAX_EXTRAS
    one_more = omega (arith, ap length (extras-more P l e), length_push (extras P l) e, may.few)

    few : (m : ℕ) → (m ≡ l) ⊎ (m ≢ l) → length (extras (P ++ s ∷ []) m) ≤ MAX_EXTRAS
    few m (inl same) = subst (λ k. length (extras (P ++ s ∷ []) k) ≤ MAX_EXTRAS) (sym same) one_more
    few m (inr other) = subst (λ es. length es ≤ MAX_EXTRAS) (sym (still m other)) (h.few m)

    beside : (m : ℕ) → unanswered P m ≡ [] → (m ≡ l) ⊎ (m ≢ l) → extras (P ++ s ∷ []) m ≡ []
    beside m empty (inl same) = absurd (omega (arith, may.beside, ap length (ap (unanswered P) (sym same) ∙ empty)))
    beside m empty (inr other) = still m other ∙ h.beside m empty

pub extras_more : (p : Plan) (P : List Step) (s : Step) → Facts p P → AddsFew P → Needs p P s → AddsFew (P ++ s ∷ [])
extras_more p P (Accept q e c) f h needs = quiet P (Accept q e c) f.answers (λ l. refl) (λ l. refl) h
extras_more p P (Give l q n) f h needs = quiet P (Give l q n) f.answers (λ m. refl) (λ m. refl) h
extras_more p P (Done l o) f h needs = answered P l o h
extras_more p P (More l e) f h needs = added p P l e h needs
extras_more p P (Turned l e) f h needs = quiet P (Turned l e) f.answers (λ m. refl) (λ m. refl) h
extras_more p P (Bounced l) f h needs = quiet P (Bounced l) f.answers (λ m. refl) (λ m. refl) h
extras_more p P Shut f h needs = quiet P Shut f.answers (λ m. refl) (λ m. refl) h

-- what the clause after an addition says of the steps before it
pub few_needs : (P : List Step) (l : ℕ) (e : Event) → AddsFew (P ++ More l e ∷ []) → length (extras P l) < MAX_EXTRAS
few_needs P l e h = omega (arith, h.few l, ap length (extras-more P l e), length_push (extras P l) e)

pub beside_needs : (P : List Step) (l : ℕ) (e : Event) → AddsFew (P ++ More l e ∷ []) → 0 < length (unanswered P l)
beside_needs P l e h = ⊎_elim (λ some. some) (λ none. absurd (too_few none)) (cases_lt 0 (length (unanswered P l)))
  where
    too_few : length (unanswered P l) ≤ 0 → ⊥
    too_few none =
        let empty : unanswered P l ≡ [] = nil_from_length (unanswered P l) (omega arith) in
        let bare : extras (P ++ More l e ∷ []) l ≡ [] = h.beside l (unanswered-none P l (More l e) refl refl ∙ empty) in
        omega (arith, ap length bare, ap length (extras-more P l e), length_push (extras P l) e)
