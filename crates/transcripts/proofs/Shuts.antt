-- (closed), step by step.
use Rattle.std.proofs.Common.{◌≡◌, Bool, true, false, cond, ◌||◌, List, [], ◌∷◌, ◌++◌, ⊎_elim, refl, sym, ap, ◌∙◌}
use Rattle.std.proofs.lemmas.Bool.{cases_Bool, false≢true, or_parts, cond-true, cond-false, cond_both, false_from_ne_true, true_from_ne_false}
use Rattle.std.proofs.lemmas.List.Elements.{All-nil, All-push}
use Rattle.evt_types.specs.Plan.{Plan}
use Rattle.transcripts.specs.Transcript.{is_shut, has_shut, is_new, is_turned}
use Rattle.transcripts.specs.Lawful.{until_shut, since_shut, IsClosed}
use Rattle.transcripts.specs.Allowed.{Needs}
use Rattle.evt_types.specs.declared.step.Source.TheVariants.{New, Of}
use Rattle.evt_types.specs.declared.step.Step.{Step}
use Rattle.evt_types.specs.declared.step.Step.TheVariants.{Accept, Give, Done, More, Turned, Bounced, Shut}
use Rattle.lists.proofs.Lists.{All-last}

-- ---- the steps before the first Shut, and those after it

until_shut-before : (P : List Step) (s : Step) → has_shut P ≡ false → is_shut s ≡ false → until_shut (P ++ s ∷ []) ≡ until_shut P ++ s ∷ []
until_shut-before [] s h k = cond-false (is_shut s) [] (s ∷ []) k
until_shut-before (t ∷ P) s h k =
    let parts = or_parts (is_shut t) (has_shut P) h in
    cond-false (is_shut t) [] (t ∷ until_shut (P ++ s ∷ [])) parts.0
    ∙ (ap (λ us. t ∷ us) (until_shut-before P s parts.1 k) ∙ ap (λ us. us ++ s ∷ []) (sym (cond-false (is_shut t) [] (t ∷ until_shut P) parts.0)))

until_shut-at : (P : List Step) (s : Step) → has_shut P ≡ false → is_shut s ≡ true → until_shut (P ++ s ∷ []) ≡ until_shut P
until_shut-at [] s h k = cond-true (is_shut s) [] (s ∷ []) k
until_shut-at (t ∷ P) s h k =
    let parts = or_parts (is_shut t) (has_shut P) h in
    cond-false (is_shut t) [] (t ∷ until_shut (P ++ s ∷ [])) parts.0
    ∙ (ap (λ us. t ∷ us) (until_shut-at P s parts.1 k) ∙ sym (cond-false (is_shut t) [] (t ∷ until_shut P) parts.0))

until_shut-after : (P : List Step) (s : Step) → has_shut P ≡ true → until_shut (P ++ s ∷ []) ≡ until_shut P
until_shut-after [] s h = absurd (false≢true h)
until_shut-after (t ∷ P) s h = by_case (is_shut t) h (until_shut-after P s)
  where
    by_case : (b : Bool) → (b || has_shut P) ≡ true → (has_shut P ≡ true → until_shut (P ++ s ∷ []) ≡ until_shut P)
        → cond b [] (t ∷ until_shut (P ++ s ∷ [])) ≡ cond b [] (t ∷ until_shut P)
    by_case true k more = refl
    by_case false k more = ap (λ us. t ∷ us) (more k)

since_shut-before : (P : List Step) (s : Step) → has_shut P ≡ false → since_shut (P ++ s ∷ []) ≡ []
since_shut-before [] s h = cond_both (is_shut s) [] [] (λ us. us ≡ []) (λ _. refl) (λ _. refl)
since_shut-before (t ∷ P) s h =
    let parts = or_parts (is_shut t) (has_shut P) h in cond-false (is_shut t) (P ++ s ∷ []) (since_shut (P ++ s ∷ [])) parts.0
    ∙ since_shut-before P s parts.1

since_shut-after : (P : List Step) (s : Step) → has_shut P ≡ true → since_shut (P ++ s ∷ []) ≡ since_shut P ++ s ∷ []
since_shut-after [] s h = absurd (false≢true h)
since_shut-after (t ∷ P) s h = by_case (is_shut t) h (since_shut-after P s)
  where
    by_case : (b : Bool) → (b || has_shut P) ≡ true → (has_shut P ≡ true → since_shut (P ++ s ∷ []) ≡ since_shut P ++ s ∷ [])
        → cond b (P ++ s ∷ []) (since_shut (P ++ s ∷ [])) ≡ cond b P (since_shut P) ++ s ∷ []
    by_case true k more = refl
    by_case false k more = more k

-- ---- the clause

-- after Shut a step neither accepts a NEW nor shuts again; before it nothing is turned away
after_shut : (p : Plan) (P : List Step) (s : Step) → has_shut P ≡ true → Needs p P s → (is_new s ≡ false) × (is_shut s ≡ false)
after_shut p P (Accept q e (New l)) h needs = absurd (false≢true (sym needs.closed ∙ h))
after_shut p P (Accept q e (Of r n)) h needs = (refl, refl)
after_shut p P (Give l q n) h needs = (refl, refl)
after_shut p P (Done l o) h needs = (refl, refl)
after_shut p P (More l e) h needs = (refl, refl)
after_shut p P (Turned l e) h needs = (refl, refl)
after_shut p P (Bounced l) h needs = (refl, refl)
after_shut p P Shut h needs = absurd (false≢true (sym needs ∙ h))

before_shut : (p : Plan) (P : List Step) (s : Step) → has_shut P ≡ false → Needs p P s → is_turned s ≡ false
before_shut p P (Accept q e c) h needs = refl
before_shut p P (Give l q n) h needs = refl
before_shut p P (Done l o) h needs = refl
before_shut p P (More l e) h needs = refl
before_shut p P (Turned l e) h needs = absurd (false≢true (sym h ∙ needs))
before_shut p P (Bounced l) h needs = refl
before_shut p P Shut h needs = refl

pub closed_more : (p : Plan) (P : List Step) (s : Step) → IsClosed P → Needs p P s → IsClosed (P ++ s ∷ [])
closed_more p P s h needs = ⊎_elim after before (cases_Bool (has_shut P))
  where
    after : has_shut P ≡ true → IsClosed (P ++ s ∷ [])
    after k = record {
      no_new = rw (since_shut-after P s k) (All-push (λ t. is_new t ≡ false) (since_shut P) s h.no_new (after_shut p P s k needs).0);
      no_turned = rw (until_shut-after P s k) h.no_turned;
      one = rw (since_shut-after P s k) (All-push (λ t. is_shut t ≡ false) (since_shut P) s h.one (after_shut p P s k needs).1);
    }

    before : has_shut P ≡ false → IsClosed (P ++ s ∷ [])
    before k = record {
      no_new = rw (since_shut-before P s k) (All-nil (λ t. is_new t ≡ false));
      no_turned =
          ⊎_elim
          (λ shut. rw (until_shut-at P s k shut) h.no_turned)
          (λ other. rw (until_shut-before P s k other) (All-push (λ t. is_turned t ≡ false) (until_shut P) s h.no_turned (before_shut p P s k needs)))
          (cases_Bool (is_shut s));
      one = rw (since_shut-before P s k) (All-nil (λ t. is_shut t ≡ false));
    }

pub new_needs : (P : List Step) (s : Step) → is_new s ≡ true → IsClosed (P ++ s ∷ []) → has_shut P ≡ false
new_needs P s new h =
    false_from_ne_true (has_shut P) (λ k. false≢true (sym (All-last (λ t. is_new t ≡ false) (since_shut P) s
    (rw (since_shut-after P s k) at h.no_new)) ∙ new))

pub shut_needs : (P : List Step) (s : Step) → is_shut s ≡ true → IsClosed (P ++ s ∷ []) → has_shut P ≡ false
shut_needs P s shut h =
    false_from_ne_true (has_shut P) (λ k. false≢true (sym (All-last (λ t. is_shut t ≡ false) (since_shut P) s (rw (since_shut-after P s k) at h.one))
    ∙ shut))

pub turned_needs : (P : List Step) (s : Step) → is_turned s ≡ true → is_shut s ≡ false → IsClosed (P ++ s ∷ []) → has_shut P ≡ true
turned_needs P s turned other h =
    true_from_ne_false (has_shut P) (λ k. false≢true (sym (All-last (λ t. is_turned t ≡ false) (until_shut P) s
    (rw (until_shut-before P s k other) at h.no_turned)) ∙ turned))
