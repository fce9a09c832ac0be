-- After an answer or an addition one list of Accepts alone leads to a lawful transcript.
use Rattle.std.proofs.Common.{◌≡◌, ℕ, true, false, List, [], ◌∷◌, ◌++◌, drop, All, ◌⊎◌, inl, inr, ⊎_elim, refl, sym, ap, ◌∙◌, subst, append_assoc, append-nil}
use Rattle.std.proofs.lemmas.Bool.{cases_Bool}
use Rattle.std.proofs.lemmas.List.Elements.{All-cons, All-nil}
use Rattle.evt_types.specs.Event.{release_event}
use Rattle.evt_types.specs.Plan.{Plan}
use Rattle.evt_types.specs.declared.event.Event.{Event}
use Rattle.evt_types.specs.declared.step.Outcome.{Outcome}
use Rattle.evt_types.specs.declared.step.Outcome.TheVariants.{Forwarded, Released}
use Rattle.evt_types.specs.declared.step.Step.{Step}
use Rattle.evt_types.specs.declared.step.Step.TheVariants.{Done, More}
use Rattle.transcripts.proofs.OneAnswer.{steps_are_one}
use Rattle.transcripts.proofs.Whole.{Lawful-steps, steps-Lawful}
use Rattle.transcripts.specs.Allowed.{AllowedAfter}
use Rattle.transcripts.specs.Lawful.{IsAddition, IsOutcome, IsPrefix, IsSettled, Lawful}
use Rattle.transcripts.specs.Standing.{AreLed, AreStepsBy}
use Rattle.transcripts.specs.Transcript.{is_from_of}
use Rattle.transcript_judge.proofs.PassedOver.{two_parts}

-- it is empty, or begins with a step that accepts nothing that was passed on
abbrev Stops : List Step → Type 0
Stops rest = (rest ≡ []) ⊎ ((b : Step) × (later : List Step) × (rest ≡ b ∷ later) × (is_from_of b ≡ false))

-- the Accepts of what was passed on at the front of some steps
record Cut (U : List Step) : Type 0 where
  pub accepts : List Step
  pub rest : List Step
  pub is : accepts ++ rest ≡ U
  pub from : All (λ s. is_from_of s ≡ true) accepts
  pub stops : Stops rest

cut_next : (s : Step) (U : List Step) → Cut U → (is_from_of s ≡ true) ⊎ (is_from_of s ≡ false) → Cut (s ∷ U)
cut_next s U c (inl from) = record {
  accepts = s ∷ c.accepts;
  rest = c.rest;
  is = ap (λ T. s ∷ T) c.is;
  from = All-cons (λ t. is_from_of t ≡ true) s c.accepts from c.from;
  stops = c.stops;
}
cut_next s U c (inr other) = record {
  accepts = [];
  rest = s ∷ U;
  is = refl;
  from = All-nil (λ t. is_from_of t ≡ true);
  stops = inr (s, U, refl, other);
}

cut : (U : List Step) → Cut U
cut [] = record { accepts = []; rest = []; is = refl; from = All-nil (λ t. is_from_of t ≡ true); stops = inl refl }
cut (s ∷ U) = cut_next s U (cut U) (cases_Bool (is_from_of s))

-- where the rest stops, what stands before it is lawful
pub lawful_before : (p : Plan) (T rest : List Step) → Lawful p (T ++ rest) → Stops rest → Lawful p T
lawful_before p T rest h stops = Lawful-steps p T (record { steps = parts.0; end = ⊎_elim at_end before stops })
  where
    parts : AllowedAfter p [] T × AllowedAfter p T rest
    parts = two_parts p [] T rest (steps-Lawful p (T ++ rest) h).steps

    at_end : rest ≡ [] → IsSettled p T
    at_end none = subst (IsSettled p) (ap (λ r. T ++ r) none ∙ append-nil T) h.prompt.end

    before : (b : Step) × (later : List Step) × (rest ≡ b ∷ later) × (is_from_of b ≡ false) → IsSettled p T
    before b = (subst (AllowedAfter p T) b.2 parts.1).0.prompt b.3

pub only_led : (p : Plan) (P D : List Step) (s : Step) (l : ℕ) (e : Event) → Lawful p P → ((xs : List Step) → AreLed s xs → AreStepsBy e.op P l e xs)
    → All (λ t. is_from_of t ≡ true) D → Lawful p (P ++ s ∷ D) → (U : List Step) → Lawful p ((P ++ s ∷ []) ++ U) → IsPrefix D U
only_led p P D s l e lawful form from whole U h = (c.rest, ap (λ xs. drop 1 xs ++ c.rest) same ∙ c.is)
  where
    c : Cut U
    c = cut U

    parts : (P ++ s ∷ []) ++ U ≡ (P ++ s ∷ c.accepts) ++ c.rest
    parts =
        append_assoc P (s ∷ []) U
        ∙ (ap (λ xs. P ++ s ∷ xs) (sym c.is) ∙ sym (append_assoc P (s ∷ c.accepts) c.rest))

    before : Lawful p (P ++ s ∷ c.accepts)
    before = lawful_before p (P ++ s ∷ c.accepts) c.rest (subst (Lawful p) parts h) c.stops

    same : s ∷ D ≡ s ∷ c.accepts
    same =
        steps_are_one p P l e (s ∷ D) (s ∷ c.accepts) lawful (record { form = form (s ∷ D) (D, refl, from); lawful = whole })
        (record { form = form (s ∷ c.accepts) (c.accepts, refl, c.from); lawful = before })

-- an answer, and an addition, are led by their step
pub answer_led : (p : Plan) (P D : List Step) (l : ℕ) (o : Outcome) → IsOutcome p o → Lawful p P → All (λ t. is_from_of t ≡ true) D
    → Lawful p (P ++ Done l o ∷ D) → (U : List Step) → Lawful p ((P ++ Done l o ∷ []) ++ U) → IsPrefix D U
answer_led p P D l (Forwarded e) formed lawful from whole =
    only_led p P D (Done l (Forwarded e)) l e lawful (λ xs led. subst (λ o. AreStepsBy o P l e xs) (sym formed.1) led) from whole
answer_led p P D l Released formed lawful from whole = only_led p P D (Done l Released) l release_event lawful (λ xs led. led) from whole

pub more_led : (p : Plan) (P D : List Step) (l : ℕ) (e : Event) → IsAddition p e → Lawful p P → All (λ t. is_from_of t ≡ true) D
    → Lawful p (P ++ More l e ∷ D) → (U : List Step) → Lawful p ((P ++ More l e ∷ []) ++ U) → IsPrefix D U
more_led p P D l e formed lawful from whole = only_led p P D (More l e) l e lawful (λ xs led. subst (λ o. AreStepsBy o P l e xs) (sym formed.1) led) from whole
