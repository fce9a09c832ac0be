-- What is broken stays broken, and of a transcript there is one verdict.
use Rattle.std.proofs.Common.{◌≡◌, ℕ, ◌+◌, ◌<◌, ◌≤◌, List, take, slice_get, ⊎_elim, sym, ap, ◌∙◌, subst, arith}
use Rattle.std.proofs.lemmas.Bool.{cases_lt}
use Rattle.std.proofs.lemmas.List.{take-take}
use Rattle.std.proofs.lemmas.Option.{same_Some}
use Rattle.evt_types.specs.Plan.{Plan}
use Rattle.evt_types.specs.declared.step.Step.{Step}
use Rattle.transcript_judge.proofs.Fronts.{front_clauses, front_formed, front_lawful, front_prompt, front_take}
use Rattle.transcript_judge.proofs.PassedOver.{passed_over_ends}
use Rattle.transcript_judge.specs.Fronts.{Breaks, IsFront}
use Rattle.transcript_judge.specs.Verdicts.{IsBrokenAt, IsSameFinding, IsVerdict}
use Rattle.transcript_judge.specs.declared.verdict.Clause.{Clause}
use Rattle.transcript_judge.specs.declared.verdict.Clause.TheVariants.{Formed, Answers, Extras, Once, Linked, Depth, Places, Limit, Flow, Alone, Order, Origin, Closed, Prompt}
use Rattle.transcript_judge.specs.declared.verdict.Verdict.{Verdict}
use Rattle.transcript_judge.specs.declared.verdict.Verdict.TheVariants.{Lawful, Running, Broken}

pub broken_ends : (c : Clause) (p : Plan) (T : List Step) → Breaks c p T → ¬ IsFront p T
broken_ends Formed p T h f = h (front_formed p T f)
broken_ends Answers p T h f = h (front_clauses p T f).answers
broken_ends Extras p T h f = h (front_clauses p T f).extras
broken_ends Once p T h f = h (front_clauses p T f).once
broken_ends Linked p T h f = h (front_clauses p T f).linked
broken_ends Depth p T h f = h (front_clauses p T f).room.lanes
broken_ends Places p T h f = h (front_clauses p T f).room.places
broken_ends Limit p T h f = h (front_clauses p T f).room.inside
broken_ends Flow p T h f = h (front_clauses p T f).flow
broken_ends Alone p T h f = h (front_clauses p T f).alone
broken_ends Order p T h f = ⊎_elim (λ falls. falls (front_clauses p T f).order) (λ over. passed_over_ends p T over f) h
broken_ends Origin p T h f = h (front_clauses p T f).origin
broken_ends Closed p T h f = h (front_clauses p T f).closed
broken_ends Prompt p T h f = h (front_prompt p T f)

-- ---- one verdict

-- the front of a front: where the shorter one ends, the longer one has ended
shorter : (p : Plan) (T : List Step) (k j : ℕ) → k ≤ j → IsFront p (take j T) → IsFront p (take k T)
shorter p T k j le f = subst (IsFront p) (take-take k j T le) (front_take p (take j T) k f)

not_ended : (p : Plan) (T : List Step) (k : ℕ) (c : Clause) (s : Step) → IsFront p T → ¬ IsBrokenAt p T k c s
not_ended p T k c s f broken = broken.ended (front_take p T (k + 1) f)

at_one : (p : Plan) (T : List Step) (k j : ℕ) (c d : Clause) (s t : Step) → IsBrokenAt p T k c s → IsBrokenAt p T j d t → k < j → ⊥
at_one p T k j c d s t x y lt = x.ended (shorter p T (k + 1) j (omega arith) y.before)

same_place : (p : Plan) (T : List Step) (k j : ℕ) (c d : Clause) (s t : Step) → IsBrokenAt p T k c s → IsBrokenAt p T j d t → (k ≡ j) × (s ≡ t)
same_place p T k j c d s t x y =
    let place : k ≡ j =
    ⊎_elim (λ lt. absurd (at_one p T k j c d s t x y lt))
    (λ le. ⊎_elim (λ lt. absurd (at_one p T j k d c t s y x lt)) (λ ge. omega arith) (cases_lt j k))
    (cases_lt k j) in
    (place, same_Some s t (sym x.step ∙ (ap (slice_get T) place ∙ y.step)))

pub verdicts_agree : (p : Plan) (T : List Step) (v w : Verdict) → IsVerdict p T v → IsVerdict p T w → IsSameFinding v w
verdicts_agree p T Lawful Lawful x y = tt
verdicts_agree p T Lawful Running x y = y.unlawful x
verdicts_agree p T Lawful (Broken j d t) x y = not_ended p T j d t (front_lawful p T x) y
verdicts_agree p T Running Lawful x y = x.unlawful y
verdicts_agree p T Running Running x y = tt
verdicts_agree p T Running (Broken j d t) x y = not_ended p T j d t x.front y
verdicts_agree p T (Broken k c s) Lawful x y = not_ended p T k c s (front_lawful p T y) x
verdicts_agree p T (Broken k c s) Running x y = not_ended p T k c s y.front x
verdicts_agree p T (Broken k c s) (Broken j d t) x y = same_place p T k j c d s t x y
