-- A lane whose ring refused an event is offered nothing more in the sweep.
use Rattle.std.proofs.Common.{◌≡◌, ◌≢◌, ℕ, ◌<◌, ◌==◌, true, false, List, [], ◌∷◌, ◌++◌, All, AllPairs, length, set, get_or, ◌⊎◌, inl, inr, refl, sym, ap, ◌∙◌, subst, arith}
use Rattle.std.proofs.lemmas.Bool.{cases_eq, false≢true}
use Rattle.std.proofs.lemmas.List.{get_or-set_other, get_or-set_same}
use Rattle.std.proofs.lemmas.List.Elements.{All-cons, All-nil, All-weaker}
use Rattle.std.proofs.lemmas.List.Kept.{AllPairs-cons}
use Rattle.event_scheduler.proofs.Gifts.{passed-push}
use Rattle.event_scheduler.proofs.Passing.{passed_long}
use Rattle.event_scheduler.specs.Giving.{AreGifts, IsGift, MayFollow, is_given_on, is_refused_on, passed_by, passed_step}
use Rattle.event_scheduler.specs.Scheduler.{Sight}
use Rattle.evt_types.proofs.FlowLanes.{lanes_few}
use Rattle.evt_types.specs.Fault.{IsWithinLimits}
use Rattle.evt_types.specs.Plan.{lanes_of}
use Rattle.evt_types.specs.declared.shape.TheConstants.{MAX_LANES}
use Rattle.evt_types.specs.declared.step.Step.{Step}
use Rattle.evt_types.specs.declared.step.Step.TheVariants.{Accept, Bounced, Done, Give, More, Shut, Turned}
use Rattle.lists.proofs.Lists.{eqb_is, eqb_other}
use Rattle.transcripts.proofs.WholeStands.{shape_after}
use Rattle.transcripts.specs.Choice.{Passed, has_bounced}

abbrev IsQuiet : ℕ → Step → Type 0
IsQuiet l x = (is_given_on l x ≡ false) × (is_refused_on l x ≡ false)

-- a lane that isn't ready isn't the one
not_ready : (v : Passed) (l m : ℕ) → has_bounced v l ≡ true → has_bounced v m ≡ false → (m == l) ≡ false
not_ready v l m passed ready = eqb_other m l (λ same. false≢true (sym ready ∙ (ap (has_bounced v) same ∙ passed)))

-- what was passed over stays so
stays_passed : (v : Passed) (x : Step) (l : ℕ) → l < MAX_LANES → length v.bounced ≡ MAX_LANES → has_bounced v l ≡ true → has_bounced (passed_step v x) l ≡ true
stays_passed v (Give m q n) l within long passed = passed
stays_passed v (Bounced m) l within long passed = by_place (cases_eq l m)
  where
    by_place : (l ≡ m) ⊎ (l ≢ m) → get_or (set v.bounced m true) l false ≡ true
    by_place (inl same) = subst (λ k. get_or (set v.bounced k true) l false ≡ true) same (get_or-set_same v.bounced l true false (omega (arith, long, within)))
    by_place (inr other) = get_or-set_other v.bounced m l true false other ∙ passed
stays_passed v (Accept q e c) l within long passed = passed
stays_passed v (Done m o) l within long passed = passed
stays_passed v (More m e) l within long passed = passed
stays_passed v (Turned m e) l within long passed = passed
stays_passed v Shut l within long passed = passed

quiet_gift : (s : Sight) (past : List Step) (x : Step) (l : ℕ) → has_bounced (passed_by past) l ≡ true → IsGift s past x → IsQuiet l x
quiet_gift s past (Give m q n) l passed gift = (not_ready (passed_by past) l m passed gift.2.fits.ready, refl)
quiet_gift s past (Bounced m) l passed gift = (refl, not_ready (passed_by past) l m passed gift.2.fits.ready)
quiet_gift s past (Accept q e c) l passed gift = absurd gift
quiet_gift s past (Done m o) l passed gift = absurd gift
quiet_gift s past (More m e) l passed gift = absurd gift
quiet_gift s past (Turned m e) l passed gift = absurd gift
quiet_gift s past Shut l passed gift = absurd gift

quiet_after : (s : Sight) (past xs : List Step) (l : ℕ) → l < MAX_LANES → has_bounced (passed_by past) l ≡ true → AreGifts s past xs → All (IsQuiet l) xs
quiet_after s past [] l within passed gifts = All-nil (IsQuiet l)
quiet_after s past (x ∷ xs) l within passed gifts =
    All-cons (IsQuiet l) x xs (quiet_gift s past x l passed gifts.0)
    (quiet_after s (past ++ x ∷ []) xs l within
    (ap (λ v. has_bounced v l) (passed-push past x) ∙ stays_passed (passed_by past) x l within (passed_long (passed_by past) past refl).1 passed) gifts.1)

-- after a step that refuses nothing anything may follow
none : (x : Step) (xs : List Step) → ((l : ℕ) → is_refused_on l x ≡ false) → All (MayFollow x) xs
none x [] never = All-nil (MayFollow x)
none x (y ∷ xs) never = All-cons (MayFollow x) y xs (λ l is. absurd (false≢true (sym (never l) ∙ is))) (none x xs never)

follow : (s : Sight) (past : List Step) (x : Step) (xs : List Step) → IsWithinLimits s.core.shape → IsGift s past x → AreGifts s (past ++ x ∷ []) xs → All (MayFollow x) xs
follow s past (Bounced m) xs limits gift gifts =
    All-weaker (IsQuiet m) (MayFollow (Bounced m)) (λ y quiet l is. subst (λ k. IsQuiet k y) (eqb_is m l is) quiet) xs (quiet_after s (past ++ Bounced m ∷ []) xs m within passed gifts)
  where
    within : m < MAX_LANES
    within =
        let there : m < lanes_of s.core.shape = subst (λ p. m < lanes_of p) (shape_after s.core past) gift.2.fits.lane in
        omega (arith, there, lanes_few s.core.shape limits)

    passed : has_bounced (passed_by (past ++ Bounced m ∷ [])) m ≡ true
    passed = ap (λ v. has_bounced v m) (passed-push past (Bounced m)) ∙ get_or-set_same (passed_by past).bounced m true false (omega (arith, (passed_long (passed_by past) past refl).1, within))
follow s past (Give m q n) xs limits gift gifts = none (Give m q n) xs (λ l. refl)
follow s past (Accept q e c) xs limits gift gifts = absurd gift
follow s past (Done m o) xs limits gift gifts = absurd gift
follow s past (More m e) xs limits gift gifts = absurd gift
follow s past (Turned m e) xs limits gift gifts = absurd gift
follow s past Shut xs limits gift gifts = absurd gift

silent_from : (s : Sight) (past xs : List Step) → IsWithinLimits s.core.shape → AreGifts s past xs → AllPairs MayFollow xs
silent_from s past [] limits gifts = λ i j d lt within. absurd (omega arith)
silent_from s past (x ∷ xs) limits gifts = AllPairs-cons MayFollow x xs (follow s past x xs limits gifts.0 gifts.1) (silent_from s (past ++ x ∷ []) xs limits gifts.1)

pub silent : (s : Sight) (xs : List Step) → IsWithinLimits s.core.shape → AreGifts s [] xs → AllPairs MayFollow xs
silent s xs limits gifts = silent_from s [] xs limits gifts
