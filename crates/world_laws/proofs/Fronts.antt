-- Fronts of a lawful log: each is lawful, unless what was passed on is accepted next, and that stands behind an answer or an addition
-- alone.
use Rattle.std.specs.Prelude.{ℕ, ◌≡◌, ◌+◌, Bool, true, false, cond, List, [], ◌∷◌, ◌++◌, length, take, drop, All, Contains}
use Rattle.std.proofs.Common.{refl, sym, ap, ◌∙◌, subst, arith, append_assoc, append-nil, length-append}
use Rattle.std.proofs.lemmas.Bool.{false≢true, cond-false, cond-true}
use Rattle.std.proofs.lemmas.List.{get_or_at, take_at}
use Rattle.std.proofs.lemmas.List.Elements.{All-nil, All-cons, All-contains}
use Rattle.evt_types.specs.Plan.{Plan, queue_of, is_ordered}
use Rattle.evt_types.specs.declared.event.Event.{Event}
use Rattle.evt_types.specs.declared.step.Source.TheVariants.{New, Of}
use Rattle.evt_types.specs.declared.step.Step.{Step}
use Rattle.evt_types.specs.declared.step.Step.TheVariants.{Accept, Give, Done, More, Turned, Bounced, Shut}
use Rattle.lists.proofs.Fronts.{All-tagged_at}
use Rattle.lists.proofs.Lists.{drop-slice_get}
use Rattle.lists.specs.Lists.{has, upto}
use Rattle.transcripts.proofs.Facts.{Facts, Facts-allowed, Facts-push, AllowedAfter-at, AllowedAfter-take, forwarded_is_given, gives_accepted}
use Rattle.transcripts.proofs.Overdue.{settled_give, settled_stays}
use Rattle.transcripts.proofs.Whole.{Lawful-steps, steps-Lawful}
use Rattle.transcripts.specs.Allowed.{Allowed, AllowedAfter, MayAcceptOf}
use Rattle.transcripts.specs.Lawful.{IsSettled, Lawful}
use Rattle.transcripts.specs.Transcript.{forwards, hand, is_answered, is_from_of, kept, kept_of, taken}
use Rattle.world_laws.specs.Logged.{forwards_first}

-- ---- the Accepts at the front of what was passed on

-- those, and what follows them
pub record Split (rest : List Step) : Type 0 where
  pub more : List Step
  pub parts : forwards_first rest ++ more ≡ rest
  pub last : forwards_first more ≡ []
  pub all : All (λ s. is_from_of s ≡ true) (forwards_first rest)

pub split : (rest : List Step) → Split rest
split [] = record { more = []; parts = refl; last = refl; all = All-nil (λ s. is_from_of s ≡ true) }
split (s ∷ rest) = by_test (is_from_of s) refl (split rest)
  where
    by_test : (b : Bool) → is_from_of s ≡ b → Split rest → Split (s ∷ rest)
    by_test true is later =
        let first : forwards_first (s ∷ rest) ≡ s ∷ forwards_first rest = cond-true (is_from_of s) (s ∷ forwards_first rest) [] is in
        record {
          more = later.more;
          parts = ap (λ xs. xs ++ later.more) first ∙ ap (λ xs. s ∷ xs) later.parts;
          last = later.last;
          all = subst (All (λ t. is_from_of t ≡ true)) (sym first) (All-cons (λ t. is_from_of t ≡ true) s (forwards_first rest) is later.all);
        }
    by_test false is later =
        let none : forwards_first (s ∷ rest) ≡ [] = cond-false (is_from_of s) (s ∷ forwards_first rest) [] is in
        record {
          more = s ∷ rest;
          parts = ap (λ xs. xs ++ s ∷ rest) none;
          last = none;
          all = subst (All (λ t. is_from_of t ≡ true)) (sym none) (All-nil (λ t. is_from_of t ≡ true));
        }

-- the next step is no such Accept
next_is_other : (s : Step) (rest : List Step) → forwards_first (s ∷ rest) ≡ [] → is_from_of s ≡ false
next_is_other s rest none = by_test (is_from_of s) refl none
  where
    by_test : (b : Bool) → is_from_of s ≡ b → cond b (s ∷ forwards_first rest) [] ≡ [] → is_from_of s ≡ false
    by_test true is e = cc
    by_test false is e = is

-- ---- fronts

module _ (p : Plan) (T : List Step) (lawful : Lawful p T) where
  pub front_steps : (P rest : List Step) → P ++ rest ≡ T → AllowedAfter p [] P
  front_steps P rest e =
      subst (AllowedAfter p []) (ap (take (length P)) (sym e) ∙ take_at P rest (length P) refl)
      (AllowedAfter-take p [] T (length P) (steps-Lawful p T lawful).steps)

  pub front_facts : (P rest : List Step) → P ++ rest ≡ T → Facts p P
  front_facts P rest e = Facts-allowed p P (front_steps P rest e)

  pub step_at : (P rest : List Step) (s : Step) → P ++ s ∷ rest ≡ T → Allowed p P s
  step_at P rest s e =
      subst (λ U. Allowed p U s) (take_at P (s ∷ rest) (length P) refl)
      (subst (Allowed p (take (length P) (P ++ s ∷ rest))) (get_or_at P s rest s (length P) refl)
      (AllowedAfter-at p [] (P ++ s ∷ rest) (length P) s (omega (arith, length-append P (s ∷ rest))) (subst (AllowedAfter p []) (sym e) (steps-Lawful p T lawful).steps)))

  pub front_lawful : (P rest : List Step) → P ++ rest ≡ T → forwards_first rest ≡ [] → Lawful p P
  front_lawful P [] e none = subst (Lawful p) (sym (sym (append-nil P) ∙ e)) lawful
  front_lawful P (s ∷ rest) e none =
      Lawful-steps p P (record { steps = front_steps P (s ∷ rest) e; end = (step_at P rest s e).prompt (next_is_other s rest none) })

-- ---- nothing that was passed on is accepted where nothing is overdue

settled_refuses : (p : Plan) (P : List Step) (r n : ℕ) (e : Event) → Facts p P → IsSettled p P → MayAcceptOf p P e r n → ⊥
unfolding kept
settled_refuses p P r n e f settled may =
    let given : has n (hand P r) ≡ true = forwarded_is_given p P r n (length (taken P r n)) e f may.origin in
    let waits = All-tagged_at (λ x. (is_ordered (queue_of p r).kind ≡ true) × ((m : ℕ) × Contains (upto x.0 (hand P r)) m × (is_answered P r m ≡ false))) (kept_of P r) (hand P r) n e
    (drop (length (taken P r n) + 1) (forwards P r n)) (settled r) given (drop-slice_get (forwards P r n) (length (taken P r n)) e may.origin) in
    false≢true (sym (waits.1).2 ∙ All-contains (λ m. is_answered P r m ≡ true) (upto n (hand P r)) (waits.1).0 (may.answered waits.0) (waits.1).1)

pub none_next : (p : Plan) (T : List Step) → Lawful p T → (P rest : List Step) → P ++ rest ≡ T → IsSettled p P → forwards_first rest ≡ []
none_next p T lawful P [] e settled = refl
none_next p T lawful P (Accept q d (Of r n) ∷ rest) e settled =
    absurd (settled_refuses p P r n d (front_facts p T lawful P (Accept q d (Of r n) ∷ rest) e) settled (step_at p T lawful P rest (Accept q d (Of r n)) e).needs)
none_next p T lawful P (Accept q d (New l) ∷ rest) e settled = refl
none_next p T lawful P (Give l q n ∷ rest) e settled = refl
none_next p T lawful P (Done l o ∷ rest) e settled = refl
none_next p T lawful P (More l d ∷ rest) e settled = refl
none_next p T lawful P (Turned l d ∷ rest) e settled = refl
none_next p T lawful P (Bounced l ∷ rest) e settled = refl
none_next p T lawful P (Shut ∷ rest) e settled = refl

-- a step that gives, answers and passes on nothing leaves nothing overdue
quiet_settled : (p : Plan) (T : List Step) → Lawful p T → (P rest : List Step) (s : Step) → P ++ s ∷ rest ≡ T → is_from_of s ≡ false
    → (IsSettled p P → IsSettled p (P ++ s ∷ [])) → forwards_first rest ≡ []
quiet_settled p T lawful P rest s e other stays =
    none_next p T lawful (P ++ s ∷ []) rest (append_assoc P (s ∷ []) rest ∙ e) (stays ((step_at p T lawful P rest s e).prompt other))

pub none_after_new : (p : Plan) (T : List Step) → Lawful p T → (P rest : List Step) (q l : ℕ) (d : Event) → P ++ Accept q d (New l) ∷ rest ≡ T → forwards_first rest ≡ []
none_after_new p T lawful P rest q l d e =
    let f = front_facts p T lawful P (Accept q d (New l) ∷ rest) e in
    quiet_settled p T lawful P rest (Accept q d (New l)) e refl (settled_stays p P (Accept q d (New l)) f (λ r. refl) refl refl (λ r n. refl))

pub none_after_turned : (p : Plan) (T : List Step) → Lawful p T → (P rest : List Step) (l : ℕ) (d : Event) → P ++ Turned l d ∷ rest ≡ T → forwards_first rest ≡ []
none_after_turned p T lawful P rest l d e =
    let f = front_facts p T lawful P (Turned l d ∷ rest) e in
    quiet_settled p T lawful P rest (Turned l d) e refl (settled_stays p P (Turned l d) f (λ r. refl) refl refl (λ r n. refl))

pub none_after_bounced : (p : Plan) (T : List Step) → Lawful p T → (P rest : List Step) (l : ℕ) → P ++ Bounced l ∷ rest ≡ T → forwards_first rest ≡ []
none_after_bounced p T lawful P rest l e =
    let f = front_facts p T lawful P (Bounced l ∷ rest) e in
    quiet_settled p T lawful P rest (Bounced l) e refl (settled_stays p P (Bounced l) f (λ r. refl) refl refl (λ r n. refl))

pub none_after_shut : (p : Plan) (T : List Step) → Lawful p T → (P rest : List Step) → P ++ Shut ∷ rest ≡ T → forwards_first rest ≡ []
none_after_shut p T lawful P rest e =
    let f = front_facts p T lawful P (Shut ∷ rest) e in
    quiet_settled p T lawful P rest Shut e refl (settled_stays p P Shut f (λ r. refl) refl refl (λ r n. refl))

pub none_after_give : (p : Plan) (T : List Step) → Lawful p T → (P rest : List Step) (l q n : ℕ) → P ++ Give l q n ∷ rest ≡ T → forwards_first rest ≡ []
none_after_give p T lawful P rest l q n e =
    let f = front_facts p T lawful P (Give l q n ∷ rest) e in
    let may = step_at p T lawful P rest (Give l q n) e in
    quiet_settled p T lawful P rest (Give l q n) e refl
    (λ settled. settled_give p P l q n f (gives_accepted p P l q n may.needs).1 settled (Facts-push p P (Give l q n) f may))
