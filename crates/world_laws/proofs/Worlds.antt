-- Worlds: the entry of one lane, when two worlds are the same, and runs one after another.
use Rattle.std.specs.Prelude.{ℕ, ◌≡◌, ◌≢◌, List, [], ◌∷◌, ◌++◌, ◌==◌, take, fold}
use Rattle.std.proofs.Common.{zero, suc, refl, sym, ap, ◌∙◌, subst, ⊎_elim, append_assoc, append-nil}
use Rattle.std.proofs.lemmas.Bool.{cases_eq, cond-true, cond-false}
use Rattle.evt_types.specs.Plan.{Plan}
use Rattle.evt_types.specs.declared.step.Step.TheVariants as steps
use Rattle.lists.proofs.Lists.{eqb_same, eqb_other}
use Rattle.transcripts.specs.Lawful.{IsPrefix}
use Rattle.world_laws.specs.World.{World, Move, Submits, Takes, Gives, Receives, Bounces, Shuts, LeadsTo, moved, at_lane}

-- ---- the entry of one lane

pub at_lane-same : {X : Type 0} (l : ℕ) (x : X) (f : ℕ → X) → at_lane l x f l ≡ x
at_lane-same l x f = cond-true (l == l) x (f l) (eqb_same l)

pub at_lane-other : {X : Type 0} (l m : ℕ) (x : X) (f : ℕ → X) → m ≢ l → at_lane l x f m ≡ f m
at_lane-other l m x f h = cond-false (m == l) x (f m) (eqb_other m l h)

-- what holds of the lane's new entry and of the others' old ones
pub at_each : {X : Type 0} (P : ℕ → X → Type 0) (l : ℕ) (x : X) (f : ℕ → X) → P l x → ((m : ℕ) → m ≢ l → P m (f m)) → (m : ℕ) → P m (at_lane l x f m)
at_each P l x f here other m =
    ⊎_elim
    (λ same. subst (λ k. P k (at_lane l x f k)) (sym same) (subst (P l) (sym (at_lane-same l x f)) here))
    (λ differs. subst (P m) (sym (at_lane-other l m x f differs)) (other m differs))
    (cases_eq m l)

-- ---- the same worlds

pub same_worlds : (w u : World) → w.log ≡ u.log → ((m : ℕ) → w.received m ≡ u.received m) → ((m : ℕ) → w.submitted m ≡ u.submitted m) → w ≡ u
same_worlds w u a b c = λ i. record { log = a i; received = λ m. b m i; submitted = λ m. c m i }

-- ---- runs

pub LeadsTo-append : (p : Plan) (w u v : World) (xs ys : List Move) → LeadsTo p w xs u → LeadsTo p u ys v → LeadsTo p w (xs ++ ys) v
LeadsTo-append p w u v [] ys first second = subst (λ t. LeadsTo p t ys v) (sym first) second
LeadsTo-append p w u v (m ∷ xs) ys first second = (first.0, LeadsTo-append p (moved w m) u v xs ys first.1 second)

pub LeadsTo-end : (p : Plan) (w u v : World) (xs : List Move) → LeadsTo p w xs u → u ≡ v → LeadsTo p w xs v
LeadsTo-end p w u v xs leads e = subst (LeadsTo p w xs) e leads

-- ---- the log of a run grows

pub prefix_trans : {X : Type 0} (xs ys zs : List X) → IsPrefix xs ys → IsPrefix ys zs → IsPrefix xs zs
prefix_trans xs ys zs a b = (a.0 ++ b.0, sym (append_assoc xs a.0 b.0) ∙ (ap (λ us. us ++ b.0) a.1 ∙ b.1))

move_grows : (w : World) (m : Move) → IsPrefix w.log (moved w m).log
move_grows w (Submits l r) = ([], append-nil w.log)
move_grows w (Takes l taken) = (taken, refl)
move_grows w (Gives l q n) = (steps.Give l q n ∷ [], refl)
move_grows w (Receives l) = ([], append-nil w.log)
move_grows w (Bounces l) = (steps.Bounced l ∷ [], refl)
move_grows w Shuts = (steps.Shut ∷ [], refl)

pub log_grows : (p : Plan) (w v : World) (moves : List Move) → LeadsTo p w moves v → IsPrefix w.log v.log
log_grows p w v [] leads = ([], append-nil w.log ∙ ap (λ (u : World). u.log) leads)
log_grows p w v (m ∷ moves) leads =
    prefix_trans w.log (moved w m).log v.log (move_grows w m) (log_grows p (moved w m) v moves leads.1)

-- ---- the moments of a run

-- each is the end of a run
pub leads_to_moment : (p : Plan) (w v : World) (moves : List Move) → LeadsTo p w moves v → (k : ℕ) → LeadsTo p w (take k moves) (fold moved w (take k moves))
leads_to_moment p w v moves leads zero = refl
leads_to_moment p w v [] leads (suc k) = refl
leads_to_moment p w v (m ∷ moves) leads (suc k) = (leads.0, leads_to_moment p (moved w m) v moves leads.1 k)
