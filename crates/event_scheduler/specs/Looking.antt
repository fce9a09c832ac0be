-- A look at the credit word, and the return of credits.
use Rattle.std.specs.Prelude.{ℕ, ◌≡◌, ◌≢◌, List, [], ◌∷◌, true, false, if◌then◌else◌, ◌⊎◌, IsTrue}
use Rattle.credit_pool.specs.Accounts.{Stays, after_look, is_shut}
use Rattle.credit_pool.specs.Answers.{AnswersGive}
use Rattle.credit_pool.specs.declared.account.Account.{Account}
use Rattle.credit_pool.specs.declared.answer.Give.{Give}
use Rattle.credit_pool.specs.declared.answer.Give.TheVariants.{Given, Over, Raced}
use Rattle.event_scheduler.specs.Scheduler.{Runs, Serves, Sight}
use Rattle.evt_types.specs.declared.step.Step.{Step}
use Rattle.evt_types.specs.declared.step.Step.TheVariants.{Shut}
use Rattle.transcripts.specs.Standing.{View, after}

-- the same scheduler, whose seat has read this word
abbrev pub looked : ℕ → Sight → Sight
looked word s = record s { account = after_look word s.account }

-- what a look at the credits logs, by the word that it read: Shut, the first time that it has the shut bit
abbrev pub look_steps : ℕ → View → List Step
look_steps word v = if is_shut word then (if v.shut then [] else Shut ∷ []) else []

-- The credit word was read: Shut was logged, or nothing, and the core is shut wherever the seat had read the bit before.
pub record Looks (s : Sight) (log : List Step) (t : Sight) (longer : List Step) : Type 0 where
  pub steps : List Step
  pub runs : Runs steps s log t longer
  pub first : (steps ≡ []) ⊎ ((s.core.shut ≡ false) × (steps ≡ Shut ∷ []))
  pub core : t.core ≡ after s.core steps
  pub shut : IsTrue s.account.saw_shut → t.core.shut ≡ true
  pub offered : t.offered ≡ s.offered
  pub taken : t.taken ≡ s.taken
  -- once, and what it says is logged now
  pub read : t.account ≡ after_look t.account.last s.account
  pub logs : steps ≡ look_steps t.account.last s.core
  pub pocket : t.pocket ≡ s.pocket

-- what stays of a pocket after a return of all of it was tried
abbrev pub left_by : Give → ℕ → ℕ
left_by Given p = 0
left_by (Over free) p = p
left_by (Raced first second) p = p

-- where credits were in the pocket, one return of all of them was tried
pub record Returns (v : Account) (p : ℕ) (w : Account) (q : ℕ) : Type 0 where
  pub none : p ≡ 0 → (w ≡ v) × (q ≡ 0)
  pub tried : p ≢ 0 → (answer : Give) × AnswersGive p v answer w × (q ≡ left_by answer p)

-- Nothing was logged; the core and the lanes are as they were.
pub record Rests (s t : Sight) : Type 0 where
  pub serves : (T : List Step) → Serves T s → Serves T t
  pub site : t.site ≡ s.site
  pub core : t.core ≡ s.core
  pub offered : t.offered ≡ s.offered
  pub taken : t.taken ≡ s.taken
  pub account : Stays s.account t.account
