-- What waits is given: each time the choice of the moment is offered to its lane's ring.
use Rattle.std.specs.Prelude.{ℕ, ◌≡◌, ◌≤◌, ◌+◌, ◌-◌, ◌==◌, Bool, true, false, List, [], ◌∷◌, ◌++◌, if◌then◌else◌, length, count_by, fold, sum_by, slice_set, slice_index}
use Rattle.event_scheduler.specs.Scheduler.{Runs, Sight, depth_at, offered_at}
use Rattle.evt_types.specs.Plan.{Plan, lanes, queues}
use Rattle.evt_types.specs.declared.event.Numbered.{Numbered}
use Rattle.evt_types.specs.declared.step.Step.{Step}
use Rattle.evt_types.specs.declared.step.Step.TheVariants.{Accept, Give, Done, More, Turned, Bounced, Shut}
use Rattle.sched_core.specs.Skipped.{nothing_passed}
use Rattle.transcripts.specs.Choice.{HasNoChoice, IsChoice, Passed, has_bounced}
use Rattle.transcripts.specs.Standing.{View, after}
use Rattle.transcripts.specs.Transcript.{is_give, out}

abbrev pub is_bounced : Step → Bool
is_bounced (Bounced l) = true
is_bounced (Accept q e c) = false
is_bounced (Give l q n) = false
is_bounced (Done l o) = false
is_bounced (More l e) = false
is_bounced (Turned l e) = false
is_bounced Shut = false

-- what a sweep passes over after one step more: one event more of the queue was given, or the lane's ring refused one
abbrev pub passed_step : Passed → Step → Passed
passed_step v (Give l q n) = record v { given = slice_set v.given q (slice_index v.given q + 1) }
passed_step v (Bounced l) = record v { bounced = slice_set v.bounced l true }
passed_step v (Accept q e c) = v
passed_step v (Done l o) = v
passed_step v (More l e) = v
passed_step v (Turned l e) = v
passed_step v Shut = v

-- what a sweep passes over is what it did
abbrev pub passed_by : List Step → Passed
passed_by steps = fold passed_step nothing_passed steps

-- the choice, in a sweep that gave by these steps
abbrev pub IsChoiceAfter : View → List Step → ℕ → ℕ → Numbered → Type 0
IsChoiceAfter v past l q w = IsChoice (after v past) (passed_by past) l q w

-- The event of the choice is given to its lane; or its lane's ring refuses it, having been filled before: as many deliveries as it
-- has room for were offered to the lane. (Then nothing more is given to that lane: it fits no event any more.)
abbrev pub IsGift : Sight → List Step → Step → Type 0
IsGift s past (Give l q n) = (w : Numbered) × (w.number ≡ n) × IsChoiceAfter s.core past l q w
IsGift s past (Bounced l) = (q : ℕ) × (w : Numbered) × IsChoiceAfter s.core past l q w × (depth_at s l ≤ length (offered_at s l) + length (out past l))
IsGift s past (Accept q e c) = ⊥
IsGift s past (Done l o) = ⊥
IsGift s past (More l e) = ⊥
IsGift s past (Turned l e) = ⊥
IsGift s past Shut = ⊥

-- each step is, after those before it
abbrev pub AreGifts : Sight → List Step → List Step → Type 0
AreGifts s past [] = Unit {0}
AreGifts s past (x ∷ rest) = IsGift s past x × AreGifts s (past ++ x ∷ []) rest

-- the lane is given an event, or its ring refuses one
abbrev pub is_given_on : ℕ → Step → Bool
is_given_on l (Give m q n) = m == l
is_given_on l (Bounced m) = false
is_given_on l (Accept q e c) = false
is_given_on l (Done m o) = false
is_given_on l (More m e) = false
is_given_on l (Turned m e) = false
is_given_on l Shut = false

abbrev pub is_refused_on : ℕ → Step → Bool
is_refused_on l (Bounced m) = m == l
is_refused_on l (Give m q n) = false
is_refused_on l (Accept q e c) = false
is_refused_on l (Done m o) = false
is_refused_on l (More m e) = false
is_refused_on l (Turned m e) = false
is_refused_on l Shut = false

-- a lane whose ring refused an event is given none after it, and is offered none
abbrev pub MayFollow : Step → Step → Type 0
MayFollow x y = (l : ℕ) → is_refused_on l x ≡ true → (is_given_on l y ≡ false) × (is_refused_on l y ≡ false)

-- So many events were given, and so many lanes' rings refused one; and that is what is passed over.
pub record Gives (v : Passed) (given bounced : ℕ) (s : Sight) (log : List Step) (t : Sight) (longer : List Step) : Type 0 where
  pub steps : List Step
  pub runs : Runs steps s log t longer
  pub core : t.core ≡ after s.core steps
  pub gifts : AreGifts s [] steps
  pub passed : v ≡ passed_by steps
  pub count_given : count_by is_give steps ≡ given
  pub count_bounced : count_by is_bounced steps ≡ bounced
  pub grows : (l : ℕ) → length (offered_at t l) ≡ length (offered_at s l) + length (out steps l)
  pub taken : t.taken ≡ s.taken
  pub seen : t.seen ≡ s.seen
  pub account : t.account ≡ s.account
  pub pocket : t.pocket ≡ s.pocket

-- and nothing is left to give
pub record GivesAll (given bounced : ℕ) (s : Sight) (log : List Step) (t : Sight) (longer : List Step) : Type 0 where
  pub skips : Passed
  pub gives : Gives skips given bounced s log t longer
  pub done : HasNoChoice t.core skips

-- how many events a sweep may give yet, and how many lanes' rings may yet refuse one
abbrev pub quota_left : Plan → Passed → ℕ → ℕ
quota_left p v q = p.sweep - slice_index v.given q

abbrev pub bounces_left : Passed → ℕ → ℕ
bounces_left v l = if has_bounced v l then 0 else 1

abbrev pub left : Plan → Passed → ℕ
left p v = sum_by (quota_left p v) (queues p) + sum_by (bounces_left v) (lanes p)
