-- What draws and returns make of a port's pocket: the credits that it drew and didn't spend, and those of events that it released.
use Rattle.std.specs.Prelude.{◌≡◌, ◌≢◌, ℕ, zero, suc, ◌+◌, ◌-◌, ◌*◌, ◌<◌, ◌≤◌, ◌⊎◌, IsTrue}
use Rattle.credit_pool.specs.declared.account.Account.{Account}
use Rattle.credit_pool.specs.declared.answer.Draw.{Draw}
use Rattle.credit_pool.specs.declared.answer.Draw.TheVariants.{Drawn, Shut, Short, Raced}
use Rattle.credit_pool.specs.declared.answer.Give.{Give}
use Rattle.credit_pool.specs.declared.answer.Give.TheVariants as gives
use Rattle.credit_pool.specs.Accounts.{after_look, free_of, in_use, IsOpen}
use Rattle.credit_pool.specs.Answers.{AnswersDraw, AnswersGive}

-- neither drawn nor returned
abbrev pub SameSums : Account → Account → Type 0
SameSums v after = (after.drawn ≡ v.drawn) × (after.returned ≡ v.returned)

-- A quantum was asked for, by several draws where they raced with other ports.
abbrev pub Fills : ℕ → ℕ → Account → Draw → Account → Type 0
Fills quantum ceiling v Drawn after = (after.drawn ≡ v.drawn + quantum) × (after.returned ≡ v.returned)
Fills quantum ceiling v Shut after = IsTrue after.saw_shut × SameSums v after
Fills quantum ceiling v (Short free) after = IsOpen after.last × (free ≡ free_of after.last) × (ceiling < in_use v.limit after.last + quantum) × SameSums v after
Fills quantum ceiling v (Raced first second) after = (first ≢ second) × (after.before ≡ first) × (after.last ≡ second) × SameSums v after

-- a race is the answer of the last draw that may be made, and of no other
abbrev pub MayAnswer : ℕ → Draw → Type 0
MayAnswer left Drawn = Unit {0}
MayAnswer left Shut = Unit {0}
MayAnswer left (Short free) = Unit {0}
MayAnswer left (Raced first second) = left ≡ 0

-- A quantum was asked for by so many draws at most, one after the other as long as they raced, and the last one's answer is the answer.
abbrev pub FillsWithin : ℕ → ℕ → ℕ → Account → Draw → Account → Type 0
FillsWithin zero quantum ceiling v answer after = ⊥
FillsWithin (suc left) quantum ceiling v answer after =
    (AnswersDraw quantum ceiling v answer after × MayAnswer left answer)
    ⊎ ((first : ℕ) × (second : ℕ) × (between : Account) × AnswersDraw quantum ceiling v (Raced first second) between × FillsWithin left quantum ceiling between answer after)

-- how many draws of a quantum are made (own)
abbrev pub most_draws : ℕ
most_draws = 3

-- a NEW's look at the credits: one read of the word
abbrev pub HasLooked : Account → Account → Type 0
HasLooked v after = after ≡ after_look after.last v

-- A NEW found the word open, and a quantum was asked for.
pub record HasAsked (quantum ceiling : ℕ) (v : Account) (answer : Draw) (after : Account) : Type 0 where
  pub seen : Account
  pub looked : HasLooked v seen
  pub was_open : IsOpen seen.last
  pub asked : FillsWithin most_draws quantum ceiling seen answer after

-- A NEW found the word open, and has credits: those of the pocket, or where that was empty a quantum that was drawn.
pub record HasCredits (quantum ceiling pocket : ℕ) (v : Account) (credits : ℕ) (after : Account) : Type 0 where
  pub seen : Account
  pub looked : HasLooked v seen
  pub was_open : IsOpen seen.last
  pub of_pocket : pocket ≢ 0 → (credits ≡ pocket) × (after ≡ seen)
  pub of_pool : pocket ≡ 0 → (credits ≡ quantum) × FillsWithin most_draws quantum ceiling seen Drawn after

-- There are credits, with no look before: those of the pocket, and nothing was read, or where that was empty a quantum that was drawn.
pub record HasDrawn (quantum ceiling pocket : ℕ) (v : Account) (credits : ℕ) (after : Account) : Type 0 where
  pub of_pocket : pocket ≢ 0 → (credits ≡ pocket) × (after ≡ v)
  pub of_pool : pocket ≡ 0 → (credits ≡ quantum) × FillsWithin most_draws quantum ceiling v Drawn after

-- what a return of all but a quantum leaves in the pocket
abbrev pub left_after : Give → ℕ → ℕ → ℕ
left_after gives.Given quantum came = quantum
left_after (gives.Over free) quantum came = came
left_after (gives.Raced first second) quantum came = came

-- The return rule, with so many credits in the pocket: of two quanta or more one return of all but a quantum is tried, by one load
-- and at most one exchange; of fewer none is.
pub record ReturnsSpare (quantum came : ℕ) (v : Account) (pocket : ℕ) (after : Account) : Type 0 where
  pub few : came < 2 * quantum → (pocket ≡ came) × (after ≡ v)
  pub many : 2 * quantum ≤ came → (answer : Give) × AnswersGive (came - quantum) v answer after × (pocket ≡ left_after answer quantum came)
