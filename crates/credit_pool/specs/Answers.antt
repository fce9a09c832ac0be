-- What an answer says of the seat's account before and after. A refusal carries what the seat read, and draws or returns nothing.
use Rattle.std.specs.Prelude.{◌≡◌, ◌≢◌, ℕ, ◌+◌, ◌<◌, ◌≤◌}
use Rattle.credit_pool.specs.declared.account.Account.{Account}
use Rattle.credit_pool.specs.declared.answer.Draw.{Draw}
use Rattle.credit_pool.specs.declared.answer.Draw.TheVariants.{Drawn, Shut, Short, Raced}
use Rattle.credit_pool.specs.declared.answer.Give.{Give}
use Rattle.credit_pool.specs.declared.answer.Give.TheVariants as gives
use Rattle.credit_pool.specs.Accounts.{free_of, in_use, IsShut, IsOpen, after_look, after_draw, after_give}
use Rattle.credit_pool.specs.Rule.{Reads}

-- with n more in use, the word stays under the ceiling (Event Device Library: a port's `new_event_threshold`)
abbrev pub HasRoom : ℕ → ℕ → ℕ → ℕ → Type 0
HasRoom limit ceiling n word = in_use limit word + n ≤ ceiling

-- another seat has parts of the pool
abbrev pub IsShared : Account → Type 0
IsShared v = v.parts ≢ 64

-- n credits were asked for, under a ceiling
abbrev pub AnswersDraw : ℕ → ℕ → Account → Draw → Account → Type 0
AnswersDraw n ceiling v Drawn after =
    IsOpen after.last × HasRoom v.limit ceiling n after.last × (after ≡ after_draw n (after_look after.last (after_look after.last v)))
AnswersDraw n ceiling v Shut after = IsShut after.last × (after ≡ after_look after.last v)
AnswersDraw n ceiling v (Short free) after =
    IsOpen after.last × (free ≡ free_of after.last) × (ceiling < in_use v.limit after.last + n) × (after ≡ after_look after.last v)
AnswersDraw n ceiling v (Raced first second) after =
    IsShared v × (first ≢ second) × Reads v first × IsOpen first × HasRoom v.limit ceiling n first × (after ≡ after_look second (after_look first v))

-- n credits were given back
abbrev pub AnswersGive : ℕ → Account → Give → Account → Type 0
AnswersGive n v gives.Given after = (free_of after.last + n ≤ v.limit) × (after ≡ after_give n (after_look after.last (after_look after.last v)))
AnswersGive n v (gives.Over free) after = (free ≡ free_of after.last) × (v.limit < free + n) × (after ≡ after_look after.last v)
AnswersGive n v (gives.Raced first second) after =
    IsShared v × (first ≢ second) × Reads v first × (free_of first + n ≤ v.limit) × (after ≡ after_look second (after_look first v))
