-- The rule of the credit word, which holds between any two steps of any seats, and what a read of the word tells the seat that reads.
use Rattle.std.specs.Prelude.{◌≡◌, ℕ, ◌+◌, ◌*◌, ◌<◌, ◌≤◌, false, [], length, replicate, set, slice_index, sum_by, count_by, All, IsTrue}
use mathlib.Core.Option.{some}
use lib.ListN.{get_elem?}
use Rattle.atomic_table.specs.Table.{State, opening}
use Rattle.credit_pool.specs.declared.account.Account.{Account}
use Rattle.credit_pool.specs.declared.rule.TheConstants.{WORD, WORDS}
use Rattle.credit_pool.specs.Accounts.{free_of, first_account, IsShut}

-- the pool's words, of which one is the credit word, and the accounts of all seats
abbrev pub Pool : Type 0
Pool = State (Unit {0}) Account

abbrev pub word_of : Pool → ℕ
word_of s = slice_index s.words WORD

-- the free credits
abbrev pub free_in : Pool → ℕ
free_in s = free_of (word_of s)

-- what was drawn, and what was returned, through all seats
abbrev pub drawn_in : Pool → ℕ
drawn_in s = sum_by (λ v. v.drawn) s.views

abbrev pub returned_in : Pool → ℕ
returned_in s = sum_by (λ v. v.returned) s.views

-- the parts of all seats
abbrev pub parts_in : Pool → ℕ
parts_in s = sum_by (λ v. v.parts) s.views

-- the seat with the number id has the account v
abbrev pub HasSeat : Pool → ℕ → Account → Type 0
HasSeat s id v = get_elem? s.views id ≡ some v

-- nothing was drawn or returned, and the bit was not set
pub record IsEmpty (v : Account) : Type 0 where
  pub drawn : v.drawn ≡ 0
  pub returned : v.returned ≡ 0
  pub set_shut : v.set_shut ≡ false

pub record Balanced (limit : ℕ) (s : Pool) : Type 0 where
  pub words : length s.words ≡ WORDS
  -- free credits and all that was drawn are the limit and all that was returned (Software Eventdev, "Credit Quanta": one shared pool)
  pub sum : free_in s + drawn_in s ≡ limit + returned_in s
  pub within : free_in s ≤ limit
  -- a seat has parts, and a seat without parts no account (own)
  pub parts : parts_in s ≡ 64
  pub idle : All (λ v. v.parts ≡ 0 → IsEmpty v) s.views
  -- who read or set the shut bit reads it ever after, and it is set only where a seat's account says that it set it (own)
  pub saw : All (λ v. IsTrue v.saw_shut → IsShut (word_of s)) s.views
  pub set_it : All (λ v. IsTrue v.set_shut → IsShut (word_of s)) s.views
  pub was_set : IsShut (word_of s) → 0 < count_by (λ v. v.set_shut) s.views

-- some seat that has parts set the shut bit
pub record HasSetter (s : Pool) : Type 0 where
  pub seat : ℕ
  pub account : Account
  pub there : HasSeat s seat account
  pub has_parts : 0 < account.parts
  pub set_it : IsTrue account.set_shut

-- the pool as it is made: all credits free, the other words zero, and one seat with all parts
abbrev pub first_pool : ℕ → Pool
first_pool limit = opening (set (replicate WORDS 0) WORD (2 * limit)) [] (first_account limit)

-- What any read tells the seat with the account v of the word that it read.
pub record Reads (v : Account) (word : ℕ) : Type 0 where
  pub within : free_of word ≤ v.limit
  pub saw : IsTrue v.saw_shut → IsShut word
  -- with all parts, the seat's account is that of all
  pub whole : v.parts ≡ 64 → free_of word + v.drawn ≡ v.limit + v.returned
  pub whole_set : v.parts ≡ 64 → IsShut word → IsTrue v.set_shut
