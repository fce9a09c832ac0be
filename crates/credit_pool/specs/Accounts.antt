-- What the credit word says, and what each kind of step does to the account of the seat that steps.
use Rattle.std.specs.Prelude.{◌≡◌, ℕ, ◌+◌, ◌-◌, ◌/◌, ◌%◌, Bool, true, false, ◌||◌, ◌==◌, IsTrue}
use Rattle.credit_pool.specs.declared.account.Account.{Account}

-- the free credits of a word (own layout: the bits above bit 0)
abbrev pub free_of : ℕ → ℕ
free_of word = word / 2

-- whether a word has the shut bit (own layout: bit 0)
abbrev pub is_shut : ℕ → Bool
is_shut word = word % 2 == 1

abbrev pub IsShut : ℕ → Type 0
IsShut word = word % 2 ≡ 1

abbrev pub IsOpen : ℕ → Type 0
IsOpen word = word % 2 ≡ 0

-- the credits that are in use where the word is found (Event Device Library: `nb_events_limit` bounds the events inside)
abbrev pub in_use : ℕ → ℕ → ℕ
in_use limit word = limit - free_of word

-- the account of the first seat: nothing drawn or returned, all parts, the bit neither read nor set
abbrev pub first_account : ℕ → Account
first_account limit = record { limit = limit; parts = 64; drawn = 0; returned = 0; last = 0; before = 0; reads = 0; saw_shut = false; set_shut = false }

-- the account that a seat leaves behind when it is joined to another
abbrev pub spent_account : Account
spent_account = record { limit = 0; parts = 0; drawn = 0; returned = 0; last = 0; before = 0; reads = 0; saw_shut = false; set_shut = false }

-- a load, or the read of an exchange: the word, beside the one read before it, one read more, and the shut bit where the word has it
abbrev pub after_look : ℕ → Account → Account
after_look word v = record v { last = word; before = v.last; reads = v.reads + 1; saw_shut = v.saw_shut || is_shut word }

-- an exchange that drew n credits (Software Eventdev, "Credit Quanta": a port fetches a quantum from the shared pool)
abbrev pub after_draw : ℕ → Account → Account
after_draw n v = record v { drawn = v.drawn + n }

-- an exchange that gave n credits back (own: the guide does not say when a port returns credits)
abbrev pub after_give : ℕ → Account → Account
after_give n v = record v { returned = v.returned + n }

-- the fetch_or (own): the bit is set, by this seat
abbrev pub after_shut : Account → Account
after_shut v = record v { saw_shut = true; set_shut = true }

-- a split (own): the first seat has one part less
abbrev pub rest_of : Account → Account
rest_of v = record v { parts = v.parts - 1 }

-- and the second has that part, an account of zero, and knows of the shut bit what the first knew
abbrev pub part_of : Account → Account
part_of v = record v { parts = 1; drawn = 0; returned = 0; last = 0; before = 0; reads = 0; set_shut = false }

-- a join (own): the sums of both, and what either knew or did about the shut bit; the words and reads are the first seat's
abbrev pub after_join : Account → Account → Account
after_join v w =
    record v { parts = v.parts + w.parts; drawn = v.drawn + w.drawn; returned = v.returned + w.returned; saw_shut = v.saw_shut || w.saw_shut; set_shut = v.set_shut || w.set_shut }

-- What no step but a shut, a split or a join changes: it carries over any number of draws, returns and looks.
pub record Stays (v after : Account) : Type 0 where
  pub limit : after.limit ≡ v.limit
  pub parts : after.parts ≡ v.parts
  pub set_shut : after.set_shut ≡ v.set_shut
  pub saw_shut : IsTrue v.saw_shut → IsTrue after.saw_shut
