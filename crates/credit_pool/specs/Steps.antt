-- The steps that seats take, what each makes of the pool, and what it tells the seat that steps.
use Rattle.std.specs.Prelude.{◌≡◌, ◌≢◌, ℕ, ◌+◌, ◌-◌, ◌*◌, ◌/◌, ◌≤◌, [], ◌∷◌, ◌++◌, set, bit_or, ⊤}
use Rattle.atomic_table.specs.Table.{Me, Step}
use Rattle.credit_pool.specs.declared.account.Account.{Account}
use Rattle.credit_pool.specs.declared.rule.TheConstants.{WORD}
use Rattle.credit_pool.specs.Accounts.{free_of, IsOpen, after_look, after_draw, after_give, after_shut, rest_of, part_of, after_join, spent_account}
use Rattle.credit_pool.specs.Rule.{Pool, word_of, Reads}

-- the kinds of step on the word, with the credits that are drawn or given back
pub data Kind : Type 0 where
  looks : Kind
  draws : ℕ → Kind
  gives : ℕ → Kind
  shuts : Kind

-- Each kind below is of a step that finds the word `word`.

-- credits are drawn from an open pool that has them, and given back where no more than the limit are free then
abbrev pub MayStep : ℕ → Kind → ℕ → Type 0
MayStep limit looks word = ⊤
MayStep limit (draws n) word = IsOpen word × (n ≤ free_of word)
MayStep limit (gives n) word = free_of word + n ≤ limit
MayStep limit shuts word = ⊤

-- the word after the step
abbrev pub word_after : Kind → ℕ → ℕ
word_after looks word = word
word_after (draws n) word = word - 2 * n
word_after (gives n) word = word + 2 * n
word_after shuts word = bit_or word 1

-- the account of the seat after it
abbrev pub account_after : Kind → ℕ → Account → Account
account_after looks word v = after_look word v
account_after (draws n) word v = after_draw n (after_look word v)
account_after (gives n) word v = after_give n (after_look word v)
account_after shuts word v = after_shut v

-- the credits that it draws, and those that it gives back
abbrev pub drawn_by : Kind → ℕ
drawn_by looks = 0
drawn_by (draws n) = n
drawn_by (gives n) = 0
drawn_by shuts = 0

abbrev pub given_by : Kind → ℕ
given_by looks = 0
given_by (draws n) = 0
given_by (gives n) = n
given_by shuts = 0

-- the pool after a step of the seat with the number id and the account v
abbrev pub after_step : Kind → ℕ → Account → Pool → Pool
after_step kind id v s =
    record { words = set s.words WORD (word_after kind (word_of s)); homes = s.homes; views = set s.views id (account_after kind (word_of s) v) }

-- the pool after it was split; the new seat comes last
abbrev pub after_split : ℕ → Account → Pool → Pool
after_split id v s = record { words = s.words; homes = s.homes; views = set s.views id (rest_of v) ++ part_of v ∷ [] }

-- the pool after the seat `other`, with the account w, was joined into it
abbrev pub after_joined : ℕ → Account → ℕ → Account → Pool → Pool
after_joined id v other w s = record { words = s.words; homes = s.homes; views = set (set s.views id (after_join v w)) other spent_account }

-- a seat with its slots, of which it has none
abbrev pub Sitting : Type 0
Sitting = Me (Unit {0}) Account

abbrev pub WordStep : Type 0
WordStep = Step (Unit {0})

-- Each below is of the step on the table, the seat before, the word found and the seat after.

-- the load
abbrev pub Loads : WordStep → Sitting → ℕ → Sitting → Type 0
Loads st m word n = (n.0 ≡ account_after looks word m.0) × (n.1 ≡ m.1) × Reads m.0 word

-- the exchange of a draw, which takes half of what the word loses by it; where it finds another word, it looks alone
abbrev pub Draws : WordStep → Sitting → ℕ → Sitting → Type 0
Draws st m word n =
    (word ≡ st.first → n.0 ≡ account_after (draws ((st.first - st.second) / 2)) word m.0)
    × (word ≢ st.first → n.0 ≡ account_after looks word m.0)
    × (n.1 ≡ m.1) × Reads m.0 word

-- the exchange of a return
abbrev pub Gives : WordStep → Sitting → ℕ → Sitting → Type 0
Gives st m word n =
    (word ≡ st.first → n.0 ≡ account_after (gives ((st.second - st.first) / 2)) word m.0)
    × (word ≢ st.first → n.0 ≡ account_after looks word m.0)
    × (n.1 ≡ m.1) × Reads m.0 word

-- the fetch_or of the shut bit
abbrev pub FetchesOr : WordStep → Sitting → ℕ → Sitting → Type 0
FetchesOr st m word n = (n.0 ≡ account_after shuts word m.0) × (n.1 ≡ m.1)
