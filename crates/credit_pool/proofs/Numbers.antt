-- The credit word as a number: what an exchange and the fetch_or make of it, and how its bit is noted.
use Rattle.std.proofs.Common.{◌≡◌, ℕ, ◌+◌, ◌-◌, ◌*◌, ◌/◌, ◌%◌, ◌<◌, ◌≤◌, Bool, true, false, ◌||◌, ◌⊎◌, inl, inr, refl, ap, ◌∙◌, arith}
use Rattle.std.specs.Prelude.{bit_or}
use Rattle.std.proofs.lemmas.Nat.{or_mod, or_shr}
use Rattle.std.specs.Int.Bits.{or_zero_r}
use Rattle.credit_pool.specs.Accounts.{free_of, IsShut}

-- a draw of n credits from a word that has them
pub drawn_half : (word n : ℕ) → n ≤ free_of word → (word - (word - 2 * n)) / 2 ≡ n
drawn_half word n h = omega arith

pub drawn_free : (word n : ℕ) → n ≤ free_of word → free_of (word - 2 * n) + n ≡ free_of word
drawn_free word n h = omega arith

pub drawn_bit : (word n : ℕ) → n ≤ free_of word → (word - 2 * n) % 2 ≡ word % 2
drawn_bit word n h = omega arith

-- a return of n credits
pub given_half : (word n : ℕ) → (word + 2 * n - word) / 2 ≡ n
given_half word n = omega arith

pub given_free : (word n : ℕ) → free_of (word + 2 * n) ≡ free_of word + n
given_free word n = omega arith

pub given_bit : (word n : ℕ) → (word + 2 * n) % 2 ≡ word % 2
given_bit word n = omega arith

-- the fetch_or keeps the free credits and sets the bit
pub shut_free : (word : ℕ) → free_of (bit_or word 1) ≡ free_of word
shut_free word = or_shr word 1 1 ∙ or_zero_r (word / 2)

-- a bit, or'd with 1, is 1
or_one : (b : ℕ) → b < 2 → bit_or b 1 ≡ 1
or_one b h = grind arith

pub shut_bit : (word : ℕ) → IsShut (bit_or word 1)
shut_bit word = or_mod word 1 1 ∙ or_one (word % 2) (omega arith)

-- what a seat knows of the bit after a read, it knew before or read
pub either_true : (a b : Bool) → (a || b) ≡ true → (a ≡ true) ⊎ (b ≡ true)
either_true true b h = inl refl
either_true false b h = inr h

pub either_stays : (a b : Bool) → a ≡ true → (a || b) ≡ true
either_stays a b h = ap (λ c. c || b) h
