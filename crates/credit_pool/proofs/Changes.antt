-- What a step changes of a pool.
use Rattle.std.proofs.Common.{◌≡◌, ◌≢◌, ℕ, ◌+◌, ◌%◌, ◌<◌, [], ◌∷◌, length, set, refl, sym, ap, ◌∙◌, arith}
use Rattle.std.proofs.lemmas.List.{length-set, get_or-set_same}
use mathlib.Core.Option.{some}
use lib.ListN.{get_elem?}
use Rattle.atomic_table.proofs.Lists.{set_here, at_longer, at_last}
use Rattle.lists.proofs.SeatSums.{place_below, other_place, sum_by-changed, sum_by-split, sum_by-joined}
use Rattle.credit_pool.specs.declared.account.Account.{Account}
use Rattle.credit_pool.specs.declared.rule.TheConstants.{WORD}
use Rattle.credit_pool.specs.Accounts.{free_of, is_shut, IsShut, Stays, rest_of, part_of, after_join, spent_account}
use Rattle.credit_pool.specs.Rule.{Pool, word_of, free_in, drawn_in, returned_in, parts_in, HasSeat, Balanced}
use Rattle.credit_pool.specs.Steps.{Kind, looks, draws, gives, shuts, MayStep, word_after, account_after, drawn_by, given_by, after_step, after_split, after_joined}
use Rattle.credit_pool.proofs.Numbers.{drawn_free, given_free, given_bit, shut_free, shut_bit, either_stays}

-- the word that a step puts
word_is : (limit : ℕ) (s : Pool) (id : ℕ) (v : Account) (kind : Kind) → Balanced limit s → word_of (after_step kind id v s) ≡ word_after kind (word_of s)
word_is limit s id v kind b = get_or-set_same s.words WORD (word_after kind (word_of s)) 0 (omega (arith, b.words))

free_after : (limit word : ℕ) (kind : Kind) → MayStep limit kind word → free_of (word_after kind word) + drawn_by kind ≡ free_of word + given_by kind
free_after limit word looks may = refl
free_after limit word (draws n) may = omega (arith, drawn_free word n may.1)
free_after limit word (gives n) may = omega (arith, given_free word n)
free_after limit word shuts may = omega (arith, shut_free word)

pub step_free : (limit : ℕ) (s : Pool) (id : ℕ) (v : Account) (kind : Kind) → Balanced limit s → MayStep limit kind (word_of s)
    → free_in (after_step kind id v s) + drawn_by kind ≡ free_in s + given_by kind
step_free limit s id v kind b may = omega (arith, ap free_of (word_is limit s id v kind b), free_after limit (word_of s) kind may)

bit_after : (limit word : ℕ) (kind : Kind) → MayStep limit kind word → IsShut word → IsShut (word_after kind word) × (drawn_by kind ≡ 0)
bit_after limit word looks may shut = (shut, refl)
bit_after limit word (draws n) may shut = absurd (omega (arith, may.0, shut))
bit_after limit word (gives n) may shut = (given_bit word n ∙ shut, refl)
bit_after limit word shuts may shut = (shut_bit word, refl)

pub step_bit : (limit : ℕ) (s : Pool) (id : ℕ) (v : Account) (kind : Kind) → Balanced limit s → MayStep limit kind (word_of s) → IsShut (word_of s)
    → IsShut (word_of (after_step kind id v s)) × (drawn_by kind ≡ 0)
step_bit limit s id v kind b may shut =
    let after = bit_after limit (word_of s) kind may shut in
    (ap (λ k. k % 2) (word_is limit s id v kind b) ∙ after.0, after.1)

pub step_own : (s : Pool) (id : ℕ) (v : Account) (kind : Kind) → HasSeat s id v → HasSeat (after_step kind id v s) id (account_after kind (word_of s) v)
step_own s id v kind here = set_here s.views id (account_after kind (word_of s) v) (place_below s.views id v here)

pub step_others : (s : Pool) (id other : ℕ) (v : Account) (kind : Kind) → other ≢ id → get_elem? (after_step kind id v s).views other ≡ get_elem? s.views other
step_others s id other v kind ne = other_place s.views id other (account_after kind (word_of s) v) ne

drew : (word : ℕ) (v : Account) (kind : Kind) → (account_after kind word v).drawn ≡ v.drawn + drawn_by kind
drew word v looks = omega arith
drew word v (draws n) = refl
drew word v (gives n) = omega arith
drew word v shuts = omega arith

gave : (word : ℕ) (v : Account) (kind : Kind) → (account_after kind word v).returned ≡ v.returned + given_by kind
gave word v looks = omega arith
gave word v (draws n) = omega arith
gave word v (gives n) = refl
gave word v shuts = omega arith

same_parts : (word : ℕ) (v : Account) (kind : Kind) → (account_after kind word v).parts ≡ v.parts
same_parts word v looks = refl
same_parts word v (draws n) = refl
same_parts word v (gives n) = refl
same_parts word v shuts = refl

pub step_drawn : (s : Pool) (id : ℕ) (v : Account) (kind : Kind) → HasSeat s id v → drawn_in (after_step kind id v s) ≡ drawn_in s + drawn_by kind
step_drawn s id v kind here = omega (arith, drew (word_of s) v kind, sum_by-changed (λ u. u.drawn) s.views id v (account_after kind (word_of s) v) here)

pub step_returned : (s : Pool) (id : ℕ) (v : Account) (kind : Kind) → HasSeat s id v → returned_in (after_step kind id v s) ≡ returned_in s + given_by kind
step_returned s id v kind here = omega (arith, gave (word_of s) v kind, sum_by-changed (λ u. u.returned) s.views id v (account_after kind (word_of s) v) here)

pub step_parts : (s : Pool) (id : ℕ) (v : Account) (kind : Kind) → HasSeat s id v → parts_in (after_step kind id v s) ≡ parts_in s
step_parts s id v kind here = omega (arith, same_parts (word_of s) v kind, sum_by-changed (λ u. u.parts) s.views id v (account_after kind (word_of s) v) here)

-- what a step leaves of the account, unless it sets the bit
pub step_stays : (word : ℕ) (v : Account) (kind : Kind) → kind ≢ shuts → Stays v (account_after kind word v)
step_stays word v looks ne = record { limit = refl; parts = refl; set_shut = refl; saw_shut = either_stays v.saw_shut (is_shut word) }
step_stays word v (draws n) ne = record { limit = refl; parts = refl; set_shut = refl; saw_shut = either_stays v.saw_shut (is_shut word) }
step_stays word v (gives n) ne = record { limit = refl; parts = refl; set_shut = refl; saw_shut = either_stays v.saw_shut (is_shut word) }
step_stays word v shuts ne = absurd (ne refl)

pub split_seats : (s : Pool) (id : ℕ) (v : Account) → HasSeat s id v → 1 < v.parts
    → HasSeat (after_split id v s) id (rest_of v) × HasSeat (after_split id v s) (length s.views) (part_of v)
split_seats s id v here parts = (
  at_longer (set s.views id (rest_of v)) (part_of v ∷ []) id (rest_of v) (set_here s.views id (rest_of v) (place_below s.views id v here)),
  at_last (set s.views id (rest_of v)) (part_of v) (length s.views) (length-set s.views id (rest_of v)),
)

pub split_others : (s : Pool) (id other : ℕ) (v w : Account) → other ≢ id → HasSeat s other w → HasSeat (after_split id v s) other w
split_others s id other v w ne there = at_longer (set s.views id (rest_of v)) (part_of v ∷ []) other w (other_place s.views id other (rest_of v) ne ∙ there)

pub split_sums : (s : Pool) (id : ℕ) (v : Account) → HasSeat s id v → 1 < v.parts
    → (drawn_in (after_split id v s) ≡ drawn_in s) × (returned_in (after_split id v s) ≡ returned_in s) × (parts_in (after_split id v s) ≡ parts_in s)
split_sums s id v here parts = (
  omega (arith, sum_by-split (λ u. u.drawn) s.views id v (rest_of v) (part_of v) here),
  omega (arith, sum_by-split (λ u. u.returned) s.views id v (rest_of v) (part_of v) here),
  omega (arith, parts, sum_by-split (λ u. u.parts) s.views id v (rest_of v) (part_of v) here),
)

-- the second seat is there once the first has changed
there_still : (s : Pool) (id other : ℕ) (w both : Account) → HasSeat s other w → other ≢ id → get_elem? (set s.views id both) other ≡ some w
there_still s id other w both there ne = other_place s.views id other both ne ∙ there

pub join_seats : (s : Pool) (id other : ℕ) (v w : Account) → HasSeat s id v → HasSeat s other w → other ≢ id
    → HasSeat (after_joined id v other w s) id (after_join v w) × HasSeat (after_joined id v other w s) other spent_account
join_seats s id other v w here there ne =
    let both : Account = after_join v w in (
      other_place (set s.views id both) other id spent_account (λ e. ne (sym e)) ∙ set_here s.views id both (place_below s.views id v here),
      set_here (set s.views id both) other spent_account (place_below (set s.views id both) other w (there_still s id other w both there ne)),
    )

pub join_others : (s : Pool) (id other third : ℕ) (v w : Account) → third ≢ id → third ≢ other
    → get_elem? (after_joined id v other w s).views third ≡ get_elem? s.views third
join_others s id other third v w n1 n2 = other_place (set s.views id (after_join v w)) other third spent_account n2 ∙ other_place s.views id third (after_join v w) n1

pub join_sums : (s : Pool) (id other : ℕ) (v w : Account) → HasSeat s id v → HasSeat s other w → other ≢ id
    → (drawn_in (after_joined id v other w s) ≡ drawn_in s) × (returned_in (after_joined id v other w s) ≡ returned_in s) × (parts_in (after_joined id v other w s) ≡ parts_in s)
join_sums s id other v w here there ne =
    let both : Account = after_join v w in
    let there' = there_still s id other w both there ne in (
      omega (arith, sum_by-joined (λ u. u.drawn) s.views id other v w both spent_account here there'),
      omega (arith, sum_by-joined (λ u. u.returned) s.views id other v w both spent_account here there'),
      omega (arith, sum_by-joined (λ u. u.parts) s.views id other v w both spent_account here there'),
    )
