-- Each step keeps the rule, whatever the pool is when the word changes, and tells the seat what its `Play` says.
use Rattle.std.proofs.Common.{◌≡◌, ℕ, ◌+◌, ◌-◌, ◌*◌, ◌/◌, ◌%◌, ◌<◌, ◌≤◌, ◌≢◌, ◌⊎◌, ⊎_elim, inl, inr, ◌||◌, eqb, eqb-true, [], set, get_or, sum_by, All, IsTrue, refl, sym, ap, subst, ◌∙◌, arith}
use Rattle.std.specs.Prelude.{bit_or}
use Rattle.std.proofs.lemmas.List.{length-set, get_or-set_same}
use Rattle.std.proofs.lemmas.List.Elements.{All-set, All-push}
use mathlib.Core.Option.{some, none}
use lib.ListN.{get_elem?}
use prog.Atomic.{either}
use Rattle.atomic_table.specs.Table.{step, Act, keeps, Valid, carried_after, stepped, Allows, Splits, Joins}
use Rattle.atomic_table.proofs.Lists.{exchanged}
use Rattle.lists.specs.Counts.{count}
use Rattle.lists.proofs.Counts.{to_count, count_le, count-or}
use Rattle.lists.proofs.SeatSums.{All-at, other_place, sum_by-changed, sum_by-split, sum_by-joined, term_le, terms_le}
use Rattle.credit_pool.specs.declared.account.Account.{Account}
use Rattle.credit_pool.specs.declared.rule.TheConstants.{WORD}
use Rattle.credit_pool.specs.Accounts.{free_of, is_shut, IsShut, IsOpen, rest_of, part_of, after_join, spent_account}
use Rattle.credit_pool.specs.Rule.{Pool, word_of, HasSeat, IsEmpty, Balanced}
use Rattle.credit_pool.specs.Steps.{Kind, looks, draws, gives, shuts, MayStep, word_after, account_after, after_step, after_split, after_joined, Sitting, Loads, Draws, Gives, FetchesOr}
use Rattle.credit_pool.proofs.Numbers.{drawn_half, drawn_free, drawn_bit, given_half, given_free, given_bit, shut_free, shut_bit, either_true}
use Rattle.credit_pool.proofs.Pools.{reads}

-- the word `new` and the account w may come after the word `old` and the account v of the seat that steps
record MayFollow (limit old new : ℕ) (v w : Account) : Type 0 where
  has_part : 0 < v.parts
  parts : w.parts ≡ v.parts
  sum : free_of new + w.drawn + v.returned ≡ free_of old + v.drawn + w.returned
  within : free_of new ≤ limit
  bit_stays : IsShut old → IsShut new
  saw : IsTrue w.saw_shut → IsShut new
  set_it : IsTrue w.set_shut → IsShut new
  set_stays : count v.set_shut ≤ count w.set_shut
  was_set : IsShut new → IsShut old ⊎ IsTrue w.set_shut

-- one step, at the word and at one account
placed : (limit : ℕ) (s : Pool) (id new : ℕ) (v w : Account)
    → Balanced limit s → HasSeat s id v → MayFollow limit (word_of s) new v w → Balanced limit (stepped s WORD new id [] w keeps)
placed limit s id new v w b me may =
    let put : get_or (set s.words WORD new) WORD 0 ≡ new = get_or-set_same s.words WORD new 0 (omega (arith, b.words)) in
    let half = ap free_of put in
    record {
      words = length-set s.words WORD new ∙ b.words;
      sum = omega (arith, half, b.sum, may.sum, sum_by-changed (λ u. u.drawn) s.views id v w me, sum_by-changed (λ u. u.returned) s.views id v w me);
      within = omega (arith, half, may.within);
      parts = omega (arith, b.parts, may.parts, sum_by-changed (λ u. u.parts) s.views id v w me);
      idle = All-set (λ u. u.parts ≡ 0 → IsEmpty u) s.views id w (λ z. absurd (omega (arith, may.parts, may.has_part))) b.idle;
      saw = subst (λ word. All (λ u. IsTrue u.saw_shut → IsShut word) (set s.views id w)) (sym put)
          (All-set (λ u. IsTrue u.saw_shut → IsShut new) s.views id w may.saw (λ k d h seen. may.bit_stays (b.saw k d h seen)));
      set_it = subst (λ word. All (λ u. IsTrue u.set_shut → IsShut word) (set s.views id w)) (sym put)
          (All-set (λ u. IsTrue u.set_shut → IsShut new) s.views id w may.set_it (λ k d h has. may.bit_stays (b.set_it k d h has)));
      was_set = λ shut. still_set (may.was_set (ap (λ k. k % 2) (sym put) ∙ shut));
    }
  where
    still_set : IsShut (word_of s) ⊎ IsTrue w.set_shut → 0 < sum_by (λ u. count u.set_shut) (set s.views id w)
    still_set (inl old) = omega (arith, b.was_set old, may.set_stays, sum_by-changed (λ u. count u.set_shut) s.views id v w me)
    still_set (inr here) = omega (arith, to_count w.set_shut here, may.set_stays, sum_by-changed (λ u. count u.set_shut) s.views id v w me, term_le (λ u. count u.set_shut) s.views id v me)

-- a seat that knows of the bit once it has read a word finds the bit in it
saw_now : (word : ℕ) (v : Account) → (IsTrue v.saw_shut → IsShut word) → IsTrue (v.saw_shut || is_shut word) → IsShut word
saw_now word v told h = ⊎_elim told (λ e. eqb-true (word % 2) 1 e) (either_true v.saw_shut (is_shut word) h)

-- each kind of step, at a word of which the seat's account knows no more than holds
follows : (limit word : ℕ) (v : Account) (kind : Kind) → 0 < v.parts → free_of word ≤ limit
    → (IsTrue v.saw_shut → IsShut word) → (IsTrue v.set_shut → IsShut word) → MayStep limit kind word
    → MayFollow limit word (word_after kind word) v (account_after kind word v)
follows limit word v looks part within saw set_it may = record {
  has_part = part;
  parts = refl;
  sum = refl;
  within = within;
  bit_stays = λ h. h;
  saw = saw_now word v saw;
  set_it = set_it;
  set_stays = omega arith;
  was_set = inl;
}
follows limit word v (draws n) part within saw set_it may =
    let bit = drawn_bit word n may.1 in
    record {
      has_part = part;
      parts = refl;
      sum = omega (arith, drawn_free word n may.1);
      within = omega (arith, drawn_free word n may.1);
      bit_stays = λ h. bit ∙ h;
      saw = λ h. bit ∙ saw_now word v saw h;
      set_it = λ h. bit ∙ set_it h;
      set_stays = omega arith;
      was_set = λ h. inl (sym bit ∙ h);
    }
follows limit word v (gives n) part within saw set_it may =
    let bit = given_bit word n in
    record {
      has_part = part;
      parts = refl;
      sum = omega (arith, given_free word n);
      within = omega (arith, given_free word n, may);
      bit_stays = λ h. bit ∙ h;
      saw = λ h. bit ∙ saw_now word v saw h;
      set_it = λ h. bit ∙ set_it h;
      set_stays = omega arith;
      was_set = λ h. inl (sym bit ∙ h);
    }
follows limit word v shuts part within saw set_it may = record {
  has_part = part;
  parts = refl;
  sum = omega (arith, shut_free word);
  within = omega (arith, shut_free word, within);
  bit_stays = λ _. shut_bit word;
  saw = λ _. shut_bit word;
  set_it = λ _. shut_bit word;
  set_stays = count_le v.set_shut;
  was_set = λ _. inr refl;
}

pub step_keeps : (limit : ℕ) (s : Pool) (id : ℕ) (v : Account) (kind : Kind)
    → Balanced limit s → HasSeat s id v → 0 < v.parts → MayStep limit kind (word_of s) → Balanced limit (after_step kind id v s)
step_keeps limit s id v kind b me part may =
    placed limit s id (word_after kind (word_of s)) v (account_after kind (word_of s) v) b me
    (follows limit (word_of s) v kind part b.within (All-at (λ u. IsTrue u.saw_shut → IsShut (word_of s)) s.views id v b.saw me)
    (All-at (λ u. IsTrue u.set_shut → IsShut (word_of s)) s.views id v b.set_it me) may)

pub loads : (limit slots id : ℕ) (me : Sitting) → me.0.limit ≡ limit → 0 < me.0.parts
    → Allows (Balanced limit) slots id me WORD (λ n. n) (Loads (step slots WORD 0 0 none) me)
loads limit slots id me same part s b count_is here small =
    (account_after looks (word_of s) me.0, keeps, tt, step_keeps limit s id me.0 looks b here part tt, (refl, refl, reads limit s id me.0 same b here))

-- what a step owes where the word becomes k
abbrev Owes : (ℕ → Sitting → Type 0) → ℕ → Pool → ℕ → Sitting → ℕ → Type 0
Owes then limit s id me k = (w : Account) × (a : Act (Unit {0})) × Valid s.homes me.1 a × Balanced limit (stepped s WORD k id me.1 w a) × then (word_of s) (w, carried_after me.1 a)

pub draw_exchanges : (limit slots id : ℕ) (me : Sitting) (old n : ℕ) → me.0.limit ≡ limit → 0 < me.0.parts → IsOpen old → n ≤ free_of old
    → Allows (Balanced limit) slots id me WORD (λ k. either (eqb k old) (old - 2 * n) k) (Draws (step slots WORD old (old - 2 * n) none) me)
draw_exchanges limit slots id me old n same part is_open enough s b count_is here small =
    let told = reads limit s id me.0 same b here in
    let word : ℕ = word_of s in
    let Becomes : ℕ → ℕ → Type 0 = λ new m. Balanced limit (stepped s WORD new id [] (account_after (draws m) word me.0) keeps) in
    exchanged word old (old - 2 * n) (Owes (Draws (step slots WORD old (old - 2 * n) none) me) limit s id me)
    (λ e. (
      account_after (draws ((old - (old - 2 * n)) / 2)) word me.0,
      keeps,
      tt,
      subst (Becomes (old - 2 * n)) (sym (drawn_half old n enough))
          (subst (λ k. Becomes (k - 2 * n) n) e (step_keeps limit s id me.0 (draws n) b here part (ap (λ k. k % 2) e ∙ is_open, omega (arith, enough, ap free_of e)))),
      ((λ _. refl), (λ ne. absurd (ne e)), refl, told),
    ))
    (λ ne. (account_after looks word me.0, keeps, tt, step_keeps limit s id me.0 looks b here part tt, ((λ e. absurd (ne e)), (λ _. refl), refl, told)))

pub give_exchanges : (limit slots id : ℕ) (me : Sitting) (old n : ℕ) → me.0.limit ≡ limit → 0 < me.0.parts → free_of old + n ≤ limit
    → Allows (Balanced limit) slots id me WORD (λ k. either (eqb k old) (old + 2 * n) k) (Gives (step slots WORD old (old + 2 * n) none) me)
give_exchanges limit slots id me old n same part room s b count_is here small =
    let told = reads limit s id me.0 same b here in
    let word : ℕ = word_of s in
    let Becomes : ℕ → ℕ → Type 0 = λ new m. Balanced limit (stepped s WORD new id [] (account_after (gives m) word me.0) keeps) in
    exchanged word old (old + 2 * n) (Owes (Gives (step slots WORD old (old + 2 * n) none) me) limit s id me)
    (λ e. (
      account_after (gives ((old + 2 * n - old) / 2)) word me.0,
      keeps,
      tt,
      subst (Becomes (old + 2 * n)) (sym (given_half old n))
          (subst (λ k. Becomes (k + 2 * n) n) e (step_keeps limit s id me.0 (gives n) b here part (omega (arith, room, ap free_of e)))),
      ((λ _. refl), (λ ne. absurd (ne e)), refl, told),
    ))
    (λ ne. (account_after looks word me.0, keeps, tt, step_keeps limit s id me.0 looks b here part tt, ((λ e. absurd (ne e)), (λ _. refl), refl, told)))

pub fetches_or : (limit slots id : ℕ) (me : Sitting) → 0 < me.0.parts
    → Allows (Balanced limit) slots id me WORD (λ k. bit_or k 1) (FetchesOr (step slots WORD 1 0 none) me)
fetches_or limit slots id me part s b count_is here small =
    (account_after shuts (word_of s) me.0, keeps, tt, step_keeps limit s id me.0 shuts b here part tt, (refl, refl))

-- a part of the seat goes to a new one
pub splits : (limit id : ℕ) (v : Account) → 1 < v.parts → Splits (Balanced limit) id v (rest_of v) (part_of v)
splits limit id v parts s b here =
    let Idle : Account → Type 0 = λ u. u.parts ≡ 0 → IsEmpty u in
    let Saw : Account → Type 0 = λ u. IsTrue u.saw_shut → IsShut (word_of s) in
    let saw : Saw v = All-at Saw s.views id v b.saw here in
    let Set : Account → Type 0 = λ u. IsTrue u.set_shut → IsShut (word_of s) in
    let drawn = sum_by-split (λ u. u.drawn) s.views id v (rest_of v) (part_of v) here in
    let returned = sum_by-split (λ u. u.returned) s.views id v (rest_of v) (part_of v) here in
    let idle = All-set Idle s.views id (rest_of v) (λ z. absurd (omega arith)) b.idle in
    record {
      words = b.words;
      sum = omega (arith, b.sum, drawn, returned);
      within = b.within;
      parts = omega (arith, b.parts, sum_by-split (λ u. u.parts) s.views id v (rest_of v) (part_of v) here);
      idle = All-push Idle (set s.views id (rest_of v)) (part_of v) idle (λ z. absurd (omega arith));
      saw = All-push Saw (set s.views id (rest_of v)) (part_of v) (All-set Saw s.views id (rest_of v) saw b.saw) saw;
      set_it = All-push Set (set s.views id (rest_of v)) (part_of v) (All-set Set s.views id (rest_of v) (All-at Set s.views id v b.set_it here) b.set_it) (λ h. absurd cc);
      was_set = λ shut. omega (arith, b.was_set shut, sum_by-split (λ u. count u.set_shut) s.views id v (rest_of v) (part_of v) here);
    }

-- one seat takes the account and the parts of another, which is spent
pub joins : (limit id other : ℕ) (v w : Account) → 0 < v.parts → Joins (Balanced limit) id v other w (after_join v w) spent_account
joins limit id other v w part s b here ne there =
    let both : Account = after_join v w in
    let there' : get_elem? s.views other ≡ some w = sym (other_place s.views id other both ne) ∙ there in
    let Idle : Account → Type 0 = λ u. u.parts ≡ 0 → IsEmpty u in
    let Saw : Account → Type 0 = λ u. IsTrue u.saw_shut → IsShut (word_of s) in
    let saw : Saw both = λ h. ⊎_elim (All-at Saw s.views id v b.saw here) (All-at Saw s.views other w b.saw there') (either_true v.saw_shut w.saw_shut h) in
    let Set : Account → Type 0 = λ u. IsTrue u.set_shut → IsShut (word_of s) in
    let set_it : Set both = λ h. ⊎_elim (All-at Set s.views id v b.set_it here) (All-at Set s.views other w b.set_it there') (either_true v.set_shut w.set_shut h) in
    let drawn = sum_by-joined (λ u. u.drawn) s.views id other v w both spent_account here there in
    let returned = sum_by-joined (λ u. u.returned) s.views id other v w both spent_account here there in
    let set_by = sum_by-joined (λ u. count u.set_shut) s.views id other v w both spent_account here there in
    let two = terms_le (λ u. count u.set_shut) s.views id other v w ne here there' in
    let idle = All-set Idle s.views id both (λ z. absurd (omega arith)) b.idle in
    record {
      words = b.words;
      sum = omega (arith, b.sum, drawn, returned);
      within = b.within;
      parts = omega (arith, b.parts, sum_by-joined (λ u. u.parts) s.views id other v w both spent_account here there);
      idle = All-set Idle (set s.views id both) other spent_account (λ _. record { drawn = refl; returned = refl; set_shut = refl }) idle;
      saw = All-set Saw (set s.views id both) other spent_account (λ h. absurd cc) (All-set Saw s.views id both saw b.saw);
      set_it = All-set Set (set s.views id both) other spent_account (λ h. absurd cc) (All-set Set s.views id both set_it b.set_it);
      was_set = λ shut. omega (arith, b.was_set shut, count-or v.set_shut w.set_shut, count_le both.set_shut, two, set_by);
    }

pub split_keeps : (limit : ℕ) (s : Pool) (id : ℕ) (v : Account) → Balanced limit s → HasSeat s id v → 1 < v.parts → Balanced limit (after_split id v s)
split_keeps limit s id v b here parts = splits limit id v parts s b here

pub join_keeps : (limit : ℕ) (s : Pool) (id other : ℕ) (v w : Account) → Balanced limit s → HasSeat s id v → HasSeat s other w → other ≢ id → 0 < v.parts
    → Balanced limit (after_joined id v other w s)
join_keeps limit s id other v w b here there ne part = joins limit id other v w part s b here ne (other_place s.views id other (after_join v w) ne ∙ there)
