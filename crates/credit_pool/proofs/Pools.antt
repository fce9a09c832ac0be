-- What holds of a pool that meets the rule, and what one of its seats may know.
use Rattle.std.proofs.Common.{◌≡◌, ℕ, zero, suc, ◌+◌, ◌*◌, ◌<◌, ◌↔◌, Bool, true, false, List, [], ◌∷◌, sum_by, count_by, IsTrue, refl, sym, ap, arith}
use Rattle.std.proofs.lemmas.List.Sums.{sum_by-cons}
use Rattle.std.proofs.lemmas.List.Elements.{All-nil, All-push}
use mathlib.Core.Option.{some}
use lib.ListN.{get_elem?}
use Rattle.lists.specs.Counts.{count}
use Rattle.lists.proofs.Counts.{of_count, to_count, to_count_none}
use Rattle.lists.proofs.SeatSums.{All-at, all_of}
use Rattle.credit_pool.specs.declared.account.Account.{Account}
use Rattle.credit_pool.specs.Accounts.{in_use, IsShut, first_account}
use Rattle.credit_pool.specs.Rule.{Pool, word_of, drawn_in, returned_in, HasSeat, IsEmpty, Balanced, HasSetter, Reads, first_pool}

-- where some elements have a bit, one of them can be named
module _ {A : Type 0} (p : A → Bool) where
  abbrev Named : List A → Type 0
  Named l = (i : ℕ) × (x : A) × (get_elem? l i ≡ some x) × (p x ≡ true)

  some_counted : (l : List A) → 0 < count_by p l → Named l
  some_counted [] h = absurd (omega arith)
  some_counted (x ∷ xs) h = by_bit (p x) refl (λ k. some_counted xs k)
    where
      by_bit : (b : Bool) → p x ≡ b → (0 < count_by p xs → Named xs) → Named (x ∷ xs)
      by_bit true e further = (0, x, refl, e)
      by_bit false e further =
          let at = further (omega (arith, h, sum_by-cons (λ y. count (p y)) x xs, ap count e)) in
          (suc at.0, at.1, at.2, at.3)

-- the parts of an account that set the bit
setter_parts : (v : Account) → (v.parts ≡ 0 → IsEmpty v) → IsTrue v.set_shut → 0 < v.parts
setter_parts v idle set_it = by_parts v.parts refl
  where
    by_parts : (n : ℕ) → v.parts ≡ n → 0 < v.parts
    by_parts zero e = absurd (omega (arith, to_count v.set_shut set_it, to_count_none v.set_shut (idle e).set_shut))
    by_parts (suc n) e = omega (arith, e)

-- the bit is set exactly where a seat that has parts set it
pub setter : (limit : ℕ) (s : Pool) → Balanced limit s → IsShut (word_of s) ↔ HasSetter s
setter limit s b = (there_is, bit_is)
  where
    there_is : IsShut (word_of s) → HasSetter s
    there_is shut =
        let at = some_counted (λ u. u.set_shut) s.views (b.was_set shut) in record {
          seat = at.0;
          account = at.1;
          there = at.2;
          has_parts = setter_parts at.1 (All-at (λ u. u.parts ≡ 0 → IsEmpty u) s.views at.0 at.1 b.idle at.2) at.3;
          set_it = at.3;
        }

    bit_is : HasSetter s → IsShut (word_of s)
    bit_is h = All-at (λ u. IsTrue u.set_shut → IsShut (word_of s)) s.views h.seat h.account b.set_it h.there h.set_it

-- who saw the bit finds it
pub seen_is : (limit : ℕ) (s : Pool) (id : ℕ) (v : Account) → Balanced limit s → HasSeat s id v → IsTrue v.saw_shut → IsShut (word_of s)
seen_is limit s id v b here = All-at (λ u. IsTrue u.saw_shut → IsShut (word_of s)) s.views id v b.saw here

pub nothing_without_parts : (limit : ℕ) (s : Pool) (id : ℕ) (v : Account) → Balanced limit s → HasSeat s id v → v.parts ≡ 0 → IsEmpty v
nothing_without_parts limit s id v b here = All-at (λ u. u.parts ≡ 0 → IsEmpty u) s.views id v b.idle here

-- what isn't free was drawn and not returned
pub out_is_in_use : (limit : ℕ) (s : Pool) → Balanced limit s → drawn_in s ≡ returned_in s + in_use limit (word_of s)
out_is_in_use limit s b = omega (arith, b.sum, b.within)

-- with all parts, the seat has all that a seat without parts has not
all_with : (limit : ℕ) (s : Pool) (id : ℕ) (v : Account) → Balanced limit s → HasSeat s id v → v.parts ≡ 64
    → (f : Account → ℕ) → ((u : Account) → IsEmpty u → f u ≡ 0) → sum_by f s.views ≡ f v
all_with limit s id v b me whole = all_of (λ u. u.parts) IsEmpty 64 s.views id v b.idle b.parts me whole

pub all_drawn : (limit : ℕ) (s : Pool) (id : ℕ) (v : Account) → Balanced limit s → HasSeat s id v → v.parts ≡ 64
    → (v.drawn ≡ drawn_in s) × (v.returned ≡ returned_in s)
all_drawn limit s id v b me whole =
    (sym (all_with limit s id v b me whole (λ u. u.drawn) (λ u e. e.drawn)), sym (all_with limit s id v b me whole (λ u. u.returned) (λ u e. e.returned)))

pub all_set : (limit : ℕ) (s : Pool) (id : ℕ) (v : Account) → Balanced limit s → HasSeat s id v → v.parts ≡ 64 → IsShut (word_of s) ↔ IsTrue v.set_shut
all_set limit s id v b me whole = (
  (λ shut. of_count v.set_shut (omega (arith, b.was_set shut, all_with limit s id v b me whole (λ u. count u.set_shut) (λ u e. to_count_none u.set_shut e.set_shut)))),
  All-at (λ u. IsTrue u.set_shut → IsShut (word_of s)) s.views id v b.set_it me,
)

-- what the seat may know of the word that it finds
pub reads : (limit : ℕ) (s : Pool) (id : ℕ) (v : Account) → v.limit ≡ limit → Balanced limit s → HasSeat s id v → Reads v (word_of s)
reads limit s id v same b me = record {
  within = omega (arith, b.within, same);
  saw = seen_is limit s id v b me;
  whole = λ all. let at = all_drawn limit s id v b me all in omega (arith, b.sum, same, at.0, at.1);
  whole_set = λ all. (all_set limit s id v b me all).0;
}

-- the pool as it is made
pub first_balanced : (limit : ℕ) → Balanced limit (first_pool limit)
first_balanced limit = record {
  words = refl;
  sum = omega arith;
  within = omega arith;
  parts = refl;
  idle = All-push (λ u. u.parts ≡ 0 → IsEmpty u) [] (first_account limit) (All-nil (λ u. u.parts ≡ 0 → IsEmpty u)) (λ z. absurd (omega (arith, z)));
  saw = All-push (λ u. IsTrue u.saw_shut → IsShut (2 * limit)) [] (first_account limit) (All-nil (λ u. IsTrue u.saw_shut → IsShut (2 * limit))) (λ h. absurd cc);
  set_it = All-push (λ u. IsTrue u.set_shut → IsShut (2 * limit)) [] (first_account limit) (All-nil (λ u. IsTrue u.set_shut → IsShut (2 * limit))) (λ h. absurd cc);
  was_set = λ shut. absurd (omega (arith, shut));
}
