-- How many lanes a set has, and which of them are its lowest ones.
use Rattle.std.proofs.Common.{◌≡◌, ℕ, ◌+◌, ◌<◌, ◌≤◌, ◌↔◌, Bool, true, false, Option, Some, None, IfSome, IfNone, refl, ⊎_elim, sym, subst, arith}
use Rattle.std.proofs.lemmas.Bool.{cases_eq, false≢true, false_from_ne_true}
use Rattle.small_set.specs.SmallSets.{is_member, members_below}
use Rattle.small_set.proofs.Counts.{one_if, counted_within, counted_parts, counted_none, counted_fewer, counted_one_less, counted_first, counted_joined}
use Rattle.lane_rings.specs.LaneSets.{AreLowest, Has, IsEmpty, IsFirst, SameBut, is_in, lanes_below, lanes_in}
use Rattle.lane_rings.specs.declared.hints.LaneSet.{LaneSet}

same_answer : (a b : Bool) → ((a ≡ true) ↔ (b ≡ true)) → a ≡ b
same_answer true b both = sym (both.0 refl)
same_answer false true both = both.1 refl
same_answer false false both = refl

-- one of two answers, where each is a case of this one
one_of : (a b c : Bool) → (b ≡ true → a ≡ true) → ((c ≡ true) ↔ ((a ≡ true) × (b ≡ true → ⊥))) → one_if a ≡ one_if b + one_if c
one_of true true true within rest = absurd ((rest.0 refl).1 refl)
one_of true true false within rest = omega arith
one_of true false true within rest = omega arith
one_of true false false within rest = absurd (false≢true (rest.1 (refl, λ e. false≢true e)))
one_of false true c within rest = absurd (false≢true (within refl))
one_of false false true within rest = absurd (false≢true (rest.0 refl).0)
one_of false false false within rest = omega arith

-- ---- the lanes below one

pub below_first : (s : LaneSet) (n : ℕ) → n ≤ 64 → lanes_below s n ≡ members_below s.low n
unfolding lanes_below members_below
below_first s n le = counted_first (is_member s.low) (is_member s.high) 64 n le

pub below_joined : (s : LaneSet) (n : ℕ) → lanes_below s (64 + n) ≡ members_below s.low 64 + members_below s.high n
unfolding lanes_below members_below
below_joined s n = counted_joined (is_member s.low) (is_member s.high) 64 n

pub members_within : (s : LaneSet) (n : ℕ) → (members_below s.low n ≤ n) × (members_below s.high n ≤ n)
unfolding members_below
members_within s n = (counted_within (is_member s.low) n, counted_within (is_member s.high) n)

-- ---- the lanes of a set

pub none_in : (s : LaneSet) → IsEmpty s → lanes_in s ≡ 0
unfolding lanes_below
none_in s empty = counted_none (is_in s) 128 (λ i lt. false_from_ne_true (is_in s i) (empty i))

pub fewer_in : (s t : LaneSet) → ((i : ℕ) → Has t i → Has s i) → lanes_in t ≤ lanes_in s
unfolding lanes_below
fewer_in s t within = counted_fewer (is_in s) (is_in t) 128 within

pub one_less_in : (s t : LaneSet) (k : ℕ) → k < 128 → Has s k → (¬ Has t k) → SameBut k s t → lanes_in t + 1 ≡ lanes_in s
unfolding lanes_below
one_less_in s t k lt there gone others =
    sym (counted_one_less (is_in s) (is_in t) k 128 lt there (false_from_ne_true (is_in t k) gone) (λ i apart. same_answer (is_in t i) (is_in s i) (others i apart)))

pub rest_in : (s t u : LaneSet) → ((i : ℕ) → Has t i → Has s i) → ((i : ℕ) → Has u i ↔ (Has s i × (¬ Has t i))) → lanes_in s ≡ lanes_in t + lanes_in u
unfolding lanes_below
rest_in s t u within rest = counted_parts (is_in s) (is_in t) (is_in u) 128 (λ i lt. one_of (is_in s i) (is_in t i) (is_in u i) (within i) (rest i))

-- without one lane a set has no others
pub still_in : (s t : LaneSet) (k : ℕ) → (¬ Has t k) → SameBut k s t → (i : ℕ) → Has t i → Has s i
still_in s t k gone others i here = ⊎_elim (λ e. absurd (gone (subst (λ j. Has t j) e here))) (λ apart. (others i apart).0 here) (cases_eq i k)

-- ---- the lowest lanes

-- what is left of a set once so many of its lowest lanes are taken
pub record IsLeft (s : LaneSet) (taken : ℕ) (left : LaneSet) : Type 0 where
  pub within : (i : ℕ) → Has left i → Has s i
  pub above : (i j : ℕ) → Has s i → (¬ Has left i) → Has left j → i < j
  pub count : lanes_in left + taken ≡ lanes_in s

pub one_taken : (s left next : LaneSet) (taken : ℕ) (o : Option ℕ) → IfSome o (IsFirst left) → IfSome o (λ k. ¬ Has next k) → IfSome o (λ k. SameBut k left next)
    → IfSome o (λ _. lanes_in next + 1 ≡ lanes_in left) → IfNone o (IsEmpty left) → taken < lanes_in s → IsLeft s taken left → IsLeft s (taken + 1) next
one_taken s left next taken None first gone others fewer none more was = let no = none_in left none in let all = was.count in absurd (omega arith)
one_taken s left next taken (Some k) first gone others fewer none more was =
    let still = still_in left next k gone others in
    record {
      within = λ i here. was.within i (still i here);
      above = λ i j here out there.
          ⊎_elim
          (λ e. let least = first.first j (still j there) in ⊎_elim (λ same. absurd (gone (subst (λ x. Has next x) same there))) (λ apart. omega arith) (cases_eq j k))
          (λ apart. was.above i j here (λ in_left. out ((others i apart).1 in_left)) (still j there))
          (cases_eq i k);
      count = let all = was.count in omega arith;
    }

pub lowest_taken : (s left low : LaneSet) (most : ℕ) → most ≤ lanes_in s → IsLeft s most left → ((i : ℕ) → Has low i ↔ (Has s i × (¬ Has left i))) → AreLowest s most low
lowest_taken s left low most more was rest = record {
  within = λ i here. ((rest i).0 here).0;
  first = λ i j there here le. (rest i).1 (here, λ in_left. let past = was.above j i ((rest j).0 there).0 ((rest j).0 there).1 in_left in absurd (omega arith));
  count = let all = was.count in let parts = rest_in s left low was.within rest in omega arith;
}
