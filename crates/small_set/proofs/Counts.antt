-- How many numbers of a range pass a test, and how many bits of a word are set below one of them.
use Rattle.std.proofs.Common.{◌≡◌, ◌≢◌, ℕ, zero, suc, ◌+◌, ◌-◌, ◌/◌, ◌^◌, ◌%◌, ◌<◌, ◌≤◌, ◌==◌, Bool, true, false, cond, [], count_by, refl, ⊎_elim, ◌∙◌, sym, ap, arith, ltb}
use Rattle.std.proofs.lemmas.Bool.{cases_eq, cond-true, cond-false, lt-ltb, le-ltb, false≢true}
use Rattle.std.proofs.lemmas.List.FromFn.{length-range_with_len}
use Rattle.std.proofs.lemmas.List.Sums.{sum_by-cons, count_by-le-length}
use Rattle.std.proofs.lemmas.Nat.{mod-pow-add, mod_below, ones-le, ones_cat, pow_pos}
use Rattle.std.proofs.lemmas.Nat.Bits.{bit_at-lt, bit_at_above}
use Rattle.std.specs.Int.{bit_at}
use Rattle.std.specs.Int.RustNames.{count_ones}
use Rattle.std.specs.List.{range_with_len}

-- what a number counts for that passes the test, or doesn't
abbrev pub one_if : Bool → ℕ
one_if b = cond b 1 0

one_more : (a b : Bool) → (b ≡ true → a ≡ true) → one_if b ≤ one_if a
one_more true true both = omega arith
one_more true false both = omega arith
one_more false true both = absurd (false≢true (both refl))
one_more false false both = omega arith

-- one more number
from_on : (p : ℕ → Bool) (a n : ℕ) → count_by p (range_with_len a (suc n)) ≡ count_by p (range_with_len a n) + one_if (p (a + n))
from_on p a zero =
    let at : a + 0 ≡ a = omega arith in
    let here = ap (λ n. one_if (p n)) at in
    let one = sum_by-cons (λ x. one_if (p x)) a [] in
    omega arith
from_on p a (suc n) =
    let at : a + 1 + n ≡ a + suc n = omega arith in
    let rest = from_on p (a + 1) n in
    let one = sum_by-cons (λ x. one_if (p x)) a (range_with_len (a + 1) n) in
    let all = sum_by-cons (λ x. one_if (p x)) a (range_with_len (a + 1) (suc n)) in
    let here = ap (λ n. one_if (p n)) at in
    omega arith

pub counted_more : (p : ℕ → Bool) (n : ℕ) → count_by p (range_with_len 0 (suc n)) ≡ count_by p (range_with_len 0 n) + one_if (p n)
counted_more p n =
    let at : 0 + n ≡ n = omega arith in
    let here = ap (λ i. one_if (p i)) at in
    let more = from_on p 0 n in
    omega arith

pub counted_within : (p : ℕ → Bool) (n : ℕ) → count_by p (range_with_len 0 n) ≤ n
counted_within p n = let few = count_by-le-length p (range_with_len 0 n) in let long = length-range_with_len 0 n in omega arith

-- a test that is the sum of two others
pub counted_parts : (p q r : ℕ → Bool) (n : ℕ) → ((i : ℕ) → i < n → one_if (p i) ≡ one_if (q i) + one_if (r i))
    → count_by p (range_with_len 0 n) ≡ count_by q (range_with_len 0 n) + count_by r (range_with_len 0 n)
counted_parts p q r zero each = refl
counted_parts p q r (suc n) each =
    let all = counted_more p n in
    let left = counted_more q n in
    let right = counted_more r n in
    let rest = counted_parts p q r n (λ i lt. each i (omega arith)) in
    let here = each n (omega arith) in
    omega arith

pub counted_same : (p q : ℕ → Bool) (n : ℕ) → ((i : ℕ) → i < n → p i ≡ q i) → count_by p (range_with_len 0 n) ≡ count_by q (range_with_len 0 n)
counted_same p q zero each = refl
counted_same p q (suc n) each =
    let all = counted_more p n in
    let other = counted_more q n in
    let rest = counted_same p q n (λ i lt. each i (omega arith)) in
    let here = ap one_if (each n (omega arith)) in
    omega arith

pub counted_none : (p : ℕ → Bool) (n : ℕ) → ((i : ℕ) → i < n → p i ≡ false) → count_by p (range_with_len 0 n) ≡ 0
counted_none p zero each = refl
counted_none p (suc n) each =
    let all = counted_more p n in
    let rest = counted_none p n (λ i lt. each i (omega arith)) in
    let here = ap one_if (each n (omega arith)) in
    omega arith

pub counted_fewer : (p q : ℕ → Bool) (n : ℕ) → ((i : ℕ) → q i ≡ true → p i ≡ true) → count_by q (range_with_len 0 n) ≤ count_by p (range_with_len 0 n)
counted_fewer p q zero each = omega arith
counted_fewer p q (suc n) each =
    let all = counted_more p n in
    let other = counted_more q n in
    let rest = counted_fewer p q n each in
    let here = one_more (p n) (q n) (each n) in
    omega arith

-- a number that passes one test and not the other, where all others pass both or neither
pub counted_one_less : (p q : ℕ → Bool) (k n : ℕ) → k < n → p k ≡ true → q k ≡ false → ((i : ℕ) → i ≢ k → q i ≡ p i)
    → count_by p (range_with_len 0 n) ≡ count_by q (range_with_len 0 n) + 1
counted_one_less p q k zero lt passes fails each = absurd (omega arith)
counted_one_less p q k (suc n) lt passes fails each =
    let all = counted_more p n in
    let other = counted_more q n in
    ⊎_elim
    (λ last.
    let rest = counted_same q p n (λ i less. each i (omega arith)) in
    let here = ap one_if (ap p last ∙ passes) in
    let there = ap one_if (ap q last ∙ fails) in
    omega arith)
    (λ apart.
    let rest = counted_one_less p q k n (omega arith) passes fails each in
    let here = ap one_if (each n apart) in
    omega arith)
    (cases_eq n k)

-- past a number from which on none passes there are no more
pub counted_past : (p : ℕ → Bool) (n more : ℕ) → ((i : ℕ) → n ≤ i → p i ≡ false) → count_by p (range_with_len 0 (n + more)) ≡ count_by p (range_with_len 0 n)
counted_past p n zero none = let e : n + 0 ≡ n = omega arith in ap (λ m. count_by p (range_with_len 0 m)) e
counted_past p n (suc more) none =
    let e : n + suc more ≡ suc (n + more) = omega arith in
    let longer = ap (λ m. count_by p (range_with_len 0 m)) e in
    let all = counted_more p (n + more) in
    let rest = counted_past p n more none in
    let here = ap one_if (none (n + more) (omega arith)) in
    omega arith

-- two tests, one behind the other
module _ (q r : ℕ → Bool) (width : ℕ) where
  pub counted_first : (n : ℕ) → n ≤ width → count_by (λ i. cond (ltb i width) (q i) (r (i - width))) (range_with_len 0 n) ≡ count_by q (range_with_len 0 n)
  counted_first n le = counted_same (λ i. cond (ltb i width) (q i) (r (i - width))) q n (λ i lt. cond-true (ltb i width) (q i) (r (i - width)) (lt-ltb i width (omega arith)))

  pub counted_joined : (n : ℕ) → count_by (λ i. cond (ltb i width) (q i) (r (i - width))) (range_with_len 0 (width + n)) ≡ count_by q (range_with_len 0 width) + count_by r (range_with_len 0 n)
  counted_joined zero =
      let e : width + 0 ≡ width = omega arith in
      let same = ap (λ m. count_by (λ i. cond (ltb i width) (q i) (r (i - width))) (range_with_len 0 m)) e in
      let first = counted_first width (omega arith) in
      omega arith
  counted_joined (suc n) =
      let e : width + suc n ≡ suc (width + n) = omega arith in
      let longer = ap (λ m. count_by (λ i. cond (ltb i width) (q i) (r (i - width))) (range_with_len 0 m)) e in
      let all = counted_more (λ i. cond (ltb i width) (q i) (r (i - width))) (width + n) in
      let other = counted_more r n in
      let rest = counted_joined n in
      let at : width + n - width ≡ n = omega arith in
      let here = ap one_if (cond-false (ltb (width + n) width) (q (width + n)) (r (width + n - width)) (le-ltb (width + n) width (omega arith)) ∙ ap r at) in
      omega arith

-- ---- the bits of a word

one_bit : (b : ℕ) → b < 2 → count_ones b ≡ one_if (b == 1)
unfolding count_ones
one_bit b lt = ⊎_elim (λ one. ap count_ones one ∙ sym (ap (λ n. one_if (n == 1)) one)) (λ other. let none : b ≡ 0 = omega arith in ap count_ones none ∙ sym (ap (λ n. one_if (n == 1)) none)) (cases_eq b 1)

-- the ones of a word's lowest bits
pub ones_below : (n k : ℕ) → count_ones (n % 2 ^ k) ≡ count_by (λ i. bit_at n i == 1) (range_with_len 0 k)
ones_below n zero = omega (arith, ones-le 0 (n % 1) (omega arith))
ones_below n (suc k) =
    let parts = ap count_ones (mod-pow-add n 1 k) in
    let apart = ones_cat k (n / 2 ^ k % 2) (n % 2 ^ k) (mod_below n (2 ^ k) (pow_pos k)) in
    let top = one_bit (bit_at n k) (bit_at-lt n k) in
    let rest = ones_below n k in
    let more = counted_more (λ i. bit_at n i == 1) k in
    ap (λ j. count_ones (n % 2 ^ j)) (omega arith) ∙ parts ∙ apart ∙ omega arith

-- a word of so many bits has no others
pub ones_from : (n width more : ℕ) → n < 2 ^ width → count_by (λ i. bit_at n i == 1) (range_with_len 0 (width + more)) ≡ count_by (λ i. bit_at n i == 1) (range_with_len 0 width)
ones_from n width more fits = counted_past (λ i. bit_at n i == 1) width more (λ i ge. ap (λ b. b == 1) (bit_at_above n width i fits ge))
