-- Sums over numbers and over lists, term by term.
use Rattle.std.proofs.Common.{◌≡◌, ℕ, zero, suc, ◌+◌, ◌<◌, ◌≤◌, List, [], ◌∷◌, All, refl, sym, ap, ◌∙◌, arith, sum_by}
use Rattle.std.specs.List.{range_with_len}
use Rattle.std.proofs.lemmas.List.Sums.{sum_by-cons}
use Rattle.std.proofs.lemmas.List.Elements.{All-head, All-tail}
use Rattle.lists.proofs.Sums.{sum_of_none}

pub sum_split : (f g h : ℕ → ℕ) (a n : ℕ) → ((j : ℕ) → f j ≡ g j + h j) → sum_by f (range_with_len a n) ≡ sum_by g (range_with_len a n) + sum_by h (range_with_len a n)
sum_split f g h a zero e = refl
sum_split f g h a (suc n) e =
    let rest = range_with_len (a + 1) n in
    omega (arith, e a, sum_by-cons f a rest, sum_by-cons g a rest, sum_by-cons h a rest, sum_split f g h (a + 1) n e)

pub sum_within : (f g : ℕ → ℕ) (a n m : ℕ) → a + n ≤ m → ((j : ℕ) → j < m → f j ≡ g j) → sum_by f (range_with_len a n) ≡ sum_by g (range_with_len a n)
sum_within f g a zero m le e = refl
sum_within f g a (suc n) m le e =
    let rest = range_with_len (a + 1) n in
    omega (arith, e a (omega (arith, le)), sum_by-cons f a rest, sum_by-cons g a rest, sum_within f g (a + 1) n m (omega (arith, le)) e)

-- of each item two terms
pub sum_of_two : {X : Type 0} (f g h : X → ℕ) (xs : List X) → All (λ x. f x ≡ g x + h x) xs → sum_by f xs ≡ sum_by g xs + sum_by h xs
sum_of_two f g h [] all = refl
sum_of_two f g h (x ∷ xs) all =
    omega (
      arith,
      All-head (λ y. f y ≡ g y + h y) x xs all,
      sum_of_two f g h xs (All-tail (λ y. f y ≡ g y + h y) x xs all),
      sum_by-cons f x xs,
      sum_by-cons g x xs,
      sum_by-cons h x xs,
    )

-- a sum of sums, the other way round
pub sum_of_sums : {X : Type 0} (f : X → ℕ → ℕ) (n : ℕ) (xs : List X) → sum_by (λ x. sum_by (f x) (range_with_len 0 n)) xs ≡ sum_by (λ j. sum_by (λ x. f x j) xs) (range_with_len 0 n)
sum_of_sums f n [] = sym (sum_of_none (λ (j : ℕ). 0) (range_with_len 0 n) (λ k d lt. refl))
sum_of_sums f n (x ∷ xs) =
    sum_by-cons (λ y. sum_by (f y) (range_with_len 0 n)) x xs ∙ ap (λ m. sum_by (f x) (range_with_len 0 n) + m) (sum_of_sums f n xs)
    ∙ sym (sum_split (λ j. sum_by (λ y. f y j) (x ∷ xs)) (f x) (λ j. sum_by (λ y. f y j) xs) 0 n (λ j. sum_by-cons (λ y. f y j) x xs))
