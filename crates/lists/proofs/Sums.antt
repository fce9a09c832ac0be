-- Sums over the numbers below n, where the terms change at one place, and how many items there are, key by key.
use Rattle.std.specs.Prelude.{ℕ, ◌≡◌, ◌≢◌, ◌<◌, ◌≤◌, ◌+◌, ◌*◌, Bool, true, cond, ◌||◌, ◌==◌, List, [], ◌∷◌, length, map, sum_by, count_by, All, AllPairs}
use Rattle.std.specs.List.{range_with_len}
use Rattle.std.proofs.Common.{refl, sym, ap, ◌∙◌, subst, arith, ⊎_elim, zero, suc, get_or, eq-eqb}
use Rattle.std.proofs.lemmas.Bool.{cases_eq, false≢true, ne_eqb}
use Rattle.std.proofs.lemmas.List.Elements.{All-cons, All-head, All-tail}
use Rattle.std.proofs.lemmas.List.FromFn.{length-range_with_len, fill_by_all}
use Rattle.std.proofs.lemmas.List.Sums.{sum_by-cons, sum_by-le}
use Rattle.lists.specs.Lists.{has}

sum_same_from : (f g : ℕ → ℕ) (a n : ℕ) → ((k : ℕ) → a ≤ k → f k ≡ g k) → sum_by f (range_with_len a n) ≡ sum_by g (range_with_len a n)
sum_same_from f g a zero same = refl
sum_same_from f g a (suc n) same =
    let rest = sum_same_from f g (a + 1) n (λ k past. same k (omega arith)) in
    let here : f a ≡ g a = same a (omega arith) in
    omega (arith, sum_by-cons f a (range_with_len (a + 1) n), sum_by-cons g a (range_with_len (a + 1) n))

-- two functions that agree at each item
pub sum_agree : {X : Type 0} (f g : X → ℕ) (xs : List X) → All (λ x. f x ≡ g x) xs → sum_by f xs ≡ sum_by g xs
sum_agree f g [] all = refl
sum_agree f g (x ∷ xs) all =
    let rest = sum_agree f g xs (All-tail (λ y. f y ≡ g y) x xs all) in
    let here : f x ≡ g x = All-head (λ y. f y ≡ g y) x xs all in
    omega (arith, sum_by-cons f x xs, sum_by-cons g x xs)

-- the terms are the same
pub sum_same : (f g : ℕ → ℕ) (n : ℕ) → ((k : ℕ) → f k ≡ g k) → sum_by f (range_with_len 0 n) ≡ sum_by g (range_with_len 0 n)
sum_same f g n same = sum_same_from f g 0 n (λ k past. same k)

sum_changed_from : (f g : ℕ → ℕ) (a n i x y : ℕ) → a ≤ i → i < a + n → f i + x ≡ g i + y → ((k : ℕ) → k ≢ i → f k ≡ g k) → sum_by f (range_with_len a n) + x ≡ sum_by g (range_with_len a n) + y
sum_changed_from f g a zero i x y from below here same = absurd (omega arith)
sum_changed_from f g a (suc n) i x y from below here same =
    ⊎_elim
    (λ is.
    let rest = sum_same_from f g (a + 1) n (λ k past. same k (omega arith)) in
    let first : f a + x ≡ g a + y = subst (λ k. f k + x ≡ g k + y) (sym is) here in
    omega (arith, sum_by-cons f a (range_with_len (a + 1) n), sum_by-cons g a (range_with_len (a + 1) n)))
    (λ other.
    let rest = sum_changed_from f g (a + 1) n i x y (omega arith) (omega arith) here same in
    let first : f a ≡ g a = same a other in
    omega (arith, sum_by-cons f a (range_with_len (a + 1) n), sum_by-cons g a (range_with_len (a + 1) n)))
    (cases_eq a i)

-- the terms are the same but for the one at i
pub sum_changed : (f g : ℕ → ℕ) (n i x y : ℕ) → i < n → f i + x ≡ g i + y → ((k : ℕ) → k ≢ i → f k ≡ g k) → sum_by f (range_with_len 0 n) + x ≡ sum_by g (range_with_len 0 n) + y
sum_changed f g n i x y below here same = sum_changed_from f g 0 n i x y (omega arith) (omega arith) here same

-- the same over a list of different numbers
pub sum_changed_in : (f g : ℕ → ℕ) (xs : List ℕ) (i x y : ℕ) → AllPairs (λ m n. m ≢ n) xs → has i xs ≡ true → f i + x ≡ g i + y → ((k : ℕ) → k ≢ i → f k ≡ g k) → sum_by f xs + x ≡ sum_by g xs + y
sum_changed_in f g [] i x y once in' here same = absurd (false≢true in')
sum_changed_in f g (n ∷ ns) i x y once in' here same =
    ⊎_elim
    (λ is.
    let rest = sum_agree f g ns (λ k d l. same (get_or ns k d) (λ e. once 0 (suc k) d (omega arith) (omega arith) (is ∙ sym e))) in
    let first : f n + x ≡ g n + y = subst (λ k. f k + x ≡ g k + y) (sym is) here in
    omega (arith, sum_by-cons f n ns, sum_by-cons g n ns))
    (λ other.
    let later : has i ns ≡ true = subst (λ b. (b || has i ns) ≡ true) (ne_eqb n i other) in' in
    let rest = sum_changed_in f g ns i x y (λ j k d lt within. once (suc j) (suc k) d (omega arith) (omega arith)) later here same in
    let first : f n ≡ g n = same n other in
    omega (arith, sum_by-cons f n ns, sum_by-cons g n ns))
    (cases_eq n i)

-- ---- sums over a list

pub sum_of_map : {X Y : Type 0} (f : Y → ℕ) (g : X → Y) (xs : List X) → sum_by f (map g xs) ≡ sum_by (λ x. f (g x)) xs
sum_of_map f g [] = refl
sum_of_map f g (x ∷ xs) = sum_by-cons f (g x) (map g xs) ∙ (ap (λ n. f (g x) + n) (sum_of_map f g xs) ∙ sym (sum_by-cons (λ y. f (g y)) x xs))

pub sum_of_none : {X : Type 0} (f : X → ℕ) (xs : List X) → All (λ x. f x ≡ 0) xs → sum_by f xs ≡ 0
sum_of_none f [] all = refl
sum_of_none f (x ∷ xs) all = sum_by-cons f x xs ∙ (ap (λ n. n + sum_by f xs) (All-head (λ y. f y ≡ 0) x xs all) ∙ (omega (arith, sum_of_none f xs (All-tail (λ y. f y ≡ 0) x xs all))))

-- ---- how many items there are, key by key

-- each item counts at its own key
counted : {X : Type 0} (key : X → ℕ) (n : ℕ) (xs : List X) → All (λ x. key x < n) xs → length xs ≡ sum_by (λ k. count_by (λ x. key x == k) xs) (range_with_len 0 n)
counted key n [] all = sym (zeros 0 n)
  where
    zeros : (a m : ℕ) → sum_by (λ k. 0) (range_with_len a m) ≡ 0
    zeros a zero = refl
    zeros a (suc m) = omega (arith, sum_by-cons (λ k. 0) a (range_with_len (a + 1) m), zeros (a + 1) m)
counted key n (x ∷ xs) all =
    let one_if : Bool → ℕ = λ b. cond b 1 0 in
    let rest = counted key n xs (All-tail (λ y. key y < n) x xs all) in
    let here : key x < n = All-head (λ y. key y < n) x xs all in
    let one : count_by (λ y. key y == key x) xs + 1 ≡ count_by (λ y. key y == key x) (x ∷ xs) + 0 =
    omega (arith, sum_by-cons (λ y. cond (key y == key x) 1 0) x xs, ap one_if (eq-eqb (key x) (key x) refl)) in
    let changed = sum_changed (λ k. count_by (λ y. key y == k) xs) (λ k. count_by (λ y. key y == k) (x ∷ xs)) n (key x) 1 0 here one
    (λ k other. sym (omega (arith, sum_by-cons (λ y. cond (key y == k) 1 0) x xs, ap one_if (ne_eqb (key x) k (λ e. other (sym e)))))) in
    omega (arith, rest, changed)

-- where no key has more than so many items, and the keys are below n
pub length_by_keys : {X : Type 0} (key : X → ℕ) (n most : ℕ) (xs : List X) → All (λ x. key x < n) xs → ((k : ℕ) → count_by (λ x. key x == k) xs ≤ most) → length xs ≤ n * most
length_by_keys key n most xs all few =
    omega (
      arith,
      counted key n xs all,
      sum_by-le (λ k. count_by (λ x. key x == k) xs) most (range_with_len 0 n) (λ k d h. few (get_or (range_with_len 0 n) k d)),
      ap (λ m. m * most) (length-range_with_len 0 n),
    )

-- a sum over the numbers below a bound is one over the items that stand there
pub sum_by_place : {X : Type 0} (f : X → ℕ) (xs : List X) (d : X) → sum_by (λ k. f (get_or xs k d)) (range_with_len 0 (length xs)) ≡ sum_by f xs
sum_by_place f xs d =
    sym (sum_of_map f (λ k. get_or xs k d) (range_with_len 0 (length xs))) ∙ ap (λ ys. sum_by f ys) (sym (fill_by_all (λ k. get_or xs k d) xs (length xs) d refl (λ k h. refl)))

-- where a sum is 0 each term is
pub none_in_sum : {X : Type 0} (f : X → ℕ) (xs : List X) → sum_by f xs ≡ 0 → All (λ x. f x ≡ 0) xs
none_in_sum f [] none = λ k d h. absurd (omega arith)
none_in_sum f (x ∷ xs) none =
    let parts = sum_by-cons f x xs in
    let here : f x ≡ 0 = omega arith in
    let rest : sum_by f xs ≡ 0 = omega arith in
    All-cons (λ y. f y ≡ 0) x xs here (none_in_sum f xs rest)
