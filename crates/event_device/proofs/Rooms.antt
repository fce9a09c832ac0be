-- Sums over the numbers below a bound, and over the lists that stand at them.
use Rattle.std.proofs.Common.{◌≡◌, ℕ, zero, suc, ◌+◌, ◌<◌, ◌≤◌, List, [], length, get_or, take, sum_by, refl, sym, ap, ◌∙◌, arith, ⊎_elim}
use Rattle.std.specs.List.{range_with_len}
use Rattle.std.proofs.lemmas.Bool.{cases_eq, cases_lt}
use Rattle.std.proofs.lemmas.List.{get_or_past, take_all}
use Rattle.std.proofs.lemmas.List.Sums.{sum_by-take-le, sum_by_more, sum_by_push}
use Rattle.lists.proofs.Ranges.{range_more}

-- one number more
pub sum_more : (f : ℕ → ℕ) (n : ℕ) → sum_by f (range_with_len 0 (n + 1)) ≡ sum_by f (range_with_len 0 n) + f n
sum_more f n = ap (λ ks. sum_by f ks) (range_more n) ∙ sum_by_push f (range_with_len 0 n) n

-- the terms before i and the one at i are within the whole sum
pub sum_within : (f : ℕ → ℕ) (i n : ℕ) → i < n → sum_by f (range_with_len 0 i) + f i ≤ sum_by f (range_with_len 0 n)
sum_within f i zero h = absurd (omega arith)
sum_within f i (suc n) h =
    let next : suc n ≡ n + 1 = omega arith in
    let step : sum_by f (range_with_len 0 (suc n)) ≡ sum_by f (range_with_len 0 n) + f n = ap (λ k. sum_by f (range_with_len 0 k)) next ∙ sum_more f n in
    ⊎_elim
    (λ same.
    let e : sum_by f (range_with_len 0 i) + f i ≡ sum_by f (range_with_len 0 n) + f n = ap (λ k. sum_by f (range_with_len 0 k) + f k) same in
    omega arith)
    (λ other.
    let rest = sum_within f i n (omega arith) in
    omega arith)
    (cases_eq i n)

-- the lengths of the lists at the numbers below n are those of the first n lists
lengths_front : {X : Type 0} (xs : List (List X)) (n : ℕ) → sum_by (λ q. length (get_or xs q [])) (range_with_len 0 n) ≡ sum_by (λ (ys : List X). length ys) (take n xs)
lengths_front xs zero = refl
lengths_front {X} xs (suc n) =
    let size : List X → ℕ = λ ys. length ys in
    let next : suc n ≡ n + 1 = omega arith in
    let more = sum_more (λ q. length (get_or xs q [])) n in
    let rest = lengths_front xs n in
    let step : sum_by (λ q. length (get_or xs q [])) (range_with_len 0 (n + 1)) ≡ sum_by size (take (n + 1) xs) =
    ⊎_elim
    (λ within. omega (arith, more, rest, sum_by_more size xs n [] within))
    (λ past. omega (arith, more, rest, ap length (get_or_past xs n [] past), ap (λ ys. sum_by size ys) (take_all n xs past), ap (λ ys. sum_by size ys) (take_all (n + 1) xs (omega arith))))
    (cases_lt n (length xs)) in
    ap (λ k. sum_by (λ q. length (get_or xs q [])) (range_with_len 0 k)) next ∙ (step ∙ ap (λ k. sum_by size (take k xs)) (sym next))

-- and no more than those of all lists
pub lengths_within : {X : Type 0} (xs : List (List X)) (n : ℕ) → sum_by (λ q. length (get_or xs q [])) (range_with_len 0 n) ≤ sum_by (λ (ys : List X). length ys) xs
lengths_within {X} xs n = omega (arith, lengths_front xs n, sum_by-take-le (λ (ys : List X). length ys) xs n)
