-- A sum over stints is the sum over the lanes of what those of the lane weigh.
use Rattle.std.proofs.Common.{◌≡◌, ℕ, zero, suc, ◌+◌, ◌<◌, ◌≤◌, cond, ◌==◌, List, [], ◌∷◌, length, slice_get, Some, All, refl, sym, ◌∙◌, subst, arith, sum_by}
use Rattle.std.specs.List.{range_with_len}
use Rattle.std.proofs.lemmas.List.Sums.{sum_by-cons}
use Rattle.std.proofs.lemmas.List.Elements.{All-head, All-tail}
use Rattle.lists.proofs.SeatSums.{sum_by-same}
use Rattle.lane_rings.specs.declared.far.Far.{Far}
use Rattle.flow_claims.specs.declared.seating.Past.{Past}
use Rattle.flow_claims.specs.Stints.{at_lane}
use Rattle.flow_claims.proofs.Choices.{by_number}

sum_zeros : (xs : List ℕ) → sum_by (λ (x : ℕ). 0) xs ≡ 0
sum_zeros [] = refl
sum_zeros (x ∷ xs) = omega (arith, sum_by-cons (λ (y : ℕ). 0) x xs, sum_zeros xs)

sum_plus : (f g : ℕ → ℕ) (xs : List ℕ) → sum_by (λ x. f x + g x) xs ≡ sum_by f xs + sum_by g xs
sum_plus f g [] = refl
sum_plus f g (x ∷ xs) = omega (arith, sum_by-cons (λ y. f y + g y) x xs, sum_by-cons f x xs, sum_by-cons g x xs, sum_plus f g xs)

-- among the numbers from a on, k stands once, where it is one of them
sum_none : (k w a n : ℕ) → k < a → sum_by (λ j. cond (k == j) w 0) (range_with_len a n) ≡ 0
sum_none k w a zero lt = refl
sum_none k w a (suc n) lt =
    let here : cond (k == a) w 0 ≡ 0 = by_number k a (λ t. cond t w 0 ≡ 0) (λ e. absurd (omega (arith, e, lt))) (λ ne. refl) in
    omega (arith, here, sum_by-cons (λ j. cond (k == j) w 0) a (range_with_len (a + 1) n), sum_none k w (a + 1) n (omega (arith, lt)))

sum_one : (k w a n : ℕ) → a ≤ k → k < a + n → sum_by (λ j. cond (k == j) w 0) (range_with_len a n) ≡ w
sum_one k w a zero le lt = absurd (omega (arith, le, lt))
sum_one k w a (suc n) le lt =
    let more = sum_by-cons (λ j. cond (k == j) w 0) a (range_with_len (a + 1) n) in
    more ∙ by_number k a (λ t. cond t w 0 + sum_by (λ j. cond (k == j) w 0) (range_with_len (a + 1) n) ≡ w)
    (λ e. omega (arith, sum_none k w (a + 1) n (omega (arith, e))))
    (λ ne. omega (arith, sum_one k w (a + 1) n (omega (arith, le, ne)) (omega (arith, lt))))

pub sum_by_key : {A : Type 0} (key f : A → ℕ) (n : ℕ) (xs : List A) → All (λ x. key x < n) xs
    → sum_by f xs ≡ sum_by (λ j. sum_by (λ x. cond (key x == j) (f x) 0) xs) (range_with_len 0 n)
sum_by_key key f n [] all = sym (sum_zeros (range_with_len 0 n))
sum_by_key {A = A} key f n (x ∷ xs) all =
    let At : ℕ → A → ℕ = λ j y. cond (key y == j) (f y) 0 in
    let split = sum_by-same (λ j. sum_by (At j) (x ∷ xs)) (λ j. At j x + sum_by (At j) xs) (λ j. sum_by-cons (At j) x xs) (range_with_len 0 n) in
    omega (
      arith,
      split,
      sum_plus (λ j. At j x) (λ j. sum_by (At j) xs) (range_with_len 0 n),
      sum_one (key x) (f x) 0 n (omega arith) (omega (arith, All-head (λ y. key y < n) x xs all)),
      sum_by-cons f x xs,
      sum_by_key key f n xs (All-tail (λ y. key y < n) x xs all),
    )

pub sum_by_lane : (f : Past → ℕ) (n : ℕ) (ps : List Past) → All (λ p. p.lane < n) ps → sum_by f ps ≡ sum_by (λ lane. sum_by (at_lane lane f) ps) (range_with_len 0 n)
sum_by_lane f n ps all = sum_by_key (λ (p : Past). p.lane) f n ps all

-- where the stints of each lane weigh what the lane's end weighs, so do all together
ends_from : (f : Past → ℕ) (g : Far → ℕ) (ps : List Past) (a : ℕ) (ends : List Far)
    → ((i : ℕ) (far : Far) → slice_get ends i ≡ Some far → sum_by (at_lane (a + i) f) ps ≡ g far)
    → sum_by (λ lane. sum_by (at_lane lane f) ps) (range_with_len a (length ends)) ≡ sum_by g ends
ends_from f g ps a [] each = refl
ends_from f g ps a (far ∷ ends) each =
    let Here : ℕ → Type 0 = λ j. sum_by (at_lane j f) ps ≡ g far in
    let here : sum_by (at_lane a f) ps ≡ g far = subst Here (omega arith) (each 0 far refl) in
    let At : ℕ → Far → ℕ → Type 0 = λ i x j. sum_by (at_lane j f) ps ≡ g x in
    omega (
      arith,
      here,
      sum_by-cons (λ lane. sum_by (at_lane lane f) ps) a (range_with_len (a + 1) (length ends)),
      sum_by-cons g far ends,
      ends_from f g ps (a + 1) ends (λ i x e. subst (At i x) (omega arith) (each (suc i) x e)),
    )

pub ends_weigh : (f : Past → ℕ) (g : Far → ℕ) (ps : List Past) (n : ℕ) (ends : List Far) → All (λ p. p.lane < n) ps → length ends ≡ n
    → ((i : ℕ) (far : Far) → slice_get ends i ≡ Some far → sum_by (at_lane i f) ps ≡ g far) → sum_by f ps ≡ sum_by g ends
ends_weigh f g ps n ends all count each =
    let Over : ℕ → Type 0 = λ k. sum_by (λ lane. sum_by (at_lane lane f) ps) (range_with_len 0 k) ≡ sum_by g ends in
    let At : ℕ → Far → ℕ → Type 0 = λ i x j. sum_by (at_lane j f) ps ≡ g x in
    sum_by_lane f n ps all ∙ subst Over count (ends_from f g ps 0 ends (λ i x e. subst (At i x) (omega arith) (each i x e)))
