-- Of all that came in, what didn't go out is in the pockets, but for a multiple of 2^64.
use Rattle.std.proofs.Common.{◌≡◌, ℕ, ◌+◌, ◌-◌, ◌*◌, ◌/◌, ◌^◌, List, [], ◌∷◌, All, arith, refl, sum_by}
use Rattle.std.proofs.lemmas.List.Elements.{All-head, All-tail}
use Rattle.std.proofs.lemmas.List.Sums.{sum_by-cons}
use Rattle.credit_pool.specs.Pockets.{IsPocket}

-- of one pocket
pub pocket_lacks : (pocket came went : ℕ) → IsPocket pocket came went → (k : ℕ) × (came ≡ went + pocket + 2 ^ 64 * k)
pocket_lacks pocket came went is = (came / 2 ^ 64 - (went + pocket) / 2 ^ 64, omega (arith, is.0, is.1))

-- of all pockets
pub pockets_lack : {X : Type 0} (pocket came went : X → ℕ) (xs : List X) → All (λ x. IsPocket (pocket x) (came x) (went x)) xs
    → (k : ℕ) × (sum_by came xs ≡ sum_by went xs + sum_by pocket xs + 2 ^ 64 * k)
pockets_lack pocket came went [] all = (0, refl)
pockets_lack pocket came went (x ∷ xs) all =
    let here = pocket_lacks (pocket x) (came x) (went x) (All-head (λ y. IsPocket (pocket y) (came y) (went y)) x xs all) in
    let rest = pockets_lack pocket came went xs (All-tail (λ y. IsPocket (pocket y) (came y) (went y)) x xs all) in
    (here.0 + rest.0, omega (arith, here.1, rest.1, sum_by-cons came x xs, sum_by-cons went x xs, sum_by-cons pocket x xs))
