-- The numbers of places, modulo 2 ^ 64.
use Rattle.std.proofs.Common.{◌≡◌, ℕ, suc, ◌+◌, ◌-◌, ◌<◌, ◌%◌, ◌^◌, ap, ◌∙◌, arith}
use Rattle.std.proofs.Math.Nat.{mod-add-mod, add-mod_right, mod-eq_of_lt}

-- the place of a number is found where the number was counted
pub back_of : (f k : ℕ) → f < 2 ^ 64 → k < 2 ^ 64 → ((f + k) % 2 ^ 64 + (2 ^ 64 - f)) % 2 ^ 64 ≡ k
back_of f k first small =
    mod-add-mod (f + k) (2 ^ 64) (2 ^ 64 - f)
    ∙ (ap (λ n. n % 2 ^ 64) sum ∙ (add-mod_right k (2 ^ 64) ∙ mod-eq_of_lt small))
  where
    sum : (f + k) + (2 ^ 64 - f) ≡ k + 2 ^ 64
    sum = omega arith

-- counted on from the next first
pub counted_on : (f k : ℕ) → ((f + 1) % 2 ^ 64 + k) % 2 ^ 64 ≡ (f + suc k) % 2 ^ 64
counted_on f k = mod-add-mod (f + 1) (2 ^ 64) k ∙ ap (λ n. n % 2 ^ 64) sum
  where
    sum : (f + 1) + k ≡ f + suc k
    sum = omega arith
