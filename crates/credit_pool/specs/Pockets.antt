-- A pocket: the credits that a holder of the pool's credits has at hand.
use Rattle.std.specs.Prelude.{◌≡◌, ℕ, ◌+◌, ◌%◌, ◌^◌, ◌≤◌}

-- The pocket is what came in less what went out, modulo 2^64, and no more than that.
abbrev pub IsPocket : ℕ → ℕ → ℕ → Type 0
IsPocket pocket came went = (went + pocket ≤ came) × ((went + pocket) % 2 ^ 64 ≡ came % 2 ^ 64)
