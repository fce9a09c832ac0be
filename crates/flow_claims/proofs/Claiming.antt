-- What a claim's read of a free lane tells: the seat left the lane free.
use Rattle.std.proofs.Common.{◌≡◌, ℕ, ◌%◌, ◌≤◌, Option, Some, None, refl, arith}
use native.Mathlib.Decide.{dec_le}
use Rattle.flow_claims.specs.declared.seating.Begun.{Begun}
use Rattle.flow_claims.specs.declared.seating.Seating.{Seating}
use Rattle.flow_claims.specs.Stints.{surrenders}
use Rattle.flow_claims.specs.Seats.{stint_at, IsLeft}
use Rattle.flow_claims.specs.Steps.{Reads}

-- the seat that reads of a free lane left it free
pub free_left : (lane word : ℕ) (v : Seating) → Reads lane word v → word % 256 ≡ 0 → IsLeft lane v
free_left lane word v told free = record { not_held = by (stint_at v lane) refl; not_surrendered = none (dec_le 1 (surrenders lane v.finished)) }
  where
    by : (found : Option Begun) → stint_at v lane ≡ found → stint_at v lane ≡ None
    by None e = e
    by (Some b) e = let is = told.held b e in absurd (omega (arith, is.0, is.1, free))

    none : Dec (1 ≤ surrenders lane v.finished) → surrenders lane v.finished ≡ 0
    none (yes some) = absurd (omega (arith, free, told.surrendered (omega (arith, some))))
    none (no few) = omega (arith, few)
