-- The seats of the parts of a device, as long as nothing was done with them.
use Rattle.std.specs.Prelude.{◌≡◌, ℕ, false, []}
use Rattle.std.specs.Arc.{arc_value}
use Rattle.credit_pool.specs.Pool as credits
use Rattle.credit_pool.specs.declared.pool.CreditSeat.{CreditSeat}
use Rattle.credit_pool.specs.declared.pool.Credits.{Credits}
use Rattle.flow_claims.specs.Claims.{IsSeatOf, seating}
use Rattle.flow_claims.specs.Seats.{HoldsNone}
use Rattle.flow_claims.specs.declared.claims.ClaimSeat.{ClaimSeat}
use Rattle.flow_claims.specs.declared.claims.Claims.{Claims}
use Rattle.event_device.specs.declared.shared.Seats.{Seats}
use Rattle.event_device.specs.declared.shared.Shared.{Shared}

-- a seat of the credits that drew and returned nothing, and didn't shut the device
pub record IsUnusedCredit (pool : Credits) (seat : CreditSeat) : Type 0 where
  pub of_pool : credits.IsSeatOf pool seat
  pub drawn : (credits.account seat).drawn ≡ 0
  pub returned : (credits.account seat).returned ≡ 0
  pub unset : (credits.account seat).set_shut ≡ false

-- a seat of the claims that has no stint
pub record IsUnusedClaim (claims : Claims) (seat : ClaimSeat) : Type 0 where
  pub of_claims : IsSeatOf claims seat
  pub none_open : HoldsNone (seating seat)
  pub none_finished : (seating seat).finished ≡ []

abbrev pub credit_parts : CreditSeat → ℕ
credit_parts seat = (credits.account seat).parts

abbrev pub claim_parts : ClaimSeat → ℕ
claim_parts seat = (seating seat).parts

-- unused seats, with so many parts of each
pub record AreSeats (shared : Shared) (seats : Seats) (credit claim : ℕ) : Type 0 where
  pub unused_credit : IsUnusedCredit (arc_value shared.pool) seats.credit
  pub unused_claim : IsUnusedClaim (arc_value shared.claims) seats.claim
  pub credits_are : credit_parts seats.credit ≡ credit
  pub claims_are : claim_parts seats.claim ≡ claim
