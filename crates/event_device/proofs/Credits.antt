-- A part of an unused seat of the credits is unused, and so is the rest.
use Rattle.std.proofs.Common.{◌≡◌, ◌∙◌, ap, subst}
use Rattle.credit_pool.specs.Accounts.{part_of, rest_of}
use Rattle.credit_pool.specs.Pool.{IsSeatOf, account}
use Rattle.credit_pool.specs.declared.pool.CreditSeat.{CreditSeat}
use Rattle.credit_pool.specs.declared.pool.Credits.{Credits}
use Rattle.event_device.specs.Seats.{IsUnusedCredit}

pub part_unused : (pool same : Credits) (before seat : CreditSeat) → same ≡ pool → IsSeatOf same seat × (account seat ≡ part_of (account before)) → IsUnusedCredit pool seat
part_unused pool same before seat is part =
    let Of : Credits → Type 0 = λ p. IsSeatOf p seat in
    record {
      of_pool = subst Of is part.0;
      drawn = ap (λ v. v.drawn) part.1;
      returned = ap (λ v. v.returned) part.1;
      unset = ap (λ v. v.set_shut) part.1;
    }

pub rest_unused : (pool same : Credits) (before seat : CreditSeat) → same ≡ pool → IsUnusedCredit pool before
    → IsSeatOf same seat × (account seat ≡ rest_of (account before)) → IsUnusedCredit pool seat
rest_unused pool same before seat is unused rest =
    let Of : Credits → Type 0 = λ p. IsSeatOf p seat in
    record {
      of_pool = subst Of is rest.0;
      drawn = ap (λ v. v.drawn) rest.1 ∙ unused.drawn;
      returned = ap (λ v. v.returned) rest.1 ∙ unused.returned;
      unset = ap (λ v. v.set_shut) rest.1 ∙ unused.unset;
    }
