-- What a clause sees of a pool and of a seat.
use Rattle.std.specs.Prelude.{◌≡◌, ℕ}
use Rattle.atomic_table.specs.Seated.{TableId}
use Rattle.credit_pool.specs.declared.account.Account.{Account}
use Rattle.credit_pool.specs.declared.pool.Credits.{Credits}
use Rattle.credit_pool.specs.declared.pool.CreditSeat.{CreditSeat}

-- what the seat knows
abbrev pub account : CreditSeat → Account
account seat = seat.seat.me.0

-- all credits of the pool, free or drawn
abbrev pub limit_of : Credits → ℕ
limit_of pool = pool.limit

-- which pool it is
abbrev pub pool_id : Credits → TableId
pool_id pool = pool.table.shared.table_id

-- the seat belongs to the pool
abbrev pub IsSeatOf : Credits → CreditSeat → Type 0
IsSeatOf pool seat = (seat.seat.table_id ≡ pool_id pool) × ((account seat).limit ≡ limit_of pool)
