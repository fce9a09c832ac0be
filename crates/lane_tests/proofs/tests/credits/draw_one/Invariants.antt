use Rattle.credit_pool.specs.Accounts.{Stays}
use Rattle.credit_pool.specs.Pool.{account, IsSeatOf}
use Rattle.lane_tests.proofs.tests.credits.draw_one.Given as goal

abbrev pub invariant-loop : goal.invariant-loop
invariant-loop l = IsSeatOf l.pool l.seat × Stays (account l.initial.seat) (account l.seat)
