use Rattle.std.proofs.Common.{◌≡◌, ◌≤◌}
use Rattle.credit_pool.specs.Pool.{account, IsSeatOf}
use Rattle.lane_tests.proofs.tests.credits.trade.Given as goal

abbrev pub invariant-loop-round : goal.invariant-loop-round
invariant-loop-round l = IsSeatOf l.pool l.seat × ((account l.seat).parts ≡ (account l.initial.seat).parts) × (l.traded ≤ l._round)
