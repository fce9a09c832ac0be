use Rattle.std.proofs.Common.{◌≡◌}
use Rattle.credit_pool.specs.Pool.{account, IsSeatOf}
use Rattle.lane_tests.proofs.tests.credits.play.Given as goal

abbrev pub invariant-loop-place : goal.invariant-loop-place
invariant-loop-place l =
    IsSeatOf l.pool l.first × IsSeatOf l.pool l.second
    × ((account l.first).parts ≡ (account l.initial.first).parts) × ((account l.second).parts ≡ (account l.initial.second).parts)
