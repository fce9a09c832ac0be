use Rattle.std.proofs.Common.{◌≡◌}
use Rattle.lane_rings.specs.Identity.{near_id}
use Rattle.lane_tests.proofs.tests.lane_threads.schedule.Given as goal

abbrev pub invariant-loop : goal.invariant-loop
invariant-loop l = near_id l.near ≡ near_id l.initial.near
