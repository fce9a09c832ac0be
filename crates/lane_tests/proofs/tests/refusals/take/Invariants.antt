use Rattle.std.proofs.Common.{◌≡◌}
use Rattle.lane_rings.specs.Identity.{near_id}
use Rattle.lane_tests.proofs.tests.refusals.take.Given as goal

abbrev pub invariant-loop-place : goal.invariant-loop-place
invariant-loop-place l = near_id l.near ≡ near_id l.initial.near
