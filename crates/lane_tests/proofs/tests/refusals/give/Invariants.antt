use Rattle.std.proofs.Common.{◌≡◌}
use Rattle.lane_rings.specs.Identity.{far_id}
use Rattle.lane_tests.proofs.tests.refusals.give.Given as goal

abbrev pub invariant-loop-place : goal.invariant-loop-place
invariant-loop-place l = far_id l.far ≡ far_id l.initial.far
