use Rattle.std.proofs.Common.{◌≡◌}
use Rattle.lane_rings.specs.Identity.{near_id, far_id}
use Rattle.lane_tests.proofs.tests.lanes.play.Given as goal

abbrev pub invariant-loop-place : goal.invariant-loop-place
invariant-loop-place l = (near_id l.near ≡ near_id l.initial.near) × (far_id l.far ≡ far_id l.initial.far)
