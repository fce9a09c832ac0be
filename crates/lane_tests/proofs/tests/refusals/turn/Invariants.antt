use Rattle.std.proofs.Common.{◌≡◌}
use Rattle.lane_rings.specs.Identity.{near_id, far_id}
use Rattle.lane_tests.proofs.tests.refusals.turn.Given as goal

abbrev pub invariant-loop : goal.invariant-loop
invariant-loop l = (near_id l.near ≡ near_id l.initial.near) × (far_id l.far ≡ far_id l.initial.far)
