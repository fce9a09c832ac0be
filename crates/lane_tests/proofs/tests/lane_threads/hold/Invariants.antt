use Rattle.std.proofs.Common.{◌≡◌}
use Rattle.lane_rings.specs.Identity.{far_id}
use Rattle.lane_tests.proofs.tests.lane_threads.hold.Given as goal

abbrev pub invariant-loop : goal.invariant-loop
invariant-loop l = far_id l.far ≡ far_id l.initial.far
