use Rattle.std.proofs.Common.{◌≡◌}
use Rattle.lane_rings.specs.Identity.{far_id}
use Rattle.lane_tests.proofs.tests.rows.fill.Given as goal

abbrev pub invariant-loop-given : goal.invariant-loop-given
invariant-loop-given l = far_id l.far ≡ far_id l.initial.far
