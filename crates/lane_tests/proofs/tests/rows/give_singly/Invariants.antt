use Rattle.std.proofs.Common.{◌≡◌}
use Rattle.lane_rings.specs.Identity.{far_id}
use Rattle.lane_tests.proofs.tests.rows.give_singly.Given as goal

abbrev pub invariant-loop-one : goal.invariant-loop-one
invariant-loop-one l = far_id l.far ≡ far_id l.initial.far
