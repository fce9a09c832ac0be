use Rattle.std.proofs.Common.{◌≡◌}
use Rattle.lane_rings.specs.Identity.{near_id}
use Rattle.lane_tests.proofs.tests.rows.takes.Given as goal

abbrev pub invariant-loop-op : goal.invariant-loop-op
invariant-loop-op l = near_id l.near ≡ near_id l.initial.near
