use Rattle.lane_tests.specs.Idle.{StaysIdle}
use Rattle.lane_tests.proofs.tests.turns.count_stints.Given as goal

abbrev pub invariant-loop-lane : goal.invariant-loop-lane
invariant-loop-lane l = StaysIdle l.claims l.initial.seat l.seat
