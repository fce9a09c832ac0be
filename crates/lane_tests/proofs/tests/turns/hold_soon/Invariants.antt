use Rattle.lane_tests.specs.Idle.{StaysIdle}
use Rattle.lane_tests.proofs.tests.turns.hold_soon.Given as goal

abbrev pub invariant-loop : goal.invariant-loop
invariant-loop l = StaysIdle l.claims l.initial.seat l.seat
