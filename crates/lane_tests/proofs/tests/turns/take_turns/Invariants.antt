use Rattle.lane_tests.specs.Idle.{StaysIdle}
use Rattle.lane_tests.proofs.tests.turns.take_turns.Given as goal

abbrev pub invariant-loop-turn : goal.invariant-loop-turn
invariant-loop-turn l = StaysIdle l.claims l.initial.seat l.seat
