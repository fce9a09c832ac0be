use Rattle.std.proofs.Common.{◌*◌}
use Rattle.device_bench.specs.Rounds.{Moves, through}
use Rattle.device_bench.proofs.bench.Bench.rounds.Given as goal

abbrev pub invariant-loop : goal.invariant-loop
invariant-loop g l = Moves l.initial.self l.self (l.counter * l.initial.self.burst.length) (l.counter * through l.initial.self) (l.counter * l.initial.self.burst.length)
