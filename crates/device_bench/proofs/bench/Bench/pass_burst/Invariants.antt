use Rattle.std.proofs.Common.{◌*◌}
use Rattle.device_bench.specs.Rounds.{Moves, gifts_of}
use Rattle.device_bench.proofs.bench.Bench.pass_burst.Given as goal

abbrev pub invariant-loop : goal.invariant-loop
invariant-loop g l = Moves l.initial.self l.self 0 (l.counter * (gifts_of l.initial.self.case * l.initial.self.burst.portion)) (l.counter * l.initial.self.burst.portion)
