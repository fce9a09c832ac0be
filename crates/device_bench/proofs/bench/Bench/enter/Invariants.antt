use Rattle.std.proofs.Common.{◌≡◌}
use Rattle.device_bench.proofs.bench.Bench.enter.Given as goal

abbrev pub invariant-loop-place : goal.invariant-loop-place
invariant-loop-place g l = (l.self.case ≡ l.initial.self.case) × (l.self.burst ≡ l.initial.self.burst) × (l.self.counts ≡ l.initial.self.counts)
