use Rattle.device_bench.specs.Trace.{IsTrace}
use Rattle.device_bench.proofs.trace.entries.Given as goal

abbrev pub invariant-loop-number : goal.invariant-loop-number
invariant-loop-number l = IsTrace l.number l.trace.items
