use Rattle.device_bench.proofs.Traces.{trace_more}
use Rattle.device_bench.proofs.trace.entries.Goals as goal

pub loop-number-preserved : goal.loop-number-preserved
loop-number-preserved c =
    trace_more c.loop-number.number c.loop-number.trace.items c.push.new.self.items c.entry.result c.loop-number.invariant c.entry.ensures c.in_ok-push.ensures.items
