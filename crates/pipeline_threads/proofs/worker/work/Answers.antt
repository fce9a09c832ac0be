use Rattle.std.proofs.Common.{refl, ap, ◌∙◌}
use Rattle.event_ports.specs.Ports.{counts_of, hand, links}
use Rattle.pipeline_threads.proofs.Answering.{idle_owes}
use Rattle.pipeline_threads.proofs.Counting.{idle_counted, look_more}
use Rattle.event_ports.specs.declared.counts.PortCounts.{PortCounts}
use Rattle.run_counts.proofs.Looking.{looks_first}
use Rattle.pipeline_threads.proofs.worker.work.Goals as goal

pub loop-init : goal.loop-init
loop-init g c = (tt, tt, refl, idle_owes c.args.actions.now (links c.args.port) (hand c.args.port) c.requires.idle.0, looks_first (counts_of c.args.port) c.none-looks.result c.none-looks.ensures (ap (λ (x : PortCounts). x.dequeued) c.requires.idle.1), idle_counted c.args.port c.requires.idle)

pub loop-preserved : goal.loop-preserved
loop-preserved g c =
    let was = c.loop.invariant in (
      tt,
      tt,
      c.turn.ensures.site ∙ was.2,
      c.turn.ensures.even c.if-not-turn.false,
      look_more (counts_of c.loop.port) (counts_of c.turn.new.port) c.loop.looks c.turn.new.looks was.4 c.turn.ensures.looked,
      c.turn.ensures.worked.counted,
    )

pub returns-then-not-turn-clause-looked : goal.returns-then-not-turn-clause-looked
returns-then-not-turn-clause-looked g c =
    look_more (counts_of c.loop.port) (counts_of c.turn.new.port) c.loop.looks c.turn.new.looks c.loop.invariant.4 c.turn.ensures.looked
