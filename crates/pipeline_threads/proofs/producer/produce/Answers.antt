use Rattle.std.proofs.Common.{[], refl, ◌∙◌}
use Rattle.event_ports.proofs.Bursts.{rests_same}
use Rattle.event_ports.specs.Ports.{hand}
use Rattle.pipeline_threads.proofs.Bringing.{brought_front, brought_one, brought_some, idle_brought}
use Rattle.pipeline_threads.proofs.producer.produce.Goals as goal

pub loop-entry-init : goal.loop-entry-init
loop-entry-init g c = (refl, idle_brought c.args.trace.now (hand c.args.port) c.requires.0, refl)

pub returns-then-not-submit_all-clause-producer : goal.returns-then-not-submit_all-clause-producer
returns-then-not-submit_all-clause-producer g c =
    brought_some c.args.trace.now c.loop-entry.entry-index c.entry-item.result c.new_event.result c.loop-entry.port c.submit_all.new.port c.new_event.ensures c.loop-entry-test.true c.entry-item.is c.loop-entry.invariant.1 c.submit_all.ensures.front

pub returns-clause-producer : goal.returns-clause-producer
returns-clause-producer g c =
    brought_front c.args.trace.now c.loop-entry.entry-index [] c.loop-entry.port c.loop-entry.port c.loop-entry.invariant.1 (0, rests_same (hand c.loop-entry.port))

pub loop-entry-preserved : goal.loop-entry-preserved
loop-entry-preserved g c = (
  c.submit_all.ensures.site ∙ c.loop-entry.invariant.0,
  brought_one c.args.trace.now c.loop-entry.entry-index c.entry-item.result c.new_event.result c.loop-entry.port c.submit_all.new.port c.new_event.ensures c.loop-entry-test.true c.entry-item.is c.loop-entry.invariant.1
      (c.submit_all.ensures.all c.if-not-submit_all.false),
  c.submit_all.ensures.dequeued ∙ c.loop-entry.invariant.2,
)
