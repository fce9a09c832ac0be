use Rattle.std.proofs.Common.{◌+◌, take, ap, ◌∙◌}
use Rattle.std.specs.Option.{is_some}
use Rattle.event_device.proofs.Keeping.{same_site}
use Rattle.event_ports.specs.Ports.{counts_of, hand}
use Rattle.event_ports.specs.declared.counts.PortCounts.{PortCounts}
use Rattle.pipeline_threads.proofs.Counting.{burst_dequeued}
use Rattle.pipeline_threads.proofs.Submitting.{all_before, burst_last, burst_then}
use Rattle.pipeline_threads.proofs.submit.submit_all.Goals as goal

pub returns-in-None-end-clause-all : goal.returns-in-None-end-clause-all
returns-in-None-end-clause-all g c taken =
    let was = c.loop.invariant in
    let burst = c.enqueue_burst-taken in
    let more = burst_then c.args.events.now c.loop.sent burst.result.0 (hand c.args.port.now) (hand c.loop.port) (hand burst.new.self) was.3 burst.ensures.count was.4 burst.ensures.submitted in
    burst_last c.args.events.now c.loop.sent burst.result.0 (hand c.args.port.now) (hand burst.new.self) was.3 (burst.ensures.all.0 (ap is_some c.in-None-end.is)) more.1

pub returns-in-None-end-clause-front : goal.returns-in-None-end-clause-front
returns-in-None-end-clause-front g c =
    let was = c.loop.invariant in
    let burst = c.enqueue_burst-taken in (
      c.loop.sent + burst.result.0,
      (burst_then c.args.events.now c.loop.sent burst.result.0 (hand c.args.port.now) (hand c.loop.port) (hand burst.new.self) was.3 burst.ensures.count was.4 burst.ensures.submitted).1,
    )

pub returns-then-shut_seen-clause-front : goal.returns-then-shut_seen-clause-front
returns-then-shut_seen-clause-front g c =
    let was = c.loop.invariant in
    let burst = c.enqueue_burst-taken in
    let more = burst_then c.args.events.now c.loop.sent burst.result.0 (hand c.args.port.now) (hand c.loop.port) (hand burst.new.self) was.3 burst.ensures.count was.4 burst.ensures.submitted in (
      c.loop.sent + burst.result.0,
      all_before (take (c.loop.sent + burst.result.0) c.args.events.now) (hand c.args.port.now) (hand burst.new.self) (hand c.shut_seen.new.self) more.1 c.shut_seen.ensures.same.0,
    )

pub returns-in-None-end-clause-dequeued : goal.returns-in-None-end-clause-dequeued
returns-in-None-end-clause-dequeued g c =
    let burst = c.enqueue_burst-taken in
    burst_dequeued burst.result.0 burst.result.1 (counts_of c.loop.port) (counts_of burst.new.self) burst.ensures.counted ∙ c.loop.invariant.5

pub returns-then-shut_seen-clause-dequeued : goal.returns-then-shut_seen-clause-dequeued
returns-then-shut_seen-clause-dequeued g c =
    let burst = c.enqueue_burst-taken in
    ap (λ (x : PortCounts). x.dequeued) c.shut_seen.ensures.counted ∙ (burst_dequeued burst.result.0 burst.result.1 (counts_of c.loop.port) (counts_of burst.new.self) burst.ensures.counted ∙ c.loop.invariant.5)

pub returns-in-Some-Stopped : goal.returns-in-Some-Stopped
returns-in-Some-Stopped g c =
    let was = c.loop.invariant in
    let burst = c.enqueue_burst-taken in
    record {
      site = same_site c.loop.port burst.new.self burst.ensures.site burst.ensures.credit ∙ was.2;
      all = λ never. absurd cc;
      front = (
        c.loop.sent + burst.result.0,
        (burst_then c.args.events.now c.loop.sent burst.result.0 (hand c.args.port.now) (hand c.loop.port) (hand burst.new.self) was.3 burst.ensures.count was.4 burst.ensures.submitted).1,
      );
      dequeued = burst_dequeued burst.result.0 burst.result.1 (counts_of c.loop.port) (counts_of burst.new.self) burst.ensures.counted ∙ was.5;
    }

pub loop-preserved : goal.loop-preserved
loop-preserved g c =
    let was = c.loop.invariant in
    let burst = c.enqueue_burst-taken in
    let more = burst_then c.args.events.now c.loop.sent burst.result.0 (hand c.args.port.now) (hand c.loop.port) (hand burst.new.self) was.3 burst.ensures.count was.4 burst.ensures.submitted in (
      tt,
      tt,
      same_site burst.new.self c.shut_seen.new.self c.shut_seen.ensures.site c.shut_seen.ensures.credit ∙ (same_site c.loop.port burst.new.self burst.ensures.site burst.ensures.credit ∙ was.2),
      more.0,
      all_before (take (c.loop.sent + burst.result.0) c.args.events.now) (hand c.args.port.now) (hand burst.new.self) (hand c.shut_seen.new.self) more.1 c.shut_seen.ensures.same.0,
      ap (λ (x : PortCounts). x.dequeued) c.shut_seen.ensures.counted ∙ (burst_dequeued burst.result.0 burst.result.1 (counts_of c.loop.port) (counts_of burst.new.self) burst.ensures.counted ∙ was.5),
    )
