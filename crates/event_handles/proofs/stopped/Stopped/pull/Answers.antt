use Rattle.std.proofs.Common.{◌<◌, length, sym, ◌∙◌, arith}
use Rattle.std.proofs.lemmas.List.{set-get_or}
use Rattle.event_handles.proofs.Fronts.{front_more, front_whole}
use Rattle.event_handles.proofs.stopped.Stopped.pull.Goals as goal

pub returns-in-None : goal.returns-in-None
returns-in-None c =
    let there : c.loop-count.count < length c.args.out.now = omega arith in
    record {
      count_is = front_whole _ _ _ _ _ c.loop-count.invariant.front there c.in-None.ensures.rest.0;
      written = set-get_or _ _ _ ∙ c.loop-count.invariant.front.written;
      rest = c.in-None.ensures.rest.1 ∙ (sym c.in-None.ensures.rest.0 ∙ c.loop-count.invariant.front.left);
      report = c.next.ensures.report ∙ c.loop-count.invariant.report;
      kinds = c.next.ensures.kinds ∙ c.loop-count.invariant.kinds;
    }

pub loop-count-preserved : goal.loop-count-preserved
loop-count-preserved c =
    let there : c.loop-count.count < length c.args.out.now = omega arith in
    record {
      front = front_more _ _ _ _ _ c.loop-count.invariant.front there _ _ c.in-Some.ensures.rest;
      report = c.next.ensures.report ∙ c.loop-count.invariant.report;
      kinds = c.next.ensures.kinds ∙ c.loop-count.invariant.kinds;
    }
