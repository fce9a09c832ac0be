use Rattle.std.proofs.Common.{sym, ◌∙◌}
use Rattle.event_handles.proofs.Rests.{rest_after, rest_here}
use Rattle.event_handles.proofs.stopped.Stopped.next.Goals as goal

pub returns-in-Some : goal.returns-in-Some
returns-in-Some c =
    record {
      rest = sym c.loop-self.invariant.rest ∙ rest_here c.loop-self.self _ c.in-Some.ensures.here;
      report = c.loop-self.invariant.report;
      kinds = c.loop-self.invariant.kinds;
    }

pub loop-self-preserved : goal.loop-self-preserved
loop-self-preserved c =
    record {
      rest = sym (rest_after c.loop-self.self (sym c.in_default.is ∙ c.current.ensures.here)) ∙ c.loop-self.invariant.rest;
      report = c.loop-self.invariant.report;
      kinds = c.loop-self.invariant.kinds;
    }
