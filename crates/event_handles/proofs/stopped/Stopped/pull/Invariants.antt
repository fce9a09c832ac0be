use Rattle.std.proofs.Common.{◌≡◌}
use Rattle.event_handles.specs.Pulls.{rest_of}
use Rattle.event_handles.proofs.Fronts.{HasFront}
use Rattle.event_handles.proofs.stopped.Stopped.pull.Given as goal

abbrev pub invariant-loop-count : goal.invariant-loop-count
invariant-loop-count l =
    record { front : HasFront (rest_of l.initial.self) l.initial.out l.out (rest_of l.self) l.count; report : l.self.report ≡ l.initial.self.report; kinds : l.self.kinds ≡ l.initial.self.kinds }
