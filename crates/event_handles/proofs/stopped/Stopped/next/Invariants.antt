use Rattle.std.proofs.Common.{◌≡◌, ◌-◌}
use Rattle.event_handles.specs.Pulls.{rest_of}
use Rattle.event_handles.proofs.stopped.Stopped.next.Given as goal

abbrev pub invariant-loop-self : goal.invariant-loop-self
invariant-loop-self l = record { rest : rest_of l.self ≡ rest_of l.initial.self; report : l.self.report ≡ l.initial.self.report; kinds : l.self.kinds ≡ l.initial.self.kinds }

abbrev pub decreases-loop-self : goal.decreases-loop-self
decreases-loop-self l = 5 - l.self.part
