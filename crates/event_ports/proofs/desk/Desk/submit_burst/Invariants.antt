use Rattle.std.proofs.Common.{◌-◌, length, take}
use Rattle.event_ports.specs.Desks.{EnqueuesAll, events_of}
use Rattle.event_ports.proofs.Chains.{IsLeft}
use Rattle.event_ports.proofs.desk.Desk.submit_burst.Given as goal

abbrev pub invariant-loop-rest : goal.invariant-loop-rest
invariant-loop-rest l = IsLeft l.replies l.rest × EnqueuesAll (take (length l.replies - length l.rest) (events_of l.replies)) l.initial.self l.self

abbrev pub decreases-loop-rest : goal.decreases-loop-rest
decreases-loop-rest l = length l.rest
