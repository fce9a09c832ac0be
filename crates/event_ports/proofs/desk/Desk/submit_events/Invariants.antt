use Rattle.std.proofs.Common.{◌≤◌, ◌-◌, length, take}
use Rattle.event_ports.specs.Desks.{EnqueuesAll}
use Rattle.event_ports.proofs.desk.Desk.submit_events.Given as goal

abbrev pub invariant-loop-taken : goal.invariant-loop-taken
invariant-loop-taken l = EnqueuesAll (take l.taken l.events) l.initial.self l.self × (l.taken ≤ length l.events)

abbrev pub decreases-loop-taken : goal.decreases-loop-taken
decreases-loop-taken l = length l.events - l.taken
