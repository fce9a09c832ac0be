use Rattle.std.proofs.Common.{take}
use Rattle.event_ports.specs.Rows.{FindsAllOpen}
use Rattle.event_ports.proofs.desk.Desk.look_for_news.Given as goal

abbrev pub invariant-loop-taken : goal.invariant-loop-taken
invariant-loop-taken l = FindsAllOpen (take l.taken l.replies) l.initial.self l.self
