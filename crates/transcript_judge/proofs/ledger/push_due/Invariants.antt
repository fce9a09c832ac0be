use Rattle.std.proofs.Common.{◌≡◌, ◌++◌, map, take}
use Rattle.transcripts.specs.Standing.{accepts_from}
use Rattle.transcript_judge.specs.Ledger.{accept_of}
use Rattle.transcript_judge.proofs.ledger.push_due.Given as goal

abbrev pub invariant-loop-event : goal.invariant-loop-event
invariant-loop-event l = map accept_of l.due.items ≡ map accept_of l.fn.due.items ++ accepts_from l.queue l.number (take l.event-index l.events)
