use Rattle.std.proofs.Common.{take}
use Rattle.transcript_judge.specs.Scans.{AreOtherSlots}
use Rattle.transcript_judge.proofs.scans.has_slot.Given as goal

abbrev pub invariant-loop-event : goal.invariant-loop-event
invariant-loop-event l = AreOtherSlots l.queue l.slot (take l.event-index l.held)
