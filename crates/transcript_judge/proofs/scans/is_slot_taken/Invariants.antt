use Rattle.std.proofs.Common.{ℕ, ◌<◌, ◌≢◌}
use Rattle.transcript_judge.specs.Ledger.{row, rows}
use Rattle.transcript_judge.specs.Scans.{AreOtherSlots}
use Rattle.transcript_judge.proofs.scans.is_slot_taken.Given as goal

abbrev pub invariant-loop-other : goal.invariant-loop-other
invariant-loop-other l = (m : ℕ) → m < l.other → m ≢ l.lane → AreOtherSlots l.queue l.slot (row (rows l.unanswered) m)
