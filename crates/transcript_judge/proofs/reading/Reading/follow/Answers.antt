use Rattle.std.proofs.Common.{sym, ◌∙◌}
use Rattle.transcript_judge.proofs.Breaches.{not_formed}
use Rattle.transcript_judge.proofs.Faults.{due_waits}
use Rattle.transcript_judge.proofs.Forms.{formed_no}
use Rattle.transcript_judge.proofs.reading.Reading.follow.Goals as goal

pub returns-then-not-is_formed : goal.returns-then-not-is_formed
returns-then-not-is_formed c = not_formed c.args.shape.now c.args.past.now c.args.step.now (formed_no c.args.shape.now c.args.step.now (sym c.is_formed.ensures ∙ c.if-not-is_formed.true))

pub returns-then-is_due : goal.returns-then-is_due
returns-then-is_due c = due_waits c.args.shape.now c.args.past.now c.args.step.now c.args.self.now c.requires.read (sym c.is_passed_on.ensures ∙ c.if-is_passed_on.false) (c.is_due.ensures.some c.if-is_due.true)
