use Rattle.std.proofs.Common.{◌≢◌, length, sym, ◌∙◌, arith}
use Rattle.std.proofs.lemmas.Bool.{eqb-false}
use Rattle.transcript_judge.proofs.Walks.{next_yes}
use Rattle.transcript_judge.proofs.scans.is_next.Goals as goal

pub returns-clause-yes : goal.returns-clause-yes
returns-clause-yes c = λ same.
    let some : length c.args.due.now ≢ 0 = eqb-false (length c.args.due.now) 0 (sym c.is_empty.ensures ∙ c.if-is_empty.false) in
    next_yes c.args.due.now c.index-due-0.result c.args.queue c.args.number c.args.event.now (omega (arith, some)) c.index-due-0.is c.if-first-queue.false c.if-first-number.false
    (c.is_same.ensures.0 same)
