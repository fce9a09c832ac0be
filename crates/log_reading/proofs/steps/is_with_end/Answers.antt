use Rattle.std.proofs.Common.{◌≡◌, ◌∙◌, sym}
use Rattle.std.proofs.lemmas.Bool.{false≢true}
use Rattle.std.proofs.lemmas.Bool.Decides.{Decides-eqb}
use Rattle.std.proofs.lemmas.Slice.Eq.{slice_eq-Decides}
use Rattle.log_reading.proofs.Lines.{same-front}
use Rattle.log_reading.proofs.steps.is_with_end.Goals as goal

pub returns-then-end-eq10-clause-no : goal.returns-then-end-eq10-clause-no
returns-then-end-eq10-clause-no c = λ no same.
    false≢true (sym no ∙ (slice_eq-Decides Decides-eqb _ _ _ c.eq.ensures).1 (same-front c.args.line.now c.in-Some.front.now c.args.text.now c.in-Some.end.now c.in-Some.ensures.cases.0 c.if-end-eq10.true same))
