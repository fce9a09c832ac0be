use Rattle.std.proofs.Common.{◌≡◌, length, sym, ap, ◌∙◌, arith}
use Rattle.play_documents.specs.Field.{rows}
use Rattle.run_documents.proofs.Refusals.{many-refused, none-refused, workers-refused}
use Rattle.run_documents.specs.Survey.{survey_seen}
use Rattle.run_documents.proofs.pipeline.shape_of.Goals as goal
use Rattle.run_documents.proofs.pipeline.shape_of.Goals.{then-stages-eq0-via-then-stages-eq0, then-stages-eq0-via-else-stages-eq0+then-stages-gt-MAX_QUEUES}

pub returns-then-stages-eq0-clause-value : goal.returns-then-stages-eq0-clause-value
returns-then-stages-eq0-clause-value c =
    let s = survey_seen c.args.survey.now in
    let are : length (rows s.stages) ≡ length c.rows-stages.result.now = ap length (sym c.rows-stages.ensures) in
    rw c.shape_fault.ensures (elim c.then-stages-eq0.branch [
      | then-stages-eq0-via-then-stages-eq0 w ↦ none-refused c.args.workers s (are ∙ w.if-stages-eq0.true)
      | then-stages-eq0-via-else-stages-eq0+then-stages-gt-MAX_QUEUES w ↦ many-refused c.args.workers s (rw are w.if-stages-gt-MAX_QUEUES.true)
    ])

pub returns-then-workers-ge-MAX_PORTS-clause-value : goal.returns-then-workers-ge-MAX_PORTS-clause-value
returns-then-workers-ge-MAX_PORTS-clause-value c =
    let s = survey_seen c.args.survey.now in
    let are : length (rows s.stages) ≡ length c.rows-stages.result.now = ap length (sym c.rows-stages.ensures) in
    let some = c.if-stages-eq0.false in
    rw c.shape_fault-then-workers-ge-MAX_PORTS.ensures
    (workers-refused c.args.workers s (rw are (omega (arith, some))) (rw are c.if-stages-gt-MAX_QUEUES.false) c.if-workers-ge-MAX_PORTS.true)
