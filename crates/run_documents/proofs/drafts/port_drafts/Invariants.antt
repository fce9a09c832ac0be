use Rattle.std.proofs.Common.{◌≡◌, ◌∷◌, map, replicate}
use Rattle.evt_types.specs.Plan.{port_plan}
use Rattle.run_documents.specs.Drafts.{producer_asked, worker_asked}
use Rattle.run_documents.specs.Survey.{survey_seen}
use Rattle.run_documents.proofs.drafts.port_drafts.Given as goal

abbrev pub invariant-loop : goal.invariant-loop
invariant-loop l =
    map port_plan l.drafts.items ≡ producer_asked (survey_seen l.survey) ∷ replicate l.counter (worker_asked (survey_seen l.survey))
