-- The log of one event that passes the two stages of the worked pipeline, and what the check of a log asks of it.
use Rattle.std.specs.Prelude.{ℕ, List, [], ◌∷◌}
use Rattle.evt_types.specs.declared.step.Outcome.TheVariants.{Forwarded, Released}
use Rattle.evt_types.specs.declared.step.Source.TheVariants.{New, Of}
use Rattle.evt_types.specs.declared.step.Step.{Step}
use Rattle.evt_types.specs.declared.step.Step.TheVariants.{Accept, Give, Done}
use Rattle.pipeline_laws.specs.Example.{entry_with, sum_of}
use Rattle.pipeline_laws.specs.Worked.{new_event}

-- an event of payload 1, which the first stage forwards with this payload
abbrev pub log_with : ℕ → List Step
log_with payload =
    Accept 0 (new_event (entry_with 1)) (New 0) ∷ Give 1 0 0 ∷ Done 1 (Forwarded (sum_of 1 payload)) ∷ Accept 1 (sum_of 1 payload) (Of 0 0) ∷ Give 1 1 0
    ∷ Done 1 Released ∷ []
