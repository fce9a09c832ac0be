-- Worked logs beside those of the examples.
use Rattle.std.specs.Prelude.{List, [], ◌∷◌, ◌++◌}
use Rattle.evt_types.specs.declared.step.Outcome.TheVariants.{Forwarded}
use Rattle.evt_types.specs.declared.step.Source.TheVariants.{Of}
use Rattle.evt_types.specs.declared.step.Step.{Step}
use Rattle.evt_types.specs.declared.step.Step.TheVariants.{Accept, Give, Done, Bounced}
use Rattle.worked_examples.specs.Logs.{brought, entry, kept_for_good, passed_on}

-- both of two ordered events are forwarded, the second one first, and what that was forwarded as is accepted before what the first was
abbrev pub passed_over : List Step
passed_over =
    entry (brought 1) ∷ entry (brought 2) ∷ Give 1 0 0 ∷ Give 2 0 1 ∷ Done 2 (Forwarded (passed_on 20)) ∷ Done 1 (Forwarded (passed_on 10))
    ∷ Accept 1 (passed_on 20) (Of 0 1) ∷ []

-- the forward that stays kept, and then another step
abbrev pub gone_on : List Step
gone_on = kept_for_good ++ Bounced 1 ∷ []
