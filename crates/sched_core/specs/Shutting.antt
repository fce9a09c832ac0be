-- The step of a shut.
use Rattle.std.specs.Prelude.{List, [], ◌∷◌, if◌then◌else◌}
use Rattle.transcripts.specs.Standing.{View}
use Rattle.evt_types.specs.declared.step.Step.{Step}
use Rattle.evt_types.specs.declared.step.Step.TheVariants.{Shut}

-- a core that is shut already makes none
abbrev pub shut_steps : View → List Step
shut_steps v = if v.shut then [] else Shut ∷ []
