-- What a tail keeps.
use Rattle.std.specs.Prelude.{ℕ, ◌-◌, List, length, drop}
use Rattle.evt_types.specs.declared.step.Step.{Step}

-- the last n steps, or all where there are no more
abbrev pub last_steps : ℕ → List Step → List Step
last_steps n T = drop (length T - n) T
