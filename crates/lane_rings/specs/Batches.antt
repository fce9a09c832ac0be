-- What is in a batch.
use Rattle.std.specs.Prelude.{ℕ, List, take, drop}

-- what lies from one place on and before another
abbrev pub between : {T : Type 0} → ℕ → ℕ → List T → List T
between at end places = drop at (take end places)
