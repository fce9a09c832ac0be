-- What holds of a run between two calls of its core.
use Rattle.std.specs.Prelude.{ℕ, ◌<◌, ◌≤◌, List, All}
use Rattle.evt_types.specs.Plan.{Plan, lanes_of}
use Rattle.evt_types.specs.declared.step.Step.{Step}
use Rattle.transcripts.specs.Standing.{View, Stands}
use Rattle.transcripts.specs.Sweep.{sweep_room}

-- each is a lane of the device
abbrev pub AreLanes : Plan → List ℕ → Type 0
AreLanes p lanes = All (λ l. l < lanes_of p) lanes

-- the core stands at some transcript, the held events are of its lanes, and its log has room for the steps of any one call
pub record IsReady (v : View) (held : List ℕ) (capacity : ℕ) : Type 0 where
  pub lanes : AreLanes v.shape held
  pub room : sweep_room v.shape ≤ capacity
  pub gifts : v.shape.sweep ≤ capacity
  pub stands : (T : List Step) × Stands T v
