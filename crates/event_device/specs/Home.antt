-- The stop of a device that has all its parts at home.
use Rattle.std.specs.Prelude.{ℕ, ◌≡◌, ◌<◌, List, map, slice_get, Option}
use Rattle.std.specs.Prelude.Option.{Some, None}
use Rattle.event_ports.specs.declared.port.Port.{Port}
use Rattle.evt_types.specs.declared.step.Step.{Step}
use Rattle.event_answers.specs.declared.report.Report.{Report}
use Rattle.event_device.specs.Parts.{Parts}
use Rattle.event_device.specs.Stop.{IsReport}
use Rattle.event_device.specs.declared.control.Control.{Control}
use Rattle.event_device.specs.declared.fault.NotStopped.{NotStopped}
use Rattle.event_device.specs.declared.fault.NotStopped.TheVariants.{PortLent, ControlLent, Memory}

-- a port is in the home of the number
abbrev pub IsFilled : List (Option Port) → ℕ → Type 0
IsFilled homes n = (port : Port) × (slice_get homes n ≡ Some (Some port))

-- the control and all ports are at home
pub record AreHome (r : Parts) (control : Control) (ports : List Port) : Type 0 where
  pub control_is : r.control ≡ Some control
  pub ports_are : r.ports ≡ map Some ports

-- the account is that of the recorder, the control and all ports, in the order of their numbers
pub record Stops {X : Type 0} (steps : X → List Step) (r : Parts) (account : Report X) : Type 0 where
  pub control : Control
  pub ports : List Port
  pub at_home : AreHome r control ports
  pub report : IsReport steps r.recorded control ports account

-- Why it isn't stopped: a port is lent, and those of lower numbers aren't; or no port is, but the control; or memory ran out, with all at
-- home.
abbrev pub IsWhy : NotStopped → Parts → Type 0
IsWhy (PortLent n) r = (slice_get r.ports n ≡ Some None) × ((k : ℕ) → k < n → IsFilled r.ports k)
IsWhy ControlLent r = (r.control ≡ None) × ((ports : List Port) × (r.ports ≡ map Some ports))
IsWhy Memory r = (control : Control) × (ports : List Port) × AreHome r control ports

-- it says why, and all is as it was
abbrev pub RefusesStop : NotStopped → Parts → Parts → Type 0
RefusesStop why r q = IsWhy why r × (q ≡ r)
