-- What a stop of a hub does: what `Device::stop` promises (`event_device`, specs/Home.antt), with a number for C.
use Rattle.std.specs.Prelude.{ℤ, pos, ◌≡◌, ◌⊎◌, Option}
use Rattle.std.specs.Prelude.Option.{Some, None}
use Rattle.event_device.specs.Home as devices
use Rattle.event_device.specs.Parts.{Parts}
use Rattle.event_device.specs.declared.fault.NotStopped.{NotStopped}
use Rattle.event_device.specs.declared.fault.NotStopped.TheVariants.{PortLent, ControlLent, Memory}
use Rattle.event_handles.specs.Hub.{Changes}
use Rattle.event_handles.specs.Kinds.{kinds_of}
use Rattle.event_handles.specs.Logs.{steps_logged}
use Rattle.event_handles.specs.Numbers.{busy, no_device, no_memory}
use Rattle.event_handles.specs.declared.hub.Hub.{Hub}
use Rattle.event_handles.specs.declared.stopped.Stopped.{Stopped}

-- It was stopped: its account is that of the recorder, the control and all ports, which were at home, and nothing of it was handed out.
pub record Stops (r : Parts) (stopped : Stopped) : Type 0 where
  pub stops : devices.Stops steps_logged r stopped.report
  pub part : stopped.part ≡ 0
  pub handed : stopped.handed ≡ 0
  pub kinds : stopped.kinds ≡ kinds_of r

-- a port or the control is away; or all are at home, and memory ran out
abbrev pub number_of_why : NotStopped → ℤ
number_of_why (PortLent n) = busy
number_of_why ControlLent = busy
number_of_why Memory = no_memory

-- it wasn't: the answer says why, and nothing has changed
pub record RefusesStop (answer : ℤ) (r q : Parts) : Type 0 where
  pub why : NotStopped
  pub answered : answer ≡ number_of_why why
  pub refuses : devices.RefusesStop why r q

pub record IsStopped (r : Parts) (old new : Hub) (answer : ℤ) : Type 0 where
  pub answered : answer ≡ pos 0
  pub gone : new.device ≡ None
  pub stopped : Stopped
  pub left : new.stopped ≡ Some stopped
  pub stops : Stops r stopped
  pub sweeps : new.sweeps ≡ old.sweeps
  pub why : new.why ≡ old.why

abbrev pub StopsFrom : Option Parts → Hub → Hub → ℤ → Type 0
StopsFrom (Some r) old new answer = IsStopped r old new answer ⊎ Changes (RefusesStop answer) ⊥ old new
StopsFrom None old new answer = Changes (λ r q. ⊥) (answer ≡ no_device) old new

abbrev pub IsStop : Hub → Hub → ℤ → Type 0
IsStop old new answer = StopsFrom old.device old new answer
