-- What a device that runs has at home.
use Rattle.std.specs.Prelude.{ℕ, ◌≡◌, ◌≤◌, List, length, slice_get, Option}
use Rattle.std.specs.Prelude.Option.{Some}
use Rattle.event_ports.specs.declared.port.Port.{Port}
use Rattle.event_scheduler.specs.Scheduler.{Serves}
use Rattle.evt_types.specs.Plan.{Plan, bound_of, lanes_of}
use Rattle.evt_types.specs.declared.shape.TheConstants.{MAX_BOUND, MAX_LANES, MAX_QUEUES}
use Rattle.flow_claims.specs.declared.claims.Claims.{Claims}
use Rattle.event_device.specs.Control.{control_of}
use Rattle.event_device.specs.Device.{Device, IsDevice, IsPortOf, SchedulerSite, control_site, number_of, scheduler_of, scheduler_site}
use Rattle.event_device.specs.Recorder.{Recorded}
use Rattle.event_device.specs.declared.control.Control.{Control}

-- The recorder; the control and the ports, where they are at home, the ports by number; and the claims that the device's parts share.
pub record Parts : Type 0 where
  pub recorded : Recorded
  pub control : Option Control
  pub claims : Claims
  pub ports : List (Option Port)

-- the device of this scheduler and these claims
abbrev pub device_at : SchedulerSite → Claims → Device
device_at s claims = record { plan = s.plan; pool = s.pool; claims = claims; lanes = s.lanes }

-- the device of which they are
abbrev pub device_of : Parts → Device
device_of r = device_at (scheduler_of r.recorded.sight) r.claims

-- what the limits of a plan come to
pub record IsSmall (p : Plan) : Type 0 where
  pub bound : bound_of p ≤ MAX_BOUND
  pub queues : length p.queues ≤ MAX_QUEUES
  pub lanes : lanes_of p ≤ MAX_LANES

-- They are all of one device: the control where it is at home, and each port that is at home, in the home of its number.
pub record IsOne (r : Parts) : Type 0 where
  pub fits : IsDevice (device_of r)
  pub scheduler_is : scheduler_of r.recorded.sight ≡ scheduler_site (device_of r)
  pub control_is : (control : Control) → r.control ≡ Some control → control_of control ≡ control_site (device_of r)
  pub ports_are : (n : ℕ) (port : Port) → slice_get r.ports n ≡ Some (Some port) → (number_of port ≡ n) × IsPortOf (device_of r) port
  pub count : length r.ports ≡ length (device_of r).plan.ports
  pub small : IsSmall (device_of r).plan
  pub serves : ∥ Serves r.recorded.log r.recorded.sight ∥₁
