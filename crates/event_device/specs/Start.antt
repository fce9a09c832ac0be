-- What a device just made is.
use Rattle.std.specs.Prelude.{◌≡◌, false, List, [], length, map, All}
use Rattle.std.specs.Prelude.Option.{Some}
use Rattle.std.specs.List.{range_with_len}
use Rattle.evt_types.specs.Plan.{Plan}
use Rattle.event_ports.specs.Counts.{no_counts}
use Rattle.event_ports.specs.Lanes.{IsEmptyHand}
use Rattle.event_ports.specs.Ports.{account_of, counts_of, hand, pocket_of}
use Rattle.event_ports.specs.declared.port.Port.{Port}
use Rattle.event_device.specs.Control.{control_of, was_shut}
use Rattle.event_device.specs.Parts.{Parts, device_of}
use Rattle.event_device.specs.Device.{Device, IsDevice, control_site, port_site, scheduler_of, scheduler_site, site_of}
use Rattle.event_device.specs.declared.control.Control.{Control}
use Rattle.event_scheduler.specs.Scheduler.{Serves, sight_of}
use Rattle.event_scheduler.specs.declared.scheduler.Scheduler.{Scheduler}

-- A device just made: of one configuration, with all credits free, nothing accepted, and nothing submitted, received or counted by a
-- port.
pub record IsMade (p : Plan) (scheduler : Scheduler) (ports : List Port) (control : Control) : Type 0 where
  pub device : Device
  pub plan : device.plan ≡ p
  pub fits : IsDevice device
  pub scheduler_is : scheduler_of (sight_of scheduler) ≡ scheduler_site device
  pub serves : Serves [] (sight_of scheduler)
  pub unused : ((sight_of scheduler).pocket ≡ 0) × ((sight_of scheduler).account.returned ≡ 0)
  pub ports_are : map site_of ports ≡ map (port_site device) (range_with_len 0 (length p.ports))
  pub empty : All (λ x. IsEmptyHand (hand x) × (pocket_of x ≡ 0)) ports
  pub undrawn : All (λ x. ((account_of x).drawn ≡ 0) × ((account_of x).returned ≡ 0)) ports
  pub uncounted : All (λ x. counts_of x ≡ no_counts) ports
  pub control_is : control_of control ≡ control_site device
  pub not_shut : was_shut control ≡ false

-- A device of the plan that runs, just made, with all of it at home: the same of it.
pub record IsFresh (p : Plan) (r : Parts) : Type 0 where
  pub plan : (device_of r).plan ≡ p
  pub fits : IsDevice (device_of r)
  pub scheduler_is : scheduler_of r.recorded.sight ≡ scheduler_site (device_of r)
  pub log : r.recorded.log ≡ []
  pub serves : Serves [] r.recorded.sight
  pub unused : (r.recorded.sight.pocket ≡ 0) × (r.recorded.sight.account.returned ≡ 0)
  pub ports : List Port
  pub at_home : r.ports ≡ map Some ports
  pub ports_are : map site_of ports ≡ map (port_site (device_of r)) (range_with_len 0 (length (device_of r).plan.ports))
  pub empty : All (λ x. IsEmptyHand (hand x) × (pocket_of x ≡ 0)) ports
  pub undrawn : All (λ x. ((account_of x).drawn ≡ 0) × ((account_of x).returned ≡ 0)) ports
  pub uncounted : All (λ x. counts_of x ≡ no_counts) ports
  pub control : Control
  pub control_home : r.control ≡ Some control
  pub control_is : control_of control ≡ control_site (device_of r)
  pub not_shut : was_shut control ≡ false
