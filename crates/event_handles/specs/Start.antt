-- What a hub just made is.
use Rattle.std.specs.Prelude.{◌≡◌, ◌⊎◌, ℤ, pos, MatchOption}
use Rattle.std.specs.Prelude.Option.{None}
use Rattle.event_device.specs.Parts.{Parts}
use Rattle.event_device.specs.Start as devices
use Rattle.event_device.specs.declared.fault.DeviceFault.{DeviceFault}
use Rattle.event_device.specs.declared.fault.DeviceFault.TheVariants.{Memory, NoSeat}
use Rattle.event_handles.specs.Config.{early_fault, fault_in, late_fault, plan_of_config}
use Rattle.event_handles.specs.Numbers.{no_memory, not_shared}
use Rattle.event_handles.specs.Sweeps.{no_sweeps}
use Rattle.event_handles.specs.declared.config.Config.{Config}
use Rattle.event_handles.specs.declared.hub.Hub.{Hub}

-- the number of a fault of the device: -12 ENOMEM, or the library's own
abbrev pub number_in : DeviceFault → ℤ
number_in (Memory shape) = no_memory
number_in (NoSeat shape) = not_shared

-- Why a configuration is refused: the first fault of it that can be seen before there is a plan; else want of memory, or the plan's first
-- fault; and where there is no fault, that the device couldn't be shared out.
abbrev pub IsRefusal : Config → ℤ → Type 0
IsRefusal c why = MatchOption (early_fault c) ((why ≡ no_memory) ⊎ MatchOption (late_fault c) (why ≡ not_shared) (λ fault. why ≡ fault)) (λ fault. why ≡ fault)

-- The configuration has no fault, and this is the device of the whole of it, just made: all that `Device::new` promises (`event_device`,
-- specs/Start.antt).
pub record IsFresh (c : Config) (r : Parts) : Type 0 where
  pub sound : fault_in c ≡ None
  pub fresh : devices.IsFresh (plan_of_config c) r

-- It runs, or is refused.
pub record IsNew (hub : Hub) (c : Config) : Type 0 where
  pub made : MatchOption hub.device (IsRefusal c hub.why) (λ r. IsFresh c r × (hub.why ≡ pos 0))
  pub not_stopped : hub.stopped ≡ None
  pub unswept : hub.sweeps ≡ no_sweeps
