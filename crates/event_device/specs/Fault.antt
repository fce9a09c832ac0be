-- What a refusal hands back.
use Rattle.evt_types.specs.Plan.{Plan}
use Rattle.event_device.specs.declared.fault.DeviceFault.{DeviceFault}
use Rattle.event_device.specs.declared.fault.DeviceFault.TheVariants.{Memory, NoSeat}

-- the configuration
abbrev pub shape_in : DeviceFault → Plan
shape_in (Memory shape) = shape
shape_in (NoSeat shape) = shape
