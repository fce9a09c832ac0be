-- The scheduling types of the queues of a device that runs.
use Rattle.std.specs.Prelude.{List}
use Rattle.evt_types.specs.declared.event.Kind.{Kind}
use Rattle.event_device.specs.Parts.{Parts, device_of}
use Rattle.event_handles.specs.Config.{kinds_in}

-- those that its configuration gives them
abbrev pub kinds_of : Parts → List Kind
kinds_of r = kinds_in (device_of r).plan.queues
