use Rattle.std.proofs.Common.{◌≡◌}
use Rattle.event_device.specs.Device.{site_of}
use Rattle.device_example.proofs.worker.work.Given as goal

abbrev pub invariant-loop : goal.invariant-loop
invariant-loop l = site_of l.port ≡ site_of l.initial.port
