use Rattle.std.proofs.Common.{◌≡◌}
use Rattle.event_device.specs.Device.{site_of}
use Rattle.device_tests.proofs.tests.runs.produce.Given as goal

abbrev pub invariant-loop-payload : goal.invariant-loop-payload
invariant-loop-payload l = site_of l.port ≡ site_of l.initial.port
