use Rattle.std.proofs.Common.{◌≡◌}
use Rattle.event_device.specs.Device.{site_of}
use Rattle.device_tests.proofs.tests.runs.answer.Given as goal

abbrev pub invariant-loop-delivery : goal.invariant-loop-delivery
invariant-loop-delivery l = site_of l.port ≡ site_of l.initial.port
