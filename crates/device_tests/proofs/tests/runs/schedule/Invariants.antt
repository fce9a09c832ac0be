use Rattle.std.proofs.Common.{◌≡◌}
use Rattle.event_device.specs.Parts.{device_of}
use Rattle.device_tests.proofs.tests.runs.schedule.Given as goal

abbrev pub invariant-loop : goal.invariant-loop
invariant-loop l = device_of l.device ≡ device_of l.initial.device
