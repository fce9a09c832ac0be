use Rattle.std.proofs.Common.{◌≡◌}
use Rattle.event_device.specs.Lent.{IsBusy, SweepsOn}
use Rattle.event_device.specs.Parts.{device_of}
use Rattle.event_device.proofs.running.Device.sweep_all.Given as goal

abbrev pub invariant-loop-swept : goal.invariant-loop-swept
invariant-loop-swept g l =
    record { sweeps : SweepsOn l._swept l.initial.self l.self; busy : IsBusy l._swept l.self; device : device_of l.self ≡ device_of l.initial.self }
