use Rattle.std.proofs.Common.{◌≡◌, ℕ}
use Rattle.event_ports.specs.Counts.{plus}
use Rattle.event_device.specs.Lent.{Keeps}
use Rattle.event_device.specs.Parts.{device_of}
use Rattle.pipeline_threads.specs.Run.{SweepsMany}
use Rattle.pipeline_threads.proofs.sweeps.sweep_all.Given as goal

abbrev pub invariant-loop : goal.invariant-loop
invariant-loop g l =
    (goal.iterator-loop g).can_next l.iterator' × (goal.iterator-loop g).is_finite l.iterator' × Keeps l.initial.device l.device
    × (device_of l.device ≡ device_of l.initial.device) × ((k : ℕ) × (l.sweeps ≡ plus 0 k) × SweepsMany k l.initial.device l.device)
