use Rattle.std.proofs.Common.{◌≡◌}
use Rattle.event_device.specs.Device.{site_of}
use Rattle.event_ports.specs.Counts.{no_counts}
use Rattle.event_ports.specs.Ports.{counts_of}
use Rattle.pipeline_threads.specs.Ports.{HasCounted, IsEven}
use Rattle.run_counts.specs.Looking.{HasLooked}
use Rattle.pipeline_threads.proofs.worker.work.Given as goal

abbrev pub invariant-loop : goal.invariant-loop
invariant-loop g l =
    (goal.iterator-loop g).can_next l.iterator' × (goal.iterator-loop g).is_finite l.iterator' × (site_of l.port ≡ site_of l.fn.port) × IsEven l.actions l.port × HasLooked no_counts (counts_of l.port) l.looks × HasCounted l.port
