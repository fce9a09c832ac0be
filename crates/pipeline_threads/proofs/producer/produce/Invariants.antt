use Rattle.std.proofs.Common.{◌≡◌, []}
use Rattle.event_device.specs.Device.{site_of}
use Rattle.event_ports.specs.Ports.{counts_of, hand}
use Rattle.pipeline_threads.proofs.Bringing.{HasBrought}
use Rattle.pipeline_threads.proofs.producer.produce.Given as goal

abbrev pub invariant-loop-entry : goal.invariant-loop-entry
invariant-loop-entry g l = (site_of l.port ≡ site_of l.fn.port) × HasBrought l.trace l.entry-index [] (hand l.port) × ((counts_of l.port).dequeued ≡ (counts_of l.fn.port).dequeued)
