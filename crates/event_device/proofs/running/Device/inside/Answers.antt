use Rattle.std.proofs.Common.{arith}
use Rattle.event_device.proofs.Served.{inside_fits}
use Rattle.event_device.proofs.running.Device.inside.Goals as goal

pub returns-clause-few : goal.returns-clause-few
returns-clause-few g c = omega (arith, inside_fits _ c.self.invariant, c.inside.ensures)
