use Rattle.event_device.proofs.Ones.{one_answered}
use Rattle.event_device.proofs.running.Device.sweep.Goals as goal

pub invariant_of-self : goal.invariant_of-self
invariant_of-self g c = one_answered _ c.self.invariant c.sweep.result c.sweep.new.self c.sweep.ensures.sweeps c.sweep.ensures.memory c.sweep.ensures.device
