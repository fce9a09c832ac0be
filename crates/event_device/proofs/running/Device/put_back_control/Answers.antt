use Rattle.std.proofs.Common.{refl, sym, subst, ◌∙◌}
use Rattle.event_device.specs.Lent.{ControlIsThere}
use Rattle.event_device.specs.Parts.{Parts}
use Rattle.event_device.proofs.Homes.{some_there}
use Rattle.event_device.proofs.running.Device.put_back_control.Goals as goal

pub returns-then-is_some-clause-there : goal.returns-then-is_some-clause-there
returns-then-is_some-clause-there g c =
    let r : Parts = record { recorded = c.self.inside.recorder; control = c.self.inside.control; claims = c.self.inside.claims.value; ports = c.self.inside.ports.items } in
    let there = some_there r.control (sym c.is_some.ensures ∙ c.if-is_some.true) in
    let is : ControlIsThere r r = record { other = there.0; was_home = there.1; same = refl } in
    (refl, subst (λ v. ControlIsThere v v) c.self.view_is is)
